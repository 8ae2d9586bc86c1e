-- The range is zero up to i.
-- With these laws named on the function in place of the answer, the check does not close it.
use Rattle.lists.proofs.Filling.{filling}
use borrow.Author.Rules.{rules}
use Rattle.lists.proofs.fills.zero.Goals as goal

pub loop-i-preserved : goal.loop-i-preserved
loop-i-preserved g c = search (filling, rules)

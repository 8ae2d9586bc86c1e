-- The glyphs from s up to i are changed.
-- With these laws named on the function in place of the answers, the check does not close them.
use Rattle.lists.proofs.Editing.{editing}
use borrow.Author.Rules.{rules}
use Rattle.lists.proofs.masks.fill_masks.Goals as goal

pub loop-i-preserved : goal.loop-i-preserved
loop-i-preserved c = search (editing, rules)

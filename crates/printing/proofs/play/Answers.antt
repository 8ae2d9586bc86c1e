-- The commands of the parts before the last place are done.
-- With these laws named on the function in place of the answers, the check does not close them.
use Rattle.std.proofs.Common.{rules}
use Rattle.printing.proofs.Parts.{parted_none, parted_more, parted_all}
use Rattle.printing.proofs.play.Goals as goal

pub loop-last-init : goal.loop-last-init
loop-last-init c = search (parted_none, rules)

pub loop-last-preserved : goal.loop-last-preserved
loop-last-preserved c = search (parted_more, rules)

pub returns : goal.returns
returns c = search (parted_all, rules)

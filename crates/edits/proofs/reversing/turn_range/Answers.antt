-- With these laws named on the function in place of the answers, the check does not close them.
use Rattle.edits.proofs.WholeCalls.{run_laws}
use Rattle.edits.proofs.reversing.turn_range.Goals as goal

pub reverse-requires : goal.reverse-requires
reverse-requires c = search run_laws

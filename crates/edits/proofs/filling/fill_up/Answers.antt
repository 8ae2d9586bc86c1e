-- With these laws named on the function in place of the answers, the check does not close them.
use Rattle.edits.proofs.SetLengths.{length_calls}
use Rattle.edits.proofs.WholeCalls.{run_laws}
use Rattle.edits.proofs.filling.fill_up.Goals as goal

pub zero-requires : goal.zero-requires
zero-requires c = search run_laws

pub returns-then-have_positions : goal.returns-then-have_positions
returns-then-have_positions c = search length_calls

pub returns-else-have_positions : goal.returns-else-have_positions
returns-else-have_positions c = search length_calls

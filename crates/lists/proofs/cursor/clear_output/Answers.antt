-- With these laws named on the function in place of the answers, the check does not close them.
use Rattle.lists.proofs.Decisions.{ends}
use Rattle.lists.proofs.PhaseCalls.{clear_output_meets}
use Rattle.lists.proofs.cursor.clear_output.Goals as goal

pub returns : goal.returns
returns c = search (ends, clear_output_meets)

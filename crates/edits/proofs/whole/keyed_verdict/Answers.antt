-- With the two laws named on the function in place of the answer, the check leaves this goal open.
use Rattle.lists.proofs.Tries.{exits}
use Rattle.edits.proofs.Charging.{keyed-out}
use Rattle.edits.proofs.whole.keyed_verdict.Goals as goal

pub returns-in_err-verdict : goal.returns-in_err-verdict
returns-in_err-verdict c = keyed-out c.whole_verdict.ensures (exits c.branch-verdict.ensures c.in_err-verdict.is _ c.from_residual.ensures)

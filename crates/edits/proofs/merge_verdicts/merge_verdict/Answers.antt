-- With these laws named on the function in place of the answers, the check does not close them.
use Rattle.edits.proofs.MergeDecisions.{merge_calls}
use Rattle.edits.proofs.merge_verdicts.merge_verdict.Goals as goal

pub returns : goal.returns
returns c = search merge_calls

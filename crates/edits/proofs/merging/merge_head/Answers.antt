use Rattle.edits.proofs.OutMerges.{head-some}
use Rattle.edits.proofs.merging.merge_head.Goals as goal

pub returns-in-Some : goal.returns-in-Some
returns-in-Some c = head-some _ _ _ _ c.in-Some.is c.equal_end-at.ensures c.set_clusters.ensures

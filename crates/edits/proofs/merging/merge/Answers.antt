use Rattle.edits.proofs.MergeLaws.{run_room, written}
use Rattle.edits.proofs.merging.merge.Goals as goal

pub set_clusters-requires : goal.set_clusters-requires
set_clusters-requires c = run_room _ c.requires c.plan_merge-p.ensures _ c.merge_tail.auto.run

pub returns : goal.returns
returns c = written c.plan_merge-p.ensures c.merge_tail.ensures c.set_clusters.ensures

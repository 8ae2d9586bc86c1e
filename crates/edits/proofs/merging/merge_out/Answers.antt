use Rattle.edits.proofs.OutMerges.{out-room, written-apart, written-within}
use Rattle.edits.proofs.merging.merge_out.Goals as goal

pub set_clusters-requires-else-lists : goal.set_clusters-requires-else-lists
set_clusters-requires-else-lists c = let w = c.requires.1 in out-room _ _ c.requires.0 w.end w.out-fits c.merge_head-else-lists.auto.run c.plan_out-p-else-lists.ensures

pub returns-then-lists : goal.returns-then-lists
returns-then-lists c = written-apart c.if-lists.true c.plan_out-p.ensures c.merge_head.ensures c.set_clusters.ensures

pub returns-else-lists : goal.returns-else-lists
returns-else-lists c = written-within _ c.if-lists.false c.plan_out-p-else-lists.ensures c.merge_head-else-lists.ensures c.set_clusters-else-lists.ensures

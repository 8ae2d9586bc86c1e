use Rattle.edits.proofs.MergeEach.{each-order, each-merge, each-less, each_more}
use Rattle.edits.proofs.grouping.merge_each.Goals as goal

pub merge_run-requires : goal.merge_run-requires
merge_run-requires c = each-merge c.loop-s.invariant c.end_of-e.ensures

pub overflow_sub-e : goal.overflow_sub-e
overflow_sub-e c = each-order c.loop-s.invariant c.end_of-e.ensures

pub loop-s-smaller : goal.loop-s-smaller
loop-s-smaller c = each-less c.loop-s.invariant c.end_of-e.ensures

pub loop-s-preserved : goal.loop-s-preserved
loop-s-preserved c = each_more c.loop-s.invariant c.end_of-e.ensures c.merge_run.ensures c.merge_limits-left.ensures c.merge_run.auto.run c.merge_run.auto.other

use Rattle.std.proofs.Common.{rules}
use Rattle.edits.proofs.EachGroup.{on_more}
use Rattle.edits.proofs.groups.each_group.Goals as goal

pub loop-s-preserved : goal.loop-s-preserved
loop-s-preserved g c = on_more c.loop-s.invariant c.loop-s-test.true c.end_of-e.ensures (search rules) c.act.auto.arg2 c.act.auto.arg3

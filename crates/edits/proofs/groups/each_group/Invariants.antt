use Rattle.std.proofs.Common.{◌-◌}
use Rattle.edits.proofs.EachGroup.{OnEach}
use Rattle.edits.proofs.groups.each_group.Given as goal

abbrev pub invariant-loop-s : goal.invariant-loop-s
invariant-loop-s g l = OnEach g.F.Fn l.act (g.G.Grouping.goes_on l.grouping) l.n l.initial.run l.initial.other l.run l.other l.s

abbrev pub decreases-loop-s : goal.decreases-loop-s
decreases-loop-s g l = l.n - l.s

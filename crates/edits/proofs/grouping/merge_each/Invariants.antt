-- The graphemes before s are merged.
use Rattle.std.proofs.Common.{◌-◌}
use Rattle.edits.proofs.MergeEach.{EachOf}
use Rattle.edits.proofs.grouping.merge_each.Given as goal

abbrev pub invariant-loop-s : goal.invariant-loop-s
invariant-loop-s l = EachOf l.keyed.way.merges l.keyed.key.slot l.keyed.key.mask l.keyed.way.level l.keyed.way.wants l.keyed.len l.initial.left l.initial.run l.initial.other l.left l.run l.other l.s

abbrev pub decreases-loop-s : goal.decreases-loop-s
decreases-loop-s l = l.keyed.len - l.s

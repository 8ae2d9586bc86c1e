-- None from i up to e is of the cluster.
use Rattle.records.specs.Ranges.{clusters, isnt}
use Rattle.records.specs.View.{glyphs}
use Rattle.lists.proofs.Runs.{Behind}
use Rattle.lists.proofs.ranges.other_start.Given as goal

abbrev pub invariant-loop-i : goal.invariant-loop-i
invariant-loop-i l = Behind (isnt l.cluster) (clusters (glyphs l.ws)) l.s l.e l.i

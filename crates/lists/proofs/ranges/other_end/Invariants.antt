-- None from s up to i is of the cluster.
use Rattle.records.specs.Ranges.{clusters, isnt}
use Rattle.records.specs.View.{glyphs}
use Rattle.lists.proofs.Runs.{Ahead}
use Rattle.lists.proofs.ranges.other_end.Given as goal

abbrev pub invariant-loop-i : goal.invariant-loop-i
invariant-loop-i l = Ahead (isnt l.cluster) (clusters (glyphs l.ws)) l.s l.e l.i

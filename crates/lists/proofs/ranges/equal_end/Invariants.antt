-- All from e up to i are of the cluster.
use Rattle.records.specs.Ranges.{clusters, is}
use Rattle.records.specs.View.{glyphs}
use Rattle.lists.proofs.Runs.{Ahead}
use Rattle.lists.proofs.ranges.equal_end.Given as goal

abbrev pub invariant-loop-i : goal.invariant-loop-i
invariant-loop-i l = Ahead (is l.cluster) (clusters (glyphs l.ws)) l.e l.len l.i

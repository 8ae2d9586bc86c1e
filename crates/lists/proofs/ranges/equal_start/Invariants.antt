-- All from i up to s are of the cluster.
use Rattle.records.specs.Ranges.{clusters, is}
use Rattle.records.specs.View.{glyphs}
use Rattle.lists.proofs.Runs.{Behind}
use Rattle.lists.proofs.ranges.equal_start.Given as goal

abbrev pub invariant-loop-i : goal.invariant-loop-i
invariant-loop-i l = Behind (is l.cluster) (clusters (glyphs l.ws)) l.floor l.s l.i

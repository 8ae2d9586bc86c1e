-- What is found so far is the least from i on.
use Rattle.records.specs.View.{glyphs}
use Rattle.lists.proofs.Runs.{Lowest}
use Rattle.lists.proofs.ranges.least_cluster.Given as goal

abbrev pub invariant-loop-i : goal.invariant-loop-i
invariant-loop-i l = Lowest (glyphs l.ws) l.s l.e l.m l.i

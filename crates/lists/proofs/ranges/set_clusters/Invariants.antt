-- The glyphs from s up to i are changed.
use Rattle.records.specs.Glyphs.{set_cluster}
use Rattle.lists.proofs.Editing.{Editing}
use Rattle.lists.proofs.ranges.set_clusters.Given as goal

abbrev pub invariant-loop-i : goal.invariant-loop-i
invariant-loop-i l = Editing (set_cluster l.cluster l.mask) l.initial.ws l.s l.e l.ws l.i

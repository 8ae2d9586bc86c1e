-- The glyphs up to i have their places as clusters.
use Rattle.edits.proofs.Relabelings.{Numbering}
use Rattle.edits.proofs.relabeling.number_clusters.Given as goal

abbrev pub invariant-loop-i : goal.invariant-loop-i
invariant-loop-i l = Numbering l.initial.ws l.n l.ws l.i

-- The glyphs from s up to i are changed.
use Rattle.records.specs.Glyphs.{flagged}
use Rattle.lists.proofs.Editing.{Editing}
use Rattle.lists.proofs.ranges.or_masks.Given as goal

abbrev pub invariant-loop-i : goal.invariant-loop-i
invariant-loop-i l = Editing (flagged l.bits) l.initial.ws l.s l.e l.ws l.i

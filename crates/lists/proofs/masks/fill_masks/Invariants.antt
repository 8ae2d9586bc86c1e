-- The glyphs from s up to i are changed.
use Rattle.records.specs.Glyphs.{with_mask}
use Rattle.lists.proofs.Editing.{Editing}
use Rattle.lists.proofs.masks.fill_masks.Given as goal

abbrev pub invariant-loop-i : goal.invariant-loop-i
invariant-loop-i l = Editing (with_mask l.mask) l.initial.ws l.s l.e l.ws l.i

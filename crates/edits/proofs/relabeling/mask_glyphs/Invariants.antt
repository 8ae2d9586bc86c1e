-- The glyphs up to i are changed.
use Rattle.lists.proofs.Editing.{Editing}
use Rattle.edits.specs.WholeRun.{masked}
use Rattle.edits.proofs.relabeling.mask_glyphs.Given as goal

abbrev pub invariant-loop-i : goal.invariant-loop-i
invariant-loop-i l = Editing (masked l.value l.mask l.start l.end) l.initial.ws 0 l.n l.ws l.i

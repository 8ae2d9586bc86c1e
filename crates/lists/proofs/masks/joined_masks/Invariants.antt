-- What is joined so far is that of the masks from i on.
use Rattle.records.specs.View.{glyphs}
use Rattle.lists.proofs.Joining.{Joining}
use Rattle.lists.proofs.masks.joined_masks.Given as goal

abbrev pub invariant-loop-i : goal.invariant-loop-i
invariant-loop-i l = Joining (glyphs l.ws) l.s l.e l.x l.i

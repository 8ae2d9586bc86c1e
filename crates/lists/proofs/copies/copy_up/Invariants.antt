-- The glyphs from i on are copied.
use Rattle.lists.proofs.Copying.{Rising}
use Rattle.lists.proofs.copies.copy_up.Given as goal

abbrev pub invariant-loop-i : goal.invariant-loop-i
invariant-loop-i l = Rising l.initial.ws l.from l.to l.n l.ws l.i

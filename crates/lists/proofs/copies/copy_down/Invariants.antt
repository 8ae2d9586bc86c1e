-- The first i glyphs are copied.
use Rattle.lists.proofs.Copying.{Copying}
use Rattle.lists.proofs.copies.copy_down.Given as goal

abbrev pub invariant-loop-i : goal.invariant-loop-i
invariant-loop-i l = Copying l.initial.ws l.initial.ws l.from l.to l.n l.ws l.i

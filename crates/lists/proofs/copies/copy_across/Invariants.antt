-- The first i glyphs are copied.
use Rattle.lists.proofs.Copying.{Copying}
use Rattle.lists.proofs.copies.copy_across.Given as goal

abbrev pub invariant-loop-i : goal.invariant-loop-i
invariant-loop-i l = Copying l.src l.initial.dst l.from l.to l.n l.dst l.i

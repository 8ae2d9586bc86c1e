-- The first i copies are put.
use Rattle.records.specs.View.{seen}
use Rattle.edits.proofs.Acting.{Putting}
use Rattle.edits.proofs.replace_acts.put_copies.Given as goal

abbrev pub invariant-loop-i : goal.invariant-loop-i
invariant-loop-i g l = Putting l.initial.ws l.at (seen l.g).info (g.G.Given.numbers l.numbers) l.n l.ws l.i

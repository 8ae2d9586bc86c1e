-- All behind s up to i have a nonzero key.
use Rattle.records.specs.View.{glyphs}
use Rattle.lists.proofs.Runs.{Keyed}
use Rattle.lists.proofs.groups.grapheme_end.Given as goal

abbrev pub invariant-loop-i : goal.invariant-loop-i
invariant-loop-i l = Keyed l.by.slot l.by.mask (glyphs l.ws) l.s l.e l.i

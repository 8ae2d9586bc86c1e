-- What is still to be laid over the slice as it stands comes to all of it laid over the slice as it was.
use Rattle.std.proofs.Common.{◌≡◌, drop, map}
use Rattle.records.specs.{View.glyphs, View.seen}
use Rattle.driving.specs.Glyphs.{laid}
use Rattle.driving.proofs.glyphs.fill.Given as goal

abbrev pub invariant-loop-i : goal.invariant-loop-i
invariant-loop-i l = laid l.i (map seen (drop l.i l.gs)) (glyphs l.ws) ≡ laid 0 (map seen l.gs) (glyphs l.initial.ws)

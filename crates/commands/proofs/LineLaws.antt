-- The line `end` of a buffer is that of its account; a glyph's line.
use mathlib.Core.{Path.◌≡◌, Path.ap, Bool.true, List.List}
use Prim.Native.Nat.{ℕ}
use Rattle.records.specs.{Glyphs.Glyph, Glyphs.change, Glyphs.with_position, View.seen, View.stored}
use Rattle.records.proofs.View.{seen_stored}
use Rattle.lists.specs.{Contract.account, Contract.sound}
use Rattle.lists.specs.declared.Buffer.{Buffer}
use Rattle.lists.proofs.Counted.{account-limits, account-len, account-idx, account-out-len}
use Rattle.commands.specs.{Lines.end_line, inner.Writes.end_line_of, Lines.glyph_line}

pub end-of : (b : Buffer) (first second : List ℕ) → sound b first second ≡ true → end_line_of b ≡ end_line (account b first second)
unfolding end_line_of end_line
end-of b f s h = rw (account-len b f s h, account-idx b f s h, account-out-len b f s h, account-limits b f s)

-- a line shows no position of its glyph
pub glyph-line : (kind : ℕ) (g : Glyph ℕ) → glyph_line kind (seen (stored g)) ≡ glyph_line kind g
unfolding glyph_line change with_position
glyph-line kind g = ap (glyph_line kind) (seen_stored g)

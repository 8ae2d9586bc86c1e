-- The six words of a glyph, and of a position, by their places.
use Rattle.records.specs.Library.{ℕ}
use Rattle.records.specs.declared.words.GlyphWord.{GlyphWord}
use Rattle.records.specs.declared.words.GlyphWord.TheVariants.{Glyph, Mask, Cluster, Var0, Var1, Origin}
use Rattle.records.specs.declared.words.PositionWord.{PositionWord}
use Rattle.records.specs.declared.words.PositionWord.TheVariants.{XAdvance, YAdvance, XOffset, YOffset, Var, Free}

abbrev pub glyph_word : GlyphWord → ℕ
glyph_word Glyph = 0
glyph_word Mask = 1
glyph_word Cluster = 2
glyph_word Var0 = 3
glyph_word Var1 = 4
glyph_word Origin = 5

abbrev pub position_word : PositionWord → ℕ
position_word XAdvance = 0
position_word YAdvance = 1
position_word XOffset = 2
position_word YOffset = 3
position_word Var = 4
position_word Free = 5

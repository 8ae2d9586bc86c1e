-- What a store of one word leaves, wherever words lie.
use mathlib.Core.{Path.◌≡◌, List.List}
use Rattle.std.specs.Prelude.{ℕ, ◌<◌, ◌≢◌}
use lib.{ListN.length}
use Rattle.records.specs.{declared.GlyphInfo.GlyphInfo}
use Rattle.records.specs.Counters.{capacity_of}
use Rattle.records.specs.Glyphs.{Glyph}
use Rattle.records.specs.View.{glyph_of, word}

-- what stands for a glyph past the end
unfoldable pub zero_glyph : Glyph ℕ
zero_glyph = glyph_of 0 0 4294967295 0 0 0

-- word c of glyph i is v, and every other word is as it was
pub record Put (ws ws' : List ℕ) (c i v : ℕ) : Type 0 where
  pub col : c < 6
  pub inside : i < capacity_of (length ws)
  pub len : length ws' ≡ length ws
  pub here : word ws' c i ≡ v
  pub rest : (d j : ℕ) → d < 6 → j < capacity_of (length ws) → (d ≡ c → j ≢ i) → word ws' d j ≡ word ws d j

-- the struct of a glyph whose words are all 0
unfoldable pub blank_info : GlyphInfo
blank_info = record { glyph = 0; mask = 0; cluster = 0; var0 = 0; var1 = 0; origin = 0 }

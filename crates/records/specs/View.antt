-- How words are seen: a slice as a list of glyphs, and as a list of positions, six words each. Words after the last whole one belong to none.
use Rattle.std.specs.Prelude.{◌+◌, ◌*◌, ◌%◌, ◌∷◌, ◌≡◌}
use Rattle.records.specs.Library.{ℕ, zero, suc, List, [], map, length, drop, get_or}
use Rattle.records.specs.{declared.Position.Position, declared.GlyphInfo.GlyphInfo, Counters.capacity_of}
use Rattle.records.specs.Glyphs.{Glyph, with_position, change, zero_position}

-- where word c of glyph i lies in a slice of so many words: nothing else knows the layout
unfoldable pub word_place : (words c i : ℕ) → ℕ
word_place words c i = 6 * i + c

unfoldable pub word : List ℕ → (c i : ℕ) → ℕ
word ws c i = get_or ws (word_place (length ws) c i) 0

unfoldable pub up_to : {A : Type 0} → (n : ℕ) → (ℕ → A) → List A  -- f 0, f 1 and so on, n of them
up_to zero f = []
up_to (suc n) f = f 0 ∷ up_to n (λ i. f (suc i))

-- the six words of glyph i, and those of every glyph of a slice
abbrev pub row : List ℕ → ℕ → List ℕ
row ws i = up_to 6 (λ c. word ws c i)

unfoldable pub rows : List ℕ → List (List ℕ)
rows ws = up_to (capacity_of (length ws)) (row ws)

-- what a row makes, by a function of six words
unfoldable pub made : {A : Type 0} → (ℕ → ℕ → ℕ → ℕ → ℕ → ℕ → A) → List ℕ → A
made mk r = mk (get_or r 0 0) (get_or r 1 0) (get_or r 2 0) (get_or r 3 0) (get_or r 4 0) (get_or r 5 0)

-- "glyph number, mask, cluster, var0, var1", and "a sixth word, origin" (document 02, N8); a glyph in a slice has no position yet
unfoldable pub glyph_of : ℕ → ℕ → ℕ → ℕ → ℕ → ℕ → Glyph ℕ
glyph_of a b c d e o = record { glyph = a; info = record { mask = b; cluster = c; var0 = d; var1 = e; origin = o; position = zero_position } }

unfoldable pub glyphs : List ℕ → List (Glyph ℕ)
glyphs ws = map (made glyph_of) (rows ws)

-- "x_advance, y_advance, x_offset, y_offset (signed), var"; "a position's sixth is free" (document 02, N8)
unfoldable pub position_of : ℕ → ℕ → ℕ → ℕ → ℕ → ℕ → Position
position_of a b c d e w = record { x_advance = a; y_advance = b; x_offset = c; y_offset = d; var = e; free = w }

unfoldable pub positions_in : List ℕ → List Position
positions_in ws = map (made position_of) (rows ws)

-- each glyph with its position
unfoldable pub paired : List (Glyph ℕ) → List Position → List (Glyph ℕ)
paired [] ps = []
paired (g ∷ l) [] = g ∷ paired l []
paired (g ∷ l) (p ∷ ps) = change (with_position p) g ∷ paired l ps

-- the words of the n-th glyph and of all after it, wherever they lie
unfoldable pub words_from : ℕ → List ℕ → List (List ℕ)
words_from n ws = drop n (rows ws)

-- the struct of six words as a glyph
unfoldable pub seen : GlyphInfo → Glyph ℕ
seen g = glyph_of g.glyph g.mask g.cluster g.var0 g.var1 g.origin

-- a glyph as such a struct, its position apart
unfoldable pub stored : Glyph ℕ → GlyphInfo
stored g =
    record { glyph = g.glyph; mask = g.info.mask; cluster = g.info.cluster; var0 = g.info.var0; var1 = g.info.var1; origin = g.info.origin }

unfoldable pub Whole : List ℕ → Type 0  -- a slice of whole glyphs
Whole ws = length ws % 6 ≡ 0

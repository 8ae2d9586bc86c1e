-- Laws of `Stored`: a slice of glyphs is what its structs are seen as.
use mathlib.Core.{Path.◌≡◌, Path.refl, Path.sym, Path.ap, Path.◌∙◌, List.List, List.[], List.◌∷◌, List.map}
use Rattle.std.proofs.Common.{ℕ, zero, suc, ◌<◌}
use Rattle.std.proofs.lemmas.List.{map-set}
use native.Mathlib.Nat.{le_of_suc-le-suc, not-suc-le-zero}
use lib.{ListN.length, ListN.get_or, ListN.set, ListN.get_or-map}
use Rattle.records.specs.{declared.GlyphInfo.GlyphInfo}
use Rattle.records.specs.Glyphs.{Glyph}
use Rattle.records.specs.View.{rows, made, glyph_of, glyphs, seen, stored}
use Rattle.records.specs.inner.Stores.{zero_glyph, blank_info}
use Rattle.records.proofs.View.{stored-seen}

get_or-any : {A : Type 0} (l : List A) (i : ℕ) (d d' : A) → i < length l → get_or l i d ≡ get_or l i d'
get_or-any [] i d d' h = absurd (not-suc-le-zero h)
get_or-any (x ∷ l) zero d d' h = refl
get_or-any (x ∷ l) (suc i) d d' h = get_or-any l i d d' (le_of_suc-le-suc h)

-- ---- what the functions of glyphs come to on structs
pub got-stored : (l : List (Glyph ℕ)) (i : ℕ) {g : GlyphInfo} → i < length (map stored l) → seen g ≡ get_or l i zero_glyph → g ≡ get_or (map stored l) i blank_info
got-stored l i {g} h e = sym (stored-seen g) ∙ (ap stored e ∙ (sym (get_or-map stored l i zero_glyph) ∙ get_or-any (map stored l) i (stored zero_glyph) blank_info h))

pub put-stored : (l : List (Glyph ℕ)) (i : ℕ) (g : GlyphInfo) {l' : List (Glyph ℕ)} → l' ≡ set l i (seen g) → map stored l' ≡ set (map stored l) i g
put-stored l i g e = ap (map stored) e ∙ (map-set stored l i (seen g) ∙ ap (set (map stored l) i) (stored-seen g))

-- ---- and back to glyphs
seen-made : (rs : List (List ℕ)) → map seen (map stored (map (made glyph_of) rs)) ≡ map (made glyph_of) rs
unfolding made seen stored glyph_of
seen-made [] = refl
seen-made (r ∷ rs) = ap {B = List (Glyph ℕ)} (λ l. made glyph_of r ∷ l) (seen-made rs)

pub glyphs-seen : (ws : List ℕ) → map seen (map stored (glyphs ws)) ≡ glyphs ws
unfolding glyphs
glyphs-seen ws = seen-made (rows ws)

-- for the proofs of functions
pub ruleset storing = (got-stored, put-stored)

-- Laws of the view: what the crates above may use of it, whatever the layout.
use mathlib.Core.{Path.◌≡◌, Path.refl, Path.sym, Path.ap, Path.◌∙◌, Bool.Bool, Bool.true, Bool.◌&&◌, Bool.and-eq-true_iff, List.List, List.[], List.◌∷◌, List.◌++◌, List.map}
use Rattle.std.proofs.Common.{ℕ, zero, suc, ◌+◌, ◌-◌, ◌*◌, ◌%◌, ◌≤◌, arith, eq-eqb, eqb-true, le-leb, leb-true}
use lib.{ListN.length, ListN.get_or, ListN.drop, ListN.take, ListN.replicate, ListN.length-map, ListN.get_or-map, Seq.drop-drop, Seq.length-take-le, Dec.eqb, Dec.leb}
use Rattle.records.specs.{declared.Position.Position, declared.GlyphInfo.GlyphInfo}
use Rattle.records.specs.Counters.{capacity_of, rightly_lent, words_for}
use Rattle.records.specs.Glyphs.{Glyph, change, with_position, zero_position}
use Rattle.records.specs.Ranges.{clusters}
use Rattle.records.specs.View.{up_to, rows, made, glyph_of, glyphs, position_of, positions_in, paired, words_from, Whole, seen, stored}
use Rattle.records.specs.inner.Stores.{zero_glyph}
use Rattle.records.proofs.Renaming.{take-map}
use Rattle.records.proofs.Places.{length-rows, take-rows}
use Rattle.records.proofs.Made.{beyond-made}

-- ---- the words of the struct, as a glyph
module _ (g : GlyphInfo) where
  pub seen-number : (seen g).glyph ≡ g.glyph
  unfolding seen glyph_of
  seen-number = refl

  pub seen-mask : (seen g).info.mask ≡ g.mask
  unfolding seen glyph_of
  seen-mask = refl

  pub seen-cluster : (seen g).info.cluster ≡ g.cluster
  unfolding seen glyph_of
  seen-cluster = refl

  pub seen-var0 : (seen g).info.var0 ≡ g.var0
  unfolding seen glyph_of
  seen-var0 = refl

  pub seen-var1 : (seen g).info.var1 ≡ g.var1
  unfolding seen glyph_of
  seen-var1 = refl

  pub seen-origin : (seen g).info.origin ≡ g.origin
  unfolding seen glyph_of
  seen-origin = refl

  pub seen-info : (seen g).info ≡ record { mask = g.mask; cluster = g.cluster; var0 = g.var0; var1 = g.var1; origin = g.origin; position = zero_position }
  unfolding seen glyph_of
  seen-info = refl

  pub seen-numbered : (n : ℕ) → seen (record { glyph = n; mask = g.mask; cluster = g.cluster; var0 = g.var0; var1 = g.var1; origin = g.origin }) ≡ record { glyph = n; info = (seen g).info }
  unfolding seen glyph_of
  seen-numbered n = refl

  -- a glyph in a slice is its struct, and a glyph's struct has no position
  pub stored-seen : stored (seen g) ≡ g
  unfolding stored seen glyph_of
  stored-seen = refl

pub seen_stored : (g : Glyph ℕ) → seen (stored g) ≡ change (with_position zero_position) g
unfolding stored seen glyph_of change with_position
seen_stored g = refl

pub length-glyphs : (ws : List ℕ) → length (glyphs ws) ≡ capacity_of (length ws)
unfolding glyphs
length-glyphs ws = length-map (rows ws) (made glyph_of) ∙ length-rows ws

pub length-positions : (ws : List ℕ) → length (positions_in ws) ≡ capacity_of (length ws)
unfolding positions_in
length-positions ws = length-map (rows ws) (made position_of) ∙ length-rows ws

-- ---- what the crates above know of the view, whatever the layout
-- the words from the n-th glyph on go by the glyphs, and by the positions
pub beyond-glyphs : (n : ℕ) (v w : List ℕ) → drop n (glyphs v) ≡ drop n (glyphs w) → words_from n v ≡ words_from n w
unfolding words_from glyphs glyph_of made up_to
beyond-glyphs n v w e =
    beyond-made glyph_of (λ g. g.glyph ∷ (g.info.mask ∷ (g.info.cluster ∷ (g.info.var0 ∷ (g.info.var1 ∷ (g.info.origin ∷ [])))))) (λ ws i. refl) n v w e

pub beyond-positions : (n : ℕ) (v w : List ℕ) → drop n (positions_in v) ≡ drop n (positions_in w) → words_from n v ≡ words_from n w
unfolding words_from positions_in position_of made up_to
beyond-positions n v w e =
    beyond-made position_of (λ p. p.x_advance ∷ (p.y_advance ∷ (p.x_offset ∷ (p.y_offset ∷ (p.var ∷ (p.free ∷ [])))))) (λ ws i. refl) n v w e

-- words that are the same from a place on are so from any later one
pub beyond-more : {m n : ℕ} (v w : List ℕ) → m ≤ n → words_from m v ≡ words_from m w → words_from n v ≡ words_from n w
unfolding words_from
beyond-more {m} {n} v w h e =
    let k : n ≡ m + (n - m) = omega arith in
    rw k (sym (drop-drop (n - m) m (rows v)) ∙ (ap (drop (n - m)) e ∙ drop-drop (n - m) m (rows w)))

pub whole_same : (v w : List ℕ) → length v ≡ length w → Whole v → Whole w
unfolding Whole
whole_same v w e h = rw (← e) h

-- what the test of refusal 1 says
lent-parts : (x y z : Bool) → x && (y && z) ≡ true → (x ≡ true) × (y ≡ true) × (z ≡ true)
lent-parts x y z h =
    let p = (and-eq-true_iff x (y && z)).0 h in
    let q = (and-eq-true_iff y z).0 p.1 in
    (p.0, q.0, q.1)

module _ (f s : List ℕ) (h : rightly_lent (length f) (length s) ≡ true) where
  parts : (eqb (length f) (length s) ≡ true) × (eqb (length f % 6) 0 ≡ true) × (leb (capacity_of (length f)) 1048576 ≡ true)
  unfolding rightly_lent
  parts = lent-parts (eqb (length f) (length s)) (eqb (length f % 6) 0) (leb (capacity_of (length f)) 1048576) h

  pub lent_same : length f ≡ length s
  lent_same = eqb-true _ _ parts.0

  pub lent-whole : Whole f
  unfolding Whole
  lent-whole = eqb-true _ _ parts.1

  pub lent-most : capacity_of (length f) ≤ 1048576
  lent-most = leb-true _ _ parts.2

pub take_glyphs : (n : ℕ) (ws : List ℕ) → n ≤ length (glyphs ws) → glyphs (take (6 * n) ws) ≡ take n (glyphs ws)
unfolding glyphs
take_glyphs n ws h = ap (map (made glyph_of)) (take-rows n ws (rw (length-glyphs ws) at h)) ∙ sym (take-map (made glyph_of) n (rows ws))

pub take_room : (n : ℕ) (ws : List ℕ) → n ≤ length (glyphs ws) → 6 * n ≤ length ws
unfolding capacity_of
take_room n ws h = omega (arith, length-glyphs ws)

pub take_whole : (n : ℕ) (ws : List ℕ) → n ≤ length (glyphs ws) → Whole (take (6 * n) ws)
unfolding Whole
take_whole n ws h = omega (arith, length-take-le (6 * n) ws (take_room n ws h))

-- glyphs in a slice have no position; with positions, they have again none once these are taken away
plain_rows : (l : List (List ℕ)) → map (change (with_position zero_position)) (map (made glyph_of) l) ≡ map (made glyph_of) l
unfolding made glyph_of change with_position
plain_rows [] = refl
plain_rows (r ∷ l) = ap {B = List (Glyph ℕ)} (λ k. made glyph_of r ∷ k) (plain_rows l)

pub glyphs-plain : (ws : List ℕ) → map (change (with_position zero_position)) (glyphs ws) ≡ glyphs ws
unfolding glyphs
glyphs-plain ws = plain_rows (rows ws)

pub paired-plain : (l : List (Glyph ℕ)) (ps : List Position) → map (change (with_position zero_position)) (paired l ps) ≡ map (change (with_position zero_position)) l
unfolding paired change with_position
paired-plain [] ps = refl
paired-plain (g ∷ l) [] = ap {B = List (Glyph ℕ)} (λ r. change (with_position zero_position) g ∷ r) (paired-plain l [])
paired-plain (g ∷ l) (p ∷ ps) = ap {B = List (Glyph ℕ)} (λ r. change (with_position zero_position) g ∷ r) (paired-plain l ps)

pub length-paired : (l : List (Glyph ℕ)) (ps : List Position) → length (paired l ps) ≡ length l
unfolding paired
length-paired [] ps = refl
length-paired (g ∷ l) [] = ap suc (length-paired l [])
length-paired (g ∷ l) (p ∷ ps) = ap suc (length-paired l ps)

-- the first n glyphs get the position zero
pub paired-zero : (n : ℕ) (l : List (Glyph ℕ)) (ps : List Position) → take n (paired l (replicate n zero_position ++ ps)) ≡ take n (map (change (with_position zero_position)) l)
unfolding paired
paired-zero zero l ps = refl
paired-zero (suc n) [] ps = refl
paired-zero (suc n) (g ∷ l) ps = ap {B = List (Glyph ℕ)} (λ r. change (with_position zero_position) g ∷ r) (paired-zero n l ps)

-- slices that are lent for n glyphs have that capacity, and are rightly lent
pub capacity-for : (n : ℕ) → capacity_of (words_for n) ≡ n
unfolding capacity_of words_for
capacity-for n = omega arith

pub words-within : (n words : ℕ) → n ≤ capacity_of words → words_for n ≤ words
unfolding capacity_of words_for
words-within n words h = omega arith

pub lent-for : (n : ℕ) → n ≤ 1048576 → rightly_lent (words_for n) (words_for n) ≡ true
unfolding rightly_lent words_for
lent-for n h = rw (eq-eqb (6 * n) (6 * n) refl, eq-eqb (6 * n % 6) 0 (omega arith), capacity-for n, le-leb n 1048576 h)

pub glyphs-fit : (ws : List ℕ) → length (glyphs ws) ≤ length ws
unfolding capacity_of
glyphs-fit ws = omega (arith, length-glyphs ws)

pub positions-fit : (ws : List ℕ) → length (positions_in ws) ≤ length ws
unfolding capacity_of
positions-fit ws = omega (arith, length-positions ws)

pub glyphs-same : (a b : List ℕ) → length a ≡ length b → length (glyphs a) ≡ length (glyphs b)
unfolding capacity_of
glyphs-same a b h = omega (arith, length-glyphs a, length-glyphs b)

pub positions-same : (a b : List ℕ) → length a ≡ length b → length (positions_in a) ≡ length (positions_in b)
unfolding capacity_of
positions-same a b h = omega (arith, length-positions a, length-positions b)

-- as many positions as glyphs
pub positions-glyphs : (ws : List ℕ) → length (positions_in ws) ≡ length (glyphs ws)
positions-glyphs ws = length-positions ws ∙ sym (length-glyphs ws)

pub length-clusters : {G : Type 0} (l : List (Glyph G)) → length (clusters l) ≡ length l
unfolding clusters
length-clusters l = length-map l _

-- the cluster of a glyph
pub cluster-of : (l : List (Glyph ℕ)) (i : ℕ) → get_or (clusters l) i 4294967295 ≡ (get_or l i zero_glyph).info.cluster
unfolding clusters zero_glyph glyph_of
cluster-of l i = get_or-map (λ g. g.info.cluster) l i zero_glyph

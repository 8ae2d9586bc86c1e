-- Loops that change the glyphs of a range from the first on, and how `edit` goes on by one glyph.
use mathlib.Core.{Path.◌≡◌, Path.refl, Path.ap, Path.sym, Path.◌∙◌, List.List, List.[], List.◌∷◌}
use Prim.Native.Nat.{ℕ, zero, suc, ◌+◌, ◌≤◌, ◌<◌, zero-le}
use native.Mathlib.Nat.{le_of_suc-le-suc, not-suc-le-zero, le_refl}
use native.Mathlib.Numerals.{add-one}
use native.Mathlib.Omega.{arith}
use lib.ListN.{length, get_or, set}
use Rattle.records.specs.Glyphs.{Glyph, Info, change}
use Rattle.records.specs.Ranges.{edit}
use Rattle.records.specs.{View.glyphs, inner.Stores.zero_glyph}
use Rattle.records.proofs.View.{glyphs-same}

module _ {G : Type 0} (h : Info → Info) where
  pub edit-empty : (i : ℕ) (l : List (Glyph G)) → edit i i h l ≡ l
  unfolding edit
  edit-empty zero l = refl
  edit-empty (suc i) [] = refl
  edit-empty (suc i) (x ∷ l) = ap {B = List (Glyph G)} (λ r. x ∷ r) (edit-empty i l)

  pub edit-length : (i j : ℕ) (l : List (Glyph G)) → i ≤ j → length (edit i j h l) ≡ length l
  unfolding edit
  edit-length zero zero l le = refl
  edit-length zero (suc j) [] le = refl
  edit-length zero (suc j) (x ∷ l) le = ap suc (edit-length zero j l zero-le)
  edit-length (suc i) zero l le = absurd (not-suc-le-zero le)
  edit-length (suc i) (suc j) [] le = refl
  edit-length (suc i) (suc j) (x ∷ l) le = ap suc (edit-length i j l (le_of_suc-le-suc le))

  -- d stands for a glyph past the end
  module _ (d : Glyph G) where
    -- one more glyph at the end of the range
    pub edit-up : (i k : ℕ) (l : List (Glyph G)) → i ≤ k → k < length l → edit i (suc k) h l ≡ set (edit i k h l) k (change h (get_or l k d))
    unfolding edit
    edit-up i k [] le lt = absurd (not-suc-le-zero lt)
    edit-up zero zero (x ∷ l) le lt = refl
    edit-up zero (suc k) (x ∷ l) le lt = ap {B = List (Glyph G)} (λ r. change h x ∷ r) (edit-up zero k l zero-le (le_of_suc-le-suc lt))
    edit-up (suc i) zero (x ∷ l) le lt = absurd (not-suc-le-zero le)
    edit-up (suc i) (suc k) (x ∷ l) le lt = ap {B = List (Glyph G)} (λ r. x ∷ r) (edit-up i k l (le_of_suc-le-suc le) (le_of_suc-le-suc lt))

    -- nothing behind the range has changed
    pub edit-after : (i j k : ℕ) (l : List (Glyph G)) → i ≤ j → j ≤ k → get_or (edit i j h l) k d ≡ get_or l k d
    unfolding edit
    edit-after zero zero k l le gt = refl
    edit-after zero (suc j) k [] le gt = refl
    edit-after zero (suc j) zero (x ∷ l) le gt = absurd (not-suc-le-zero gt)
    edit-after zero (suc j) (suc k) (x ∷ l) le gt = edit-after zero j k l zero-le (le_of_suc-le-suc gt)
    edit-after (suc i) zero k l le gt = absurd (not-suc-le-zero le)
    edit-after (suc i) (suc j) k [] le gt = refl
    edit-after (suc i) (suc j) zero (x ∷ l) le gt = refl
    edit-after (suc i) (suc j) (suc k) (x ∷ l) le gt = edit-after i j k l (le_of_suc-le-suc le) (le_of_suc-le-suc gt)

-- ---- the glyphs from s up to i are changed
pub record Editing (h : Info → Info) (ws₀ : List ℕ) (s e : ℕ) (ws : List ℕ) (i : ℕ) : Type 0 where
  pub low : s ≤ i
  pub high : i ≤ e
  pub fits : e ≤ length (glyphs ws)
  pub is : glyphs ws ≡ edit s i h (glyphs ws₀)
  pub len : length ws ≡ length ws₀

module _ {h : Info → Info} {s e : ℕ} where
  pub editing-none : {ws : List ℕ} → s ≤ e → e ≤ length (glyphs ws) → Editing h ws s e ws s
  editing-none {ws} o b = record { low = omega arith; high = o; fits = b; is = sym (edit-empty h s (glyphs ws)); len = refl }

  pub editing-more : {ws₀ ws ws' : List ℕ} {i : ℕ} → Editing h ws₀ s e ws i → i < e
      → glyphs ws' ≡ set (glyphs ws) i (change h (get_or (glyphs ws) i zero_glyph)) → length ws' ≡ length ws → Editing h ws₀ s e ws' (i + 1)
  editing-more {ws₀} {ws} {ws'} {i} v lt ep el =
      let same : length (glyphs ws) ≡ length (glyphs ws₀) = glyphs-same ws ws₀ v.len in
      let same' : length (glyphs ws') ≡ length (glyphs ws) = glyphs-same ws' ws el in
      let low : s ≤ i = v.low in
      let fits : e ≤ length (glyphs ws) = v.fits in
      record {
        low = omega arith;
        high = omega arith;
        fits = omega arith;
        is = ep ∙ rw (v.is, edit-after h zero_glyph s i i (glyphs ws₀) low (le_refl i), add-one) (sym (edit-up h zero_glyph s i (glyphs ws₀) low (omega arith)));
        len = el ∙ v.len;
      }

  pub editing-done : {ws₀ ws : List ℕ} {i : ℕ} → Editing h ws₀ s e ws i → e ≤ i → glyphs ws ≡ edit s e h (glyphs ws₀)
  editing-done {ws₀} {ws} {i} v ge =
      let o : i ≡ e = omega arith in
      rw o at v.is

-- for the proofs of functions
pub ruleset editing = (editing-none, editing-more, editing-done)

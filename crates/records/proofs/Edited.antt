-- Parts of edited lists, of their clusters, and of copies of one glyph.
use mathlib.Core.{Path.◌≡◌, Path.refl, Path.ap, Path.sym, List.List, List.[], List.◌∷◌}
use Rattle.std.proofs.Common.{ℕ, zero, suc, ◌-◌, ◌<◌, ◌≤◌, length, get_or, take, drop, replicate, zero-le, le_of_suc-le-suc, not-suc-le-zero}
use native.Mathlib.Nat.{suc-sub-suc, sub-zero}
use lib.ListN.{length-map}
use Rattle.records.specs.Glyphs.{Glyph, Info, change, blank}
use Rattle.records.specs.Ranges.{edit, clusters, copies}
use Rattle.records.specs.inner.Stores.{zero_glyph}
use Rattle.records.proofs.Renaming.{take-map}

-- ---- parts of an edited list
module _ {G : Type 0} (h : Info → Info) where
  edit-nil : (i j : ℕ) → ◌≡◌ {A = List (Glyph G)} (edit i j h []) []
  unfolding edit
  edit-nil zero zero = refl
  edit-nil zero (suc j) = refl
  edit-nil (suc i) zero = refl
  edit-nil (suc i) (suc j) = refl

  pub edit-take : (i j n : ℕ) (l : List (Glyph G)) → i ≤ j → j ≤ n → take n (edit i j h l) ≡ edit i j h (take n l)
  unfolding edit
  edit-take zero zero n l le lt = refl
  edit-take zero (suc j) zero l le lt = absurd (not-suc-le-zero lt)
  edit-take zero (suc j) (suc n) [] le lt = refl
  edit-take zero (suc j) (suc n) (x ∷ l) le lt = ap {B = List (Glyph G)} (λ r. change h x ∷ r) (edit-take zero j n l zero-le (le_of_suc-le-suc lt))
  edit-take (suc i) zero n l le lt = absurd (not-suc-le-zero le)
  edit-take (suc i) (suc j) zero l le lt = absurd (not-suc-le-zero lt)
  edit-take (suc i) (suc j) (suc n) [] le lt = refl
  edit-take (suc i) (suc j) (suc n) (x ∷ l) le lt = ap {B = List (Glyph G)} (λ r. x ∷ r) (edit-take i j n l (le_of_suc-le-suc le) (le_of_suc-le-suc lt))

  pub edit-take-before : (i j n : ℕ) (l : List (Glyph G)) → n ≤ i → i ≤ j → take n (edit i j h l) ≡ take n l
  unfolding edit
  edit-take-before i j zero l le lt = refl
  edit-take-before zero j (suc n) l le lt = absurd (not-suc-le-zero le)
  edit-take-before (suc i) zero (suc n) l le lt = absurd (not-suc-le-zero lt)
  edit-take-before (suc i) (suc j) (suc n) [] le lt = refl
  edit-take-before (suc i) (suc j) (suc n) (x ∷ l) le lt = ap {B = List (Glyph G)} (λ r. x ∷ r) (edit-take-before i j n l (le_of_suc-le-suc le) (le_of_suc-le-suc lt))

  pub edit-drop : (g i j : ℕ) (l : List (Glyph G)) → g ≤ i → i ≤ j → drop g (edit i j h l) ≡ edit (i - g) (j - g) h (drop g l)
  unfolding edit
  edit-drop zero i j l le lt = rw (sub-zero i, sub-zero j)
  edit-drop (suc g) zero j l le lt = absurd (not-suc-le-zero le)
  edit-drop (suc g) (suc i) zero l le lt = absurd (not-suc-le-zero lt)
  edit-drop (suc g) (suc i) (suc j) [] le lt = sym (edit-nil (suc i - suc g) (suc j - suc g))
  edit-drop (suc g) (suc i) (suc j) (x ∷ l) le lt = rw (suc-sub-suc i g, suc-sub-suc j g) (edit-drop g i j l (le_of_suc-le-suc le) (le_of_suc-le-suc lt))

  pub edit-drop-behind : (i j n : ℕ) (l : List (Glyph G)) → i ≤ j → j ≤ n → drop n (edit i j h l) ≡ drop n l
  unfolding edit
  edit-drop-behind zero zero n l le lt = refl
  edit-drop-behind zero (suc j) zero l le lt = absurd (not-suc-le-zero lt)
  edit-drop-behind zero (suc j) (suc n) [] le lt = refl
  edit-drop-behind zero (suc j) (suc n) (x ∷ l) le lt = edit-drop-behind zero j n l zero-le (le_of_suc-le-suc lt)
  edit-drop-behind (suc i) zero n l le lt = absurd (not-suc-le-zero le)
  edit-drop-behind (suc i) (suc j) zero l le lt = absurd (not-suc-le-zero lt)
  edit-drop-behind (suc i) (suc j) (suc n) [] le lt = refl
  edit-drop-behind (suc i) (suc j) (suc n) (x ∷ l) le lt = edit-drop-behind i j n l (le_of_suc-le-suc le) (le_of_suc-le-suc lt)

module _ {G : Type 0} where
  pub clusters-take : (n : ℕ) (l : List (Glyph G)) → clusters (take n l) ≡ take n (clusters l)
  unfolding clusters
  clusters-take zero l = refl
  clusters-take (suc n) [] = refl
  clusters-take (suc n) (x ∷ l) = ap {B = List ℕ} (λ r. x.info.cluster ∷ r) (clusters-take n l)

  pub clusters-drop : (n : ℕ) (l : List (Glyph G)) → clusters (drop n l) ≡ drop n (clusters l)
  unfolding clusters
  clusters-drop zero l = refl
  clusters-drop (suc n) [] = refl
  clusters-drop (suc n) (x ∷ l) = clusters-drop n l

-- ---- copies of one glyph
pub copies-one : (i : Info) (g : ℕ) → copies i (g ∷ []) ≡ record { glyph = g; info = i } ∷ []
unfolding copies
copies-one i g = refl

pub length-copies : (i : Info) (gs : List ℕ) → length (copies i gs) ≡ length gs
unfolding copies
length-copies i gs = length-map gs (λ g. record { glyph = g; info = i })

pub take-copies : (i : Info) (n : ℕ) (gs : List ℕ) → take n (copies i gs) ≡ copies i (take n gs)
unfolding copies
take-copies i n gs = take-map (λ g. record { glyph = g; info = i }) n gs

pub copies_at : (i : Info) (gs : List ℕ) (k : ℕ) → k < length gs → get_or (copies i gs) k zero_glyph ≡ record { glyph = get_or gs k 0; info = i }
unfolding copies
copies_at i [] k h = absurd (not-suc-le-zero h)
copies_at i (x ∷ gs) zero h = refl
copies_at i (x ∷ gs) (suc k) h = copies_at i gs k (le_of_suc-le-suc h)

pub copies-zeros : (n : ℕ) → copies {G = ℕ} (blank 0) (replicate n 0) ≡ replicate n (record { glyph = 0; info = blank 0 })
unfolding copies
copies-zeros zero = refl
copies-zeros (suc n) = ap {B = List (Glyph ℕ)} (λ r. record { glyph = 0; info = blank 0 } ∷ r) (copies-zeros n)

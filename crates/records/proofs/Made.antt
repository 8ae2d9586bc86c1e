-- What the rows of a slice make: glyphs, positions.
use mathlib.Core.{Path.◌≡◌, Path.refl, Path.sym, Path.ap, Path.◌∙◌, List.List, List.[], List.◌∷◌, List.map}
use Rattle.std.proofs.Common.{ℕ, zero, suc, ◌<◌, le_of_suc-le-suc, not-suc-le-zero}
use lib.{ListN.length, ListN.get_or, ListN.set, ListN.drop}
use Rattle.records.specs.Counters.{capacity_of}
use Rattle.records.specs.{View.up_to, View.row, View.rows, View.made, inner.Stores.Put}
use Rattle.records.proofs.Renaming.{drop-map}
use Rattle.records.proofs.Places.{length-rows, get_or-rows, put-rows, put_two, put_six}

-- ---- any map on a list
module _ {A B : Type 0} (f : A → B) where
  pub map_at : (l : List A) (i : ℕ) (a : A) (b : B) → i < length l → get_or (map f l) i b ≡ f (get_or l i a)
  map_at [] i a b h = absurd (not-suc-le-zero h)
  map_at (x ∷ l) zero a b h = refl
  map_at (x ∷ l) (suc i) a b h = map_at l i a b (le_of_suc-le-suc h)

  map-set : (l : List A) (i : ℕ) (x : A) → map f (set l i x) ≡ set (map f l) i (f x)
  map-set [] i x = refl
  map-set (y ∷ l) zero x = refl
  map-set (y ∷ l) (suc i) x = ap {B = List B} (λ r. f y ∷ r) (map-set l i x)

-- ---- what six words make
module _ {A : Type 0} (mk : ℕ → ℕ → ℕ → ℕ → ℕ → ℕ → A) where
  pub get_or-made : (ws : List ℕ) (i : ℕ) (z : A) → i < capacity_of (length ws) → get_or (map (made mk) (rows ws)) i z ≡ made mk (row ws i)
  get_or-made ws i z h = map_at (made mk) (rows ws) i [] z (rw (length-rows ws) h) ∙ ap (made mk) (get_or-rows ws i h)

  pub put-made : {ws ws' : List ℕ} {c i v : ℕ} → Put ws ws' c i v → map (made mk) (rows ws') ≡ set (map (made mk) (rows ws)) i (made mk (set (row ws i) c v))
  put-made {ws} {ws'} {c} {i} {v} p = ap (map (made mk)) (put-rows p) ∙ map-set (made mk) (rows ws) i (set (row ws i) c v)

  pub two_made : {ws ws₁ ws₂ : List ℕ} {c d i v w : ℕ} → Put ws ws₁ c i v → Put ws₁ ws₂ d i w → map (made mk) (rows ws₂) ≡ set (map (made mk) (rows ws)) i (made mk (set (set (row ws i) c v) d w))
  two_made {ws} {ws₁} {ws₂} {c} {d} {i} {v} {w} p q = ap (map (made mk)) (put_two p q) ∙ map-set (made mk) (rows ws) i (set (set (row ws i) c v) d w)

  pub six-made : {w₀ w₁ w₂ w₃ w₄ w₅ w₆ : List ℕ} {i x₀ x₁ x₂ x₃ x₄ x₅ : ℕ} → Put w₀ w₁ 0 i x₀ → Put w₁ w₂ 1 i x₁ → Put w₂ w₃ 2 i x₂ → Put w₃ w₄ 3 i x₃ → Put w₄ w₅ 4 i x₄ → Put w₅ w₆ 5 i x₅
      → map (made mk) (rows w₆) ≡ set (map (made mk) (rows w₀)) i (mk x₀ x₁ x₂ x₃ x₄ x₅)
  unfolding made
  six-made {w₀} {w₁} {w₂} {w₃} {w₄} {w₅} {w₆} {i} p₀ p₁ p₂ p₃ p₄ p₅ = ap (map (made mk)) (put_six p₀ p₁ p₂ p₃ p₄ p₅) ∙ map-set (made mk) (rows w₀) i _

  -- where the six words can be had back, what they make decides the rows
  module _ (un : A → List ℕ) (back : (ws : List ℕ) (i : ℕ) → un (made mk (row ws i)) ≡ row ws i) where
    flat : (n : ℕ) (ws : List ℕ) (g : ℕ → ℕ) → map un (map (made mk) (up_to n (λ i. row ws (g i)))) ≡ up_to n (λ i. row ws (g i))
    unfolding up_to
    flat zero ws g = refl
    flat (suc n) ws g = λ k. back ws (g 0) k ∷ flat n ws (λ i. g (suc i)) k

    flat_rows : (ws : List ℕ) → map un (map (made mk) (rows ws)) ≡ rows ws
    unfolding rows
    flat_rows ws = flat (capacity_of (length ws)) ws (λ i. i)

    pub beyond-made : (n : ℕ) (v w : List ℕ) → drop n (map (made mk) (rows v)) ≡ drop n (map (made mk) (rows w)) → drop n (rows v) ≡ drop n (rows w)
    beyond-made n v w e =
        let step : (ws : List ℕ) → drop n (rows ws) ≡ map un (drop n (map (made mk) (rows ws))) =
        λ ws. ap (drop n) (sym (flat_rows ws)) ∙ drop-map un n (map (made mk) (rows ws)) in
        step v ∙ (ap (map un) e ∙ sym (step w))

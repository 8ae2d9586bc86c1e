-- Loops that fill a range, whatever with: the laws of `filled`, and how it goes on by one.
use mathlib.Core.{Path.◌≡◌, Path.refl, Path.ap, Path.sym, Path.◌∙◌, List.List, List.[], List.◌∷◌, List.◌++◌, List.append_assoc}
use Prim.Native.Nat.{ℕ, zero, suc, ◌+◌, ◌-◌, ◌≤◌, ◌<◌}
use native.Mathlib.Nat.{le_of_suc-le-suc, not-suc-le-zero, suc-sub-suc, sub-zero}
use native.Mathlib.Numerals.{add-one}
use native.Mathlib.Omega.{arith}
use lib.ListN.{take, drop, length, set, replicate, length-set, length-append, length-replicate, take-append-drop}
use lib.Seq.{take_at, drop_at, length-take-le, drop-drop}
use Rattle.lists.specs.inner.Filled.{filled}

module _ {A : Type 0} (v : A) where
  filled_none : (s : ℕ) (l : List A) → filled v s s l ≡ l
  unfolding filled
  filled_none s l =
      let e : s - s ≡ 0 = omega arith in
      rw e (take-append-drop s l)

  pub filled-front : (n : ℕ) (l : List A) → filled v 0 n l ≡ replicate n v ++ drop n l
  unfolding filled
  filled-front n l = rw (sub-zero n)

  front-more : (i : ℕ) (l : List A) → i < length l → set (replicate i v ++ drop i l) i v ≡ replicate (suc i) v ++ drop (suc i) l
  front-more i [] lt = absurd (not-suc-le-zero lt)
  front-more zero (x ∷ l) lt = refl
  front-more (suc i) (x ∷ l) lt = ap {B = List A} (λ r. v ∷ r) (front-more i l (le_of_suc-le-suc lt))

  -- one more at the end of the range
  filled-up : (s i : ℕ) (l : List A) → s ≤ i → i < length l → set (filled v s i l) i v ≡ filled v s (suc i) l
  unfolding filled
  filled-up s i [] o lt = absurd (not-suc-le-zero lt)
  filled-up zero i (x ∷ l) o lt = rw (sub-zero i, sub-zero (suc i)) (front-more i (x ∷ l) lt)
  filled-up (suc s) zero (x ∷ l) o lt = absurd (not-suc-le-zero o)
  filled-up (suc s) (suc i) (x ∷ l) o lt = rw (suc-sub-suc i s, suc-sub-suc (suc i) s) (ap {B = List A} (λ r. x ∷ r) (filled-up s i l (le_of_suc-le-suc o) (le_of_suc-le-suc lt)))

  -- the list up to the end of the range, and from a place behind it
  module _ (s e : ℕ) (l : List A) (o : s ≤ e) (b : e ≤ length l) where
    head-length : length (take s l ++ replicate (e - s) v) ≡ e
    head-length = length-append (take s l) (replicate (e - s) v) ∙ rw (length-take-le s l (omega arith), length-replicate (e - s) v) (omega arith)

    filled-parts : filled v s e l ≡ (take s l ++ replicate (e - s) v) ++ drop e l
    unfolding filled
    filled-parts = sym (append_assoc (take s l) (replicate (e - s) v) (drop e l))

    pub take-filled : take e (filled v s e l) ≡ take s l ++ replicate (e - s) v
    take-filled = ap (take e) filled-parts ∙ take_at (take s l ++ replicate (e - s) v) (drop e l) e head-length

    pub drop-filled : (n : ℕ) → e ≤ n → drop n (filled v s e l) ≡ drop n l
    drop-filled n h =
        let k : e + (n - e) ≡ n = omega arith in
        rw (← k, ← drop-drop (n - e) e l, ← drop-drop (n - e) e (filled v s e l)) (ap (drop (n - e)) (ap (drop e) filled-parts ∙ drop_at (take s l ++ replicate (e - s) v) (drop e l) e head-length))

-- ---- the places from s up to i are filled, in what `see` sees of the words
pub record Filling {A : Type 0} (see : List ℕ → List A) (v : A) (ws₀ : List ℕ) (s e : ℕ) (ws : List ℕ) (i : ℕ) : Type 0 where
  pub low : s ≤ i
  pub high : i ≤ e
  pub fits₀ : e ≤ length (see ws₀)
  pub fits : e ≤ length (see ws)
  pub is : see ws ≡ filled v s i (see ws₀)
  pub len : length ws ≡ length ws₀

module _ {A : Type 0} {see : List ℕ → List A} {v : A} {s e : ℕ} where
  pub filling-none : {ws : List ℕ} → s ≤ e → e ≤ length (see ws) → Filling see v ws s e ws s
  filling-none {ws} o b = record { low = omega arith; high = o; fits₀ = b; fits = b; is = sym (filled_none v s (see ws)); len = refl }

  pub filling-more : {ws₀ ws ws' : List ℕ} {i : ℕ} {x : A} → Filling see v ws₀ s e ws i → i < e → x ≡ v → see ws' ≡ set (see ws) i x → length ws' ≡ length ws → Filling see v ws₀ s e ws' (i + 1)
  filling-more {ws₀} {ws} {ws'} {i} {x} f lt ex ep el =
      let same : length (see ws') ≡ length (see ws) = ap length ep ∙ length-set (see ws) i x in
      record {
        low = omega (arith, f.low);
        high = omega arith;
        fits₀ = f.fits₀;
        fits = omega (arith, f.fits, same);
        is = ep ∙ rw (f.is, ex, add-one) (filled-up v s i (see ws₀) f.low (omega (arith, f.fits₀)));
        len = el ∙ f.len;
      }

  pub filling-done : {ws₀ ws : List ℕ} {i : ℕ} → Filling see v ws₀ s e ws i → e ≤ i → see ws ≡ filled v s e (see ws₀)
  filling-done {ws₀} {ws} {i} f ge =
      let o : i ≡ e = omega (arith, f.high) in
      rw o at f.is

-- for the proofs of functions
pub ruleset filling = (filling-none, filling-more, filling-done)

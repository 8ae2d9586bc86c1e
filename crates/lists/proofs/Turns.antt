-- A range turned round by exchanges of its two ends, over elements of any type.
use mathlib.Core.{Path.◌≡◌, Path.refl, Path.ap, Path.sym, Path.◌∙◌, List.List, List.[], List.◌∷◌, List.◌++◌, List.append_assoc, List.reverse, List.reverse-append, List.reverse-cons}
use Prim.Native.Nat.{ℕ, suc, ◌+◌, ◌-◌, ◌*◌, ◌/◌, ◌%◌, ◌≤◌, ◌<◌}
use native.Mathlib.Nat.{div-add-mod', mod-lt}
use native.Mathlib.Numerals.{add-one}
use native.Mathlib.Omega.{arith}
use lib.ListN.{take, drop, length, get_or, set, length-append, length-set, take-append-drop}
use lib.Seq.{slice, drop-cons, set_at, take_at, drop_at, length-take-le, length-slice, drop-append-le}
use Rattle.lists.specs.inner.Turned.{turned, exchange}

-- ---- a list by its parts, with an x and a y at the ends of the range
module _ {A : Type 0} (F M B : List A) (x y : A) where
  -- the range from x to y turned; and the range between them
  turned-parts : turned (length F) (suc (length F) + suc (length M)) (F ++ (x ∷ (M ++ (y ∷ B)))) ≡ F ++ (y ∷ (reverse M ++ (x ∷ B)))
  unfolding turned
  turned-parts =
      let l : List A = F ++ (x ∷ (M ++ (y ∷ B))) in
      let split : l ≡ (F ++ (x ∷ (M ++ (y ∷ [])))) ++ B = simp append_assoc in
      let n : length (F ++ (x ∷ (M ++ (y ∷ [])))) ≡ suc (length F) + suc (length M) = simp length-append (omega arith) in
      let h : take (length F) l ≡ F = take_at F (x ∷ (M ++ (y ∷ B))) (length F) refl in
      let t : take (suc (length F) + suc (length M)) l ≡ F ++ (x ∷ (M ++ (y ∷ []))) = ap (take (suc (length F) + suc (length M))) split ∙ take_at (F ++ (x ∷ (M ++ (y ∷ [])))) B (suc (length F) + suc (length M)) n in
      let d : drop (suc (length F) + suc (length M)) l ≡ B = ap (drop (suc (length F) + suc (length M))) split ∙ drop_at (F ++ (x ∷ (M ++ (y ∷ [])))) B (suc (length F) + suc (length M)) n in
      let m : drop (length F) (F ++ (x ∷ (M ++ (y ∷ [])))) ≡ x ∷ (M ++ (y ∷ [])) = drop_at F (x ∷ (M ++ (y ∷ []))) (length F) refl in
      let r : reverse (x ∷ (M ++ (y ∷ []))) ≡ y ∷ (reverse M ++ (x ∷ [])) = reverse-cons x (M ++ (y ∷ [])) ∙ rw (reverse-append M (y ∷ [])) in
      rw (h, t, d, m, r) (simp append_assoc)

  inner-parts : turned (suc (length F)) (suc (length F) + length M) (F ++ (y ∷ (M ++ (x ∷ B)))) ≡ F ++ (y ∷ (reverse M ++ (x ∷ B)))
  unfolding turned
  inner-parts =
      let l : List A = F ++ (y ∷ (M ++ (x ∷ B))) in
      let front : l ≡ (F ++ (y ∷ [])) ++ (M ++ (x ∷ B)) = simp append_assoc in
      let both : l ≡ ((F ++ (y ∷ [])) ++ M) ++ (x ∷ B) = simp append_assoc in
      let k : length (F ++ (y ∷ [])) ≡ suc (length F) = simp length-append (omega arith) in
      let n : length ((F ++ (y ∷ [])) ++ M) ≡ suc (length F) + length M = simp length-append (omega arith) in
      let h : take (suc (length F)) l ≡ F ++ (y ∷ []) = ap (take (suc (length F))) front ∙ take_at (F ++ (y ∷ [])) (M ++ (x ∷ B)) (suc (length F)) k in
      let t : take (suc (length F) + length M) l ≡ (F ++ (y ∷ [])) ++ M = ap (take (suc (length F) + length M)) both ∙ take_at ((F ++ (y ∷ [])) ++ M) (x ∷ B) (suc (length F) + length M) n in
      let d : drop (suc (length F) + length M) l ≡ x ∷ B = ap (drop (suc (length F) + length M)) both ∙ drop_at ((F ++ (y ∷ [])) ++ M) (x ∷ B) (suc (length F) + length M) n in
      let m : drop (suc (length F)) ((F ++ (y ∷ [])) ++ M) ≡ M = drop_at (F ++ (y ∷ [])) M (suc (length F)) k in
      rw (h, t, d, m) (simp append_assoc)

  exchanged-parts : set (set (F ++ (x ∷ (M ++ (y ∷ B)))) (length F) y) (suc (length F) + length M) x ≡ F ++ (y ∷ (M ++ (x ∷ B)))
  exchanged-parts =
      let one : set (F ++ (x ∷ (M ++ (y ∷ B)))) (length F) y ≡ F ++ (y ∷ (M ++ (y ∷ B))) = set_at F x (M ++ (y ∷ B)) y (length F) refl in
      let both : F ++ (y ∷ (M ++ (y ∷ B))) ≡ ((F ++ (y ∷ [])) ++ M) ++ (y ∷ B) = simp append_assoc in
      let n : length ((F ++ (y ∷ [])) ++ M) ≡ suc (length F) + length M = simp length-append (omega arith) in
      rw (one, both) (set_at ((F ++ (y ∷ [])) ++ M) y B x (suc (length F) + length M) n ∙ simp append_assoc)

-- a range and what lies behind it
range-rest : {A : Type 0} (i j : ℕ) (l : List A) → i ≤ j → j ≤ length l → slice i j l ++ drop j l ≡ drop i l
range-rest i j l o b =
    let n : length (take j l) ≡ j = length-take-le j l b in
    sym (drop-append-le i (take j l) (drop j l) (omega arith)) ∙ ap (drop i) (take-append-drop j l)

-- d stands for an element past the end
module _ {A : Type 0} (d : A) where
  -- a list, cut at i and at k
  cut_at : (i k : ℕ) (l : List A) → i < k → k < length l → l ≡ take i l ++ (get_or l i d ∷ (slice (suc i) k l ++ (get_or l k d ∷ drop (suc k) l)))
  cut_at i k l o b =
      let a : drop i l ≡ get_or l i d ∷ drop (suc i) l = drop-cons l i d (omega arith) in
      let c : drop k l ≡ get_or l k d ∷ drop (suc k) l = drop-cons l k d b in
      let m : slice (suc i) k l ++ drop k l ≡ drop (suc i) l = range-rest (suc i) k l o (omega arith) in
      sym (ap (λ (r : List A). take i l ++ (get_or l i d ∷ (slice (suc i) k l ++ r))) (sym c)
      ∙ (ap (λ (r : List A). take i l ++ (get_or l i d ∷ r)) m ∙ (ap (λ (r : List A). take i l ++ r) (sym a) ∙ take-append-drop i l)))

  -- the range between the ends, turned after their exchange
  turned-step : (i k : ℕ) (l : List A) → i < k → k < length l → turned (suc i) k (exchange d i k l) ≡ turned i (suc k) l
  turned-step i k l o b =
      let F : List A = take i l in
      let M : List A = slice (suc i) k l in
      let B : List A = drop (suc k) l in
      let x : A = get_or l i d in
      let y : A = get_or l k d in
      let e : l ≡ F ++ (x ∷ (M ++ (y ∷ B))) = cut_at i k l o b in
      let a : length F ≡ i = length-take-le i l (omega arith) in
      let m : length M ≡ k - suc i = length-slice (suc i) k l (omega arith) in
      let ik : suc (length F) + length M ≡ k = omega arith in
      let il : suc (length F) + suc (length M) ≡ suc k = omega arith in
      let s₁ : set (set l i y) k x ≡ F ++ (y ∷ (M ++ (x ∷ B))) = ap (λ (z : List A). set (set z i y) k x) e ∙ rw (ik, a) at (exchanged-parts F M B x y) in
      let s₂ : turned (suc i) k (F ++ (y ∷ (M ++ (x ∷ B)))) ≡ F ++ (y ∷ (reverse M ++ (x ∷ B))) = rw (ik, a) at (inner-parts F M B x y) in
      let s₃ : turned i (suc k) (F ++ (x ∷ (M ++ (y ∷ B)))) ≡ F ++ (y ∷ (reverse M ++ (x ∷ B))) = rw (il, a) at (turned-parts F M B x y) in
      ap (turned (suc i) k) s₁ ∙ (s₂ ∙ (sym s₃ ∙ ap (turned i (suc k)) (sym e)))

-- under two elements nothing is to do
reverse-few : {A : Type 0} (l : List A) → length l ≤ 1 → reverse l ≡ l
reverse-few [] h = refl
reverse-few (x ∷ []) h = refl
reverse-few (x ∷ (y ∷ l)) h = absurd (omega arith)

turned-few : {A : Type 0} (i j : ℕ) (l : List A) → i ≤ j → j ≤ suc i → j ≤ length l → turned i j l ≡ l
unfolding turned
turned-few i j l o p b =
    let n : length (slice i j l) ≡ j - i = length-slice i j l b in
    rw (reverse-few (slice i j l) (omega arith), range-rest i j l o b) (take-append-drop i l)

-- ---- the loop: what is left to turn, turned from here, is the whole turned
pub record Turning {A : Type 0} (l₀ : List A) (s e : ℕ) (l : List A) (i j : ℕ) : Type 0 where
  pub order : i ≤ j
  pub fits : j ≤ length l
  pub is : turned i j l ≡ turned s e l₀

-- k exchanges are made, of half as many as lie in the range
module _ (s e : ℕ) {k : ℕ} (o : k < (e - s) / 2) where
  halved : s + k + 1 < e - k
  halved =
      let d : (e - s) / 2 * 2 + (e - s) % 2 ≡ e - s = div-add-mod' (e - s) 2 in
      omega arith

  pub exchange-low : s + k < e
  exchange-low = omega (arith, halved)

  pub exchange-high : 1 + k ≤ e
  exchange-high = omega (arith, halved)

module _ {A : Type 0} where
  turning-none : {l : List A} {s e : ℕ} → s ≤ e → e ≤ length l → Turning l s e l s e
  turning-none o b = record { order = o; fits = b; is = refl }

  turning-more : (d : A) {l₀ l l' : List A} {s e i j : ℕ} → Turning l₀ s e l i j → i + 1 < j → l' ≡ exchange d i (j - 1) l → Turning l₀ s e l' (i + 1) (j - 1)
  turning-more d {l₀} {l} {l'} {s} {e} {i} {j} v o es =
      let fits : j ≤ length l = v.fits in
      let same : length l' ≡ length l = rw es (length-set (set l i (get_or l (j - 1) d)) (j - 1) (get_or l i d) ∙ length-set l i (get_or l (j - 1) d)) in
      let k : suc (j - 1) ≡ j = omega arith in
      let step : turned (suc i) (j - 1) (exchange d i (j - 1) l) ≡ turned i j l = turned-step d i (j - 1) l (omega arith) (omega arith) ∙ ap (λ (n : ℕ). turned i n l) k in
      record { order = omega arith; fits = omega arith; is = rw (add-one, es) (step ∙ v.is) }

  turning-done : {l₀ l : List A} {s e i j : ℕ} → Turning l₀ s e l i j → j ≤ i + 1 → l ≡ turned s e l₀
  turning-done {l₀} {l} {s} {e} {i} {j} v o = sym (turned-few i j l v.order (rw add-one at o) v.fits) ∙ v.is

  pub turning-begun : {l : List A} {s e : ℕ} → s ≤ e → e ≤ length l → Turning l s e l (s + 0) (e - 0)
  turning-begun {l} {s} {e} o b =
      let ks : s + 0 ≡ s = omega arith in
      let ke : e - 0 ≡ e = omega arith in
      rw (ks, ke) (turning-none o b)

  pub turning-on : (d : A) {l₀ l l' : List A} {s e k : ℕ} → Turning l₀ s e l (s + k) (e - k) → k < (e - s) / 2 → l' ≡ exchange d (s + k) (e - 1 - k) l → Turning l₀ s e l' (s + (k + 1)) (e - (k + 1))
  turning-on d {l₀} {l} {l'} {s} {e} {k} v o es =
      let c : e - 1 - k ≡ e - k - 1 = omega arith in
      let kl : s + (k + 1) ≡ s + k + 1 = omega arith in
      let kh : e - (k + 1) ≡ e - k - 1 = omega arith in
      rw (kl, kh) (turning-more d v (halved s e o) (rw c at es))

  pub turning-ends : {l₀ l : List A} {s e k : ℕ} → Turning l₀ s e l (s + k) (e - k) → (e - s) / 2 ≤ k → l ≡ turned s e l₀
  turning-ends {l₀} {l} {s} {e} {k} v o =
      let d : (e - s) / 2 * 2 + (e - s) % 2 ≡ e - s = div-add-mod' (e - s) 2 in
      let m : (e - s) % 2 < 2 = mod-lt (e - s) (omega arith) in
      turning-done v (omega arith)

  -- two loads and two stores
  pub exchange-is : (l₀ l₁ : List A) {l₂ : List A} {x y a b : A} (i j : ℕ) → l₁ ≡ set l₀ i y → l₂ ≡ set l₁ j x → x ≡ a → y ≡ b → l₂ ≡ set (set l₀ i b) j a
  exchange-is l₀ l₁ i j e₁ e₂ ea eb = e₂ ∙ rw (e₁, ea, eb)

-- for the proofs of functions
pub ruleset turning = (turning-begun, turning-ends, exchange-low, exchange-high)

pub ruleset exchanging = (exchange-is)

-- Where words lie: the two laws of the address, which alone know its form, and what follows of a word that is written.
use mathlib.Core.{Path.◌≡◌, Path.refl, Path.sym, Path.ap, Path.◌∙◌, List.List, List.[], List.◌∷◌}
use Rattle.std.proofs.Common.{ℕ, zero, suc, ◌+◌, ◌*◌, ◌/◌, ◌<◌, ◌≤◌, le_of_suc-le-suc, not-suc-le-zero, arith}
use native.Mathlib.Nat.{suc_inj}
use lib.{ListN.length, ListN.get_or, ListN.set, ListN.take, ListN.length-set, Seq.get_or-set_same, Seq.get_or-set_other, Seq.get_or-take, Seq.length-take-le, Seq.set-set, Seq.ext_get_or}
use Rattle.records.specs.Counters.{capacity_of}
use Rattle.records.specs.{View.word_place, View.word, View.up_to, View.row, View.rows, inner.Stores.Put}

-- ---- the two laws of the address
pub in-range : (words c i : ℕ) → c < 6 → i < capacity_of words → word_place words c i < words
unfolding word_place capacity_of
in-range words c i hc hi = omega arith

pub apart : (words c i d j : ℕ) → c < 6 → d < 6 → i < capacity_of words → j < capacity_of words → word_place words c i ≡ word_place words d j → (c ≡ d) × (i ≡ j)
unfolding word_place capacity_of
apart words c i d j hc hd hi hj e = (omega arith, omega arith)

-- ---- two cases
pub cases_eq : {P : Type 0} (m n : ℕ) → (m ≡ n → P) → ((m ≡ n → ⊥) → P) → P
cases_eq zero zero y o = y refl
cases_eq zero (suc n) y o = o (λ e. omega arith)
cases_eq (suc m) zero y o = o (λ e. omega arith)
cases_eq (suc m) (suc n) y o = cases_eq m n (λ e. y (ap suc e)) (λ h. o (λ e. h (suc_inj e)))

-- ---- lists made by place
module _ {A : Type 0} where
  pub length-up_to : (n : ℕ) (f : ℕ → A) → length (up_to n f) ≡ n
  unfolding up_to
  length-up_to zero f = refl
  length-up_to (suc n) f = ap suc (length-up_to n (λ i. f (suc i)))

  pub get_or-up_to : (n : ℕ) (f : ℕ → A) (i : ℕ) (z : A) → i < n → get_or (up_to n f) i z ≡ f i
  unfolding up_to
  get_or-up_to zero f i z h = absurd (not-suc-le-zero h)
  get_or-up_to (suc n) f zero z h = refl
  get_or-up_to (suc n) f (suc i) z h = get_or-up_to n (λ j. f (suc j)) i z (le_of_suc-le-suc h)

  pub same-up_to : (n : ℕ) (f g : ℕ → A) → ((i : ℕ) → i < n → f i ≡ g i) → up_to n f ≡ up_to n g
  unfolding up_to
  same-up_to zero f g e = refl
  same-up_to (suc n) f g e = λ k. e zero (omega arith) k ∷ same-up_to n (λ i. f (suc i)) (λ i. g (suc i)) (λ i h. e (suc i) (omega arith)) k

  pub take-up_to : (n m : ℕ) (f : ℕ → A) → n ≤ m → take n (up_to m f) ≡ up_to n f
  unfolding up_to
  take-up_to zero m f h = refl
  take-up_to (suc n) zero f h = absurd (not-suc-le-zero h)
  take-up_to (suc n) (suc m) f h = ap {B = List A} (λ l. f 0 ∷ l) (take-up_to n m (λ i. f (suc i)) (le_of_suc-le-suc h))

-- ---- rows
pub length-rows : (ws : List ℕ) → length (rows ws) ≡ capacity_of (length ws)
unfolding rows
length-rows ws = length-up_to _ (row ws)

pub get_or-rows : (ws : List ℕ) (i : ℕ) → i < capacity_of (length ws) → get_or (rows ws) i [] ≡ row ws i
unfolding rows
get_or-rows ws i h = get_or-up_to _ (row ws) i [] h

-- ---- a word that is read
pub got_word : (ws : List ℕ) (c i : ℕ) {at : ℕ} → at ≡ word_place (length ws) c i → get_or ws at 0 ≡ word ws c i
unfolding word
got_word ws c i e = ap (λ (k : ℕ). get_or ws k 0) e

pub place_inside : {words c i at : ℕ} → at ≡ word_place words c i → c < 6 → i < capacity_of words → at < words
place_inside {words} {c} {i} e hc hi = rw e (in-range words c i hc hi)

-- ---- a word that is written
put_word : (ws : List ℕ) (c i v : ℕ) → c < 6 → i < capacity_of (length ws) → Put ws (set ws (word_place (length ws) c i) v) c i v
unfolding word
put_word ws c i v hc hi =
    let at : ℕ = word_place (length ws) c i in
    record {
      col = hc;
      inside = hi;
      len = length-set ws at v;
      here = rw (length-set ws at v) (get_or-set_same ws at v 0 (in-range (length ws) c i hc hi));
      rest = λ d j hd hj n. rw (length-set ws at v) (get_or-set_other ws at (word_place (length ws) d j) v 0 (λ e. let p = apart (length ws) d j c i hd hc hj hi e in n p.0 p.1));
    }

pub was-put : {ws : List ℕ} {c i at v : ℕ} → at ≡ word_place (length ws) c i → c < 6 → i < capacity_of (length ws) → Put ws (set ws at v) c i v
was-put {ws} {c} {i} {at} {v} e hc hi = rw e (put_word ws c i v hc hi)

pub put-place : {ws ws' : List ℕ} {c i v : ℕ} → Put ws ws' c i v → i < capacity_of (length ws')
put-place {ws} {ws'} p = rw p.len p.inside

one-row : {ws ws' : List ℕ} {c i v : ℕ} → Put ws ws' c i v → row ws' i ≡ set (row ws i) c v
one-row {ws} {ws'} {c} {i} {v} p =
    let r : List ℕ = row ws i in
    let six : length r ≡ 6 = length-up_to 6 (λ d. word ws d i) in
    let l : length (row ws' i) ≡ length (set r c v) = length-up_to 6 (λ d. word ws' d i) ∙ sym (length-set r c v ∙ six) in
    ext_get_or 0 (row ws' i) (set r c v) l (λ d h.
    let hd : d < 6 = rw (length-up_to 6 (λ e. word ws' e i)) at h in
    get_or-up_to 6 (λ e. word ws' e i) d 0 hd
    ∙ cases_eq d c
    (λ e. rw e (p.here ∙ sym (get_or-set_same r c v 0 (rw six p.col))))
    (λ n. p.rest d i hd p.inside (λ e _. n e) ∙ sym (get_or-set_other r c d v 0 n ∙ get_or-up_to 6 (λ e. word ws e i) d 0 hd)))

pub put-rows : {ws ws' : List ℕ} {c i v : ℕ} → Put ws ws' c i v → rows ws' ≡ set (rows ws) i (set (row ws i) c v)
put-rows {ws} {ws'} {c} {i} {v} p =
    let r : List ℕ = set (row ws i) c v in
    let l : length (rows ws') ≡ length (set (rows ws) i r) = length-rows ws' ∙ (ap capacity_of p.len ∙ sym (length-set (rows ws) i r ∙ length-rows ws)) in
    ext_get_or [] (rows ws') (set (rows ws) i r) l (λ j h.
    let hj : j < capacity_of (length ws') = rw (length-rows ws') at h in
    let hk : j < capacity_of (length ws) = rw p.len at hj in
    let hr : i < length (rows ws) = rw (length-rows ws) p.inside in
    get_or-rows ws' j hj
    ∙ cases_eq j i
    (λ e. rw e (one-row p ∙ sym (get_or-set_same (rows ws) i r [] hr)))
    (λ n. same-up_to 6 (λ d. word ws' d j) (λ d. word ws d j) (λ d hd. p.rest d j hd hk (λ _ e. n e)) ∙ sym (get_or-set_other (rows ws) i j r [] n ∙ get_or-rows ws j hk)))

-- a second word written in the row of a first
put-over : {ws ws' : List ℕ} {c i v : ℕ} (l : List (List ℕ)) (r : List ℕ) → i < length l → rows ws ≡ set l i r → Put ws ws' c i v → rows ws' ≡ set l i (set r c v)
put-over {ws} {ws'} {c} {i} {v} l r h e p =
    let same : row ws i ≡ r = sym (get_or-rows ws i p.inside) ∙ (ap (λ (k : List (List ℕ)). get_or k i []) e ∙ get_or-set_same l i r [] h) in
    put-rows p ∙ rw (same, e) (set-set l i r (set r c v))

pub put_two : {ws ws₁ ws₂ : List ℕ} {c d i v w : ℕ} → Put ws ws₁ c i v → Put ws₁ ws₂ d i w → rows ws₂ ≡ set (rows ws) i (set (set (row ws i) c v) d w)
put_two {ws} p q = put-over (rows ws) _ (rw (length-rows ws) p.inside) (put-rows p) q

-- all six
pub put_six : {w₀ w₁ w₂ w₃ w₄ w₅ w₆ : List ℕ} {i x₀ x₁ x₂ x₃ x₄ x₅ : ℕ} → Put w₀ w₁ 0 i x₀ → Put w₁ w₂ 1 i x₁ → Put w₂ w₃ 2 i x₂ → Put w₃ w₄ 3 i x₃ → Put w₄ w₅ 4 i x₄ → Put w₅ w₆ 5 i x₅
    → rows w₆ ≡ set (rows w₀) i (x₀ ∷ (x₁ ∷ (x₂ ∷ (x₃ ∷ (x₄ ∷ (x₅ ∷ []))))))
unfolding up_to
put_six {w₀} {w₁} {w₂} {w₃} {w₄} {w₅} {w₆} {i} p₀ p₁ p₂ p₃ p₄ p₅ =
    let h : i < length (rows w₀) = rw (length-rows w₀) p₀.inside in
    put-over (rows w₀) _ h (put-over (rows w₀) _ h (put-over (rows w₀) _ h (put-over (rows w₀) _ h (put-over (rows w₀) _ h (put-rows p₀) p₁) p₂) p₃) p₄) p₅

-- ---- the layout by rows alone: the first n rows are the first words
pub take-rows : (n : ℕ) (ws : List ℕ) → n ≤ capacity_of (length ws) → rows (take (6 * n) ws) ≡ take n (rows ws)
unfolding rows word word_place capacity_of
take-rows n ws h =
    let l : length (take (6 * n) ws) ≡ 6 * n = length-take-le (6 * n) ws (omega arith) in
    let k : length (take (6 * n) ws) / 6 ≡ n = omega arith in
    rw k (same-up_to n (row (take (6 * n) ws)) (row ws) (λ i hi. same-up_to 6 (λ c. word (take (6 * n) ws) c i) (λ c. word ws c i) (λ c hc. get_or-take (6 * n) ws (6 * i + c) 0 (omega arith))))
    ∙ sym (take-up_to n (length ws / 6) (row ws) h)

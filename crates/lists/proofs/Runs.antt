-- Runs of numbers that pass a test, and the least of a range, as loops go on by one.
use mathlib.Core.{Path.◌≡◌, Path.refl, Path.ap, Path.ap₂, Path.sym, Path.◌∙◌, Bool.Bool, Bool.true, Bool.false, Bool.cond, Bool.not, List.List, List.[], List.◌∷◌, List.◌++◌, List.map, List.reverse, List.reverse-append}
use Prim.Native.Nat.{ℕ, suc, ◌+◌, ◌-◌, ◌≤◌, ◌<◌, min, zero-le, suc-le-suc}
use native.Mathlib.Numerals.{add-one}
use native.Mathlib.Omega.{arith}
use borrow.Author.Tests.{eq-eqb, ne_eqb}
use lib.ListN.{take, length, get_or, length-take, length-reverse, drop_of_length-le}
use lib.Seq.{slice, slice_empty, slice-cons, take-suc, drop-append-le, length-take-le}
use Rattle.records.specs.Glyphs.{Glyph, key}
use Rattle.records.specs.Ranges.{least, heads, tails, clusters, infos, isnt}
use Rattle.records.specs.inner.Stores.{zero_glyph}
use Rattle.records.proofs.View.{length-clusters}
use Rattle.lists.proofs.Infos.{length-words, word_of}

-- ---- a loop that goes down, for the least cluster of a range
pub record Lowest (l : List (Glyph ℕ)) (s e m i : ℕ) : Type 0 where
  pub low : s ≤ i
  pub high : i ≤ e
  pub fits : e ≤ length l
  pub is : m ≡ least (slice i e (clusters l))

module _ {l : List (Glyph ℕ)} {s e : ℕ} where
  pub lowest-none : s ≤ e → e ≤ length l → Lowest l s e 4294967295 e
  unfolding least
  lowest-none o b = record { low = o; high = omega arith; fits = b; is = rw (slice_empty e (clusters l)) }

  module _ {m i c : ℕ} (v : Lowest l s e m i) (o : s < i) (ec : c ≡ get_or (clusters l) (i - 1) 4294967295) where
    lowest-more : {m' : ℕ} → m' ≡ min c m → Lowest l s e m' (i - 1)
    unfolding least
    lowest-more em =
        let cs : List ℕ = clusters l in
        let k : suc (i - 1) ≡ i = omega arith in
        let high : i ≤ e = v.high in
        let b : e ≤ length cs = rw (length-clusters l) v.fits in
        let first : slice (i - 1) e cs ≡ get_or cs (i - 1) 4294967295 ∷ slice (suc (i - 1)) e cs = slice-cons (i - 1) e cs 4294967295 (omega arith) b in
        let rest : least (slice (i - 1) e cs) ≡ min (get_or cs (i - 1) 4294967295) (least (slice i e cs)) =
        ap least first ∙ ap (λ (n : ℕ). min (get_or cs (i - 1) 4294967295) (least (slice n e cs))) k in
        record { low = omega arith; high = omega arith; fits = v.fits; is = em ∙ (ap₂ min ec v.is ∙ sym rest) }

    pub lowest-less : c < m → Lowest l s e c (i - 1)
    lowest-less h = lowest-more (omega arith)

    pub lowest-stays : m ≤ c → Lowest l s e m (i - 1)
    lowest-stays h = lowest-more (omega arith)

  pub lowest-done : {m i : ℕ} → Lowest l s e m i → i ≤ s → m ≡ least (slice s e (clusters l))
  lowest-done {m} {i} v o =
      let k : i ≡ s = omega arith in
      rw k at v.is

module _ (p : ℕ → Bool) where
  pub heads-le : (l : List ℕ) → heads p l ≤ length l
  unfolding heads
  heads-le [] = zero-le
  heads-le (x ∷ l) = pick (p x) (heads-le l)
    where
      pick : (b : Bool) → heads p l ≤ length l → cond b (suc (heads p l)) 0 ≤ suc (length l)
      pick true h = suc-le-suc h
      pick false h = zero-le

  pub tails-le : (l : List ℕ) → tails p l ≤ length l
  unfolding tails
  tails-le l = omega (arith, heads-le (reverse l), length-reverse l)

  -- one more at the front
  pub heads-first : (f t : ℕ) (cs : List ℕ) → f < t → t ≤ length cs → heads p (slice f t cs) ≡ cond (p (get_or cs f 4294967295)) (suc (heads p (slice (suc f) t cs))) 0
  unfolding heads
  heads-first f t cs o b = rw (slice-cons f t cs 4294967295 o b)

  -- one more at the back
  pub slice-last : (f k : ℕ) (cs : List ℕ) → f ≤ k → k < length cs → slice f (suc k) cs ≡ slice f k cs ++ (get_or cs k 4294967295 ∷ [])
  slice-last f k cs o b =
      let l : length (take k cs) ≡ k = length-take-le k cs (omega arith) in
      rw (take-suc cs k 4294967295 b) (drop-append-le f (take k cs) _ (omega arith))

  pub tails-last : (f k : ℕ) (cs : List ℕ) → f ≤ k → k < length cs → tails p (slice f (suc k) cs) ≡ cond (p (get_or cs k 4294967295)) (suc (tails p (slice f k cs))) 0
  unfolding heads tails
  tails-last f k cs o b = rw (slice-last f k cs o b, reverse-append (slice f k cs) (get_or cs k 4294967295 ∷ []))

  pub tails-none : (f t : ℕ) (cs : List ℕ) → t ≤ f → tails p (slice f t cs) ≡ 0
  unfolding heads tails
  tails-none f t cs o =
      let b : length (take t cs) ≤ f = rw (length-take t cs) (omega arith) in
      rw (drop_of_length-le (take t cs) b)

-- a loop that goes up over what passes
pub record Ahead (p : ℕ → Bool) (cs : List ℕ) (e t i : ℕ) : Type 0 where
  pub low : e ≤ i
  pub high : i ≤ t
  pub is : e + heads p (slice e t cs) ≡ i + heads p (slice i t cs)

module _ {p : ℕ → Bool} {cs : List ℕ} {e t : ℕ} where
  pub ahead_none : e ≤ t → Ahead p cs e t e
  ahead_none o = record { low = omega arith; high = o; is = refl }

  pub ahead_more : {i : ℕ} → Ahead p cs e t i → i < t → t ≤ length cs → (c : ℕ) → c ≡ get_or cs i 4294967295 → p c ≡ true → Ahead p cs e t (i + 1)
  ahead_more {i} v o b c ec ty =
      let q : p (get_or cs i 4294967295) ≡ true = rw ec at ty in
      let w : heads p (slice i t cs) ≡ suc (heads p (slice (suc i) t cs)) = heads-first p i t cs o b ∙ rw q in
      record { low = omega arith; high = omega arith; is = rw add-one (omega (arith, v.is)) }

  pub ahead-stop : {i : ℕ} → Ahead p cs e t i → i < t → t ≤ length cs → (c : ℕ) → c ≡ get_or cs i 4294967295 → p c ≡ false → i ≡ e + heads p (slice e t cs)
  ahead-stop {i} v o b c ec tn =
      let q : p (get_or cs i 4294967295) ≡ false = rw ec at tn in
      let w : heads p (slice i t cs) ≡ 0 = heads-first p i t cs o b ∙ rw q in
      omega (arith, v.is)

  pub ahead-done : {i : ℕ} → Ahead p cs e t i → t ≤ i → i ≡ e + heads p (slice e t cs)
  unfolding heads
  ahead-done {i} v o =
      let k : i ≡ t = omega arith in
      let w : heads p (slice i t cs) ≡ 0 = rw (k, slice_empty t cs) in
      omega (arith, v.is)

-- the same over keys that are not 0, behind place s
pub record Keyed (slot mask : ℕ) (l : List (Glyph ℕ)) (s e i : ℕ) : Type 0 where
  pub fits : e ≤ length l
  pub ahead : Ahead (isnt 0) (map (key slot mask) (infos l)) (s + 1) e i

module _ {slot mask : ℕ} {l : List (Glyph ℕ)} {s e : ℕ} where
  pub keyed-none : s < e → e ≤ length l → Keyed slot mask l s e (s + 1)
  keyed-none o b = record { fits = b; ahead = ahead_none (omega arith) }

  module _ {i : ℕ} (v : Keyed slot mask l s e i) where
    within : e ≤ length (map (key slot mask) (infos l))
    within = rw (length-words (key slot mask) l) v.fits

    module _ (o : i < e) {k : ℕ} (ek : k ≡ key slot mask (get_or l i zero_glyph).info) where
      key-is : k ≡ get_or (map (key slot mask) (infos l)) i 4294967295
      key-is = ek ∙ word_of (key slot mask) l i 4294967295 (omega (arith, v.fits))

      pub keyed-more : (k ≡ 0 → ⊥) → Keyed slot mask l s e (i + 1)
      keyed-more n = record { fits = v.fits; ahead = ahead_more v.ahead o within k key-is (ap not (ne_eqb k 0 n)) }

      pub keyed-stop : k ≡ 0 → i ≡ s + 1 + heads (isnt 0) (slice (s + 1) e (map (key slot mask) (infos l)))
      keyed-stop z = ahead-stop v.ahead o within k key-is (ap not (eq-eqb k 0 z))

    pub keyed-done : e ≤ i → i ≡ s + 1 + heads (isnt 0) (slice (s + 1) e (map (key slot mask) (infos l)))
    keyed-done o = ahead-done v.ahead o

-- a loop that goes down over what passes
pub record Behind (p : ℕ → Bool) (cs : List ℕ) (f s i : ℕ) : Type 0 where
  pub low : min f s ≤ i
  pub high : i ≤ s
  pub is : tails p (slice f s cs) + i ≡ s + tails p (slice f i cs)

module _ {p : ℕ → Bool} {cs : List ℕ} {f s : ℕ} where
  pub behind-none : Behind p cs f s s
  behind-none = record { low = omega arith; high = omega arith; is = omega arith }

  pub behind_more : {i : ℕ} → Behind p cs f s i → f < i → s ≤ length cs → (c : ℕ) → c ≡ get_or cs (i - 1) 4294967295 → p c ≡ true → Behind p cs f s (i - 1)
  behind_more {i} v o b c ec ty =
      let high : i ≤ s = v.high in
      let q : p (get_or cs (i - 1) 4294967295) ≡ true = rw ec at ty in
      let k : suc (i - 1) ≡ i = omega arith in
      let w : tails p (slice f (suc (i - 1)) cs) ≡ suc (tails p (slice f (i - 1) cs)) = tails-last p f (i - 1) cs (omega arith) (omega arith) ∙ rw q in
      let w' : tails p (slice f i cs) ≡ suc (tails p (slice f (i - 1) cs)) = rw k at w in
      record { low = omega arith; high = omega arith; is = omega (arith, v.is) }

  pub behind-stop : {i : ℕ} → Behind p cs f s i → f < i → s ≤ length cs → (c : ℕ) → c ≡ get_or cs (i - 1) 4294967295 → p c ≡ false → i - 1 + 1 ≡ s - tails p (slice f s cs)
  behind-stop {i} v o b c ec tn =
      let high : i ≤ s = v.high in
      let q : p (get_or cs (i - 1) 4294967295) ≡ false = rw ec at tn in
      let k : suc (i - 1) ≡ i = omega arith in
      let w : tails p (slice f (suc (i - 1)) cs) ≡ 0 = tails-last p f (i - 1) cs (omega arith) (omega arith) ∙ rw q in
      let w' : tails p (slice f i cs) ≡ 0 = rw k at w in
      omega (arith, v.is)

  pub behind-done : {i n : ℕ} → Behind p cs f s i → i ≤ f → n ≡ min f s → n ≡ s - tails p (slice f s cs)
  behind-done {i} v o en = omega (arith, v.low, v.high, v.is, tails-none p f i cs o)

-- for the proofs of functions
pub ruleset running = (lowest-none, lowest-less, lowest-stays, lowest-done, keyed-none, keyed-more, keyed-stop, keyed-done, ahead_none, ahead_more, ahead-stop, ahead-done, behind-none, behind_more, behind-stop, behind-done, length-clusters, eq-eqb, ne_eqb)

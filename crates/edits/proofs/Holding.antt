-- Parts of lists: of edited ones, and of parts.
use mathlib.Core.{Path.◌≡◌, Path.ap, Path.sym, Path.◌∙◌, List.List, List.[], List.◌∷◌, List.◌++◌}
use Rattle.std.proofs.Common.{ℕ, zero, suc, ◌+◌, ◌-◌, ◌≤◌, length, take, drop, le_of_suc-le-suc, not-suc-le-zero, arith, length-drop, take-append-drop, length-take, length-take-le, take-take, drop-drop}
use native.Mathlib.Nat.{suc-sub-suc, sub-zero}
use lib.Seq.{slice, take-nil, drop-nil, drop-append-le}
use Rattle.records.specs.Glyphs.{Glyph}
use Rattle.lists.specs.Account.{Account, State}

-- ---- parts of parts
module _ {A : Type 0} where
  pub slice-shift : (g s e : ℕ) (l : List A) → g ≤ s → g ≤ e → slice s e l ≡ slice (s - g) (e - g) (drop g l)
  slice-shift zero s e l le lt = rw (sub-zero s, sub-zero e)
  slice-shift (suc g) zero e l le lt = absurd (not-suc-le-zero le)
  slice-shift (suc g) (suc s) zero l le lt = absurd (not-suc-le-zero lt)
  slice-shift (suc g) (suc s) (suc e) [] le lt = rw (take-nil {A = A} (suc e - suc g), drop-nil {A = A} (suc s - suc g))
  slice-shift (suc g) (suc s) (suc e) (x ∷ l) le lt = rw (suc-sub-suc s g, suc-sub-suc e g) (slice-shift g s e l (le_of_suc-le-suc le) (le_of_suc-le-suc lt))

  pub slice-join : (g i n : ℕ) (l : List A) → g ≤ i → i ≤ n → n ≤ length l → slice g i l ++ slice i n l ≡ slice g n l
  slice-join g i n l o p b =
      let t : take i (take n l) ≡ take i l = take-take i n l p in
      let k : length (take n l) ≡ n = length-take-le n l b in
      let m : length (take i (take n l)) ≡ i = length-take-le i (take n l) (omega arith) in
      rw (← t) (sym (drop-append-le g (take i (take n l)) (drop i (take n l)) (omega arith)) ∙ ap (drop g) (take-append-drop i (take n l)))

  pub length-slice-le : (f t : ℕ) (l : List A) → length (slice f t l) ≤ t
  length-slice-le f t l = simp (length-drop, length-take) (omega arith)

-- what is kept from m on is kept from n on
pub behind-further : {A : Type 0} (m n : ℕ) (l l' : List A) → m ≤ n → drop m l' ≡ drop m l → drop n l' ≡ drop n l
behind-further m n l l' o e =
    let k : m + (n - m) ≡ n = omega arith in
    rw (← k, ← drop-drop (n - m) m l, ← drop-drop (n - m) m l') (ap (drop (n - m)) e)

-- a range within the first len
pub slice-take : {A : Type 0} (s e len : ℕ) (l : List A) → e ≤ len → slice s e (take len l) ≡ slice s e l
slice-take s e len l o = ap (drop s) (take-take e len l o)

-- arithmetic that `omega` does with few hypotheses in reach only
pub there_and_back : (g i : ℕ) → g ≤ i → g + (i - g) ≡ i
there_and_back g i o = omega arith

pub same-account : {d d' p p' r r' : List (Glyph ℕ)} {k k' : State} → d ≡ d' → p ≡ p' → r ≡ r' → k ≡ k'
    → ◌≡◌ {A = Account ℕ} (record { done = d; passed = p; rest = r; state = k }) (record { done = d'; passed = p'; rest = r'; state = k' })
same-account ed ep er ek = rw (ed, ep, er, ek)

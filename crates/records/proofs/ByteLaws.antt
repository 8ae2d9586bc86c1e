-- Laws of words in a string of bytes.
use mathlib.Core.{Path.◌≡◌, Path.refl, Path.ap, List.List}
use Rattle.std.proofs.Common.{ℕ, zero, suc, ◌+◌, ◌-◌, ◌*◌, ◌/◌, ◌<◌, ◌≤◌, add-zero, arith}
use lib.{ListN.length, ListN.get_or, ListN.take, ListN.drop, ListN.length-drop, Seq.length-take-le, Seq.get_or-take, Seq.get_or-drop}
use Rattle.records.specs.Bytes.{word_at, words_at, words_of}

pub length-words : (n : ℕ) (s : List ℕ) (from : ℕ) → length (words_at s from n) ≡ n
unfolding words_at
length-words zero s from = refl
length-words (suc n) s from = ap suc (length-words n s (from + 4))

pub word-there : (n i : ℕ) (s : List ℕ) (from : ℕ) → i < n → get_or (words_at s from n) i 0 ≡ word_at s (from + 4 * i)
unfolding words_at
word-there zero i s from h = absurd (omega arith)
word-there (suc n) zero s from h = rw add-zero
word-there (suc n) (suc i) s from h = let e : from + 4 * suc i ≡ from + 4 + 4 * i = omega arith in rw e (word-there n i s (from + 4) (omega arith))

-- ---- the words of a whole string
pub length-words-of : (s : List ℕ) → length (words_of s) ≡ length s / 4
unfolding words_of
length-words-of s = length-words (length s / 4) s 0

pub word_of : (s : List ℕ) (i : ℕ) → i < length s / 4 → get_or (words_of s) i 0 ≡ word_at s (4 * i)
unfolding words_of
word_of s i h = let e : 4 * i ≡ 0 + 4 * i = omega arith in rw e (word-there (length s / 4) i s 0 h)

-- ---- the words of a part, as `&s[from..to]` has it
module _ (s : List ℕ) (from k : ℕ) where
  byte-there : (i j : ℕ) → from + i ≡ j → i < k → get_or (take k (drop from s)) i 0 ≡ get_or s j 0
  byte-there i j e h = rw (get_or-take k (drop from s) i, get_or-drop, e)

  words-there : (n at j : ℕ) → from + at ≡ j → at + 4 * n ≤ k → words_at (take k (drop from s)) at n ≡ words_at s j n
  unfolding words_at
  words-there zero at j e h = refl
  words-there (suc n) at j e h =
      rw (byte-there at j e (omega (arith, h)), byte-there (at + 1) (j + 1) (omega arith) (omega (arith, h)), byte-there (at + 2) (j + 2) (omega arith) (omega (arith, h)), byte-there (at + 3) (j + 3) (omega arith) (omega (arith, h)), words-there n (at + 4) (j + 4) (omega arith) (omega (arith, h)))

pub words-of-part : (s : List ℕ) (from to n : ℕ) → to ≡ from + 4 * n → to ≤ length s → words_of (take (to - from) (drop from s)) ≡ words_at s from n
unfolding words_of
words-of-part s from to n e h =
    let four : to - from ≡ 4 * n = omega arith in
    let room : 4 * n ≤ length (drop from s) = omega (arith, length-drop from s) in
    let few : length (take (4 * n) (drop from s)) / 4 ≡ n = omega (arith, length-take-le (4 * n) (drop from s) room) in
    rw (four, few) (words-there s from (4 * n) n 0 from (omega arith) (omega arith))

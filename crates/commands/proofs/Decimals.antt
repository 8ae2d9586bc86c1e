-- The digits of a number: those of its tenth, and one more.
use mathlib.Core.{Path.◌≡◌, Path.refl, Path.ap, Path.◌∙◌, Bool.Bool, Bool.true, Bool.false, List.List, List.[], List.◌∷◌, List.◌++◌}
use Prim.Native.Nat.{ℕ, zero, suc, ◌+◌, ◌-◌, ◌*◌, ◌/◌, ◌≤◌, ◌<◌, ◌^◌}
use native.Mathlib.Omega.{arith}
use native.Mathlib.Nat.{pow-suc}
use lib.{ListN.length, ListN.length-append, Dec.ltb}
use borrow.Author.Tests.{lt-ltb, le-ltb, ltb-false, leb-true}
use Rattle.records.specs.Counters.{is_negative}
use Rattle.commands.specs.Lines.{digit_of, digits, decimal}

pub one-digit : (n : ℕ) → n < 10 → decimal n ≡ digit_of n ∷ []
unfolding decimal digits
one-digit n h = rw (lt-ltb n 10 h)

-- more digits allowed than there are change nothing
enough : (k n : ℕ) → n < 10 ^ suc k → digits (suc k) n ≡ digits (suc (suc k)) n
unfolding digits
enough zero n h = rw (lt-ltb n 10 h)
enough (suc k) n h = tested (ltb n 10) refl (enough k (n / 10))
  where
    tested : (t : Bool) → ltb n 10 ≡ t → (n / 10 < 10 ^ suc k → digits (suc k) (n / 10) ≡ digits (suc (suc k)) (n / 10)) → digits (suc (suc k)) n ≡ digits (suc (suc (suc k))) n
    tested true e r = rw e
    tested false e r = let g : n < 10 ^ suc k * 10 = rw pow-suc at h in rw (e, r (omega arith))

module _ (n : ℕ) (fits : n < 2 ^ 64) (h : 10 ≤ n) where
  pub more-digits : decimal n ≡ decimal (n / 10) ++ (digit_of n ∷ [])
  unfolding decimal digits
  more-digits = rw (le-ltb n 10 h) (ap (λ (l : List ℕ). l ++ (digit_of n ∷ [])) (enough 18 (n / 10) (omega arith)))

  pub more_length : length (decimal n) ≡ length (decimal (n / 10)) + 1
  more_length = ap length more-digits ∙ simp length-append

-- how many digits there are at most
short : (k j n : ℕ) → n < 10 ^ suc j → length (digits k n) ≤ suc j
unfolding digits
short zero j n h = omega arith
short (suc k) j n h = tested (ltb n 10) refl j h (short k)
  where
    tested : (t : Bool) → ltb n 10 ≡ t → (j : ℕ) → n < 10 ^ suc j → ((j m : ℕ) → m < 10 ^ suc j → length (digits k m) ≤ suc j) → length (digits (suc k) n) ≤ suc j
    tested true e j h r = rw e (omega arith)
    tested false e zero h r = let many : 10 ≤ n = ltb-false _ _ e in absurd (omega (arith, h))
    tested false e (suc j) h r =
        let g : n < 10 ^ suc j * 10 = rw pow-suc at h in
        let fewer : length (digits k (n / 10)) ≤ suc j = r j (n / 10) (omega arith) in
        rw (e, length-append) (omega arith)

pub word_short : (n : ℕ) → n < 2 ^ 32 → length (decimal n) ≤ 10
unfolding decimal
word_short n h = short 20 9 n (omega arith)

pub count_short : (n : ℕ) → n < 2 ^ 64 → length (decimal n) ≤ 20
unfolding decimal
count_short n h = short 20 19 n (omega arith)

-- what follows the sign of a negative number
pub negative_short : (w : ℕ) → is_negative w ≡ true → length (decimal (4294967296 - w)) ≤ 10
unfolding is_negative
negative_short w h = let low : 2147483648 ≤ w = leb-true _ _ h in word_short (4294967296 - w) (omega arith)

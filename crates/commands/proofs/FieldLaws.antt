-- Printed text read back: a decimal gives its number, and a line its fields.
use mathlib.Core.{Path.◌≡◌, Path.refl, Path.ap, Path.◌∙◌, Bool.Bool, Bool.true, Bool.false, List.List, List.[], List.◌∷◌, List.◌++◌}
use Prim.Native.Nat.{ℕ, zero, suc, ◌+◌, ◌-◌, ◌*◌, ◌/◌, ◌<◌, ◌^◌}
use native.Mathlib.Omega.{arith}
use native.Mathlib.Nat.{pow-suc}
use lib.Dec.{ltb}
use borrow.Author.Tests.{ne_eqb, ltb-true}
use Rattle.commands.specs.Totals.{read_on, number_of, onto, parted, fields}
use Rattle.commands.specs.Lines.{digit_of, digits, decimal, ending}

-- ---- numbers
read-append : (n : ℕ) (a b : List ℕ) → read_on n (a ++ b) ≡ read_on (read_on n a) b
unfolding read_on
read-append n [] b = refl
read-append n (c ∷ a) b = read-append (10 * n + (c - 48)) a b

read-digits : (k n : ℕ) → n < 10 ^ k → read_on 0 (digits k n) ≡ n
unfolding read_on digits
read-digits zero n h = omega (arith, h)
read-digits (suc k) n h = tested (ltb n 10) refl (read-digits k (n / 10))
  where
    tested : (t : Bool) → ltb n 10 ≡ t → (n / 10 < 10 ^ k → read_on 0 (digits k (n / 10)) ≡ n / 10) → read_on 0 (digits (suc k) n) ≡ n
    tested true e r = let one : n < 10 = ltb-true _ _ e in rw e (omega arith)
    tested false e r =
        let g : n < 10 ^ k * 10 = rw pow-suc at h in
        rw (e, read-append 0 (digits k (n / 10)) (digit_of n ∷ []), r (omega arith)) (omega arith)

-- a number that is printed is the number that is read
pub number_decimal : (n : ℕ) → n < 2 ^ 64 → number_of (decimal n) ≡ n
unfolding number_of decimal
number_decimal n h = read-digits 20 n (omega arith)

-- ---- fields
-- no space and no line feed
abbrev pub Plain : List ℕ → Type 0
Plain [] = Unit {0}
Plain (c ∷ l) = (32 < c) × Plain l

abbrev pub AllPlain : List (List ℕ) → Type 0
AllPlain [] = Unit {0}
AllPlain (w ∷ ws) = Plain w × AllPlain ws

plain-append : (a b : List ℕ) → Plain a → Plain b → Plain (a ++ b)
plain-append [] b p q = q
plain-append (c ∷ a) b p q = (p.0, plain-append a b p.1 q)

plain-digits : (k n : ℕ) → Plain (digits k n)
unfolding digits
plain-digits zero n = tt
plain-digits (suc k) n = tested (ltb n 10) refl (plain-digits k (n / 10))
  where
    one : Plain (digit_of n ∷ [])
    one = (omega arith, tt)

    tested : (t : Bool) → ltb n 10 ≡ t → Plain (digits k (n / 10)) → Plain (digits (suc k) n)
    tested true e p = rw e one
    tested false e p = rw e (plain-append (digits k (n / 10)) (digit_of n ∷ []) p one)

pub plain-decimal : (n : ℕ) → Plain (decimal n)
unfolding decimal
plain-decimal n = plain-digits 20 n

plain-parted : (c : ℕ) (ws : List (List ℕ)) → 32 < c → parted c ws ≡ onto c ws
unfolding parted
plain-parted c ws h = rw (ne_eqb c 32 (λ e. omega arith), ne_eqb c 10 (λ e. omega arith))

-- a word before what starts with a field
fields-on : (w r : List ℕ) (ws : List (List ℕ)) → Plain w → fields r ≡ [] ∷ ws → fields (w ++ r) ≡ w ∷ ws
unfolding fields onto
fields-on [] r ws p e = e
fields-on (c ∷ w) r ws p e = plain-parted c (fields (w ++ r)) p.0 ∙ ap (onto c) (fields-on w r ws p.1 e)

fields-ending : (ws : List (List ℕ)) → AllPlain ws → fields (ending ws) ≡ [] ∷ ws
unfolding fields parted ending
fields-ending [] p = refl
fields-ending (w ∷ ws) p = ap (λ (l : List (List ℕ)). [] ∷ l) (fields-on w (ending ws) ws p.0 (fields-ending ws p.1))

-- a line's words are its fields
pub fields-line : (w : List ℕ) (ws : List (List ℕ)) → Plain w → AllPlain ws → fields (w ++ ending ws) ≡ w ∷ ws
fields-line w ws p q = fields-on w (ending ws) ws p (fields-ending ws q)

-- "Needs size": what the account's call comes to, by what was found of the size.
use mathlib.Core.{Path.◌≡◌, Path.refl, Path.sym, Path.ap, Path.subst, Path.◌∙◌, Bool.Bool, Bool.true, Bool.false, Bool.cond}
use Prim.Native.Nat.{ℕ, ◌≤◌, ◌<◌}
use native.Mathlib.Decide.{dec_le}
use native.Mathlib.Omega.{arith}
use borrow.Author.Tests.{lt-leb, lt-ltb}
use lib.{Dec.leb, Dec.ltb}
use Rattle.std.specs.Prelude.{Ok, Err}
use Rattle.records.specs.{Refusal, OverCapacity, Limits}
use Rattle.lists.specs.{inner.Held.Room, inner.Held.fitting, inner.Held.given_up, inner.Held.over_capacity}
use Rattle.lists.specs.Account.{Account}
use Rattle.lists.specs.inner.Held.{room_for}
use Rattle.lists.specs.Account.{Result, refused, needing}

-- ---- the three answers of a size are three
RoomCode : Room → Type 0
RoomCode r = elim r [ Ok t ↦ elim t [ true ↦ Unit {0} | false ↦ ⊥ ] | Err why ↦ ⊥ ]

UpCode : Room → Type 0
UpCode r = elim r [ Ok t ↦ elim t [ true ↦ ⊥ | false ↦ Unit {0} ] | Err why ↦ ⊥ ]

gives_fits : given_up ≡ fitting → ⊥
unfolding RoomCode
gives_fits e = subst RoomCode (sym e) tt

over-fits : over_capacity ≡ fitting → ⊥
unfolding RoomCode
over-fits e = subst RoomCode (sym e) tt

over-gives : over_capacity ≡ given_up → ⊥
unfolding UpCode
over-gives e = subst UpCode (sym e) tt

-- where it is refused, why
why-of : Room → Refusal
why-of r = elim r [ Ok t ↦ OverCapacity | Err why ↦ why ]

pub room-why : (capacity n : ℕ) (l : Limits) {why : Refusal} → room_for capacity n l ≡ Err why → why ≡ OverCapacity
unfolding room_for why-of
room-why capacity n l {why} h = sym (ap why-of h) ∙ by_tests (leb n l.allocated) (ltb l.max_len n) (ltb capacity n)
  where
    by_tests : (p q r : Bool) → why-of (cond p fitting (cond q given_up (cond r over_capacity fitting))) ≡ OverCapacity
    by_tests true q r = refl
    by_tests false true r = refl
    by_tests false false true = refl
    by_tests false false false = refl

-- ---- "needs size"
module _ (capacity n : ℕ) (a : Account ℕ) (x y : Result ℕ) where
  pub needing-fits : room_for capacity n a.state.limits ≡ fitting → needing capacity n a x y ≡ x
  unfolding room_for needing
  needing-fits h = by_tests (leb n a.state.limits.allocated) (ltb a.state.limits.max_len n) (ltb capacity n) h
    where
      by_tests : (p q r : Bool) → cond p fitting (cond q given_up (cond r over_capacity fitting)) ≡ fitting → cond p x (cond q y (cond r (refused OverCapacity) x)) ≡ x
      by_tests true q r e = refl
      by_tests false true r e = absurd (gives_fits e)
      by_tests false false true e = absurd (over-fits e)
      by_tests false false false e = refl

  pub needing-gives-up : room_for capacity n a.state.limits ≡ given_up → needing capacity n a x y ≡ y
  unfolding room_for needing
  needing-gives-up h = by_tests (leb n a.state.limits.allocated) (ltb a.state.limits.max_len n) (ltb capacity n) h
    where
      by_tests : (p q r : Bool) → cond p fitting (cond q given_up (cond r over_capacity fitting)) ≡ given_up → cond p x (cond q y (cond r (refused OverCapacity) x)) ≡ y
      by_tests true q r e = absurd (gives_fits (sym e))
      by_tests false true r e = refl
      by_tests false false true e = absurd (over-gives e)
      by_tests false false false e = absurd (gives_fits (sym e))

  pub needing-over : room_for capacity n a.state.limits ≡ over_capacity → needing capacity n a x y ≡ refused OverCapacity
  unfolding room_for needing
  needing-over h = by_tests (leb n a.state.limits.allocated) (ltb a.state.limits.max_len n) (ltb capacity n) h
    where
      by_tests : (p q r : Bool) → cond p fitting (cond q given_up (cond r over_capacity fitting)) ≡ over_capacity → cond p x (cond q y (cond r (refused OverCapacity) x)) ≡ refused OverCapacity
      by_tests true q r e = absurd (over-fits (sym e))
      by_tests false true r e = absurd (over-gives (sym e))
      by_tests false false true e = refl
      by_tests false false false e = absurd (over-fits (sym e))

-- a size that is there lies within the capacity
neither : (t : Bool) → cond t given_up over_capacity ≡ fitting → ⊥
neither true e = gives_fits e
neither false e = over-fits e

pub fits-within : (capacity n : ℕ) (l : Limits) → l.allocated ≤ capacity → room_for capacity n l ≡ fitting → n ≤ capacity
unfolding room_for
fits-within capacity n l h e = split (dec_le n l.allocated) (dec_le n capacity)
  where
    split : Dec (n ≤ l.allocated) → Dec (n ≤ capacity) → n ≤ capacity
    split p (yes q) = q
    split (yes p) (no q) = omega arith
    split (no p) (no q) =
        let above : l.allocated < n = omega arith in
        let over : capacity < n = omega arith in
        absurd (neither (ltb l.max_len n) (simp (lt-leb n l.allocated above, lt-ltb capacity n over) at e))

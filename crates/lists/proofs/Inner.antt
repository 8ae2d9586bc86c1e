-- Sizes, limits and costs of a buffer, and how many glyphs stand before its cursor.
use Rattle.std.specs.Prelude.{Ok, Some, None}
use mathlib.Core.{Path.◌≡◌, Path.refl, Path.sym, Path.ap, Path.◌∙◌, Path.subst, Bool.Bool, Bool.true, Bool.false, Bool.cond, List.List}
use Prim.Native.Nat.{ℕ, ◌-◌, ◌≤◌, ◌<◌}
use native.Mathlib.Omega.{arith}
use borrow.Author.Tests.{le-ltb, lt-ltb}
use lib.{Dec.ltb, ListN.length}
use Rattle.records.specs.{OverCapacity, Limits, Counters.capacity_of, Counters.is_negative, Counters.costs, Counters.failed, Counters.grown, View.glyphs, View.words_from}
use Rattle.records.proofs.View.{length-glyphs}
use Rattle.lists.specs.{declared.Buffer.Buffer, declared.Reply.Reply, inner.Held.Room, inner.Held.fitting, inner.Held.given_up, inner.Held.over_capacity}
use Rattle.lists.specs.Account.{Account, with_limits, spoiled_phase, limiting, paying, failing, sized}
use Rattle.lists.specs.Account.{Result, refused, accepted, answered, needing}
use Rattle.lists.specs.{Contract.gone_of, Contract.state_of, Contract.account_of, inner.Held.Held, inner.Held.room_for}
use Rattle.lists.specs.inner.States.{reply, with_limits_of}
use Rattle.lists.proofs.Sides.{MeetsIn, Moves}
use Rattle.lists.specs.Cursor.{pays_for}
use Rattle.lists.proofs.Accounts.{rest_of}
use Rattle.lists.proofs.SizeLaws.{needing-fits, needing-gives-up, needing-over, fits-within}
use Rattle.lists.proofs.Calls.{in-accepted, in-answered}

-- ---- sizes and limits
-- what the code says of the room for size n: the capacity m that it asked with, and the answer
pub room-is : {room x : Room} {m k : ℕ} (n : ℕ) (l : Limits) → m ≡ k → room ≡ room_for m n l → room ≡ x → room_for k n l ≡ x
room-is n l em er ex = ap (λ (j : ℕ). room_for j n l) (sym em) ∙ (sym er ∙ ex)

-- limits that have a size, within the slices
pub record Roomy (b : Buffer) (size : ℕ) (l : Limits) (run : List ℕ) : Type 0 where
  pub grows : b.limits.allocated ≤ l.allocated
  pub room : size ≤ l.allocated
  pub within : l.allocated ≤ length (glyphs run)

abbrev Fitting : Buffer → ℕ → List ℕ → Type 0
Fitting b size run = room_for (capacity_of (length run)) size b.limits ≡ fitting

module _ (b : Buffer) (run other : List ℕ) (v : Held b run other) where
  pub roomy-grown : (size : ℕ) → Fitting b size run → Roomy b size (grown size b.limits) run
  unfolding grown
  roomy-grown size h =
      let e : length (glyphs run) ≡ capacity_of (length run) = length-glyphs run in
      let fit : size ≤ capacity_of (length run) = fits-within (capacity_of (length run)) size b.limits (omega arith) h in
      record { grows = omega arith; room = omega arith; within = omega arith }

  pub roomy-paid : (size n : ℕ) → Fitting b size run → Roomy b size (costs n (grown size b.limits)) run
  unfolding costs
  roomy-paid size n h = let v = roomy-grown size h in record { grows = v.grows; room = v.room; within = v.within }

  pub held-limits : (l : Limits) → b.limits.allocated ≤ l.allocated → l.allocated ≤ length (glyphs run) → Held (with_limits_of l b) run other
  unfolding with_limits_of
  held-limits l p q = record { idx-in = v.idx-in; len-in = omega arith; out-in = omega arith; all_in = q; most = v.most; same = v.same; whole = v.whole; behind = v.behind; none = v.none }

  pub held-failed : Held (with_limits_of (failed b.limits) b) run other
  unfolding failed
  held-failed = held-limits (failed b.limits) (omega arith) v.all_in

  pub held-paid : (n : ℕ) → Held (with_limits_of (costs n b.limits) b) run other
  unfolding costs
  held-paid n = held-limits (costs n b.limits) (omega arith) v.all_in

-- the account under other limits
module _ (b : Buffer) (run other : List ℕ) where
  pub failing-of : account_of (with_limits_of (failed b.limits) b) run other ≡ failing (account_of b run other)
  unfolding account_of state_of gone_of with_limits_of failing limiting with_limits
  failing-of = refl

  pub paying-of : (n : ℕ) → account_of (with_limits_of (costs n b.limits) b) run other ≡ paying n (account_of b run other)
  unfolding account_of state_of gone_of with_limits_of paying limiting with_limits
  paying-of n = refl

  pub sized_of : (n : ℕ) → account_of (with_limits_of (grown n b.limits) b) run other ≡ sized n (account_of b run other)
  unfolding account_of state_of gone_of with_limits_of sized limiting with_limits
  sized_of n = refl

  pub paid-of : (n m : ℕ) → account_of (with_limits_of (costs m (grown n b.limits)) b) run other ≡ paying m (sized n (account_of b run other))
  unfolding account_of state_of gone_of with_limits_of paying sized limiting with_limits
  paid-of n m = refl

  -- "needs size", by the limits of the buffer
  module _ (capacity n : ℕ) (x y : Result ℕ) where
    pub room_fits : room_for capacity n b.limits ≡ fitting → needing capacity n (account_of b run other) x y ≡ x
    unfolding account_of state_of
    room_fits h = needing-fits capacity n (account_of b run other) x y h

    pub room-gives-up : room_for capacity n b.limits ≡ given_up → needing capacity n (account_of b run other) x y ≡ y
    unfolding account_of state_of
    room-gives-up h = needing-gives-up capacity n (account_of b run other) x y h

    pub room-over : room_for capacity n b.limits ≡ over_capacity → needing capacity n (account_of b run other) x y ≡ refused OverCapacity
    unfolding account_of state_of
    room-over h = needing-over capacity n (account_of b run other) x y h

-- ---- costs
module _ (n : ℕ) (a : Account ℕ) (x : Result ℕ) where
  pub pays-fails : is_negative (paying n a).state.limits.max_ops ≡ true → pays_for n a x ≡ answered 0 (paying n a)
  unfolding pays_for
  pays-fails h = ap (λ (t : Bool). cond t (answered 0 (paying n a)) x) h

  pub pays-holds : is_negative (paying n a).state.limits.max_ops ≡ false → pays_for n a x ≡ x
  unfolding pays_for
  pays-holds h = ap (λ (t : Bool). cond t (answered 0 (paying n a)) x) h

-- ---- a move within the slices, as the end of a call: b is the buffer before the call, g before the move, f after it
module _ {h : Account ℕ → Account ℕ} {g f : Buffer} {run other run' other' : List ℕ} (w : Moves h g run other f run' other') where
  pub move-run : words_from f.limits.allocated run' ≡ words_from f.limits.allocated run
  move-run = subst (λ (l : Limits). words_from l.allocated run' ≡ words_from l.allocated run) (sym w.limits) w.run-beyond

  pub move-other : words_from f.limits.allocated other' ≡ words_from f.limits.allocated other
  move-other = subst (λ (l : Limits). words_from l.allocated other' ≡ words_from l.allocated other) (sym w.limits) w.other-beyond

  pub move-accepted : {call : ℕ → Account ℕ → Result ℕ} {b : Buffer} {r : Reply} → g.swapped ≡ b.swapped → call (capacity_of (length run)) (account_of b run other) ≡ accepted (h (account_of g run other)) → r ≡ reply f (Ok None) → MeetsIn call b run other r run' other'
  move-accepted side e er = in-accepted f (w.side ∙ side) move-run move-other w.held (e ∙ ap accepted (sym w.is)) er

  pub move-answered : {call : ℕ → Account ℕ → Result ℕ} {b : Buffer} {r : Reply} → g.swapped ≡ b.swapped → (x : ℕ) → call (capacity_of (length run)) (account_of b run other) ≡ answered x (h (account_of g run other)) → r ≡ reply f (Ok (Some x)) → MeetsIn call b run other r run' other'
  move-answered side x e er = in-answered f (w.side ∙ side) move-run move-other w.held x (e ∙ ap (answered x) (sym w.is)) er

pub limits-side : (l : Limits) (b : Buffer) → (with_limits_of l b).swapped ≡ b.swapped
unfolding with_limits_of
limits-side l b = refl

-- ---- how many glyphs stand before the cursor
module _ (b : Buffer) (run other : List ℕ) (v : Held b run other) (h : spoiled_phase b.phase ≡ false) (n : ℕ) where
  pub few-left : b.len.0 - b.idx.0 < n → ltb (length (account_of b run other).rest) n ≡ true
  few-left k = let e : length (account_of b run other).rest ≡ b.len.0 - b.idx.0 = rest_of b run other v h in lt-ltb (length (account_of b run other).rest) n (omega arith)

  pub enough-left : n ≤ b.len.0 - b.idx.0 → ltb (length (account_of b run other).rest) n ≡ false
  enough-left k = let e : length (account_of b run other).rest ≡ b.len.0 - b.idx.0 = rest_of b run other v h in le-ltb (length (account_of b run other).rest) n (omega arith)

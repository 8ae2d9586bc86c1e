-- What the parts of `move_to` leave: a cost, forward, and back within the input.
use Rattle.std.specs.Prelude.{Ok, Err, Some}
use mathlib.Core.{Path.◌≡◌, Path.refl, Path.sym, Path.ap, Path.◌∙◌, Bool.Bool, Bool.true, Bool.false, Bool.cond, List.List}
use Prim.Native.Nat.{ℕ, ◌+◌, ◌-◌}
use lib.{Dec.ltb, ListN.length}
use Rattle.records.specs.{OverCapacity, Limits, Counters.capacity_of, Counters.is_negative, Counters.costs, Counters.failed, Counters.grown}
use Rattle.lists.specs.{declared.Buffer.Buffer, declared.Reply.Reply, inner.Held.fitting, inner.Held.given_up, inner.Held.over_capacity}
use Rattle.lists.specs.Account.{Account, with_gone, with_limits, len, idx, out_length, limiting, paying, failing, sized}
use Rattle.lists.specs.Account.{Result, answered, outcome, needing}
use Rattle.lists.specs.{Contract.state_of, Contract.account_of, inner.Held.room_for}
use Rattle.lists.specs.inner.States.{reply, with_limits_of}
use Rattle.lists.specs.Contract.{is_no}
use Rattle.lists.specs.inner.Held.{exchanged}
use Rattle.lists.proofs.Sides.{account_in, MeetsIn, Moves}
use Rattle.lists.specs.Cursor.{moved, back, growing, pays_for, forward, goes_back, backward}
use Rattle.lists.proofs.Accounts.{out_of}
use Rattle.lists.proofs.Moving.{Forwardable, Returnable}
use Rattle.lists.proofs.Calls.{in-refused, in-answered}
use Rattle.lists.proofs.Inner.{Roomy, roomy-paid, held-limits, held-failed, held-paid, failing-of, paying-of, paid-of, room_fits, room-gives-up, room-over, pays-fails, pays-holds, move-answered, limits-side}
use Rattle.lists.proofs.SyncLaws.{NextOutput, forwardable}

-- ---- move_to, its parts
module _ (capacity n : ℕ) (a : Account ℕ) where
  forward-needs : (size : ℕ) → out_length a + n ≡ size → forward capacity n a ≡ needing capacity size a (pays_for n (sized size a) (answered 1 (moved n (paying n (sized size a))))) (answered 0 (failing a))
  unfolding forward
  forward-needs size e = rw e

  -- len and idx of the account, as the code has them
  module _ (l i : ℕ) (el : len a ≡ l) (ei : idx a ≡ i) where
    pub backward-needs : (size : ℕ) → l + n - i ≡ size → ltb i n ≡ true
        → backward capacity n a ≡ needing capacity size a (pays_for (l - i) (sized size a) (goes_back n (growing (n - i) (paying (l - i) (sized size a))))) (answered 0 (failing a))
    unfolding backward
    backward-needs size e h =
        let go : ℕ → ℕ → ℕ → Result ℕ = λ s l i. cond (ltb i n) (needing capacity s a (pays_for (l - i) (sized s a) (goes_back n (growing (n - i) (paying (l - i) (sized s a))))) (answered 0 (failing a))) (goes_back n a) in
        ap (λ (l : ℕ). go (l + n - idx a) l (idx a)) el ∙ (ap (λ (i : ℕ). go (l + n - i) l i) ei ∙ (ap (λ (s : ℕ). go s l i) e ∙ rw h))

    pub backward-goes : ltb i n ≡ false → backward capacity n a ≡ goes_back n a
    unfolding backward
    backward-goes h = rw (ei, h)

-- the test of a cost, on the limits of the buffer
module _ (b : Buffer) (run other : List ℕ) (n : ℕ) (x : Result ℕ) where
  cost-fails : is_negative (costs n b.limits).max_ops ≡ true → pays_for n (account_of b run other) x ≡ answered 0 (account_of (with_limits_of (costs n b.limits) b) run other)
  unfolding account_of state_of paying limiting with_limits
  cost-fails h = pays-fails n (account_of b run other) x h ∙ ap (answered 0) (sym (paying-of b run other n))

  cost-holds : is_negative (costs n b.limits).max_ops ≡ false → pays_for n (account_of b run other) x ≡ x
  unfolding account_of state_of paying limiting with_limits
  cost-holds h = pays-holds n (account_of b run other) x h

  module _ (size : ℕ) where
    pub spent-fails : is_negative (costs n (grown size b.limits)).max_ops ≡ true → pays_for n (sized size (account_of b run other)) x ≡ answered 0 (account_of (with_limits_of (costs n (grown size b.limits)) b) run other)
    unfolding account_of state_of paying sized limiting with_limits
    spent-fails h = pays-fails n (sized size (account_of b run other)) x h ∙ ap (answered 0) (sym (paid-of b run other size n))

    pub spent-holds : is_negative (costs n (grown size b.limits)).max_ops ≡ false → pays_for n (sized size (account_of b run other)) x ≡ x
    unfolding account_of state_of paying sized limiting with_limits
    spent-holds h = pays-holds n (sized size (account_of b run other)) x h

-- what the code says of it
pub negative-is : {t y : Bool} {l : Limits} (m : Limits) → l ≡ m → t ≡ is_negative l.max_ops → t ≡ y → is_negative m.max_ops ≡ y
negative-is m el et ey = ap (λ (x : Limits). is_negative x.max_ops) (sym el) ∙ (sym et ∙ ey)

-- a size, and then a cost
pub paid-is : {m : ℕ} (n d : ℕ) (l : Limits) {j k : Limits} → m ≡ n → j ≡ grown m l → k ≡ costs d j → k ≡ costs d (grown n l)
paid-is n d l em ej ek = ek ∙ ap (costs d) (ej ∙ ap (λ (i : ℕ). grown i l) em)

-- ---- forward
module _ {b : Buffer} {n : ℕ} {run other : List ℕ} (v : NextOutput b n run other) where
  abbrev out-size : ℕ
  out-size = b.out_len.0 + n

  forward-room : forward (capacity_of (length run)) n (account_of b run other) ≡ needing (capacity_of (length run)) out-size (account_of b run other) (pays_for n (sized out-size (account_of b run other)) (answered 1 (moved n (paying n (sized out-size (account_of b run other)))))) (answered 0 (failing (account_of b run other)))
  forward-room = forward-needs _ n _ out-size (ap (λ (j : ℕ). j + n) (out_of b run other v.held))

  pub forward-over : {r : Reply} → room_for (capacity_of (length run)) out-size b.limits ≡ over_capacity → r ≡ reply b (Err OverCapacity) → MeetsIn (λ capacity a. forward capacity n a) b run other r run other
  forward-over h er = in-refused OverCapacity (forward-room ∙ room-over b run other _ _ _ _ h) v.held er

  pub forward-gives-up : {r : Reply} {l : Limits} {g : Buffer} → room_for (capacity_of (length run)) out-size b.limits ≡ given_up → l ≡ failed b.limits → g ≡ with_limits_of l b → r ≡ reply g (Ok (Some 0)) → MeetsIn (λ capacity a. forward capacity n a) b run other r run other
  forward-gives-up h el eg er =
      in-answered (with_limits_of (failed b.limits) b) (limits-side (failed b.limits) b) refl refl (held-failed b run other v.held) 0
      (forward-room ∙ (room-gives-up b run other _ _ _ _ h ∙ ap (answered 0) (sym (failing-of b run other))))
      (er ∙ ap (λ (x : Buffer). reply x (Ok (Some 0))) (eg ∙ ap (λ (x : Limits). with_limits_of x b) el))

  module _ (h : room_for (capacity_of (length run)) out-size b.limits ≡ fitting) {l : Limits} {g : Buffer} (el : l ≡ costs n (grown out-size b.limits)) (eg : g ≡ with_limits_of l b) where
    pub forward-spent : {r : Reply} → is_negative (costs n (grown out-size b.limits)).max_ops ≡ true → r ≡ reply g (Ok (Some 0)) → MeetsIn (λ capacity a. forward capacity n a) b run other r run other
    forward-spent k er =
        let q : Roomy b out-size (costs n (grown out-size b.limits)) run = roomy-paid b run other v.held out-size n h in
        in-answered (with_limits_of (costs n (grown out-size b.limits)) b) (limits-side (costs n (grown out-size b.limits)) b) refl refl (held-limits b run other v.held _ q.grows q.within) 0
        (forward-room ∙ (room_fits b run other _ _ _ _ h ∙ spent-fails b run other n _ out-size k))
        (er ∙ ap (λ (x : Buffer). reply x (Ok (Some 0))) (eg ∙ ap (λ (x : Limits). with_limits_of x b) el))

    pub forward-ready : Forwardable g n run other
    forward-ready = rw (eg, el) (forwardable v _ (roomy-paid b run other v.held _ n h))

    pub forward-moves : {r : Reply} {f : Buffer} {run' other' : List ℕ} → is_negative (costs n (grown out-size b.limits)).max_ops ≡ false → Moves (moved n) g run other f run' other' → r ≡ reply f (Ok (Some 1)) → MeetsIn (λ capacity a. forward capacity n a) b run other r run' other'
    forward-moves {r} {f} {run'} {other'} k w er =
        let w' : Moves (moved n) (with_limits_of (costs n (grown out-size b.limits)) b) run other f run' other' = rw (eg, el) at w in
        move-answered w' (limits-side (costs n (grown out-size b.limits)) b) 1
        (forward-room ∙ (room_fits b run other _ _ _ _ h ∙ (spent-holds b run other n _ out-size k ∙ ap (λ (a : Account ℕ). answered 1 (moved n a)) (sym (paid-of b run other out-size n))))) er

-- ---- goes_back
module _ {b : Buffer} {n : ℕ} {run other : List ℕ} (v : Returnable b n run other) {l : Limits} {g : Buffer} (el : l ≡ costs n b.limits) (eg : g ≡ with_limits_of l b) where
  pub back-spent : {r : Reply} → is_negative (costs n b.limits).max_ops ≡ true → r ≡ reply g (Ok (Some 0)) → MeetsIn (λ capacity a. goes_back n a) b run other r run other
  unfolding goes_back
  back-spent k er =
      in-answered (with_limits_of (costs n b.limits) b) (limits-side (costs n b.limits) b) refl refl (held-paid b run other v.held n) 0
      (cost-fails b run other n _ k)
      (er ∙ ap (λ (x : Buffer). reply x (Ok (Some 0))) (eg ∙ ap (λ (x : Limits). with_limits_of x b) el))

  back-ready-paid : Returnable (with_limits_of (costs n b.limits) b) n run other
  unfolding with_limits_of
  back-ready-paid = record { held = held-paid b run other v.held n; output = v.output; in-idx = v.in-idx; in-out = v.in-out }

  pub back-ready : Returnable g n run other
  back-ready = rw (eg, el) back-ready-paid

  pub back-moves : {r : Reply} {f : Buffer} {run' other' : List ℕ} → is_negative (costs n b.limits).max_ops ≡ false → Moves (back n) g run other f run' other' → r ≡ reply f (Ok (Some 1)) → MeetsIn (λ capacity a. goes_back n a) b run other r run' other'
  unfolding goes_back
  back-moves {r} {f} {run'} {other'} k w er =
      let w' : Moves (back n) (with_limits_of (costs n b.limits) b) run other f run' other' = rw (eg, el) at w in
      move-answered w' (limits-side (costs n b.limits) b) 1
      (cost-holds b run other n _ k ∙ ap (λ (a : Account ℕ). answered 1 (back n a)) (sym (paying-of b run other n))) er

-- it refuses nothing, and keeps the allocated size
module _ (n : ℕ) (a : Account ℕ) where
  pub goes-accepts : (x y : Account ℕ) → outcome x (goes_back n a) ≡ outcome y (goes_back n a)
  unfolding goes_back pays_for outcome
  goes-accepts x y = by-test (is_negative (paying n a).state.limits.max_ops)
    where
      by-test : (t : Bool) → outcome x (cond t (answered 0 (paying n a)) (answered 1 (back n (paying n a)))) ≡ outcome y (cond t (answered 0 (paying n a)) (answered 1 (back n (paying n a))))
      by-test true = refl
      by-test false = refl

  pub goes-no : (x : Account ℕ) → is_no (outcome x (goes_back n a)).answer ≡ false
  unfolding goes_back pays_for outcome
  goes-no x = by-test (is_negative (paying n a).state.limits.max_ops)
    where
      by-test : (t : Bool) → is_no (outcome x (cond t (answered 0 (paying n a)) (answered 1 (back n (paying n a))))).answer ≡ false
      by-test true = refl
      by-test false = refl

  pub goes-size : (x : Account ℕ) → (outcome x (goes_back n a)).after.state.limits.allocated ≡ a.state.limits.allocated
  unfolding goes_back pays_for outcome back paying limiting with_limits with_gone costs
  goes-size x = by-test (is_negative (paying n a).state.limits.max_ops)
    where
      by-test : (t : Bool) → (outcome x (cond t (answered 0 (paying n a)) (answered 1 (back n (paying n a))))).after.state.limits.allocated ≡ a.state.limits.allocated
      by-test true = refl
      by-test false = refl

pub limits-in : (x : Bool) (r : Buffer) (run other : List ℕ) → (account_in x r run other).state.limits ≡ r.limits
unfolding account_in account_of state_of
limits-in x r run other = by_side (exchanged x r.swapped)
  where
    by_side : (y : Bool) → (cond y (account_of r other run) (account_of r run other)).state.limits ≡ r.limits
    by_side true = refl
    by_side false = refl

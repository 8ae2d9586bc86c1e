-- What `move_to` leaves: back over the start of the input, and the call by its tests.
use Rattle.std.specs.Prelude.{Ok, Err, Some}
use mathlib.Core.{Path.◌≡◌, Path.refl, Path.sym, Path.ap, Path.◌∙◌, Path.subst, Bool.Bool, Bool.true, Bool.false, Bool.cond, Bool.not, Bool.false≢true, List.List}
use Prim.Native.Nat.{ℕ, ◌+◌, ◌-◌, ◌≤◌, ◌<◌}
use native.Mathlib.Omega.{arith}
use borrow.Author.Tests.{le-ltb, lt-ltb}
use lib.{Dec.ltb, ListN.length}
use Rattle.records.specs.{WrongPhase, OutOfRange, OverCapacity, Limits, Answers.said, Counters.capacity_of, Counters.is_negative, Counters.costs, Counters.failed, Counters.grown, View.words_from}
use Rattle.lists.specs.{declared.Buffer.Buffer, declared.Reply.Reply, inner.Held.fitting, inner.Held.given_up, inner.Held.over_capacity}
use Rattle.lists.specs.Account.{Account, with_gone, output_phase, spoiled_phase, has_output, is_spoiled, len, idx, out_length, paying, failing, sized}
use Rattle.lists.specs.Account.{refuse◌when◌else◌, Result, refused, answered, outcome, needing}
use Rattle.lists.specs.{Contract.account_of, inner.Held.Held, inner.Held.room_for}
use Rattle.lists.specs.inner.States.{reply, with_limits_of, at_places}
use Rattle.lists.specs.Contract.{is_no}
use Rattle.lists.proofs.Sides.{account_in, MeetsIn, Moves, SyncOutput}
use Rattle.lists.specs.Cursor.{cursor_at, growing, pays_for, forward, goes_back, backward, move_to}
use Rattle.lists.proofs.Accounts.{output-clean, output-of, spoiled-of, limits_of, out_of, rest_of, idx-of, len_of}
use Rattle.lists.proofs.SoundLaws.{held-lengths}
use Rattle.lists.proofs.Moving.{Shiftable, Returnable}
use Rattle.lists.proofs.Simple.{cursor-of}
use Rattle.lists.proofs.Calls.{in-refused, in-answered, in-call}
use Rattle.lists.proofs.Inner.{Roomy, roomy-paid, held-limits, held-failed, failing-of, paid-of, room_fits, room-gives-up, room-over, limits-side}
use Rattle.lists.proofs.ForwardLaws.{backward-needs, backward-goes, spent-fails, spent-holds, goes-accepts, goes-no, goes-size, limits-in}

-- more of them than the input has room for
pub record BackOver (b : Buffer) (n : ℕ) (run other : List ℕ) : Type 0 where
  pub held : Held b run other
  pub output : output_phase b.phase ≡ true
  pub in-out : n ≤ b.out_len.0
  pub past : b.idx.0 < n

-- ---- the cursor without output
module _ (b : Buffer) (run other : List ℕ) (v : Held b run other) (o : output_phase b.phase ≡ false) (s : spoiled_phase b.phase ≡ false) where
  pub held_at : (i : ℕ) → i ≤ b.len.0 → Held (at_places i b.len.0 b.out_len.0 b) run other
  unfolding at_places
  held_at i h = record { idx-in = h; len-in = v.len-in; out-in = v.out-in; all_in = v.all_in; most = v.most; same = v.same; whole = v.whole; behind = λ p q. absurd (false≢true (sym o ∙ p)); none = v.none }

places-side : (i l k : ℕ) (b : Buffer) → (at_places i l k b).swapped ≡ b.swapped
unfolding at_places
places-side i l k b = refl

-- ---- backward
module _ (k : ℕ) (a : Account ℕ) where
  growing-idx : is_spoiled a ≡ false → idx (growing k a) ≡ idx a + k
  unfolding idx growing with_gone is_spoiled
  growing-idx h = rw h (omega arith)

  growing-out : out_length (growing k a) ≡ out_length a
  unfolding out_length growing
  growing-out = refl

  growing-output : has_output (growing k a) ≡ has_output a
  unfolding has_output growing with_gone
  growing-output = refl

-- where the input goes up by k
module _ (k : ℕ) {g f : Buffer} {run other run' : List ℕ} (v : Held g run other) (o : output_phase g.phase ≡ true) (e : length run' ≡ length run) (w : Moves (growing k) g run other f run' other) where
  shifted-held : Held f run' other
  shifted-held = held-lengths f run other run' other e refl w.held

  shifted-output : output_phase f.phase ≡ true
  shifted-output = sym (output-of f run' other) ∙ (ap has_output w.is ∙ (growing-output k (account_of g run other) ∙ (output-of g run other ∙ o)))

  shifted-idx : f.idx.0 ≡ g.idx.0 + k
  shifted-idx =
      let s : spoiled_phase g.phase ≡ false = output-clean g.phase o in
      sym (idx-of f run' other shifted-held (output-clean f.phase shifted-output)) ∙ (ap idx w.is ∙ (growing-idx k (account_of g run other) (spoiled-of g run other ∙ s) ∙ ap (λ (j : ℕ). j + k) (idx-of g run other v s)))

  shifted-out : f.out_len.0 ≡ g.out_len.0
  shifted-out = sym (out_of f run' other shifted-held) ∙ (ap out_length w.is ∙ (growing-out k (account_of g run other) ∙ out_of g run other v))

  shifted-ready : (n : ℕ) → n ≤ g.idx.0 + k → n ≤ g.out_len.0 → Returnable f n run' other
  shifted-ready n p q = record { held = shifted-held; output = shifted-output; in-idx = subst (λ (j : ℕ). n ≤ j) (sym shifted-idx) p; in-out = subst (λ (j : ℕ). n ≤ j) (sym shifted-out) q }

  -- and then back by n, from f: b is the buffer before the call
  shifted-meets : (n : ℕ) {call : ℕ → Account ℕ → Result ℕ} {b : Buffer} {r : Reply} {run'' other'' : List ℕ} → g.swapped ≡ b.swapped → call (capacity_of (length run)) (account_of b run other) ≡ goes_back n (growing k (account_of g run other)) → MeetsIn (λ capacity a. goes_back n a) f run' other r run'' other'' → MeetsIn call b run other r run'' other''
  unfolding outcome
  shifted-meets n {call} {b} {r} {run''} {other''} side ec m =
      let c : call (capacity_of (length run)) (account_of b run other) ≡ goes_back n (account_of f run' other) = ec ∙ ap (goes_back n) (sym w.is) in
      let size : r.buffer.limits.allocated ≡ g.limits.allocated =
      ap (λ (l : Limits). l.allocated) (sym (limits-in f.swapped r.buffer run'' other''))
      ∙ (ap (λ o. o.after.state.limits.allocated) m.is
      ∙ (goes-size n (account_of f run' other) (account_of f run' other)
      ∙ (ap (λ (l : Limits). l.allocated) (limits_of f run' other) ∙ ap (λ (l : Limits). l.allocated) w.limits))) in
      record {
        is = ap (λ (x : Bool). record { answer = said r.answer; after = account_in x r.buffer run'' other'' }) (sym (w.side ∙ side))
            ∙ (m.is ∙ (goes-accepts n (account_of f run' other) (account_of f run' other) (account_of b run other) ∙ ap (outcome (account_of b run other)) (sym c)));
        stays = λ q. absurd (false≢true (sym (ap (λ o. is_no o.answer) m.is ∙ goes-no n (account_of f run' other) (account_of f run' other)) ∙ q));
        run-beyond = m.run-beyond ∙ subst (λ (j : ℕ). words_from j run' ≡ words_from j run) (sym size) w.run-beyond;
        other-beyond = m.other-beyond;
        held = held-lengths r.buffer run' other run other (sym e) refl m.held;
      }

module _ {b : Buffer} {n : ℕ} {run other : List ℕ} (v : BackOver b n run other) where
  abbrev left-of : ℕ
  left-of = b.len.0 - b.idx.0

  abbrev over-size : ℕ
  over-size = left-of + n

  over-room : backward (capacity_of (length run)) n (account_of b run other) ≡ needing (capacity_of (length run)) over-size (account_of b run other) (pays_for left-of (sized over-size (account_of b run other)) (goes_back n (growing (n - b.idx.0) (paying left-of (sized over-size (account_of b run other)))))) (answered 0 (failing (account_of b run other)))
  over-room =
      let s : spoiled_phase b.phase ≡ false = output-clean b.phase v.output in
      backward-needs _ n _ b.len.0 b.idx.0 (len_of b run other v.held s) (idx-of b run other v.held s) over-size (omega (arith, v.held.idx-in)) (lt-ltb _ _ v.past)

  pub over-over : {r : Reply} → room_for (capacity_of (length run)) over-size b.limits ≡ over_capacity → r ≡ reply b (Err OverCapacity) → MeetsIn (λ capacity a. backward capacity n a) b run other r run other
  over-over h er = in-refused OverCapacity (over-room ∙ room-over b run other _ _ _ _ h) v.held er

  pub over-gives-up : {r : Reply} {l : Limits} {g : Buffer} → room_for (capacity_of (length run)) over-size b.limits ≡ given_up → l ≡ failed b.limits → g ≡ with_limits_of l b → r ≡ reply g (Ok (Some 0)) → MeetsIn (λ capacity a. backward capacity n a) b run other r run other
  over-gives-up h el eg er =
      in-answered (with_limits_of (failed b.limits) b) (limits-side (failed b.limits) b) refl refl (held-failed b run other v.held) 0
      (over-room ∙ (room-gives-up b run other _ _ _ _ h ∙ ap (answered 0) (sym (failing-of b run other))))
      (er ∙ ap (λ (x : Buffer). reply x (Ok (Some 0))) (eg ∙ ap (λ (x : Limits). with_limits_of x b) el))

  module _ (h : room_for (capacity_of (length run)) over-size b.limits ≡ fitting) {l : Limits} {g : Buffer} (el : l ≡ costs left-of (grown over-size b.limits)) (eg : g ≡ with_limits_of l b) where
    over-roomy : Roomy b over-size (costs left-of (grown over-size b.limits)) run
    over-roomy = roomy-paid b run other v.held over-size left-of h

    over-held : Held (with_limits_of (costs left-of (grown over-size b.limits)) b) run other
    over-held = held-limits b run other v.held _ over-roomy.grows over-roomy.within

    pub over-spent : {r : Reply} → is_negative (costs left-of (grown over-size b.limits)).max_ops ≡ true → r ≡ reply g (Ok (Some 0)) → MeetsIn (λ capacity a. backward capacity n a) b run other r run other
    over-spent k er =
        in-answered (with_limits_of (costs left-of (grown over-size b.limits)) b) (limits-side (costs left-of (grown over-size b.limits)) b) refl refl over-held 0
        (over-room ∙ (room_fits b run other _ _ _ _ h ∙ spent-fails b run other left-of _ over-size k))
        (er ∙ ap (λ (x : Buffer). reply x (Ok (Some 0))) (eg ∙ ap (λ (x : Limits). with_limits_of x b) el))

    shiftable : (l : Limits) → Roomy b over-size l run → Shiftable (with_limits_of l b) (n - b.idx.0) run other
    unfolding with_limits_of
    shiftable l q = record { held = held-limits b run other v.held l q.grows q.within; output = v.output; in_size = omega (arith, q.room, v.held.idx-in, v.past) }

    pub over-shiftable : Shiftable g (n - b.idx.0) run other
    over-shiftable = rw (eg, el) (shiftable _ over-roomy)

    module _ {f : Buffer} {run' : List ℕ} (e : length run' ≡ length run) (w : Moves (growing (n - b.idx.0)) g run other f run' other) where
      over-shifts : Moves (growing (n - b.idx.0)) (with_limits_of (costs left-of (grown over-size b.limits)) b) run other f run' other
      over-shifts = rw (eg, el) at w

      over-output : output_phase (with_limits_of (costs left-of (grown over-size b.limits)) b).phase ≡ true
      unfolding with_limits_of
      over-output = v.output

      pub over-returns : Returnable f n run' other
      unfolding with_limits_of
      over-returns = shifted-ready (n - b.idx.0) over-held over-output e over-shifts n (omega (arith, v.past)) v.in-out

      pub over-moves : {r : Reply} {run'' other'' : List ℕ} → is_negative (costs left-of (grown over-size b.limits)).max_ops ≡ false → MeetsIn (λ capacity a. goes_back n a) f run' other r run'' other'' → MeetsIn (λ capacity a. backward capacity n a) b run other r run'' other''
      over-moves k m =
          shifted-meets (n - b.idx.0) over-held over-output e over-shifts n (limits-side (costs left-of (grown over-size b.limits)) b)
          (over-room ∙ (room_fits b run other _ _ _ _ h ∙ (spent-holds b run other left-of _ over-size k ∙ ap (λ (a : Account ℕ). goes_back n (growing (n - b.idx.0) a)) (sym (paid-of b run other over-size left-of))))) m

pub back-within : {b : Buffer} {n : ℕ} {run other run' other' : List ℕ} {r : Reply} → Returnable b n run other → MeetsIn (λ capacity a. goes_back n a) b run other r run' other' → MeetsIn (λ capacity a. backward capacity n a) b run other r run' other'
back-within {b} {n} {run} {other} v m =
    let s : spoiled_phase b.phase ≡ false = output-clean b.phase v.output in
    in-call (backward-goes _ n _ b.len.0 b.idx.0 (len_of b run other v.held s) (idx-of b run other v.held s) (le-ltb _ _ v.in-idx)) m

-- ---- move_to
module _ (capacity i : ℕ) (a : Account ℕ) where
  move-spoiled : is_spoiled a ≡ true → move_to capacity i a ≡ refused WrongPhase
  unfolding move_to refuse◌when◌else◌
  move-spoiled h = rw h

  module _ (h : is_spoiled a ≡ false) where
    move-outside : has_output a ≡ false → ltb (len a) i ≡ true → move_to capacity i a ≡ refused OutOfRange
    unfolding move_to refuse◌when◌else◌
    move-outside o k = rw (h, o, k)

    move-places : has_output a ≡ false → ltb (len a) i ≡ false → move_to capacity i a ≡ answered 1 (cursor_at i a)
    unfolding move_to refuse◌when◌else◌
    move-places o k = rw (h, o, k)

    module _ (o : has_output a ≡ true) where
      move-over : ltb (out_length a + length a.rest) i ≡ true → move_to capacity i a ≡ refused OutOfRange
      unfolding move_to refuse◌when◌else◌
      move-over k = rw (h, o, k)

      -- m is the length of the output
      goes_to : Bool → ℕ → Result ℕ
      goes_to t m = cond (not t) (answered 0 a) (cond (ltb m i) (forward capacity (i - m) a) (cond (ltb i m) (backward capacity (m - i) a) (answered 1 a)))

      module _ (k : ltb (out_length a + length a.rest) i ≡ false) where
        move-within : move_to capacity i a ≡ goes_to a.state.limits.successful (out_length a)
        unfolding move_to refuse◌when◌else◌ goes_to
        move-within = rw (h, o, k)

        move-failed : a.state.limits.successful ≡ false → move_to capacity i a ≡ answered 0 a
        unfolding goes_to
        move-failed s = move-within ∙ ap (λ (t : Bool). goes_to t (out_length a)) s

        module _ (s : a.state.limits.successful ≡ true) (m : ℕ) (e : out_length a ≡ m) where
          move-length : move_to capacity i a ≡ goes_to true m
          move-length = move-within ∙ (ap (λ (t : Bool). goes_to t (out_length a)) s ∙ ap (goes_to true) e)

          move-forward : ltb m i ≡ true → move_to capacity i a ≡ forward capacity (i - m) a
          unfolding goes_to
          move-forward p = move-length ∙ rw p

          move-backward : ltb m i ≡ false → ltb i m ≡ true → move_to capacity i a ≡ backward capacity (m - i) a
          unfolding goes_to
          move-backward p q = move-length ∙ rw (p, q)

          move-stays : ltb m i ≡ false → ltb i m ≡ false → move_to capacity i a ≡ answered 1 a
          unfolding goes_to
          move-stays p q = move-length ∙ rw (p, q)

module _ {b : Buffer} {run other : List ℕ} {r : Reply} (i : ℕ) (v : Held b run other) where
  pub move-in-spoiled : spoiled_phase b.phase ≡ true → r ≡ reply b (Err WrongPhase) → MeetsIn (λ capacity a. move_to capacity i a) b run other r run other
  move-in-spoiled h er = in-refused WrongPhase (move-spoiled _ i _ (spoiled-of b run other ∙ h)) v er

  module _ (h : spoiled_phase b.phase ≡ false) (o : output_phase b.phase ≡ false) where
    pub move-in-outside : b.len.0 < i → r ≡ reply b (Err OutOfRange) → MeetsIn (λ capacity a. move_to capacity i a) b run other r run other
    move-in-outside k er = in-refused OutOfRange (move-outside _ i _ (spoiled-of b run other ∙ h) (output-of b run other ∙ o) (ap (λ (l : ℕ). ltb l i) (len_of b run other v h) ∙ lt-ltb _ _ k)) v er

    pub move-in-places : {b' : Buffer} → i ≤ b.len.0 → b' ≡ at_places i b.len.0 b.out_len.0 b → r ≡ reply b' (Ok (Some 1)) → MeetsIn (λ capacity a. move_to capacity i a) b run other r run other
    move-in-places k eb er =
        in-answered (at_places i b.len.0 b.out_len.0 b) (places-side i b.len.0 b.out_len.0 b) refl refl (held_at b run other v o h i k) 1
        (move-places _ i _ (spoiled-of b run other ∙ h) (output-of b run other ∙ o) (ap (λ (l : ℕ). ltb l i) (len_of b run other v h) ∙ le-ltb _ _ k) ∙ ap (answered 1) (sym (cursor-of b run other v o h i k)))
        (er ∙ ap (λ (x : Buffer). reply x (Ok (Some 1))) eb)

module _ {b : Buffer} {run other : List ℕ} (i : ℕ) (v : SyncOutput b run other) where
  clean_of : is_spoiled (account_of b run other) ≡ false
  clean_of = spoiled-of b run other ∙ output-clean b.phase v.output

  all_of : out_length (account_of b run other) + length (account_of b run other).rest ≡ b.out_len.0 + (b.len.0 - b.idx.0)
  all_of = omega (arith, out_of b run other v.held, rest_of b run other v.held (output-clean b.phase v.output))

  successful-of : {t : Bool} → b.limits.successful ≡ t → (account_of b run other).state.limits.successful ≡ t
  successful-of s = ap (λ (l : Limits). l.successful) (limits_of b run other) ∙ s

  pub move-out-over : {r : Reply} → b.out_len.0 + (b.len.0 - b.idx.0) < i → r ≡ reply b (Err OutOfRange) → MeetsIn (λ capacity a. move_to capacity i a) b run other r run other
  move-out-over k er = in-refused OutOfRange (move-over _ i _ clean_of (output-of b run other ∙ v.output) (ap (λ (l : ℕ). ltb l i) all_of ∙ lt-ltb _ _ k)) v.held er

  module _ (k : i ≤ b.out_len.0 + (b.len.0 - b.idx.0)) where
    within_of : ltb (out_length (account_of b run other) + length (account_of b run other).rest) i ≡ false
    within_of = ap (λ (l : ℕ). ltb l i) all_of ∙ le-ltb _ _ k

    pub move-out-failed : {r : Reply} → b.limits.successful ≡ false → r ≡ reply b (Ok (Some 0)) → MeetsIn (λ capacity a. move_to capacity i a) b run other r run other
    move-out-failed s er = in-answered b refl refl refl v.held 0 (move-failed _ i _ clean_of (output-of b run other ∙ v.output) within_of (successful-of s)) er

    module _ (s : b.limits.successful ≡ true) where
      pub move-is-forward : b.out_len.0 < i → move_to (capacity_of (length run)) i (account_of b run other) ≡ forward (capacity_of (length run)) (i - b.out_len.0) (account_of b run other)
      move-is-forward p = move-forward _ i _ clean_of (output-of b run other ∙ v.output) within_of (successful-of s) _ (out_of b run other v.held) (lt-ltb _ _ p)

      pub move-is-backward : i < b.out_len.0 → move_to (capacity_of (length run)) i (account_of b run other) ≡ backward (capacity_of (length run)) (b.out_len.0 - i) (account_of b run other)
      move-is-backward p = move-backward _ i _ clean_of (output-of b run other ∙ v.output) within_of (successful-of s) _ (out_of b run other v.held) (le-ltb b.out_len.0 i (omega arith)) (lt-ltb _ _ p)

      pub move-out-stays : {r : Reply} → i ≤ b.out_len.0 → b.out_len.0 ≤ i → r ≡ reply b (Ok (Some 1)) → MeetsIn (λ capacity a. move_to capacity i a) b run other r run other
      move-out-stays p q er = in-answered b refl refl refl v.held 1 (move-stays _ i _ clean_of (output-of b run other ∙ v.output) within_of (successful-of s) _ (out_of b run other v.held) (le-ltb _ _ p) (le-ltb _ _ q)) er

-- What `sync` and `next_glyphs` with output leave, from what they move.
use Rattle.std.specs.Prelude.{Ok, Err, Some, None}
use mathlib.Core.{Path.◌≡◌, Path.refl, Path.sym, Path.ap, Path.◌∙◌, Bool.Bool, Bool.true, Bool.false, Bool.cond, Bool.not, Bool.false≢true, List.List, List.[]}
use Prim.Native.Nat.{ℕ, ◌+◌, ◌-◌, ◌≤◌}
use native.Mathlib.Omega.{arith}
use lib.{Dec.ltb, ListN.length, ListN.take, ListN.drop, Seq.take-nil, Seq.drop-nil}
use Rattle.records.specs.{Plain, Spoiled, WrongPhase, OverCapacity, Limits, Counters.capacity_of, Counters.failed, Counters.grown, Glyphs.Glyph, View.glyphs, View.words_from}
use Rattle.lists.specs.{declared.Buffer.Buffer, declared.Reply.Reply, inner.Held.fitting, inner.Held.given_up, inner.Held.over_capacity}
use Rattle.lists.specs.Account.{Account, in_phase, with_gone, output_phase, spoiled_phase, has_output, is_spoiled, len, out_length, failing, sized, read_level}
use Rattle.lists.specs.Account.{refuse◌when◌else◌, Result, refused, accepted, answered, outcome, needing}
use Rattle.lists.specs.{Contract.shown, Contract.gone_of, Contract.state_of, Contract.account_of, inner.Held.Held, inner.Held.room_for}
use Rattle.lists.specs.inner.States.{reply, with_limits_of, swapped_buffer, restarted_buffer, spoiled_buffer}
use Rattle.lists.specs.inner.Held.{exchanged}
use Rattle.lists.proofs.Sides.{account_in, MeetsIn, Moves}
use Rattle.lists.specs.Cursor.{moved, output_as_run, spoiling, next_glyphs, sync}
use Rattle.lists.proofs.Accounts.{output-clean, output-of, spoiled-of, limits_of, out_of, rest_of, len_of}
use Rattle.lists.proofs.Moving.{Forwardable}
use Rattle.lists.proofs.Calls.{in-refused, in-answered}
use Rattle.lists.proofs.Inner.{Roomy, roomy-grown, held-limits, held-failed, failing-of, sized_of, room_fits, room-gives-up, room-over, move-run, move-other, move-accepted, limits-side, enough-left}

-- and that has not given up
pub record Syncable (b : Buffer) (run other : List ℕ) : Type 0 where
  pub held : Held b run other
  pub output : output_phase b.phase ≡ true
  pub successful : b.limits.successful ≡ true

-- a buffer with output and n glyphs of the input before it
pub record NextOutput (b : Buffer) (n : ℕ) (run other : List ℕ) : Type 0 where
  pub held : Held b run other
  pub output : output_phase b.phase ≡ true
  pub in_len : b.idx.0 + n ≤ b.len.0

-- ---- next_glyphs
module _ (capacity n : ℕ) (a : Account ℕ) (h : is_spoiled a ≡ false) where
  next-needs : (size : ℕ) → out_length a + n ≡ size → ltb (length a.rest) n ≡ false → has_output a ≡ true → next_glyphs capacity n a ≡ needing capacity size a (accepted (moved n (sized size a))) (accepted (failing a))
  unfolding next_glyphs refuse◌when◌else◌
  next-needs size e k o = rw (h, k, o, e)

module _ {b : Buffer} {n : ℕ} {run other : List ℕ} (v : NextOutput b n run other) where
  pub next-room : next_glyphs (capacity_of (length run)) n (account_of b run other) ≡ needing (capacity_of (length run)) (b.out_len.0 + n) (account_of b run other) (accepted (moved n (sized (b.out_len.0 + n) (account_of b run other)))) (accepted (failing (account_of b run other)))
  next-room =
      let h : spoiled_phase b.phase ≡ false = output-clean b.phase v.output in
      next-needs _ n _ (spoiled-of b run other ∙ h) (b.out_len.0 + n) (ap (λ (j : ℕ). j + n) (out_of b run other v.held)) (enough-left b run other v.held h n (omega (arith, v.in_len))) (output-of b run other ∙ v.output)

  -- n glyphs can move, once the limits have the size
  pub forwardable : (l : Limits) → Roomy b (b.out_len.0 + n) l run → Forwardable (with_limits_of l b) n run other
  unfolding with_limits_of
  forwardable l q = record { held = held-limits b run other v.held l q.grows q.within; output = v.output; in_len = v.in_len; in_size = q.room }

  pub next-ready : {l : Limits} {g : Buffer} → room_for (capacity_of (length run)) (b.out_len.0 + n) b.limits ≡ fitting → l ≡ grown (b.out_len.0 + n) b.limits → g ≡ with_limits_of l b → Forwardable g n run other
  next-ready h el eg = rw (eg, el) (forwardable _ (roomy-grown b run other v.held _ h))

  pub next-moves : {r : Reply} {l : Limits} {g f : Buffer} {run' other' : List ℕ} → room_for (capacity_of (length run)) (b.out_len.0 + n) b.limits ≡ fitting → l ≡ grown (b.out_len.0 + n) b.limits → g ≡ with_limits_of l b → Moves (moved n) g run other f run' other' → r ≡ reply f (Ok None) → MeetsIn (λ capacity a. next_glyphs capacity n a) b run other r run' other'
  next-moves {r} {l} {g} {f} {run'} {other'} h el eg w er =
      let w' : Moves (moved n) (with_limits_of (grown (b.out_len.0 + n) b.limits) b) run other f run' other' = rw (eg, el) at w in
      move-accepted w' (limits-side (grown (b.out_len.0 + n) b.limits) b)
      (next-room ∙ (room_fits b run other _ _ _ _ h ∙ ap (λ (a : Account ℕ). accepted (moved n a)) (sym (sized_of b run other (b.out_len.0 + n))))) er

-- ---- sync
module _ (capacity : ℕ) (a : Account ℕ) where
  sync-none : has_output a ≡ false → sync capacity a ≡ refused WrongPhase
  unfolding sync refuse◌when◌else◌
  sync-none h = rw h

  module _ (h : has_output a ≡ true) where
    sync-spoils : a.state.limits.successful ≡ false → sync capacity a ≡ answered 0 (spoiling a)
    unfolding sync refuse◌when◌else◌
    sync-spoils k = rw (h, k)

    sync-needs : (n size : ℕ) → length a.rest ≡ n → out_length a + n ≡ size → a.state.limits.successful ≡ true → sync capacity a ≡ needing capacity size a (answered 1 (output_as_run (moved n (sized size a)))) (answered 1 (output_as_run (failing a)))
    unfolding sync refuse◌when◌else◌
    sync-needs n size en es k =
        let go : ℕ → ℕ → Result ℕ = λ m s. needing capacity s a (answered 1 (output_as_run (moved m (sized s a)))) (answered 1 (output_as_run (failing a))) in
        rw h (ap (λ (t : Bool). cond (not t) (answered 0 (spoiling a)) (go (length a.rest) (out_length a + length a.rest))) k ∙ (ap (λ (m : ℕ). go m (out_length a + m)) en ∙ ap (go n) es))

module _ (b : Buffer) (run other : List ℕ) (v : Held b run other) where
  spoiling-of : output_phase b.phase ≡ true → account_of (spoiled_buffer b) run other ≡ spoiling (account_of b run other)
  unfolding account_of state_of gone_of shown restarted_buffer spoiling in_phase with_gone
  spoiling-of o =
      let e : b.len.0 ≡ len (account_of b run other) = sym (len_of b run other v (output-clean b.phase o)) in
      let p : ◌≡◌ {A = List (Glyph ℕ)} (drop b.len.0 []) [] = drop-nil b.len.0 in
      let q : ◌≡◌ {A = List (Glyph ℕ)} (take b.len.0 []) [] = take-nil b.len.0 in
      λ k. record { done = []; passed = p k; rest = q k; state = record { phase = Spoiled; gone = e k; limits = b.limits; level = read_level b.level; wants = b.wants } }

  held-spoiled : Held (spoiled_buffer b) run other
  unfolding restarted_buffer
  held-spoiled = record { idx-in = omega arith; len-in = v.len-in; out-in = omega arith; all_in = v.all_in; most = v.most; same = v.same; whole = v.whole; behind = λ p q. absurd (false≢true p); none = λ p. refl }

  held-swapped : Held (swapped_buffer b) run other
  unfolding swapped_buffer
  held-swapped = record { idx-in = omega arith; len-in = v.out-in; out-in = omega arith; all_in = v.all_in; most = v.most; same = v.same; whole = v.whole; behind = λ p q. absurd (false≢true p); none = λ p. refl }

spoiled-side : (b : Buffer) → (spoiled_buffer b).swapped ≡ b.swapped
unfolding restarted_buffer
spoiled-side b = refl

-- the output becomes the run, in whichever slice it lies
swapped-of : (x : Bool) (f : Buffer) (run other : List ℕ) → f.swapped ≡ x → account_in x (swapped_buffer f) run other ≡ output_as_run (account_of f run other)
unfolding account_in account_of state_of gone_of shown swapped_buffer output_as_run in_phase with_gone
swapped-of x f run other e = by_side f.have_separate_output x f.swapped e
  where
    ran : List (Glyph ℕ) → Account ℕ
    ran l = record { done = []; passed = []; rest = take f.out_len.0 l; state = record { phase = Plain; gone = 0; limits = f.limits; level = read_level f.level; wants = f.wants } }

    by_side : (s y z : Bool) → z ≡ y → cond (exchanged y (cond s (not z) z)) (ran (glyphs other)) (ran (glyphs run)) ≡ ran (cond s (glyphs other) (glyphs run))
    by_side true true true k = refl
    by_side true true false k = absurd (false≢true k)
    by_side true false true k = absurd (false≢true (sym k))
    by_side true false false k = refl
    by_side false true true k = refl
    by_side false true false k = absurd (false≢true k)
    by_side false false true k = absurd (false≢true (sym k))
    by_side false false false k = refl

-- a call whose last act is that: f is the buffer before it
in-swapped : {call : ℕ → Account ℕ → Result ℕ} {b : Buffer} {run other run' other' : List ℕ} {r : Reply} (f : Buffer) → f.swapped ≡ b.swapped
    → words_from f.limits.allocated run' ≡ words_from f.limits.allocated run → words_from f.limits.allocated other' ≡ words_from f.limits.allocated other → Held f run other
    → call (capacity_of (length run)) (account_of b run other) ≡ answered 1 (output_as_run (account_of f run' other')) → r ≡ reply (swapped_buffer f) (Ok (Some 1)) → MeetsIn call b run other r run' other'
unfolding outcome swapped_buffer
in-swapped {call} {b} {run} {other} {run'} {other'} f side br bo v e er = rw er (record {
  is = rw (swapped-of b.swapped f run' other' side) (sym (ap (outcome (account_of b run other)) e));
  stays = λ k. absurd (false≢true k);
  run-beyond = br;
  other-beyond = bo;
  held = held-swapped f run other v;
})

module _ {b : Buffer} {run other : List ℕ} {r : Reply} (v : Held b run other) where
  pub sync-in-none : output_phase b.phase ≡ false → r ≡ reply b (Err WrongPhase) → MeetsIn (λ capacity a. sync capacity a) b run other r run other
  sync-in-none h er = in-refused WrongPhase (sync-none _ _ (output-of b run other ∙ h)) v er

  pub sync-in-spoils : {b' : Buffer} → output_phase b.phase ≡ true → b.limits.successful ≡ false → b' ≡ spoiled_buffer b → r ≡ reply b' (Ok (Some 0)) → MeetsIn (λ capacity a. sync capacity a) b run other r run other
  sync-in-spoils h k eb er =
      in-answered (spoiled_buffer b) (spoiled-side b) refl refl (held-spoiled b run other v) 0
      (sync-spoils _ _ (output-of b run other ∙ h) (ap (λ (l : Limits). l.successful) (limits_of b run other) ∙ k) ∙ ap (answered 0) (sym (spoiling-of b run other v h)))
      (er ∙ ap (λ (x : Buffer). reply x (Ok (Some 0))) eb)

module _ {b : Buffer} {run other : List ℕ} (v : Syncable b run other) where
  abbrev sync-size : ℕ
  sync-size = b.out_len.0 + (b.len.0 - b.idx.0)

  sync-room : sync (capacity_of (length run)) (account_of b run other) ≡ needing (capacity_of (length run)) sync-size (account_of b run other) (answered 1 (output_as_run (moved (b.len.0 - b.idx.0) (sized sync-size (account_of b run other))))) (answered 1 (output_as_run (failing (account_of b run other))))
  sync-room =
      sync-needs _ _ (output-of b run other ∙ v.output) (b.len.0 - b.idx.0) sync-size (rest_of b run other v.held (output-clean b.phase v.output)) (ap (λ (j : ℕ). j + (b.len.0 - b.idx.0)) (out_of b run other v.held))
      (ap (λ (l : Limits). l.successful) (limits_of b run other) ∙ v.successful)

  pub sync-over : {r : Reply} → room_for (capacity_of (length run)) sync-size b.limits ≡ over_capacity → r ≡ reply b (Err OverCapacity) → MeetsIn (λ capacity a. sync capacity a) b run other r run other
  sync-over h er = in-refused OverCapacity (sync-room ∙ room-over b run other _ _ _ _ h) v.held er

  pub sync-gives-up : {r : Reply} {l : Limits} {g f : Buffer} → room_for (capacity_of (length run)) sync-size b.limits ≡ given_up → l ≡ failed b.limits → g ≡ with_limits_of l b → f ≡ swapped_buffer g → r ≡ reply f (Ok (Some 1)) → MeetsIn (λ capacity a. sync capacity a) b run other r run other
  sync-gives-up h el eg ef er =
      in-swapped (with_limits_of (failed b.limits) b) (limits-side (failed b.limits) b) refl refl (held-failed b run other v.held)
      (sync-room ∙ (room-gives-up b run other _ _ _ _ h ∙ ap (λ (a : Account ℕ). answered 1 (output_as_run a)) (sym (failing-of b run other))))
      (er ∙ ap (λ (x : Buffer). reply x (Ok (Some 1))) (ef ∙ ap swapped_buffer (eg ∙ ap (λ (x : Limits). with_limits_of x b) el)))

  sync-next : NextOutput b (b.len.0 - b.idx.0) run other
  sync-next = record { held = v.held; output = v.output; in_len = omega (arith, v.held.idx-in) }

  pub sync-ready : {l : Limits} {g : Buffer} → room_for (capacity_of (length run)) sync-size b.limits ≡ fitting → l ≡ grown sync-size b.limits → g ≡ with_limits_of l b → Forwardable g (b.len.0 - b.idx.0) run other
  sync-ready h el eg = next-ready sync-next h el eg

  pub sync-moves : {r : Reply} {l : Limits} {g f t : Buffer} {run' other' : List ℕ} → room_for (capacity_of (length run)) sync-size b.limits ≡ fitting → l ≡ grown sync-size b.limits → g ≡ with_limits_of l b → Moves (moved (b.len.0 - b.idx.0)) g run other f run' other' → t ≡ swapped_buffer f → r ≡ reply t (Ok (Some 1)) → MeetsIn (λ capacity a. sync capacity a) b run other r run' other'
  sync-moves {r} {l} {g} {f} {t} {run'} {other'} h el eg w et er =
      let w' : Moves (moved (b.len.0 - b.idx.0)) (with_limits_of (grown sync-size b.limits) b) run other f run' other' = rw (eg, el) at w in
      in-swapped f (w'.side ∙ limits-side (grown sync-size b.limits) b) (move-run w') (move-other w') w'.held
      (sync-room ∙ (room_fits b run other _ _ _ _ h ∙ ap (λ (a : Account ℕ). answered 1 (output_as_run a)) (ap (moved (b.len.0 - b.idx.0)) (sym (sized_of b run other sync-size)) ∙ sym w'.is)))
      (er ∙ ap (λ (x : Buffer). reply x (Ok (Some 1))) et)

-- What the calls on the counters and the cursor come to, outcome by outcome: 24, 25, 26, 09, 08.
use Rattle.std.specs.Prelude.{Ok, Some, None}
use mathlib.Core.{Path.◌≡◌, Path.refl, Path.sym, Path.ap, Path.◌∙◌, Bool.Bool, Bool.true, Bool.false, Bool.cond, Bool.◌||◌, Bool.not, Bool.false≢true, List.List}
use Prim.Native.Nat.{ℕ, ◌+◌, ◌-◌, ◌%◌, ◌≤◌, ◌<◌, ◌^◌}
use native.Mathlib.Omega.{arith}
use borrow.Author.Tests.{eqb-true}
use lib.{Dec.eqb, Dec.ltb, ListN.length}
use Rattle.records.specs.{WrongPhase, OutOfRange, Limits, Counters.capacity_of, Counters.limited, Counters.after_enter, Counters.after_leave, Counters.lig_serial, Counters.with_serial, View.glyphs}
use Rattle.records.proofs.View.{length-glyphs, glyphs-same}
use Rattle.lists.specs.{declared.Buffer.Buffer}
use Rattle.lists.specs.Account.{Account, output_phase, spoiled_phase, has_output, is_spoiled, idx, limiting}
use Rattle.lists.specs.Account.{refuse◌when◌else◌, Result, accepted, answered}
use Rattle.lists.specs.Cursor.{enter, leave, allocate_lig_id, dropping, cursor_at, skip_glyph, next_glyphs}
use Rattle.lists.specs.{Contract.account_of, Contract.sound, inner.Held.Test, inner.Held.Tested, inner.Held.Held}
use Rattle.lists.specs.inner.States.{Decision, with_limits_of, at_places}
use Rattle.lists.specs.inner.Moving.{Passable, Carried}
use Rattle.lists.specs.inner.Verdicts.{acts_of, Turned, wrote_buffer, lies_elsewhere, settled, Decided}
use Rattle.lists.proofs.Accounts.{output-of, spoiled-of, limits_of, limited-of, idx-of, len_of}
use Rattle.lists.proofs.SoundLaws.{sound-held, not-overtaken, tests-sound, soundness}
use Rattle.lists.proofs.SizeLaws.{fits-within}
use Rattle.lists.proofs.Simple.{refuse-yes, refuse-no, cursor-of, dropping-of}
use Rattle.lists.proofs.Inner.{held-limits, few-left, enough-left}
use Rattle.lists.proofs.SyncLaws.{NextOutput, next-room, next-ready, next-moves}
use Rattle.lists.proofs.Carrying.{carried_none}
use Rattle.lists.proofs.Moving.{forward-moves}
use Rattle.lists.proofs.Lying.{Lying}
use Rattle.lists.proofs.Decisions.{turned, near-places, near-limits, near-placed, Refuses, Accepts, accepts, Does, Needs, Rooms, decided-refused, decided-accepted, decided-sized, decided-unsound, settles-accepted, settles-refused, settles-unsound}
use Rattle.records.proofs.Tests.{tested}

-- ---- the first test of many calls
pub spoiled-refuses : {b : Buffer} {f : List ℕ} (x : ℕ → Account ℕ → Result ℕ) → spoiled_phase b.phase ≡ true → Refuses (λ capacity a. refuse WrongPhase when is_spoiled a else x capacity a) b f WrongPhase
spoiled-refuses {b} x h = record { law = λ run other l. refuse-yes WrongPhase _ (is_spoiled (account_of b run other)) (spoiled-of b run other ∙ h) }

-- ---- 24, 25, 26: the limits alone
module _ {b : Buffer} {f : List ℕ} where
  pub enter-spoiled : spoiled_phase b.phase ≡ true → Refuses (λ capacity a. enter a) b f WrongPhase
  unfolding enter
  enter-spoiled h = spoiled-refuses _ h

  pub leave-spoiled : spoiled_phase b.phase ≡ true → Refuses (λ capacity a. leave a) b f WrongPhase
  unfolding leave
  leave-spoiled h = spoiled-refuses _ h

  pub lig-spoiled : spoiled_phase b.phase ≡ true → Refuses (λ capacity a. allocate_lig_id a) b f WrongPhase
  unfolding allocate_lig_id
  lig-spoiled h = spoiled-refuses _ h

  module _ (h : spoiled_phase b.phase ≡ false) where
    pub enter-accepts : {l : Limits} {b' : Buffer} → l ≡ after_enter b.len.0 b.limits → b' ≡ with_limits_of l b → Accepts (λ capacity a. enter a) b f b' None
    unfolding enter after_enter limited
    enter-accepts el eb = rw (eb, el) (accepts None (near-limits b _) (λ run other l. (
      refuse-no WrongPhase _ (is_spoiled (account_of b run other)) (spoiled-of b run other ∙ h)
          ∙ ap accepted (ap (λ n. limiting (after_enter n) (account_of b run other)) (len_of b run other l.held h) ∙ sym (limited-of b run other (after_enter b.len.0))),
      held-limits b run other l.held _ (omega arith) l.held.all_in,
    )))

    pub leave-accepts : {l : Limits} {b' : Buffer} → l ≡ after_leave b.limits → b' ≡ with_limits_of l b → Accepts (λ capacity a. leave a) b f b' None
    unfolding leave after_leave limited
    leave-accepts el eb = rw (eb, el) (accepts None (near-limits b _) (λ run other l. (
      refuse-no WrongPhase _ (is_spoiled (account_of b run other)) (spoiled-of b run other ∙ h) ∙ ap accepted (sym (limited-of b run other after_leave)),
      held-limits b run other l.held _ (omega arith) l.held.all_in,
    )))

    pub lig-accepts : {n : ℕ} {l : Limits} {b' : Buffer} → n ≡ lig_serial b.limits.serial → l ≡ with_serial n b.limits → b' ≡ with_limits_of l b → Accepts (λ capacity a. allocate_lig_id a) b f b' (Some (n % 8))
    unfolding allocate_lig_id with_serial
    lig-accepts en el eb = rw (eb, el, en) (accepts (Some _) (near-limits b _) (λ run other l. (
      refuse-no WrongPhase _ (is_spoiled (account_of b run other)) (spoiled-of b run other ∙ h)
          ∙ (ap (λ (l : Limits). answered (lig_serial l.serial % 8) (limiting (with_serial (lig_serial l.serial)) (account_of b run other))) (limits_of b run other)
          ∙ ap (answered (lig_serial b.limits.serial % 8)) (sym (limited-of b run other (with_serial (lig_serial b.limits.serial))))),
      held-limits b run other l.held _ (omega arith) l.held.all_in,
    )))

-- ---- 09, and 08 without output: the cursor goes on
passed-held : {b : Buffer} {run other : List ℕ} (i : ℕ) → b.idx.0 ≤ i → i ≤ b.len.0 → Held b run other → Held (at_places i b.len.0 b.out_len.0 b) run other
unfolding at_places
passed-held {b} i h k v = record { idx-in = k; len-in = v.len-in; out-in = v.out-in; all_in = v.all_in; most = v.most; same = v.same; whole = v.whole; behind = λ o q. let e : b.out_len.0 ≤ b.idx.0 = v.behind o q in omega arith; none = v.none }

-- glyphs that stand behind the output already are carried by nothing
pub stands : (b : Buffer) (n : ℕ) (run other : List ℕ) → lies_elsewhere b ≡ false → Carried b.have_separate_output b.idx.0 b.out_len.0 n run other run other
unfolding lies_elsewhere
stands b n run other h =
    carried_none (within b.have_separate_output (eqb b.idx.0 b.out_len.0) h) (eqb-true _ _ (even b.have_separate_output (eqb b.idx.0 b.out_len.0) h))
  where
    within : (x y : Bool) → x || not y ≡ false → x ≡ false
    within true y k = k
    within false y k = refl

    even : (x y : Bool) → x || not y ≡ false → y ≡ true
    even true y k = absurd (false≢true (sym k))
    even false true k = refl
    even false false k = sym k

module _ {b : Buffer} (p : spoiled_phase b.phase ≡ false) where
  -- one glyph is dropped with output, and passed without
  skip_is : (run other : List ℕ) → Held b run other → 1 ≤ b.len.0 - b.idx.0 → skip_glyph (account_of b run other) ≡ accepted (account_of (at_places (b.idx.0 + 1) b.len.0 b.out_len.0 b) run other)
  unfolding skip_glyph
  skip_is run other v k =
      refuse-no WrongPhase _ (is_spoiled (account_of b run other)) (spoiled-of b run other ∙ p)
      ∙ (refuse-no OutOfRange _ (ltb (length (account_of b run other).rest) 1) (enough-left b run other v p 1 k)
      ∙ ap accepted (by-output (output_phase b.phase) refl))
    where
      by-output : (t : Bool) → output_phase b.phase ≡ t → cond (has_output (account_of b run other)) (dropping 1 (account_of b run other)) (cursor_at (idx (account_of b run other) + 1) (account_of b run other)) ≡ account_of (at_places (b.idx.0 + 1) b.len.0 b.out_len.0 b) run other
      by-output true e = rw (output-of b run other ∙ e) (sym (dropping-of b run other v e 1))
      by-output false e = rw (output-of b run other ∙ e) (ap (λ (i : ℕ). cursor_at (i + 1) (account_of b run other)) (idx-of b run other v p) ∙ sym (cursor-of b run other v e p (b.idx.0 + 1) (omega (arith, v.idx-in))))

  next-passes : (n : ℕ) (run other : List ℕ) → Held b run other → n ≤ b.len.0 - b.idx.0 → output_phase b.phase ≡ false → next_glyphs (capacity_of (length run)) n (account_of b run other) ≡ accepted (account_of (at_places (b.idx.0 + n) b.len.0 b.out_len.0 b) run other)
  unfolding next_glyphs
  next-passes n run other v k o =
      refuse-no WrongPhase _ (is_spoiled (account_of b run other)) (spoiled-of b run other ∙ p)
      ∙ (refuse-no OutOfRange _ (ltb (length (account_of b run other).rest) n) (enough-left b run other v p n k)
      ∙ rw (output-of b run other ∙ o) (ap accepted (ap (λ (i : ℕ). cursor_at (i + n) (account_of b run other)) (idx-of b run other v p) ∙ sym (cursor-of b run other v o p (b.idx.0 + n) (omega (arith, v.idx-in))))))

abbrev NextDecided : Buffer → ℕ → (f s : List ℕ) → Decision → Type 0
NextDecided b n f s v = Decided (λ capacity a. next_glyphs capacity n a) b f s (settled b v) (acts_of v) (Passable b.have_separate_output b.idx.0 b.out_len.0 n f s) (Carried b.have_separate_output b.idx.0 b.out_len.0 n)

module _ {b : Buffer} {f : List ℕ} where
  pub skip-spoiled : spoiled_phase b.phase ≡ true → Refuses (λ capacity a. skip_glyph a) b f WrongPhase
  unfolding skip_glyph
  skip-spoiled h = spoiled-refuses _ h

  next-refuses : (n : ℕ) → spoiled_phase b.phase ≡ true → Refuses (λ capacity a. next_glyphs capacity n a) b f WrongPhase
  unfolding next_glyphs
  next-refuses n h = spoiled-refuses _ h

  -- the number of glyphs is shown by what the act asks for alone
  pub next-spoiled : {n : ℕ} {s : List ℕ} {v : Decision} → sound b f s ≡ true → spoiled_phase b.phase ≡ true → Turned WrongPhase v → NextDecided b n f s v
  next-spoiled {n} h k w = decided-refused h (next-refuses n k) w

  module _ (p : spoiled_phase b.phase ≡ false) where
    pub skip-outside : b.len.0 - b.idx.0 < 1 → Refuses (λ capacity a. skip_glyph a) b f OutOfRange
    unfolding skip_glyph
    skip-outside k = record {
      law = λ run other l.
          refuse-no WrongPhase _ (is_spoiled (account_of b run other)) (spoiled-of b run other ∙ p)
          ∙ refuse-yes OutOfRange _ (ltb (length (account_of b run other).rest) 1) (few-left b run other l.held p 1 k);
    }

    next-refuses-far : {n : ℕ} → b.len.0 - b.idx.0 < n → Refuses (λ capacity a. next_glyphs capacity n a) b f OutOfRange
    unfolding next_glyphs
    next-refuses-far {n} k = record {
      law = λ run other l.
          refuse-no WrongPhase _ (is_spoiled (account_of b run other)) (spoiled-of b run other ∙ p)
          ∙ refuse-yes OutOfRange _ (ltb (length (account_of b run other).rest) n) (few-left b run other l.held p n k);
    }

    pub next-outside : {n : ℕ} {s : List ℕ} {v : Decision} → sound b f s ≡ true → b.len.0 - b.idx.0 < n → Turned OutOfRange v → NextDecided b n f s v
    next-outside h k w = decided-refused h (next-refuses-far k) w

    pub skip-accepts : 1 ≤ b.len.0 - b.idx.0 → Accepts (λ capacity a. skip_glyph a) b f (at_places (b.idx.0 + 1) b.len.0 b.out_len.0 b) None
    skip-accepts k = accepts None (near-places b _ _ _) (λ run other l. (skip_is p run other l.held k, passed-held (b.idx.0 + 1) (omega arith) (omega (arith, l.held.idx-in)) l.held))

    module _ {n : ℕ} (k : n ≤ b.len.0 - b.idx.0) where
      pub next-accepts : output_phase b.phase ≡ false → Accepts (λ capacity a. next_glyphs capacity n a) b f (at_places (b.idx.0 + n) b.len.0 b.out_len.0 b) None
      next-accepts o = accepts None (near-places b _ _ _) (λ run other l. (next-passes p n run other l.held k o, passed-held (b.idx.0 + n) (omega arith) (omega (arith, l.held.idx-in)) l.held))

      -- with output
      next-output : {run other : List ℕ} → output_phase b.phase ≡ true → Lying b f run other → NextOutput b n run other
      next-output o l = record { held = l.held; output = o; in_len = omega (arith, l.held.idx-in) }

      pub next-needs : output_phase b.phase ≡ true → Needs (λ capacity a. next_glyphs capacity n a) b f n
      next-needs o = record { then = _; law = λ run other l. next-room (next-output o l) }

      pub next-does : output_phase b.phase ≡ true → Rooms b f n → Does (λ capacity a. next_glyphs capacity n a) b f (wrote_buffer n n b) (lies_elsewhere b) None (Carried b.have_separate_output b.idx.0 b.out_len.0 n)
      unfolding wrote_buffer with_limits_of
      next-does o room = record {
        near = near-placed b _ _ _ _;
        none = λ k run other l. stands b n run other k;
        law = λ run other run' other' l lr lo act.
            let v = next-output o l in
            next-moves v (room.law run other l) refl refl (forward-moves _ n run other (next-ready v (room.law run other l) refl refl) run' other' act.run_is act.other-is lr lo refl) refl;
      }

-- what the act asks for
pub room-carriable : {b : Buffer} {f s : List ℕ} {n : ℕ} → sound b f s ≡ true → n ≤ b.len.0 - b.idx.0 → Rooms b f n → Passable b.have_separate_output b.idx.0 b.out_len.0 n f s
room-carriable {b} {f} {s} {n} h k room =
    let w = sound-held b f s h in
    let l : length (glyphs f) ≡ capacity_of (length f) = length-glyphs f in
    let fit : b.out_len.0 + n ≤ capacity_of (length f) = fits-within (capacity_of (length f)) (b.out_len.0 + n) b.limits (omega arith) (room.law f s (record { long = refl; held = w })) in
    record { fits = record { same = glyphs-same f s w.same; leaving = omega arith; arriving = omega arith }; behind = not-overtaken w }

-- ---- numbers of the code that stay small
module _ {b : Buffer} {f s : List ℕ} {t : Test} {y : Unit {0}} (w : Tested b f s t) (h : t ≡ Ok y) where
  pub sound-idx : b.idx.0 ≤ b.len.0
  sound-idx = (sound-held b f s (tests-sound w h)).idx-in

  pub sound-len : b.len.0 ≤ 1048576
  sound-len = let v = sound-held b f s (tests-sound w h) in omega arith

  pub idx-small : {n : ℕ} → n ≤ b.len.0 - b.idx.0 → b.idx.0 + n < 2 ^ 64
  idx-small k = let v = sound-held b f s (tests-sound w h) in omega arith

  pub out-small : {n : ℕ} → n ≤ b.len.0 - b.idx.0 → b.out_len.0 + n < 2 ^ 64
  out-small k = let v = sound-held b f s (tests-sound w h) in omega arith

-- for the proofs of functions
pub ruleset cursor_calls = (turned, soundness, tested, settles-unsound, settles-refused, settles-accepted, decided-unsound, decided-accepted, decided-sized, enter-spoiled, enter-accepts, leave-spoiled, leave-accepts, lig-spoiled, lig-accepts, skip-spoiled, skip-outside, skip-accepts, next-spoiled, next-outside, next-accepts, next-needs, next-does, room-carriable, sound-idx, sound-len, idx-small, out-small)

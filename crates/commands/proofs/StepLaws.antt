-- Laws of the step: calls of orders, and refusals 6 and 1.
use Rattle.std.specs.Prelude.{Err}
use mathlib.Core.{Path.◌≡◌, Path.refl, Path.sym, Path.ap, Path.◌∙◌, Bool.Bool, Bool.true, Bool.false, Bool.cond, Bool.not, Bool.false≢true, List.List}
use Prim.Native.Nat.{ℕ, ◌+◌, ◌*◌, ◌<◌, ◌≤◌}
use native.Mathlib.Omega.{arith}
use lib.{Dec.ltb, ListN.length, ListN.drop, ListN.drop_of_length-le, Seq.drop-length}
use borrow.Author.Tests.{ltb-true, ltb-false}
use Rattle.records.specs.{Contradiction, Unreadable as Unread, Counters.capacity_of, Counters.rightly_lent}
use Rattle.lists.specs.{declared.Buffer.Buffer, declared.Reply.Reply}
use Rattle.lists.specs.{Account.Result, Account.refused, Account.outcome, Account.refuse◌when◌else◌, Contract.account, Contract.sound, inner.States.reply, Contract.judged, Contract.Meets}
use Rattle.lists.proofs.{SoundLaws.sound-lent, Calls.judged-sound, Calls.judged-unsound, Calls.outcome-refused, Calls.untouched, Simple.refuse-no}
use Rattle.commands.specs.Calls.{Worded, perform, step}
use Rattle.commands.specs.Calls.{Read, unreadable, got}
use Rattle.commands.specs.Reading.{worded_of, reading_of, Reads}
use Rattle.commands.specs.{Calls.front, Calls.behind, Runs.called, Runs.stepped, Runs.Steps}
use Rattle.std.specs.Prelude.{Option, Some, None}
use Rattle.commands.specs.declared.Order.{Order}

-- ---- the step
is_read : Read (Worded ℕ) → Bool
is_read unreadable = false
is_read (got w l) = true

module _ {t : List ℕ} {at : ℕ} where
  -- a command stands within the string
  pub command-in : {o : Order} → Reads t at (Some o) → at < length t
  unfolding front reading_of is_read
  command-in w = tested (ltb at (length t)) refl
    where
      tested : (x : Bool) → ltb at (length t) ≡ x → at < length t
      tested true e = ltb-true _ _ e
      tested false e = absurd (false≢true (ap is_read (sym (ap front (drop_of_length-le t (ltb-false _ _ e))) ∙ w.is)))

  pub command_known : {o : Order} (r : Option Order) → r ≡ Some o → Reads t at r → (o.byte < 39) × (o.byte ≡ 14 → o.numbers + 4 * o.b ≤ length t)
  command_known {o} r e w =
      let here : Reads t at (Some o) = rw e at w in
      let places = here.places (command-in here) in
      (rw places.byte-is places.known, λ h. rw (← places.listed-end (sym places.byte-is ∙ h)) places.inside)

-- what a call comes to is the account's own step
pub judged-called : (w : Worded ℕ) (b : Buffer) (f s : List ℕ) → judged (λ capacity a. perform 0 capacity w.call w.glyphs a) b f s ≡ called (sound b f s) (length f) (length s) w (account b f s)
unfolding called step
judged-called w b f s = by (sound b f s) refl
  where
    act : Result ℕ
    act = perform 0 (capacity_of (length f)) w.call w.glyphs (account b f s)

    by : (x : Bool) → sound b f s ≡ x
        → judged (λ capacity a. perform 0 capacity w.call w.glyphs a) b f s
        ≡ cond x (outcome (account b f s) (refuse Contradiction when not (rightly_lent (length f) (length s)) else act)) (outcome (account b f s) (refused Contradiction))
    by false e = judged-unsound _ b f s e
    by true e = judged-sound _ b f s e ∙ ap (outcome (account b f s)) (sym (refuse-no Contradiction act (not (rightly_lent (length f) (length s))) (rw (sound-lent b f s e))))

module _ {t : List ℕ} {at : ℕ} {b : Buffer} {f s : List ℕ} {r : Reply} where
  pub step-obeyed : {f' s' : List ℕ} (o : Order) (reading : Option Order) → reading ≡ Some o → Reads t at reading
      → Meets (λ capacity a. perform 0 capacity (worded_of t o).call (worded_of t o).glyphs a) b f s r f' s'
      → Steps t at b f s (record { reply = r; next = o.next }) f' s'
  unfolding reading_of behind stepped
  step-obeyed o reading e v m =
      let w : Reads t at (Some o) = rw e at v in
      let here : front (drop at t) ≡ got (worded_of t o) (drop o.next t) = w.is in
      let places = w.places (command-in w) in
      record {
        is = m.is ∙ (judged-called (worded_of t o) b f s ∙ sym (ap (λ (x : Read (Worded ℕ)). stepped x b f s) here));
        alone = m.alone;
        next-is = sym (ap behind here);
        next-in = places.inside;
        onward = λ h. omega (arith, places.onward);
      }

  -- refusal 6, which ends the string
  pub step-unread : (reading : Option Order) → reading ≡ None → Reads t at reading → r ≡ reply b (Err Unread) → Steps t at b f s (record { reply = r; next = length t }) f s
  unfolding reading_of behind stepped
  step-unread reading e' v e =
      let w : Reads t at None = rw e' at v in
      let here : front (drop at t) ≡ unreadable = w.is in
      rw e (record {
        is = sym (ap (λ (x : Read (Worded ℕ)). stepped x b f s) here ∙ outcome-refused (account b f s) Unread);
        alone = untouched _ _ b f s;
        next-is = drop-length t ∙ sym (ap behind here);
        next-in = omega arith;
        onward = λ h. h;
      })

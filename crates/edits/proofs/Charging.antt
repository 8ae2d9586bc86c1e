-- Calls whose act says what is left of the limits: their verdicts, and how such acts stand on the account of a buffer.
use Rattle.lists.specs.inner.Verdicts.{limiting_verdict}
use Rattle.lists.specs.inner.Verdicts.{amended}
use Rattle.lists.proofs.Lying.{Lying}
use Rattle.lists.proofs.Decisions.{turned, acts-refused}
use Rattle.lists.specs.inner.States.{Decision}
use Rattle.lists.specs.inner.Verdicts.{acts_of, Turned}
use Rattle.std.specs.Prelude.{Ok, Err, None, Option}
use mathlib.Core.{Path.◌≡◌, Path.refl, Path.sym, Path.ap, Path.ap₂, Path.◌∙◌, Path.subst, Bool.Bool, Bool.true, Bool.false, Bool.cond, Bool.false≢true, List.List}
use Rattle.std.proofs.Common.{ℕ, ◌<◌, ◌≤◌, le-ltb, lt-ltb}
use lib.{Dec.ltb, ListN.length}
use Rattle.records.specs.{Refusal, Contradiction, WrongPhase, BadOperand, Limits}
use Rattle.lists.proofs.Changed.{other-limits, limits-is}
use Rattle.lists.specs.{declared.Buffer.Buffer, declared.Reply.Reply, declared.Verdict.Verdict}
use Rattle.lists.specs.{Account.Account, Contract.Meets, Account.Result, Account.refused, Contract.sound, inner.States.reply, inner.States.with_limits_of, inner.Verdicts.leaving, inner.Verdicts.Leaves, inner.Verdicts.settled, inner.Verdicts.Sided}
use Rattle.lists.proofs.Sides.{MeetsIn}
use Rattle.lists.proofs.Decisions.{Refuses, near-limits, settled_is, acts-is, leaves-is, settles-unsound, settles-refused, meets-sided}
use Rattle.lists.proofs.SoundLaws.{soundness}
use Rattle.edits.specs.{inner.Acts.Acts, WholeRun.not_whole, inner.Wholes.WholeInput, inner.Wholes.whole_verdict, inner.Wholes.TakesWhole, inner.Wholes.RunRoom, inner.Wholes.RunOf, inner.Charges.DecidedBy, inner.Charges.running, inner.Charges.Charges, inner.Charges.keyed_verdict, inner.Charges.TakesKeyed}
use Rattle.lists.proofs.Tries.{Exits}
use Rattle.edits.proofs.WholeInputs.{whole_test, not-not-whole, whole-lengths}
use Rattle.edits.proofs.WholeCalls.{OnWhole, whole-refuses, lying-whole, sound-whole, whole_room, whole_run}

-- ---- an act on the buffer that it is made for
module _ (b : Buffer) where
  abbrev at : (i o : ℕ) → Buffer
  at i o = record { idx = record { 0 = i }; len = b.len; out_len = record { 0 = o }; limits = b.limits; wants = b.wants; phase = b.phase; swapped = b.swapped; have_separate_output = b.have_separate_output; level = b.level }

  pub running-is : {run other : List ℕ} → WholeInput b run other → running b.level b.wants b.len.0 b.limits b ≡ b
  running-is w = ap₂ at (sym w.start) (sym (w.held.none w.plain))

-- it is one under any limits
pub limits-running : (level wants n : ℕ) (l l' : Limits) (b : Buffer) → with_limits_of l' (running level wants n l b) ≡ running level wants n l' b
limits-running level wants n l l' b = limits-is l' (running level wants n l b)

pub charges-acts : {Asked : Buffer → (run other : List ℕ) → Type 0} {h : Account ℕ → Account ℕ} {b : Buffer} {l : Limits} {run other run' other' : List ℕ} → WholeInput b run other → Asked b run other
    → Charges Asked h b.level b.wants b.len.0 b.limits l run other run' other' → Acts h b run other (with_limits_of l b) run' other'
charges-acts {Asked} {h} {b} {l} {run} {other} {run'} {other'} w a u =
    subst (λ (x : Buffer). Acts h x run other (with_limits_of l x) run' other') (running-is b w)
    (rw (limits-running b.level b.wants b.len.0 b.limits l b) (u.acts b (subst (λ (x : Buffer). Asked x run other) (sym (running-is b w)) a)))

-- after a step that leaves the run where it is
pub whole-after : {level wants n : ℕ} {l l' : Limits} (b : Buffer) {h : Account ℕ → Account ℕ} {run other run' other' : List ℕ} → WholeInput (running level wants n l b) run other → Acts h (running level wants n l b) run other (running level wants n l' b) run' other'
    → length run' ≡ length run → length other' ≡ length other → WholeInput (running level wants n l' b) run' other'
whole-after b w u lr lo = whole-lengths lr lo (record { held = u.held; plain = w.plain; clean = w.clean; start = refl })

pub settles-left : (b : Buffer) (l : Limits) → settled b (amended (limiting_verdict l) (leaving b true None)) ≡ reply (with_limits_of l b) (Ok None)
settles-left b l = settled_is {acts = true} (near-limits b l) (record { is = simp other-limits })

-- ---- no act
module _ {R : Type 0} {amend : R → Verdict → Verdict} {call : ℕ → Account ℕ → Result ℕ} {b : Buffer} {f s : List ℕ} {v : Decision} {Ask : Type 0} {Act : R → (run other run' other' : List ℕ) → Type 0} where
  pub by-none : {b' : Buffer} {a : Option ℕ} → Leaves b' false a v → Meets call b f s (settled b v) f s → DecidedBy R amend call b f s v Ask Act
  by-none w m = record { still = λ k. m; asked = λ k. absurd (false≢true (sym (acts-is w) ∙ k)); acted = λ k. absurd (false≢true (sym (acts-is w) ∙ k)) }

  pub by-turned : {why : Refusal} → Turned why v → Meets call b f s (settled b v) f s → DecidedBy R amend call b f s v Ask Act
  by-turned w m = record { still = λ k. m; asked = λ k. absurd (false≢true (sym (acts-refused w) ∙ k)); acted = λ k. absurd (false≢true (sym (acts-refused w) ∙ k)) }

  pub by-unsound : sound b f s ≡ false → Turned Contradiction v → DecidedBy R amend call b f s v Ask Act
  by-unsound h w = by-turned w (settles-unsound h w)

  module _ (h : sound b f s ≡ true) where
    pub by-refused : {why : Refusal} → Refuses call b f why → Turned why v → DecidedBy R amend call b f s v Ask Act
    by-refused r w = by-turned w (settles-refused h r w)

    pub by-does : (b' : Buffer) {a : Option ℕ} → v ≡ leaving b' true a → (true ≡ true → Ask)
        → ((x : R) (run other run' other' : List ℕ) → Lying b f run other → length run' ≡ length run → length other' ≡ length other → Act x run other run' other' → MeetsIn call b run other (settled b (amended (amend x) (leaving b' true a))) run' other') → DecidedBy R amend call b f s v Ask Act
    by-does b' {a} e ask law = record {
      still = λ t. absurd (false≢true (sym t ∙ ap acts_of e));
      asked = λ t. ask refl;
      acted = λ t x lf ls act. rw e (meets-sided h lf ls act (law x));
    }

-- ---- the end of the calls
module _ {R : Type 0} {amend : R → Verdict → Verdict} {call : ℕ → Account ℕ → Result ℕ} {b : Buffer} {f s f'' s'' : List ℕ} {v w : Decision} {r : Reply} {Ask : Type 0} {Act : R → (run other run' other' : List ℕ) → Type 0} (d : DecidedBy R amend call b f s v Ask Act) (er : r ≡ settled b w) {t : Bool} (et : t ≡ acts_of v) where
  pub by-acted : {x : R} {f' s' : List ℕ} → Sided b.swapped (Act x) f s f' s' → w ≡ amended (amend x) v → t ≡ true → f'' ≡ f' → s'' ≡ s' → length f' ≡ length f → length s' ≡ length s → Meets call b f s r f'' s''
  by-acted {x} act ew k ef es lf ls = rw (er, ew, ef, es) (d.acted (sym et ∙ k) x lf ls act)

  pub by-still : w ≡ v → t ≡ false → f'' ≡ f → s'' ≡ s → Meets call b f s r f'' s''
  by-still ew k ef es = rw (er, ew, ef, es) (d.still (sym et ∙ k))

-- a verdict that serves any operands: which ones, the call says
pub serving-by : {R : Type 0} {amend : R → Verdict → Verdict} {call : ℕ → Account ℕ → Result ℕ} {b : Buffer} {f s f' s' : List ℕ} {v : Decision} {r : Reply} {Ask : Type 0} {Act : R → (run other run' other' : List ℕ) → Type 0}
    → DecidedBy R amend call b f s v Ask Act → (DecidedBy R amend call b f s v Ask Act → Meets call b f s r f' s') → Meets call b f s r f' s'
serving-by d k = k d

-- ---- 1E, 21, 22: the verdict that they share
OkOf : Decision → Type 0
OkOf d = elim d [ Ok x ↦ Unit {0} | Err why ↦ ⊥ ]

ErrOf : Decision → Type 0
ErrOf d = elim d [ Ok x ↦ ⊥ | Err why ↦ Unit {0} ]

keyed-turned : (b : Buffer) {v : Decision} (x y z : Bool) → v ≡ cond x (cond y (Err WrongPhase) (leaving b true None)) (Err Contradiction) → {why : Refusal} → v ≡ Err why → v ≡ cond x (cond y (Err WrongPhase) (cond z (Err BadOperand) (leaving b true None))) (Err Contradiction)
unfolding ErrOf
keyed-turned b false y z e h = e
keyed-turned b true true z e h = e
keyed-turned b true false z e h = absurd (subst ErrOf (sym h ∙ e) tt)

module _ {slot : ℕ} {b : Buffer} {f s : List ℕ} {v : Decision} where
  pub keyed-out : {d : Decision} → TakesWhole b f s d → Exits d v → TakesKeyed slot b f s v
  unfolding whole_verdict keyed_verdict
  keyed-out w x = record { is = keyed-turned b (sound b f s) (whole_test b) (ltb 1 slot) ((x.is ∙ sym x.was) ∙ w.is) x.is }

module _ {b : Buffer} {f s : List ℕ} {d : Decision} (w : TakesWhole b f s d) {x : Verdict} (e : d ≡ Ok x) where
  went-on : (sound b f s ≡ true) × (whole_test b ≡ false) × (d ≡ leaving b true None)
  unfolding whole_verdict OkOf
  went-on = by (sound b f s) (whole_test b) refl refl w.is
    where
      by : (p q : Bool) → sound b f s ≡ p → whole_test b ≡ q → d ≡ cond p (cond q (Err WrongPhase) (leaving b true None)) (Err Contradiction) → (sound b f s ≡ true) × (whole_test b ≡ false) × (d ≡ leaving b true None)
      by false q h k i = absurd (subst OkOf (sym e ∙ i) tt)
      by true true h k i = absurd (subst OkOf (sym e ∙ i) tt)
      by true false h k i = (h, k, i)

  pub keyed-bad : {slot : ℕ} {v : Decision} → 1 < slot → Turned BadOperand v → TakesKeyed slot b f s v
  unfolding keyed_verdict
  keyed-bad {slot} o t = let g = went-on in record { is = rw (g.0, g.1, lt-ltb 1 slot o) t.is }

  pub keyed-ahead : {slot : ℕ} → slot ≤ 1 → TakesKeyed slot b f s (Ok x)
  unfolding keyed_verdict
  keyed-ahead {slot} o = let g = went-on in record { is = rw (g.0, g.1, le-ltb 1 slot o) (sym e ∙ g.2) }

-- what each of them does where it goes ahead
pub record OnKeyed (R : Type 0) (amend : R → Verdict → Verdict) (call : ℕ → Account ℕ → Result ℕ) (slot : ℕ) (b : Buffer) (Act : R → (run other run' other' : List ℕ) → Type 0) : Type 0 where
  pub whole : OnWhole call
  pub refuses : (capacity : ℕ) (a : Account ℕ) → not_whole a ≡ false → ltb 1 slot ≡ true → call capacity a ≡ refused BadOperand
  pub done : (x : R) (run other run' other' : List ℕ) → WholeInput b run other → ltb 1 slot ≡ false → length run' ≡ length run → length other' ≡ length other → Act x run other run' other' → MeetsIn call b run other (settled b (amended (amend x) (leaving b true None))) run' other'

pub keyed-decided : {R : Type 0} {amend : R → Verdict → Verdict} {call : ℕ → Account ℕ → Result ℕ} {slot : ℕ} {b : Buffer} {f s : List ℕ} {v : Decision} {Act : R → (run other run' other' : List ℕ) → Type 0}
    → OnKeyed R amend call slot b Act → TakesKeyed slot b f s v → DecidedBy R amend call b f s v (RunRoom b.len.0 f s) Act
unfolding keyed_verdict
keyed-decided {R} {amend} {call} {slot} {b} {f} {s} {v} {Act} r w = by (sound b f s) (whole_test b) (ltb 1 slot) refl refl refl w.is
  where
    by : (x y z : Bool) → sound b f s ≡ x → whole_test b ≡ y → ltb 1 slot ≡ z → v ≡ cond x (cond y (Err WrongPhase) (cond z (Err BadOperand) (leaving b true None))) (Err Contradiction)
        → DecidedBy R amend call b f s v (RunRoom b.len.0 f s) Act
    by false y z h k o e = by-unsound h (record { is = e })
    by true true z h k o e = by-refused h (whole-refuses r.whole refl k) (record { is = e })
    by true false true h k o e = by-refused h (record { law = λ run other l. r.refuses _ _ (not-not-whole (lying-whole refl k l)) o }) (record { is = e })
    by true false false h k o e = by-does h b e (λ t. whole_room (sound-whole h refl k)) (λ x run other run' other' l lr lo d. r.done x run other run' other' (lying-whole refl k l) o lr lo d)

module _ {slot : ℕ} {b : Buffer} {f s : List ℕ} {v : Decision} (w : TakesKeyed slot b f s v) {t' : Bool} (et : t' ≡ acts_of v) (t : t' ≡ true) where
  keyed-whole : WholeInput b f s
  unfolding keyed_verdict
  keyed-whole = by (sound b f s) (whole_test b) (ltb 1 slot) refl refl (et ∙ ap acts_of w.is)
    where
      by : (x y z : Bool) → sound b f s ≡ x → whole_test b ≡ y → t' ≡ acts_of (cond x (cond y (Err WrongPhase) (cond z (Err BadOperand) (leaving b true None))) (Err Contradiction)) → WholeInput b f s
      by false y z h k e = absurd (false≢true (sym e ∙ t))
      by true true z h k e = absurd (false≢true (sym e ∙ t))
      by true false true h k e = absurd (false≢true (sym e ∙ t))
      by true false false h k e = sound-whole h refl k

  pub keyed-room : RunRoom b.len.0 f s
  keyed-room = whole_room keyed-whole

  pub keyed-run : RunOf b.phase b.len.0 f s
  keyed-run = whole_run keyed-whole

-- for the proofs of functions
pub ruleset charging = (turned, soundness, keyed-out, keyed-bad, keyed-ahead, keyed-room, keyed-run)

pub ruleset ending-by = (by-acted, by-still)

-- Verdicts of the calls on the whole run.
use Rattle.lists.proofs.Lying.{Lying}
use Rattle.lists.proofs.Decisions.{turned}
use Rattle.lists.specs.inner.States.{Decision}
use Rattle.lists.specs.inner.Verdicts.{acts_of, Turned}
use Rattle.std.specs.Prelude.{Ok, Err, None}
use mathlib.Core.{Path.◌≡◌, Path.refl, Path.sym, Path.ap, Path.◌∙◌, Bool.Bool, Bool.true, Bool.false, Bool.cond, Bool.false≢true, List.List}
use Rattle.std.proofs.Common.{ℕ, ◌<◌, ◌≤◌, length, arith}
use Rattle.records.specs.{Phase, Contradiction, WrongPhase, Glyphs.Glyph, View.glyphs, View.positions_in}
use Rattle.records.proofs.View.{glyphs-same, positions-glyphs}
use Rattle.lists.specs.{declared.Buffer.Buffer, declared.Reply.Reply}
use Rattle.lists.specs.{Account.Account, Contract.Meets, Account.Result, Account.refused, Contract.sound, inner.States.reply, inner.Verdicts.leaving, inner.Verdicts.Leaves, inner.Verdicts.settled, inner.Verdicts.Decided}
use Rattle.lists.proofs.Sides.{MeetsIn}
use Rattle.lists.proofs.SoundLaws.{sound-held, soundness}
use Rattle.lists.proofs.Decisions.{Refuses, leaves-is, near_same, decided-unsound, decided-refused, decided-does}
use Rattle.edits.specs.{WholeRun.not_whole, inner.Wholes.WholeInput, inner.Wholes.RunRoom, inner.Wholes.RunOf, inner.Wholes.whole_verdict, inner.Wholes.TakesWhole, inner.Wholes.RunBecomes}
use Rattle.edits.proofs.WholeInputs.{whole_test, whole-test, whole-input}

-- ---- a call that is refused unless *rest* is the run
pub record OnWhole (call : ℕ → Account ℕ → Result ℕ) : Type 0 where
  pub refuses : (capacity : ℕ) (a : Account ℕ) → not_whole a ≡ true → call capacity a ≡ refused WrongPhase

pub whole-refuses : {call : ℕ → Account ℕ → Result ℕ} {b : Buffer} {f : List ℕ} {t : Bool} → OnWhole call → t ≡ whole_test b → t ≡ true → Refuses call b f WrongPhase
whole-refuses w e h = record { law = λ run other l. w.refuses _ _ (whole-test l.held ∙ (sym e ∙ h)) }

-- ---- the test went the other way
pub lying-whole : {b : Buffer} {f run other : List ℕ} {t : Bool} → t ≡ whole_test b → t ≡ false → Lying b f run other → WholeInput b run other
lying-whole e h l = whole-input l.held e h

pub sound-whole : {b : Buffer} {f s : List ℕ} {t : Bool} → sound b f s ≡ true → t ≡ whole_test b → t ≡ false → WholeInput b f s
sound-whole {b} {f} {s} h e k = whole-input (sound-held b f s h) e k

-- ---- the end of an exported call whose verdict serves any operands: which ones, the call says
pub serving : {call : ℕ → Account ℕ → Result ℕ} {b : Buffer} {f s f' s' : List ℕ} {r₀ r : Reply} {acts : Bool} {Ask : Type 0} {Act : (run other run' other' : List ℕ) → Type 0}
    → Decided call b f s r₀ acts Ask Act → (Decided call b f s r₀ acts Ask Act → Meets call b f s r f' s') → Meets call b f s r f' s'
serving d k = k d

-- ---- a run, whichever slice holds it
module _ {n : ℕ} {run other : List ℕ} (w : RunRoom n run other) where
  pub room-turned : RunRoom n other run
  room-turned = let same : length (glyphs run) ≡ length (glyphs other) = glyphs-same run other w.same in record { fits = omega (arith, w.fits); same = sym w.same; few = w.few }

  pub room-shorter : {m : ℕ} → m ≤ n → RunRoom m run other
  room-shorter h = record { fits = omega (arith, w.fits); same = w.same; few = omega (arith, w.few) }

-- lengths are all that it goes by
pub room-lengths : {n : ℕ} {run other run' other' : List ℕ} → RunRoom n run other → length run' ≡ length run → length other' ≡ length other → RunRoom n run' other'
room-lengths {n} {run} {other} {run'} {other'} w lr lo = record { fits = rw (glyphs-same run' run lr) w.fits; same = lr ∙ (w.same ∙ sym lo); few = w.few }

module _ {phase : Phase} {n : ℕ} {run other : List ℕ} (w : RunOf phase n run other) where
  pub run-turned : RunOf phase n other run
  run-turned = record { clean = w.clean; room = room-turned w.room }

  pub run-second : n ≤ length (glyphs other)
  run-second = (room-turned w.room).fits

  pub run-shorter : {m : ℕ} → m ≤ n → RunOf phase m run other
  run-shorter h = record { clean = w.clean; room = room-shorter w.room h }

  pub places-fit : n ≤ length (positions_in other)
  places-fit = omega (arith, run-second, positions-glyphs other)

pub run-lengths : {phase : Phase} {n : ℕ} {run other run' other' : List ℕ} → RunOf phase n run other → length run' ≡ length run → length other' ≡ length other → RunOf phase n run' other'
run-lengths w lr lo = record { clean = w.clean; room = room-lengths w.room lr lo }

pub below : {m n : ℕ} → m < n → m ≤ n
below h = omega arith

pub run-becomes : {h : List (Glyph ℕ) → List (Glyph ℕ)} {run other run' : List ℕ} → glyphs run' ≡ h (glyphs run) → RunBecomes h run other run' other
run-becomes e = record { run_is = e; other-is = refl }

module _ {b : Buffer} {run other : List ℕ} (w : WholeInput b run other) where
  pub whole_room : RunRoom b.len.0 run other
  whole_room = record { fits = omega (arith, w.held.len-in, w.held.all_in); same = w.held.same; few = omega (arith, w.held.len-in, w.held.all_in, w.held.most) }

  pub whole_run : RunOf b.phase b.len.0 run other
  whole_run = record { clean = w.clean; room = whole_room }

-- ---- 1B, 1D, 1F, 23: the verdict that they share
module _ {b : Buffer} {f s : List ℕ} {v : Decision} where
  pub takes-unsound : sound b f s ≡ false → Turned Contradiction v → TakesWhole b f s v
  unfolding whole_verdict
  takes-unsound h w = record { is = rw h w.is }

  module _ {t : Bool} (h : sound b f s ≡ true) (et : t ≡ whole_test b) where
    pub takes-not : t ≡ true → Turned WrongPhase v → TakesWhole b f s v
    unfolding whole_verdict
    takes-not k w = record { is = rw (h, sym et ∙ k) w.is }

    pub takes-ahead : t ≡ false → Leaves b true None v → TakesWhole b f s v
    unfolding whole_verdict
    takes-ahead k w = record { is = rw (h, sym et ∙ k) w.is }

-- what each of them does where it goes ahead
pub record OnRun (call : ℕ → Account ℕ → Result ℕ) (b : Buffer) (Act : (run other run' other' : List ℕ) → Type 0) : Type 0 where
  pub whole : OnWhole call
  pub done : (run other run' other' : List ℕ) → WholeInput b run other → length run' ≡ length run → length other' ≡ length other → Act run other run' other' → MeetsIn call b run other (reply b (Ok None)) run' other'

pub takes-decided : {call : ℕ → Account ℕ → Result ℕ} {b : Buffer} {f s : List ℕ} {v : Decision} {Act : (run other run' other' : List ℕ) → Type 0} → OnRun call b Act → TakesWhole b f s v → Decided call b f s (settled b v) (acts_of v) (RunOf b.phase b.len.0 f s) Act
unfolding whole_verdict
takes-decided {call} {b} {f} {s} {v} {Act} r w = by (sound b f s) (whole_test b) refl refl w.is
  where
    by : (x y : Bool) → sound b f s ≡ x → whole_test b ≡ y → v ≡ cond x (cond y (Err WrongPhase) (leaving b true None)) (Err Contradiction) → Decided call b f s (settled b v) (acts_of v) (RunOf b.phase b.len.0 f s) Act
    by false y h k e = decided-unsound h (record { is = e })
    by true true h k e = decided-refused h (whole-refuses r.whole refl k) (record { is = e })
    by true false h k e = decided-does h (record {
      near = near_same b;
      none = λ c. absurd (false≢true (sym c));
      law = λ run other run' other' l lr lo act. r.done run other run' other' (lying-whole refl k l) lr lo act;
    }) (λ c. whole_run (sound-whole h refl k)) (leaves-is b e)

module _ {b : Buffer} {f s : List ℕ} {v : Decision} {t' : Bool} (w : TakesWhole b f s v) (et : t' ≡ acts_of v) (t : t' ≡ true) where
  pub takes_run : RunOf b.phase b.len.0 f s
  unfolding whole_verdict
  takes_run = by (sound b f s) (whole_test b) refl refl (et ∙ ap acts_of w.is)
    where
      by : (x y : Bool) → sound b f s ≡ x → whole_test b ≡ y → t' ≡ acts_of (cond x (cond y (Err WrongPhase) (leaving b true None)) (Err Contradiction)) → RunOf b.phase b.len.0 f s
      by false y h k e = absurd (false≢true (sym e ∙ t))
      by true true h k e = absurd (false≢true (sym e ∙ t))
      by true false h k e = whole_run (sound-whole h refl k)

  pub takes_first : b.len.0 ≤ length (glyphs f)
  takes_first = takes_run.room.fits

  pub takes-second : b.len.0 ≤ length (glyphs s)
  takes-second = run-second takes_run

  pub takes-few : b.len.0 ≤ 1048576
  takes-few = takes_run.room.few

-- for the proofs of functions
pub ruleset whole_calls = (turned, soundness, takes-unsound, takes-not, takes-ahead, takes_run, takes_first, takes-second, takes-few)

pub ruleset run_laws = (room-turned, run-turned, places-fit, run-lengths, below, run-becomes)

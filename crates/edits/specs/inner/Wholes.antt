-- What the calls on the whole run come to by its test alone, and what the functions below them ask for.
use Rattle.lists.specs.inner.States.{Decision}
use Rattle.std.specs.Prelude.{Err, None}
use mathlib.Core.{Path.◌≡◌, Bool.true, Bool.false, Bool.cond, Bool.◌||◌, List.List}
use Rattle.std.specs.Prelude.{ℕ, ◌≤◌}
use lib.{Dec.ltb, ListN.length}
use Rattle.records.specs.{Phase, Contradiction, WrongPhase, Glyphs.Glyph, View.glyphs}
use Rattle.lists.specs.{declared.Buffer.Buffer}
use Rattle.lists.specs.{Account.output_phase, Account.spoiled_phase, Contract.sound, inner.Held.Held, inner.Verdicts.leaving}

-- no output, and the cursor at the start: *rest* is the run
pub record WholeInput (b : Buffer) (run other : List ℕ) : Type 0 where
  pub held : Held b run other
  pub plain : output_phase b.phase ≡ false
  pub clean : spoiled_phase b.phase ≡ false
  pub start : b.idx.0 ≡ 0

-- slices that hold n glyphs of a run, and as many positions
pub record RunRoom (n : ℕ) (run other : List ℕ) : Type 0 where
  pub fits : n ≤ length (glyphs run)
  pub same : length run ≡ length other
  pub few : n ≤ 1048576

-- the same in a phase that has lists
pub record RunOf (phase : Phase) (n : ℕ) (run other : List ℕ) : Type 0 where
  pub clean : spoiled_phase phase ≡ false
  pub room : RunRoom n run other

-- 1B, 1D, 1F, 23: whether the call goes ahead
unfoldable pub whole_verdict : Buffer → (first second : List ℕ) → Decision
whole_verdict b f s =
    cond (sound b f s)
    (cond (output_phase b.phase || (spoiled_phase b.phase || ltb 0 b.idx.0)) (Err WrongPhase) (leaving b true None))
    (Err Contradiction)

pub record TakesWhole (b : Buffer) (f s : List ℕ) (d : Decision) : Type 0 where
  pub is : d ≡ whole_verdict b f s

-- h on the glyphs of the run's slice; the other stays
pub record RunBecomes (h : List (Glyph ℕ) → List (Glyph ℕ)) (run other run' other' : List ℕ) : Type 0 where
  pub run_is : glyphs run' ≡ h (glyphs run)
  pub other-is : other' ≡ other

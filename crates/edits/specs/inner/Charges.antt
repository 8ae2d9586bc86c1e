-- Calls on the whole run whose act says what is left of the limits: what is promised of their verdicts and of their acts.
use Rattle.lists.specs.inner.States.{Decision}
use Rattle.lists.specs.inner.Verdicts.{acts_of, amended}
use Rattle.std.specs.Prelude.{Err, None}
use mathlib.Core.{Path.◌≡◌, Bool.Bool, Bool.true, Bool.false, Bool.cond, Bool.◌||◌, List.List}
use Rattle.std.specs.Prelude.{ℕ, ◌-◌}
use lib.{Dec.ltb, ListN.length}
use Rattle.records.specs.{Contradiction, WrongPhase, BadOperand, Limits, Ranges.infos}
use Rattle.lists.specs.{declared.Buffer.Buffer, declared.Verdict.Verdict}
use Rattle.lists.specs.{Account.Account, Account.output_phase, Account.spoiled_phase, Account.Result, Contract.sound, Contract.Meets, inner.Verdicts.leaving, inner.Verdicts.settled, inner.Verdicts.Sided}
use Rattle.edits.specs.{inner.Acts.Acts, Groups.group_sizes, Groups.continues, Groups.merged_each, Merging.merge, inner.MergeActs.merge_limits, inner.Wholes.WholeInput}

-- what is promised of a verdict that what the act returns, x, amends
pub record DecidedBy (R : Type 0) (amend : R → Verdict → Verdict) (call : ℕ → Account ℕ → Result ℕ) (b : Buffer) (f s : List ℕ) (d : Decision) (Ask : Type 0) (Act : R → (run other run' other' : List ℕ) → Type 0) : Type 0 where
  pub still : acts_of d ≡ false → Meets call b f s (settled b d) f s
  pub asked : acts_of d ≡ true → Ask
  pub acted : acts_of d ≡ true → (x : R) {f' s' : List ℕ} → length f' ≡ length f → length s' ≡ length s → Sided b.swapped (Act x) f s f' s' → Meets call b f s (settled b (amended (amend x) d)) f' s'

-- a buffer with this level and wants whose whole run has n glyphs, its limits l
abbrev pub running : (level wants n : ℕ) → Limits → Buffer → Buffer
running level wants n l b = record { idx = record { 0 = 0 }; len = record { 0 = n }; out_len = record { 0 = 0 }; limits = l; wants = wants; phase = b.phase; swapped = b.swapped; have_separate_output = b.have_separate_output; level = level }

-- h on the account of every such buffer that is as the call asks, and l becomes l'
pub record Charges (Asked : Buffer → (run other : List ℕ) → Type 0) (h : Account ℕ → Account ℕ) (level wants n : ℕ) (l l' : Limits) (run other run' other' : List ℕ) : Type 0 where
  pub acts : (b : Buffer) → Asked (running level wants n l b) run other → Acts h (running level wants n l b) run other (running level wants n l' b) run' other'

-- a merge of s..e, and a merge of each grapheme, on every whole run that lies here
pub record MergesRun (merges : Bool) (level wants n s e : ℕ) (run other run' other' : List ℕ) : Type 0 where
  pub is : (l : Limits) → Charges WholeInput (merge merges s e) level wants n l (merge_limits merges (e - s) l) run other run' other'

pub record MergesEach (merging : Bool) (level wants n slot mask : ℕ) (l l' : Limits) (run other run' other' : List ℕ) : Type 0 where
  pub is : Charges WholeInput (λ a. merged_each merging (group_sizes (continues slot mask) (infos a.rest)) 0 a) level wants n l l' run other run' other'

-- 1E, 21, 22: whether the call goes ahead
unfoldable pub keyed_verdict : ℕ → Buffer → (first second : List ℕ) → Decision
keyed_verdict slot b f s =
    cond (sound b f s)
    (cond (output_phase b.phase || (spoiled_phase b.phase || ltb 0 b.idx.0)) (Err WrongPhase)
    (cond (ltb 1 slot) (Err BadOperand) (leaving b true None)))
    (Err Contradiction)

pub record TakesKeyed (slot : ℕ) (b : Buffer) (f s : List ℕ) (d : Decision) : Type 0 where
  pub is : d ≡ keyed_verdict slot b f s

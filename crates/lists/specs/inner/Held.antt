-- What functions below the exported ones know of a state and its slices.
use mathlib.Core.{Path.◌≡◌, Bool.Bool, Bool.true, Bool.false, Bool.cond, Bool.not, List.List}
use Rattle.std.specs.Prelude.{Result, Ok, Err}
use Rattle.std.specs.Prelude.{ℕ, ◌≤◌}
use lib.{Dec.leb, Dec.ltb, ListN.length}
use Rattle.records.specs.{Limits, Refusal, Contradiction, WrongPhase, OverCapacity, View.glyphs, View.Whole}
use Rattle.lists.specs.{declared.Buffer.Buffer}
use Rattle.lists.specs.{Account.output_phase, Account.spoiled_phase, Contract.sound}

-- the test of it, by t
pub record Soundness (b : Buffer) (f s : List ℕ) (t : Bool) : Type 0 where
  pub is : t ≡ sound b f s

-- the same as refusal 1
abbrev pub Test : Type 0
Test = Result (Unit {0}) Refusal

pub record Tested (b : Buffer) (f s : List ℕ) (t : Test) : Type 0 where
  pub is : t ≡ cond (sound b f s) (Ok tt) (Err Contradiction)

-- refusal 2 of a spoiled state
pub record Unspoiled (b : Buffer) (t : Test) : Type 0 where
  pub is : t ≡ cond (spoiled_phase b.phase) (Err WrongPhase) (Ok tt)

-- the same as facts, for the functions below the exported ones
pub record Held (b : Buffer) (run other : List ℕ) : Type 0 where
  pub idx-in : b.idx.0 ≤ b.len.0
  pub len-in : b.len.0 ≤ b.limits.allocated
  pub out-in : b.out_len.0 ≤ b.limits.allocated
  pub all_in : b.limits.allocated ≤ length (glyphs run)
  pub most : length (glyphs run) ≤ 1048576
  pub same : length run ≡ length other
  pub whole : Whole run
  pub behind : output_phase b.phase ≡ true → b.have_separate_output ≡ false → b.out_len.0 ≤ b.idx.0
  pub none : output_phase b.phase ≡ false → b.out_len.0 ≡ 0

-- "Needs size n", on the limits alone: whether it is there, or else given up
abbrev pub Room : Type 0
Room = Result Bool Refusal

abbrev pub fitting : Room
fitting = Ok true

abbrev pub given_up : Room
given_up = Ok false

abbrev pub over_capacity : Room
over_capacity = Err OverCapacity

unfoldable pub room_for : ℕ → ℕ → Limits → Room
room_for capacity n l = cond (leb n l.allocated) fitting (cond (ltb l.max_len n) given_up (cond (ltb capacity n) over_capacity fitting))

-- y, or its opposite where x is true: which slice, seen from either
abbrev pub exchanged : Bool → Bool → Bool
exchanged x y = cond x (not y) y

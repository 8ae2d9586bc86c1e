-- What a call answers, in document 01's own numbers. (Library says how definitions are written; src/lib.rt has the types with a capital in `declared`.)
-- "Where an answer is an enum, a definition gives this paper's number and values for each of its cases, and the promises use that definition."
use Rattle.std.specs.Prelude.{Result, Ok, Err, Option, None, Some}
use Rattle.records.specs.Library.{ℕ}
use Rattle.records.specs.{declared.Refusal.Refusal}
use Rattle.records.specs.declared.Refusal.TheVariants.{Contradiction, WrongPhase, OutOfRange, BadOperand, OverCapacity, Unreadable}

-- "Turned-back calls"
unfoldable pub refusal_number : Refusal → ℕ
refusal_number Contradiction = 1  -- "slices unequal, not whole glyphs, too long; counters that contradict each other"
refusal_number WrongPhase = 2  -- "wrong phase"
refusal_number OutOfRange = 3  -- "a place or count outside the lists, or a start past its end in one list"
refusal_number BadOperand = 4  -- "slot over 1, wants over 3, fewer glyph numbers than stated"; "now starts at wants over 7" (document 02, N11)
refusal_number OverCapacity = 5  -- "needed size within `max_len`, over capacity"
refusal_number Unreadable = 6  -- "unknown command byte, operands cut off"

-- "`ok` or `no` number, returned value if any (1 is true)"
pub data Said : Type 0 where
  ok : Said
  ok_with no : ℕ → Said

-- what a function answers: `Ok` with a value or none, `Err` with why it is turned back
abbrev pub Answer : Type 0
Answer = Result (Option ℕ) Refusal

-- what each case of an answer says
abbrev pub said : Answer → Said
said a = elim a [ Ok v ↦ elim v [ None ↦ ok | Some x ↦ ok_with x ] | Err why ↦ no (refusal_number why) ]

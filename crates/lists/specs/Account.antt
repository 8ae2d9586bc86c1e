-- The account of a buffer: three lists of glyphs, at whose numbers no definition made for every G can look (records, Glyphs), and what no list shows.
use Rattle.std.specs.Prelude.{◌+◌, ◌++◌}
use Rattle.records.specs.Library.{ℕ, Bool, true, false, cond, leb, ltb, List, [], map, length, take, drop}
use Rattle.records.specs.{Phase, Plain, Output, Positions, Spoiled, Position, Limits, Glyphs.Glyph, Glyphs.rename, Counters.fresh_limits, Counters.costs}
use Rattle.records.specs.{Counters.failed, Counters.grown, Refusal, OverCapacity, Answers.Said, Answers.ok, Answers.ok_with, Answers.no, Answers.refusal_number}

-- `gone`: how many glyphs of the input no list shows. That is `idx` with output, `len` when spoiled, else 0
pub record State : Type 0 where
  pub phase : Phase
  pub gone : ℕ
  pub limits : Limits
  pub level : ℕ
  pub wants : ℕ

-- "*done* (output written), *rest* (input from the cursor), *passed* (input before the cursor, only without output)"
pub record Account (G : Type 0) : Type 0 where
  pub done : List (Glyph G)
  pub passed : List (Glyph G)
  pub rest : List (Glyph G)
  pub state : State

-- "A level above 3 reads as 0."
unfoldable pub read_level : ℕ → ℕ
read_level level = cond (leb level 3) level 0

unfoldable pub in_phase : Phase → State → State
in_phase p s = record { phase = p; gone = s.gone; limits = s.limits; level = s.level; wants = s.wants }

unfoldable pub with_gone : ℕ → State → State
with_gone n s = record { phase = s.phase; gone = n; limits = s.limits; level = s.level; wants = s.wants }

unfoldable pub with_limits : Limits → State → State
with_limits l s = record { phase = s.phase; gone = s.gone; limits = l; level = s.level; wants = s.wants }

-- the same account under other glyph numbers
unfoldable pub renamed : {G H : Type 0} → (G → H) → Account G → Account H
renamed f a = record { done = map (rename f) a.done; passed = map (rename f) a.passed; rest = map (rename f) a.rest; state = a.state }

abbrev pub output_phase : Phase → Bool
output_phase p = elim p [ Plain ↦ false | Output ↦ true | Positions ↦ false | Spoiled ↦ false ]

abbrev pub positions_phase : Phase → Bool
positions_phase p = elim p [ Plain ↦ false | Output ↦ false | Positions ↦ true | Spoiled ↦ false ]

abbrev pub spoiled_phase : Phase → Bool
spoiled_phase p = elim p [ Plain ↦ false | Output ↦ false | Positions ↦ false | Spoiled ↦ true ]

module _ {G : Type 0} where
  unfoldable pub has_output : Account G → Bool
  has_output a = output_phase a.state.phase

  unfoldable pub has_positions : Account G → Bool
  has_positions a = positions_phase a.state.phase

  unfoldable pub is_spoiled : Account G → Bool
  is_spoiled a = spoiled_phase a.state.phase

  -- the input that a list shows: an `InputPlace` p is place p − `gone` of it
  unfoldable pub input : Account G → List (Glyph G)
  input a = a.passed ++ a.rest

  -- `len`, `idx` and `out_len` are counted from the lists, so that no account contradicts itself there
  unfoldable pub len : Account G → ℕ
  len a = a.state.gone + (length a.passed + length a.rest)

  unfoldable pub idx : Account G → ℕ
  idx a = cond (is_spoiled a) 0 (a.state.gone + length a.passed)

  unfoldable pub out_length : Account G → ℕ
  out_length a = length a.done

  -- "one a glyph in phase positions; in the others there are none"
  unfoldable pub positions : Account G → List Position
  positions a = cond (has_positions a) (map (λ g. g.info.position) (input a)) []

  -- "Fresh: `Buffer::new` with the given level and wants"
  unfoldable pub fresh_account : (level wants : ℕ) → Account G
  fresh_account level wants =
      let fresh : State = record { phase = Plain; gone = 0; limits = fresh_limits; level = read_level level; wants = wants } in
      record { done = []; passed = []; rest = []; state = fresh }

  unfoldable pub limiting : (Limits → Limits) → Account G → Account G  -- other counters
  limiting h a = record { done = a.done; passed = a.passed; rest = a.rest; state = with_limits (h a.state.limits) a.state }

  unfoldable pub paying : (n : ℕ) → Account G → Account G  -- "Costs n"
  paying n a = limiting (costs n) a

  unfoldable pub failing : Account G → Account G  -- "gives up"
  failing a = limiting failed a

  unfoldable pub sized : (n : ℕ) → Account G → Account G  -- "allocated becomes n"; "new words 0" shows in no list: `set_length` fills what it shows
  sized n a = limiting (grown n) a

  -- other glyphs for those of the input, of *done*, of *rest*
  unfoldable pub with_input : List (Glyph G) → Account G → Account G
  with_input l a = record { done = a.done; passed = take (length a.passed) l; rest = drop (length a.passed) l; state = a.state }

  unfoldable pub with_done : List (Glyph G) → Account G → Account G
  with_done l a = record { done = l; passed = a.passed; rest = a.rest; state = a.state }

  unfoldable pub with_rest : List (Glyph G) → Account G → Account G
  with_rest l a = record { done = a.done; passed = a.passed; rest = l; state = a.state }

-- ---- what a call comes to: refused, or accepted with the account that it leaves (`no`, `ok`, `ok_with`). "The Rust's own giving up is an accepted call."
infixr 5 refuse◌when◌else◌
pub data Result (G : Type 0) : Type 0 where
  refused : Refusal → Result G
  accepted : Account G → Result G
  answered : ℕ → Account G → Result G

pub record Outcome (G : Type 0) : Type 0 where
  pub answer : Said
  pub after : Account G

-- "No state and no word changes." The account after a refusal is the one before it
unfoldable pub outcome : {G : Type 0} → Account G → Result G → Outcome G
outcome a (refused r) = record { answer = no (refusal_number r); after = a }
outcome a (accepted b) = record { answer = ok; after = b }
outcome a (answered v b) = record { answer = ok_with v; after = b }

-- a line of a call's tests, which stand in the order of the refusals
unfoldable pub refuse◌when◌else◌ : {G : Type 0} → Refusal → Bool → Result G → Result G
refuse r when b else x = cond b (refused r) x

-- "Needs size n": "nothing if n ≤ allocated; else n > `max_len` gives up (`successful` false); else n > capacity is refusal 5; else allocated becomes n".
-- x is what follows where the size is there, y where it gives up
unfoldable pub needing : {G : Type 0} → (capacity n : ℕ) → Account G → (x y : Result G) → Result G
needing capacity n a x y =
    cond (leb n a.state.limits.allocated) x
    (cond (ltb a.state.limits.max_len n) y
    (cond (ltb capacity n) (refused OverCapacity) x))

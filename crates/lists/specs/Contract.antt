-- How a state and the two lent slices show an account, and what every exported call promises. (lists/src/lib.rt has `Buffer`, `Reply` and `Item`.)
use Rattle.std.specs.Prelude.{◌&&◌, ◌||◌, ◌++◌, ◌≡◌}
use Rattle.records.specs.Library.{ℕ, Bool, true, false, cond, not, eqb, leb, List, [], map, length, take, slice}
use Rattle.records.specs.{Phase, Plain, Output, Positions, Spoiled, Counters.capacity_of, Counters.rightly_lent, Glyphs.Glyph, View.glyphs, View.positions_in}
use Rattle.records.specs.{View.paired, View.stored, Contradiction, Answers.Said, Answers.ok, Answers.ok_with, Answers.no, Answers.said, View.words_from}
use Rattle.lists.specs.{declared.Buffer.Buffer, declared.Reply.Reply, declared.Item.Item, declared.Item.TheVariants.OfDone}
use Rattle.lists.specs.{declared.Item.TheVariants.OfPassed, declared.Item.TheVariants.OfRest, declared.Item.TheVariants.OfPosition, Cursor.fresh}
use Rattle.lists.specs.Account.{State, Account, output_phase, read_level, positions, fresh_account, Result, Outcome, outcome, refuse◌when◌else◌}

-- the run's glyphs: with their positions in phase positions, which the other slice holds, and none when spoiled
unfoldable pub shown : Phase → (run other : List ℕ) → List (Glyph ℕ)
shown p run other = elim p [ Plain ↦ glyphs run | Output ↦ glyphs run | Positions ↦ paired (glyphs run) (positions_in other) | Spoiled ↦ [] ]

-- how many glyphs of the input no list shows
unfoldable pub gone_of : Buffer → ℕ
gone_of b = elim b.phase [ Plain ↦ 0 | Output ↦ b.idx.0 | Positions ↦ 0 | Spoiled ↦ b.len.0 ]

unfoldable pub state_of : Buffer → State
state_of b = record { phase = b.phase; gone = gone_of b; limits = b.limits; level = read_level b.level; wants = b.wants }

-- given the slice that holds the run and the other: "those below it outside the live lists are free", and the account shows none of them.
-- `have_separate_output`: the output lies in the other slice; `swapped`: the second slice holds the run; `.0` is the number of a place
unfoldable pub account_of : Buffer → (run other : List ℕ) → Account ℕ
account_of b run other = record {
  done = take b.out_len.0 (cond b.have_separate_output (glyphs other) (glyphs run));
  state = state_of b;
  passed = slice (gone_of b) b.idx.0 (shown b.phase run other);
  rest = slice b.idx.0 b.len.0 (shown b.phase run other);
}

-- "Either may hold the run."
unfoldable pub account : Buffer → (first second : List ℕ) → Account ℕ
account b f s = cond b.swapped (account_of b s f) (account_of b f s)

-- refusal 1: "counters that contradict each other (`idx` > `len`, `len` or `out_len` > allocated, allocated > capacity, `out_len` > `idx` with output held
-- in the run, > 0 without output)"
unfoldable pub in_order : Buffer → ℕ → Bool
in_order b capacity =
    leb b.idx.0 b.len.0 && (leb b.len.0 b.limits.allocated && (leb b.out_len.0 b.limits.allocated
    && (leb b.limits.allocated capacity
    && cond (output_phase b.phase) (b.have_separate_output || leb b.out_len.0 b.idx.0) (eqb b.out_len.0 0))))

-- and "slices unequal, not whole glyphs, too long"
unfoldable pub sound : Buffer → (first second : List ℕ) → Bool
sound b f s = rightly_lent (length f) (length s) && in_order b (capacity_of (length f))

-- ---- What every exported call promises: one equation to a call of the account, and what it leaves alone.
-- what a function gives back and leaves in the slices: its answer in document 01's words, and the account
abbrev pub outcome_of : Reply → (first second : List ℕ) → Outcome ℕ
outcome_of r f s = record { answer = said r.answer; after = account r.buffer f s }

-- refusal 1, then the call on the account of the buffer
unfoldable pub judged : (ℕ → Account ℕ → Result ℕ) → Buffer → (first second : List ℕ) → Outcome ℕ
judged call b f s = outcome (account b f s) (refuse Contradiction when not (sound b f s) else call (capacity_of (length f)) (account b f s))

abbrev pub is_no : Said → Bool
is_no a = elim a [ ok ↦ false | ok_with v ↦ false | no n ↦ true ]

-- what calls leave alone: b, f and s are the state and the slices before them, b', f' and s' those after them
pub record LeavesAlone (is_refused : Bool) (size : ℕ) (b : Buffer) (f s : List ℕ) (b' : Buffer) (f' s' : List ℕ) : Type 0 where
  -- "No state and no word changes."
  pub stays : is_refused ≡ true → (b' ≡ b) × (f' ≡ f) × (s' ≡ s)
  -- "Words from the allocated size on are never written"
  pub first-beyond : words_from size f' ≡ words_from size f
  pub second-beyond : words_from size s' ≡ words_from size s
  -- the buffer contradicts itself after them exactly where it did before them
  pub sounds : sound b' f' s' ≡ sound b f s

-- the promise of a call, which gives back r: answer and account, and what it leaves alone
pub record Meets (call : ℕ → Account ℕ → Result ℕ) (b : Buffer) (f s : List ℕ) (r : Reply) (f' s' : List ℕ) : Type 0 where
  pub is : outcome_of r f' s' ≡ judged call b f s
  pub alone : LeavesAlone (is_no (said r.answer)) r.buffer.limits.allocated b f s r.buffer f' s'

-- the first buffer, which no call is made on: "Fresh: `Buffer::new` with the given level and wants". Refused, it is the one of wants 0
pub record Begins (level wants : ℕ) (r : Reply) : Type 0 where
  -- answer and account, whichever slices are lent
  pub is : (f s : List ℕ) → outcome_of r f s ≡ outcome (fresh_account level 0) (fresh level wants (fresh_account level 0))
  -- it does not contradict itself
  pub is-sound : (f s : List ℕ) → sound r.buffer f s ≡ rightly_lent (length f) (length s)

-- ---- what a buffer shows, one thing after the other: "then done `o`, passed `p`, input `i`", and "positions `x`"
unfoldable pub items : Account ℕ → List Item
items a =
    map (λ g. OfDone (stored g)) a.done
    ++ (map (λ g. OfPassed (stored g)) a.passed
    ++ (map (λ g. OfRest (stored g)) a.rest
    ++ map OfPosition (positions a)))

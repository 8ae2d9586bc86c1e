-- One command of a string on a buffer, refusals "6, 1, 2, 3, 4, 5"; and all of them. (commands/src/lib.rt has `Step` and `Ran`: a reply and a number.)
use Rattle.std.specs.Prelude.{◌≤◌, ◌<◌, ◌&&◌, ◌∷◌, ◌≡◌}
use Rattle.records.specs.Library.{ℕ, Bool, true, cond, leb, List, [], length, drop}
use Rattle.records.specs.{Contradiction, Unreadable, Answers.said, Answers.ok}
use Rattle.lists.specs.{Account.Account, Account.Outcome, Account.refused, Account.outcome, Contract.account, Contract.sound, Contract.outcome_of}
use Rattle.lists.specs.{Contract.is_no, Contract.LeavesAlone, declared.Buffer.Buffer}
use Rattle.commands.specs.{Calls.Worded, Calls.step, Calls.Read, Calls.unreadable, Calls.got, Calls.front, Calls.behind, Calls.read_up_to, Calls.run_read}
use Rattle.commands.specs.{declared.Step.Step, declared.Ran.Ran}

-- what a call comes to, as `judged` (lists, Contract): the account's step, or refusal 1 where the buffer contradicts itself, `fit` being `sound` of it
unfoldable pub called : (fit : Bool) (m n : ℕ) → Worded ℕ → Account ℕ → Outcome ℕ
called fit m n w a = cond fit (step 0 m n w a) (outcome a (refused Contradiction))

-- what a command comes to
unfoldable pub stepped : Read (Worded ℕ) → Buffer → (first second : List ℕ) → Outcome ℕ
stepped unreadable b f s = outcome (account b f s) (refused Unreadable)
stepped (got w l) b f s = called (sound b f s) (length f) (length s) w (account b f s)

-- the promise of a step, from a place of a string
pub record Steps (script : List ℕ) (at : ℕ) (b : Buffer) (f s : List ℕ) (r : Step) (f' s' : List ℕ) : Type 0 where
  pub is : outcome_of r.reply f' s' ≡ stepped (front (drop at script)) b f s
  pub alone : LeavesAlone (is_no (said r.reply.answer)) r.reply.buffer.limits.allocated b f s r.reply.buffer f' s'
  -- the place after the command
  pub next-is : drop r.next script ≡ behind (front (drop at script))
  pub next-in : r.next ≤ length script
  pub onward : at < length script → at < r.next

-- ---- a byte string on a buffer: "Each gets the state the last one returned or left, and the same slices".
-- the last of a list, or o if it is empty
unfoldable pub last_of : {A : Type 0} → A → List A → A
last_of o [] = o
last_of o (p ∷ l) = last_of p l

-- whether every call is refused
unfoldable pub all_no : List (Outcome ℕ) → Bool
all_no [] = true
all_no (o ∷ l) = is_no o.answer && all_no l

-- the largest allocated size that a call leaves, since 00 puts it back to 0
unfoldable pub largest : List (Outcome ℕ) → ℕ
largest [] = 0
largest (o ∷ l) = let size = o.after.state.limits.allocated in cond (leb size (largest l)) (largest l) size

-- the outcomes of a string on a buffer: of one that is sound the account's own, `run_bytes`; of one that contradicts itself refusal 1 of every command
abbrev pub outcomes : List ℕ → Buffer → (first second : List ℕ) → List (Outcome ℕ)
outcomes script b f s = run_read (called (sound b f s) (length f) (length s)) (read_up_to (length script) script) (account b f s)

-- the promise of a run: the last answer and account, how many outcomes there are, and what it leaves alone, up to the largest size on the way
pub record Runs (script : List ℕ) (b : Buffer) (f s : List ℕ) (r : Ran) (f' s' : List ℕ) : Type 0 where
  pub last : outcome_of r.reply f' s' ≡ last_of (record { answer = ok; after = account b f s }) (outcomes script b f s)
  pub all : r.commands ≡ length (outcomes script b f s)
  pub alone : LeavesAlone (all_no (outcomes script b f s)) (largest (outcomes script b f s)) b f s r.reply.buffer f' s'

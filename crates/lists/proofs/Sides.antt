-- What a call leaves, said of the slice that holds the run and the other.
use mathlib.Core.{Path.◌≡◌, Bool.Bool, Bool.true, Bool.cond, List.List}
use Prim.Native.Nat.{ℕ}
use lib.{ListN.length}
use Rattle.records.specs.{Answers.said, Counters.capacity_of, View.words_from}
use Rattle.lists.specs.{declared.Buffer.Buffer, declared.Reply.Reply}
use Rattle.lists.specs.{Account.Account, Account.output_phase, Contract.is_no, inner.Held.exchanged, Account.Result, Account.outcome, Contract.account_of, inner.Held.Held}

-- a call may exchange the two
unfoldable pub account_in : (before : Bool) → Buffer → (run other : List ℕ) → Account ℕ
account_in before r run other = cond (exchanged before r.swapped) (account_of r other run) (account_of r run other)

-- `Meets` of them
pub record MeetsIn (call : ℕ → Account ℕ → Result ℕ) (b : Buffer) (run other : List ℕ) (r : Reply) (run' other' : List ℕ) : Type 0 where
  pub is : record { answer = said r.answer; after = account_in b.swapped r.buffer run' other' } ≡ outcome (account_of b run other) (call (capacity_of (length run)) (account_of b run other))
  pub stays : is_no (said r.answer) ≡ true → (r.buffer ≡ b) × (run' ≡ run) × (other' ≡ other)
  pub run-beyond : words_from r.buffer.limits.allocated run' ≡ words_from r.buffer.limits.allocated run
  pub other-beyond : words_from r.buffer.limits.allocated other' ≡ words_from r.buffer.limits.allocated other
  pub held : Held r.buffer run other

-- what a move within the slices does: h on the account, nothing beyond the allocated size, the limits as they were
pub record Moves (h : Account ℕ → Account ℕ) (b : Buffer) (run other : List ℕ) (r : Buffer) (run' other' : List ℕ) : Type 0 where
  pub is : account_of r run' other' ≡ h (account_of b run other)
  pub limits : r.limits ≡ b.limits
  pub side : r.swapped ≡ b.swapped
  pub run-beyond : words_from b.limits.allocated run' ≡ words_from b.limits.allocated run
  pub other-beyond : words_from b.limits.allocated other' ≡ words_from b.limits.allocated other
  pub held : Held r run other

-- a buffer with output, of the slice that holds the run and the other
pub record SyncOutput (b : Buffer) (run other : List ℕ) : Type 0 where
  pub held : Held b run other
  pub output : output_phase b.phase ≡ true

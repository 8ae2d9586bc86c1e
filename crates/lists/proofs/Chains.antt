-- Calls one after the other: what each answers and leaves, from the account before the first.
use mathlib.Core.{Path.◌≡◌, Path.ap, Path.◌∙◌, Bool.true, List.List}
use Prim.Native.Nat.{ℕ}
use lib.{ListN.length}
use Rattle.records.specs.{Answers.said, Counters.capacity_of}
use Rattle.lists.specs.{declared.Buffer.Buffer, declared.Reply.Reply}
use Rattle.lists.specs.Account.{Account}
use Rattle.lists.specs.Account.{Result, Outcome, outcome}
use Rattle.lists.specs.Contract.{account, sound}
use Rattle.lists.specs.Contract.{outcome_of, Meets}
use Rattle.lists.proofs.Calls.{judged-sound}

-- the account of a buffer that does not contradict itself, in slices of a capacity
pub record At (capacity : ℕ) (a : Account ℕ) (b : Buffer) (f s : List ℕ) : Type 0 where
  pub is : account b f s ≡ a
  pub fit : sound b f s ≡ true
  pub room : capacity_of (length f) ≡ capacity

module _ {call : ℕ → Account ℕ → Result ℕ} {capacity : ℕ} {a : Account ℕ} {b : Buffer} {f s : List ℕ} {r : Reply} {f' s' : List ℕ} (m : Meets call b f s r f' s') (at : At capacity a b f s) where
  comes-to : outcome_of r f' s' ≡ outcome a (call capacity a)
  comes-to = m.is ∙ judged-sound call b f s at.fit ∙ rw (at.is, at.room)

  pub answers : said r.answer ≡ (outcome a (call capacity a)).answer
  answers = ap (λ (o : Outcome ℕ). o.answer) comes-to

  pub leaves : length f' ≡ length f → At capacity (outcome a (call capacity a)).after r.buffer f' s'
  leaves e = record { is = ap (λ (o : Outcome ℕ). o.after) comes-to; fit = m.alone.sounds ∙ at.fit; room = ap capacity_of e ∙ at.room }

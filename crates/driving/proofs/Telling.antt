-- What a call answered, from the account before it.
use Rattle.std.proofs.Common.{◌≡◌, ◌∙◌, sym, ap, refl, ℕ, List, Option, Some, None, Ok, Err}
use mathlib.Core.{Bool.cond}
use Rattle.std.specs.Prelude.{◌==◌}
use Rattle.records.specs.Answers.{Answer, Said, ok, ok_with, no, said, refusal_number}
use Rattle.records.specs.declared.Refusal.{Refusal}
use Rattle.records.specs.declared.Refusal.TheVariants.{Contradiction, WrongPhase, OutOfRange, BadOperand, OverCapacity, Unreadable}
use Rattle.lists.specs.{declared.Buffer.Buffer, declared.Reply.Reply, Account.Account, Account.Result, Account.outcome, Contract.Meets}
use Rattle.lists.proofs.Chains.{At, answers}

-- the refusal of a number, and the answer that says so much
unfoldable pub refusal_of : ℕ → Refusal
refusal_of n = cond (n == 1) Contradiction (cond (n == 2) WrongPhase (cond (n == 3) OutOfRange (cond (n == 4) BadOperand (cond (n == 5) OverCapacity Unreadable))))

unfoldable pub meant : Said → Answer
meant a = elim a [ ok ↦ Ok None | ok_with v ↦ Ok (Some v) | no n ↦ Err (refusal_of n) ]

pub meant-said : (a : Answer) → meant (said a) ≡ a
unfolding meant refusal_of refusal_number
meant-said (Ok None) = refl
meant-said (Ok (Some v)) = refl
meant-said (Err Contradiction) = refl
meant-said (Err WrongPhase) = refl
meant-said (Err OutOfRange) = refl
meant-said (Err BadOperand) = refl
meant-said (Err OverCapacity) = refl
meant-said (Err Unreadable) = refl

pub answered : {call : ℕ → Account ℕ → Result ℕ} {capacity : ℕ} {a : Account ℕ} {b : Buffer} {f s : List ℕ} {r : Reply} {f' s' : List ℕ} → Meets call b f s r f' s' → At capacity a b f s → r.answer ≡ meant (outcome a (call capacity a)).answer
answered m at = sym (meant-said _) ∙ ap meant (answers m at)

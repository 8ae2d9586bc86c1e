-- From what an act on two lent slices leaves to what its call promises, where what it gives back amends the verdict.
use mathlib.Core.{Path.◌≡◌, Path.refl, Bool.Bool, Bool.true, Bool.false, List.List}
use Rattle.std.proofs.Common.{ℕ, length}
use Rattle.std.specs.Fn.{Once}
use Rattle.lists.specs.{Account.Account, Account.Result, Contract.Meets, declared.Buffer.Buffer, declared.Reply.Reply, declared.Verdict.Verdict, inner.States.Decision, inner.Verdicts.acts_of}
use Rattle.lists.specs.inner.Swapping.{Pair, ActedOn, CarriedOut}
use Rattle.lists.proofs.EitherSlice.{sided-acts}
use Rattle.edits.specs.inner.Charges.{DecidedBy}
use Rattle.edits.proofs.Charging.{by-acted, by-still}

module _ {call : ℕ → Account ℕ → Result ℕ} {F R : Type 0} {amends : R → Verdict → Verdict} {g : Once F Pair (R × Pair)} {act : F} {b : Buffer} {d : Decision} {f s f' s' : List ℕ} {r : Reply} {Ask : Type 0} where
  pub carried-by : {Act : R → (run other run' other' : List ℕ) → Type 0} → DecidedBy R amends call b f s d Ask Act → CarriedOut amends g act b d f s r f' s' → length f' ≡ length f → length s' ≡ length s
      → ((x : R) (run other run' other' : List ℕ) → ActedOn g act x run other run' other' → Act x run other run' other') → Meets call b f s r f' s'
  carried-by p w lf ls h = by (acts_of d) refl
    where
      by : (t : Bool) → acts_of d ≡ t → Meets call b f s r f' s'
      by true k = let a = w.acted k in by-acted p a.replies refl (sided-acts a.sided (h a.gave)) refl k refl refl lf ls
      by false k = by-still p (w.replies k) refl refl k (w.still-first k) (w.still-second k)

-- a verdict that goes by one part of what the act gives back
pub by-part : {R S : Type 0} (part : R → S) {amend : S → Verdict → Verdict} {call : ℕ → Account ℕ → Result ℕ} {b : Buffer} {f s : List ℕ} {d : Decision} {Ask : Type 0} {Act : S → (run other run' other' : List ℕ) → Type 0}
    → DecidedBy S amend call b f s d Ask Act → DecidedBy R (λ x. amend (part x)) call b f s d Ask (λ x. Act (part x))
by-part part p = record { still = p.still; asked = p.asked; acted = λ t x. p.acted t (part x) }

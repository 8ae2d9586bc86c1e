-- What a call of an act on two lent slices asks for, and what it leaves.
use mathlib.Core.{Path.◌≡◌, Bool.Bool, Bool.true, Bool.false, List.List}
use Rattle.std.specs.Prelude.{ℕ}
use denote.Ref.{MutBor}
use Rattle.std.specs.Fn.{Once}
use Rattle.lists.specs.{declared.Buffer.Buffer, declared.Reply.Reply, declared.Verdict.Verdict}
use Rattle.lists.specs.inner.Verdicts.{acts_of, amended, settled, Sided}
use Rattle.lists.specs.inner.States.{Decision}

abbrev pub Pair : Type 0
Pair = MutBor (List ℕ) × (MutBor (List ℕ) × Unit {0})

-- the act may be called on these two
pub record MayActOn {F R : Type 0} (g : Once F Pair (R × Pair)) (act : F) (run other : List ℕ) : Type 0 where
  pub law : (p q : MutBor (List ℕ)) → p.now ≡ run → q.now ≡ other → g.pre act (p, (q, tt))

-- the act may be called on the slice that holds the run and the other one
pub record MayAct {F R : Type 0} (x : Bool) (g : Once F Pair (R × Pair)) (act : F) (f s : List ℕ) : Type 0 where
  pub first : x ≡ false → MayActOn g act f s
  pub second : x ≡ true → MayActOn g act s f

-- called on them, it gave r and left run' and other'
pub record ActedOn {F R : Type 0} (g : Once F Pair (R × Pair)) (act : F) (r : R) (run other run' other' : List ℕ) : Type 0 where
  pub first : MutBor (List ℕ)
  pub second : MutBor (List ℕ)
  pub shows-first : first.now ≡ run
  pub shows-second : second.now ≡ other
  pub left-first : MutBor (List ℕ)
  pub left-second : MutBor (List ℕ)
  pub met : g.post act (first, (second, tt)) (r, (left-first, (left-second, tt)))
  pub leaves-first : left-first.now ≡ run'
  pub leaves-second : left-second.now ≡ other'

-- a call acted, and replied by what the act gave back
pub record Acted {F R : Type 0} (amends : R → Verdict → Verdict) (g : Once F Pair (R × Pair)) (act : F) (b : Buffer) (d : Decision) (f s : List ℕ) (r : Reply) (f' s' : List ℕ) : Type 0 where
  pub gave : R
  pub replies : r ≡ settled b (amended (amends gave) d)
  pub sided : Sided b.swapped (ActedOn g act gave) f s f' s'

-- by its decision a call acted, or left the slices as they were
pub record CarriedOut {F R : Type 0} (amends : R → Verdict → Verdict) (g : Once F Pair (R × Pair)) (act : F) (b : Buffer) (d : Decision) (f s : List ℕ) (r : Reply) (f' s' : List ℕ) : Type 0 where
  pub replies : acts_of d ≡ false → r ≡ settled b d
  pub still-first : acts_of d ≡ false → f' ≡ f
  pub still-second : acts_of d ≡ false → s' ≡ s
  pub acted : acts_of d ≡ true → Acted amends g act b d f s r f' s'

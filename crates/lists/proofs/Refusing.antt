-- A line of a call's tests, once its test is known.
use mathlib.Core.{Path.◌≡◌, Path.refl, Bool.true, Bool.false}
use Rattle.records.specs.{Refusal}
use Rattle.lists.specs.Account.{Result, refused, refuse◌when◌else◌}

module _ {G : Type 0} (why : Refusal) (x : Result G) where
  pub refuse-true : (refuse why when true else x) ≡ refused why
  unfolding refuse◌when◌else◌
  refuse-true = refl

  pub refuse-false : (refuse why when false else x) ≡ x
  unfolding refuse◌when◌else◌
  refuse-false = refl

-- with the answers of the tests beside it
pub ruleset refusing = (refuse-true, refuse-false)

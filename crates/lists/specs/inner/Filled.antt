-- What filling a range leaves.
use mathlib.Core.{List.List, List.◌++◌}
use Rattle.std.specs.Prelude.{ℕ, ◌-◌, take, drop, replicate}

-- l, with v in the places from s up to e
unfoldable pub filled : {A : Type 0} → A → ℕ → ℕ → List A → List A
filled v s e l = take s l ++ (replicate (e - s) v ++ drop e l)

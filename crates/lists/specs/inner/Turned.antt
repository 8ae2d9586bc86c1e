-- A list with a range of it the other way round.
use mathlib.Core.{List.List, List.◌++◌, List.reverse}
use Rattle.std.specs.Prelude.{ℕ}
use lib.{ListN.take, ListN.drop, ListN.get_or, ListN.set, Seq.slice}

module _ {A : Type 0} where
  unfoldable pub turned : ℕ → ℕ → List A → List A
  turned s e l = take s l ++ (reverse (slice s e l) ++ drop e l)

  -- the elements at i and j exchanged. d stands for one past the end
  abbrev pub exchange : A → ℕ → ℕ → List A → List A
  exchange d i j l = set (set l i (get_or l j d)) j (get_or l i d)

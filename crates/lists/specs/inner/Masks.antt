-- What is found in lists of masks.
use mathlib.Core.{List.List, List.[], List.◌∷◌}
use Rattle.std.specs.Prelude.{ℕ, ◌%◌}
use lib.{Bits.bit_or}

-- the low three bits of each, joined
unfoldable pub joined_low : List ℕ → ℕ
joined_low [] = 0
joined_low (m ∷ ms) = bit_or (m % 8) (joined_low ms)

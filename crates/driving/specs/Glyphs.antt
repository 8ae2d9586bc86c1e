-- Glyphs put into a list, as far as it has the places.
use Rattle.std.specs.Prelude.{ℕ, ◌+◌, List, [], ◌∷◌, slice_set}

-- one after the other, from a place on; a store past the end changes nothing
unfoldable pub laid : {A : Type 0} → (at : ℕ) → (gs l : List A) → List A
laid at [] l = l
laid at (g ∷ gs) l = laid (at + 1) gs (slice_set l at g)

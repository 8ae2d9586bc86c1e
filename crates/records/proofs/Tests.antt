-- What a test in the code says, for the search.
use mathlib.Core.{Path.◌≡◌, Path.sym, Path.◌∙◌}

-- a test that was made, and went one way
pub tested : {A : Type 0} {x y z : A} → x ≡ y → x ≡ z → y ≡ z
tested p q = sym p ∙ q

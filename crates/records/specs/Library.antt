-- The library that definitions are written in. `a - b` is 0 where b is larger; `leb a b` is a ≤ b, `ltb a b` is a < b, `eqb` equality, as truth values;
-- `cond t x y` is x if t, else y; `get_or l i d` the i-th of l, from 0, or d; `slice i j l` those from i up to j; `sets l i xs` l with xs from i on.
-- Of the language: `unfoldable` and `abbrev` mark definitions for proofs and mean nothing to a reader; `elim x [ A ↦ .. ]` goes by the case of x;
-- «..» is a name of src/; `×` is "and", `⊥` what cannot be, `Unit {0}` what says nothing, `tt` its one value; `.0`, `.1` the first and the second of two.
pub use Rattle.std.specs.Prelude.{ℕ, zero, suc, min, max}
pub use mathlib.Core.{Bool.Bool, Bool.true, Bool.false, Bool.cond, Bool.not, Option.Option, Option.none, Option.some, List.List, List.[]}
pub use mathlib.Core.{List.map, List.flat_map, List.reverse}
pub use lib.{Dec.eqb, Dec.leb, Dec.ltb, Bits.bit_and, Bits.bit_or, ListN.length, ListN.take, ListN.drop, ListN.get_or, ListN.replicate, Seq.slice, Seq.sets}

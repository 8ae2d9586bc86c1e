-- The totals of the line `sum` from an account, its three lists apart; `sum-is-read` (proofs, SumIsRead) says that a reader counts the same.
use mathlib.Core.{Bool.cond, List.List, List.[], List.◌∷◌, List.map}
use Rattle.std.specs.Prelude.{ℕ, ◌+◌, ◌%◌, ◌<◌, ◌^◌}
use lib.{Dec.eqb, ListN.length}
use Rattle.records.specs.Glyphs.{Glyph}
use Rattle.lists.specs.Account.{Account}
use Rattle.commands.specs.declared.Totals.{Totals}
use Rattle.commands.specs.Totals.{plus}

-- groups of neighbours that start below a glyph of this cluster
unfoldable pub groups_below : ℕ → List ℕ → ℕ
groups_below above [] = 0
groups_below above (cluster ∷ l) = cond (eqb above cluster) 0 1 + groups_below cluster l

unfoldable pub groups_of : List ℕ → ℕ
groups_of [] = 0
groups_of (cluster ∷ l) = 1 + groups_below cluster l

-- masks with bit 0
unfoldable pub marked_of : List ℕ → ℕ
marked_of [] = 0
marked_of (mask ∷ l) = mask % 2 + marked_of l

module _ {G : Type 0} where
  unfoldable pub list_totals : List (Glyph G) → Totals
  list_totals l = record { lines = length l; groups = groups_of (map (λ g. g.info.cluster) l); marked = marked_of (map (λ g. g.info.mask) l) }

  unfoldable pub totals : Account G → Totals
  totals a = plus (list_totals a.done) (plus (list_totals a.passed) (list_totals a.rest))

  -- every cluster and mask fits 64 bits, as printed numbers do
  abbrev pub Printable : List (Glyph G) → Type 0
  Printable [] = Unit {0}
  Printable (g ∷ l) = (g.info.cluster < 2 ^ 64) × (g.info.mask < 2 ^ 64) × Printable l

  pub record AllPrintable (a : Account G) : Type 0 where
    pub done : Printable a.done
    pub passed : Printable a.passed
    pub rest : Printable a.rest

-- The table of masks is document 01's formula at each of its places.
use mathlib.Core.{Path.◌≡◌, Path.refl, Path.ap, Path.ap₂, Path.◌∙◌, List.List, List.[], List.◌∷◌}
use Rattle.std.proofs.Common.{ℕ, zero, suc, ◌+◌, ◌*◌, ◌/◌, ◌%◌, ◌<◌, arith}
use lib.{Arith.mod-mul, ListN.length, ListN.get_or}
use Rattle.edits.specs.{Groups.flag_table, Groups.EveryEntry, Groups.settled_mask}
use Rattle.edits.proofs.Executable.{executable}

-- f at i and the n - 1 numbers after it
values_from : (ℕ → ℕ) → (i n : ℕ) → List ℕ
values_from f i zero = []
values_from f i (suc n) = f i ∷ values_from f (suc i) n

value-at : (f : ℕ → ℕ) (i n k : ℕ) → k < n → get_or (values_from f i n) k 0 ≡ f (i + k)
unfolding values_from
value-at f i zero k h = absurd (omega (arith, h))
value-at f i (suc n) zero h = ap f (omega arith)
value-at f i (suc n) (suc k) h = value-at f (suc i) n k (omega (arith, h)) ∙ ap f (omega arith)

-- the formula, by a place in the table
formula : ℕ → ℕ
formula k = settled_mask (k / 8) (k % 8)

-- computed, over the whole table
table-values : flag_table ≡ values_from formula 0 32
unfolding flag_table values_from formula executable
table-values = refl

low-wants : (wants x : ℕ) → settled_mask (wants % 4) x ≡ settled_mask wants x
unfolding settled_mask
low-wants wants x =
    let bits : wants % 4 ≡ (wants / 2 % 2) * 2 + wants % 2 = mod-mul wants {m = 2} {c = 2} (omega arith) (omega arith) in
    let concat : wants % 4 % 2 ≡ wants % 2 = omega (arith, bits) in
    let half : wants % 4 / 2 ≡ wants / 2 % 2 = omega (arith, bits, concat) in
    let tatweel : wants % 4 / 2 % 2 ≡ wants / 2 % 2 = ap (λ (n : ℕ). n % 2) half ∙ omega arith in
    rw (concat, tatweel)

pub every-entry : EveryEntry
unfolding EveryEntry flag_table formula
every-entry = (
  refl,
  λ wants joined h.
      let place = 8 * (wants % 4) + joined in
      let row : (0 + place) / 8 ≡ wants % 4 = omega (arith, h) in
      let column : (0 + place) % 8 ≡ joined = omega (arith, h) in
      ap (λ (l : List ℕ). get_or l place 0) table-values ∙ (value-at formula 0 32 place (omega (arith, h)) ∙ (ap₂ settled_mask row column ∙ low-wants wants joined)),
)

-- ---- a slice that holds the table
pub table_long : (table : List ℕ) → table ≡ flag_table → length table ≡ 32
unfolding EveryEntry
table_long table same = rw same every-entry.0

pub entry_in : {table : List ℕ} → table ≡ flag_table → {place : ℕ} → place < 32 → place < length table
entry_in {table} same h = rw (table_long table same) h

pub entry_is : {table : List ℕ} → table ≡ flag_table → (wants : ℕ) {joined : ℕ} → joined < 8 → get_or table (8 * (wants % 4) + joined) 0 ≡ settled_mask wants joined
unfolding EveryEntry
entry_is same wants {joined} low = ap (λ (l : List ℕ). get_or l (8 * (wants % 4) + joined) 0) same ∙ every-entry.1 wants joined low

-- for the proofs of functions
pub ruleset table_entries = (table_long, entry_is)

-- "Totals under the record", as a reader counts them from printed lines (document 02, N1). (commands/src/lib.rt has `Entry` and `Totals`.)
-- "Print a line `sum` as the last line of all: glyph lines, neighbouring groups of equal cluster within one list, and glyph lines with mask bit 0.
-- Each number equals what a reader counts from the lines above it. A spoiled buffer prints three zeros."
use Rattle.std.specs.Prelude.{◌+◌, ◌-◌, ◌*◌, ◌%◌, ◌&&◌, ◌||◌, ◌∷◌, Option, None, Some}
use Rattle.records.specs.Library.{ℕ, Bool, cond, eqb, List, [], map, get_or}
use Rattle.commands.specs.{declared.Entry.Entry, declared.Totals.Totals}

-- ---- a printed line as its reader takes it apart, in bytes: 32 is a space, 10 the line feed, 48 the digit 0, 111 `o`, 112 `p`, 105 `i`
-- a digit behind a number that was read so far
unfoldable pub read_on : ℕ → List ℕ → ℕ
read_on n [] = n
read_on n (digit ∷ l) = read_on (10 * n + (digit - 48)) l

-- the number that a decimal says
unfoldable pub number_of : List ℕ → ℕ
number_of l = read_on 0 l

-- a byte before the first field
unfoldable pub onto : ℕ → List (List ℕ) → List (List ℕ)
onto c [] = (c ∷ []) ∷ []
onto c (w ∷ ws) = (c ∷ w) ∷ ws

-- from the right: a space opens a field, the line feed closes the last, and any other byte goes before the first; what stands behind the line feed goes
unfoldable pub parted : ℕ → List (List ℕ) → List (List ℕ)
parted c ws = cond (eqb c 32) ([] ∷ ws) (cond (eqb c 10) ([] ∷ []) (onto c ws))

-- the fields of a line
unfoldable pub fields : List ℕ → List (List ℕ)
fields [] = [] ∷ []
fields (c ∷ l) = parted c (fields l)

-- ---- a line
-- glyph lines are `o`, `p` and `i`
unfoldable pub is_glyph_kind : ℕ → Bool
is_glyph_kind kind = eqb kind 111 || (eqb kind 112 || eqb kind 105)

-- what a reader takes from a line "glyph, cluster, mask, var0, var1": its kind, its second and its third number; of any other line nothing
unfoldable pub read_line : List ℕ → Option Entry
read_line line =
    let kind = get_or line 0 0 in
    let field : ℕ → ℕ = λ k. number_of (get_or (fields line) k []) in
    cond (is_glyph_kind kind) (Some (record { kind = kind; cluster = field 2; mask = field 3 })) None

-- ---- lines one below the other
abbrev pub no_totals : Totals
no_totals = record { lines = 0; groups = 0; marked = 0 }

unfoldable pub plus : Totals → Totals → Totals
plus t u = record { lines = t.lines + u.lines; groups = t.groups + u.groups; marked = t.marked + u.marked }

-- a line goes on with the group of the one above it where both are of one list and have one cluster; any other starts a group
unfoldable pub starts : Option Entry → Entry → ℕ
starts None line = 1
starts (Some above) line = cond (eqb above.kind line.kind && eqb above.cluster line.cluster) 0 1

-- what a line adds to those above it: itself, its group if it starts one, its mask's bit 0
unfoldable pub counted : Option Entry → Option Entry → Totals
counted above None = no_totals
counted above (Some line) = record { lines = 1; groups = starts above line; marked = line.mask % 2 }

unfoldable pub counted_below : Option Entry → List (Option Entry) → Totals
counted_below above [] = no_totals
counted_below above (line ∷ ls) = plus (counted above line) (counted_below line ls)

-- what a reader counts from printed lines
unfoldable pub read_totals : List (List ℕ) → Totals
read_totals ls = counted_below None (map read_line ls)

-- The printed lines, as bytes: the one place that says how a line looks.
-- "Lines: command, `ok` or `no` number, returned value if any (1 is true); `end` len, idx, out_len, max_ops, successful; then done `o`, passed `p`,
-- input `i`: glyph, cluster, mask, var0, var1; positions `x`, five words."
use Rattle.std.specs.Prelude.{◌+◌, ◌-◌, ◌/◌, ◌%◌, ◌∷◌, ◌++◌}
use Rattle.records.specs.Library.{ℕ, zero, suc, Bool, cond, ltb, List, [], map, flat_map, get_or}
use Rattle.records.specs.{Position, Answers.Said, Answers.ok, Answers.ok_with, Answers.no, Counters.is_negative, Glyphs.Glyph, View.seen}
use Rattle.lists.specs.{Account.Account, Account.len, Account.idx, Account.out_length, Contract.account, Contract.sound, Contract.items, declared.Buffer.Buffer}
use Rattle.lists.specs.{declared.Item.Item, declared.Item.TheVariants.OfDone, declared.Item.TheVariants.OfPassed}
use Rattle.lists.specs.{declared.Item.TheVariants.OfRest, declared.Item.TheVariants.OfPosition}
use Rattle.commands.specs.{Totals.read_totals, declared.Totals.Totals}

-- ---- numbers
-- the last digit of n
abbrev pub digit_of : ℕ → ℕ
digit_of n = 48 + n % 10

-- n in decimal without zeros in front; of a number with more than k digits the last k
unfoldable pub digits : (k n : ℕ) → List ℕ
digits zero n = []
digits (suc k) n = cond (ltb n 10) (digit_of n ∷ []) (digits k (n / 10) ++ (digit_of n ∷ []))

-- a number in decimal: one of 64 bits has at most 20 digits
unfoldable pub decimal : ℕ → List ℕ
decimal n = digits 20 n

-- a word that stands for a signed number, in decimal
unfoldable pub signed : ℕ → List ℕ
signed w = cond (is_negative w) (45 ∷ decimal (4294967296 - w)) (decimal w)

-- "Only the command is hexadecimal": a byte in two digits
unfoldable pub hex_digit : ℕ → ℕ
hex_digit n = cond (ltb n 10) (48 + n) (55 + n)

abbrev pub hex : ℕ → List ℕ
hex b = hex_digit (b / 16) ∷ hex_digit (b % 16) ∷ []

-- ---- lines
-- what follows the first word of a line: further words, a space before each, and the line feed
unfoldable pub ending : List (List ℕ) → List ℕ
ending [] = 10 ∷ []
ending (w ∷ ws) = 32 ∷ (w ++ ending ws)

-- "command, `ok` or `no` number, returned value if any"; 111 107 is `ok`, 110 111 `no`, 101 110 100 `end`, 115 117 109 `sum`, 45 the minus sign
unfoldable pub answer_line : (byte : ℕ) → Said → List ℕ
answer_line byte ok = hex byte ++ ending ((111 ∷ 107 ∷ []) ∷ [])
answer_line byte (ok_with v) = hex byte ++ ending ((111 ∷ 107 ∷ []) ∷ decimal v ∷ [])
answer_line byte (no n) = hex byte ++ ending ((110 ∷ 111 ∷ []) ∷ decimal n ∷ [])

-- "`end` len, idx, out_len, max_ops, successful"; max_ops is signed
unfoldable pub counters_line : (len idx out-len max-ops : ℕ) (successful : Bool) → List ℕ
counters_line len idx out-len max-ops successful =
    101 ∷ 110 ∷ 100 ∷ ending (decimal len ∷ decimal idx ∷ decimal out-len ∷ signed max-ops ∷ decimal (cond successful 1 0) ∷ [])

unfoldable pub end_line : Account ℕ → List ℕ
end_line a = counters_line (len a) (idx a) (out_length a) a.state.limits.max_ops a.state.limits.successful

-- "done `o`, passed `p`, input `i`: glyph, cluster, mask, var0, var1"; "Glyph lines end with the origin." (document 02, N8)
unfoldable pub glyph_line : (kind : ℕ) → Glyph ℕ → List ℕ
glyph_line kind g =
    kind ∷ ending (map decimal (g.glyph ∷ g.info.cluster ∷ g.info.mask ∷ g.info.var0 ∷ g.info.var1 ∷ g.info.origin ∷ []))

-- "positions `x`, five words", of which the first four are signed
unfoldable pub position_line : Position → List ℕ
position_line q = 120 ∷ ending (signed q.x_advance ∷ signed q.y_advance ∷ signed q.x_offset ∷ signed q.y_offset ∷ decimal q.var ∷ [])

-- done `o`, passed `p`, input `i`, positions `x`
unfoldable pub item_line : Item → List ℕ
item_line (OfDone g) = glyph_line 111 (seen g)
item_line (OfPassed g) = glyph_line 112 (seen g)
item_line (OfRest g) = glyph_line 105 (seen g)
item_line (OfPosition q) = position_line q

-- "a line `sum`": glyph lines, groups, glyph lines with mask bit 0
unfoldable pub sum_line : Totals → List ℕ
sum_line t = 115 ∷ 117 ∷ 109 ∷ ending (decimal t.lines ∷ decimal t.groups ∷ decimal t.marked ∷ [])

-- the lines printed at the end of a run: those of document 01 ..
unfoldable pub lines_above : Account ℕ → List (List ℕ)
lines_above a = end_line a ∷ map item_line (items a)

-- .. and "as the last line of all" the line `sum`: "Each number equals what a reader counts from the lines above it."
unfoldable pub last_line : Account ℕ → List ℕ
last_line a = sum_line (read_totals (lines_above a))

unfoldable pub report_lines : Account ℕ → List (List ℕ)
report_lines a = lines_above a ++ (last_line a ∷ [])

unfoldable pub report : Account ℕ → List ℕ
report a = flat_map (λ l. l) (report_lines a)

-- of a buffer; there are none of one that contradicts itself
unfoldable pub reported : Buffer → (first second : List ℕ) → List (List ℕ)
reported b f s = cond (sound b f s) (report_lines (account b f s)) []

-- the k-th of some lines; past the last, nothing
abbrev pub line_of : ℕ → List (List ℕ) → List ℕ
line_of k ls = get_or ls k []

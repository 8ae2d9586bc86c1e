-- The counters that no list shows (allocated size, max_len, max_ops, successful, serial, pushes), and the lengths of the lent slices.
use Rattle.std.specs.Prelude.{◌+◌, ◌-◌, ◌*◌, ◌/◌, ◌%◌, ◌&&◌}
use Rattle.records.specs.Library.{ℕ, suc, min, max, Bool, true, false, cond, not, eqb, leb}
use Rattle.records.specs.declared.Limits.{Limits}

-- "two word slices of equal length"; "Lent slices are now six words a glyph, as refusal 1 reads" (document 02, N8): the capacity of a slice of this length
unfoldable pub capacity_of : ℕ → ℕ
capacity_of words = words / 6

unfoldable pub words_for : (capacity : ℕ) → ℕ  -- how long the slices for a capacity are
words_for capacity = 6 * capacity

-- what refusal 1 reads of the slices: "unequal, not whole glyphs, too long", for "at most 1,048,576 glyphs"
unfoldable pub rightly_lent : (m n : ℕ) → Bool  -- the lengths of both
rightly_lent m n = eqb m n && (eqb (m % 6) 0 && leb (capacity_of m) 1048576)

-- "wrapping in 32 signed bits as a release build does": a signed number is held as its word, which is below 0 from 2^31 on
unfoldable pub wrapping_sub : (x n : ℕ) → ℕ
wrapping_sub x n = (x + 4294967296 - n % 4294967296) % 4294967296

unfoldable pub is_negative : ℕ → Bool
is_negative x = leb 2147483648 x

-- "allocated 0, `serial` 0, `successful` true, `max_len` 1,073,741,823, `max_ops` 536,870,911"
unfoldable pub fresh_limits : Limits
fresh_limits = record { allocated = 0; max_len = 1073741823; max_ops = 536870911; successful = true; serial = 0; pushes = 0 }

-- "Costs n": "`max_ops` falls by n, wrapping in 32 signed bits as a release build does; below 0 sets `successful` false."
unfoldable pub costs : ℕ → Limits → Limits
costs n l =
    let ops = wrapping_sub l.max_ops n in
    let ok = l.successful && not (is_negative ops) in
    record { allocated = l.allocated; max_len = l.max_len; max_ops = ops; successful = ok; serial = l.serial; pushes = l.pushes }

-- "gives up (`successful` false)"
unfoldable pub failed : Limits → Limits
failed l = record { allocated = l.allocated; max_len = l.max_len; max_ops = l.max_ops; successful = false; serial = l.serial; pushes = l.pushes }

-- "nothing if n ≤ allocated", and "else allocated becomes n"
unfoldable pub grown : ℕ → Limits → Limits
grown n l =
    let size = max n l.allocated in
    record { allocated = size; max_len = l.max_len; max_ops = l.max_ops; successful = l.successful; serial = l.serial; pushes = l.pushes }

unfoldable pub limited : (most ops : ℕ) → Limits → Limits  -- another `max_len` and `max_ops`, and `serial` 0
limited most ops l = record { allocated = l.allocated; max_len = most; max_ops = ops; successful = l.successful; serial = 0; pushes = l.pushes }

-- "`enter`: `max_len` = max(256 × len, 65,536); `max_ops` = max(4,096 × len, 65,536), kept if the product exceeds 2^31 − 1; `serial` 0."
unfoldable pub after_enter : (len : ℕ) → Limits → Limits
after_enter len l = limited (max (256 * len) 65536) (cond (leb (4096 * len) 2147483647) (max (4096 * len) 65536) l.max_ops) l

-- "`leave`: all three as fresh."
unfoldable pub after_leave : Limits → Limits
after_leave l = limited fresh_limits.max_len fresh_limits.max_ops l

unfoldable pub with_serial : ℕ → Limits → Limits
with_serial s l =
    record { allocated = l.allocated; max_len = l.max_len; max_ops = l.max_ops; successful = l.successful; serial = s; pushes = l.pushes }

-- "`next_serial` skips 0."
unfoldable pub next_serial : ℕ → ℕ
next_serial s = let t = suc s % 256 in cond (eqb t 0) 1 t

-- "`allocate_lig_id` draws until the low three bits, the id, are nonzero": 8k is followed by 8k + 1, so a second draw is the last
unfoldable pub lig_serial : ℕ → ℕ
lig_serial s = let t = next_serial s in cond (eqb (t % 8) 0) (next_serial t) t

-- "Accepted pushes that store a glyph are numbered from 1 since fresh; past number 4,294,967,295 a pushed glyph gets 0 and the count stays." (document 02, N8)
unfoldable pub next_push : Limits → ℕ  -- the number of the next one
next_push l = cond (eqb l.pushes 4294967295) 0 (suc l.pushes)

unfoldable pub counted : Limits → Limits  -- one more
counted l =
    let n = min (suc l.pushes) 4294967295 in
    record { allocated = l.allocated; max_len = l.max_len; max_ops = l.max_ops; successful = l.successful; serial = l.serial; pushes = n }

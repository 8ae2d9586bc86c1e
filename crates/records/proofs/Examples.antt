-- Document 01's examples, as far as counters and single glyphs go.
use mathlib.Core.{Path.◌≡◌, Path.refl, Bool.true, Bool.false, List.[], List.◌∷◌}
use Rattle.std.proofs.Common.{ℕ}
use Rattle.records.specs.declared.Limits.{Limits}
use Rattle.records.specs.Bytes.{words_of}
use Rattle.records.specs.Counters.{capacity_of, words_for, rightly_lent, fresh_limits, costs, after_enter, after_leave, lig_serial}
use Rattle.records.specs.Glyphs.{Info, zero_position, set_cluster}
use Rattle.records.proofs.Executable.{executable}

-- `max_ops` at m, and n paid
paid : ℕ → ℕ → Limits
paid m n = costs n (record { allocated = 0; max_len = 0; max_ops = m; successful = true; serial = 0; pushes = 0 })

marked : ℕ → ℕ → Info
marked m c = record { mask = m; cluster = c; var0 = 0; var1 = 0; origin = 0; position = zero_position }

-- below 0 the cost fails; past −2^31 the word comes back above 0
wraps : ((paid 3 3).successful ≡ true) × ((paid 2147483647 0).successful ≡ true) × ((paid 3 4).max_ops ≡ 4294967295) × ((paid 3 4).successful ≡ false) × ((paid 2147483648 1).max_ops ≡ 2147483647) × ((paid 3 4294967297).max_ops ≡ 2)
unfolding paid executable
wraps = (refl, refl, refl, refl, refl, refl)

-- ★2, ★4: `enter`; and `leave` after it
enters : ((after_enter 16 fresh_limits).max_ops ≡ 65536) × ((after_enter 17 fresh_limits).max_ops ≡ 69632) × ((after_enter 524287 fresh_limits).max_ops ≡ 2147479552) × ((after_enter 524288 fresh_limits).max_ops ≡ 536870911)
unfolding executable
enters = (refl, refl, refl, refl)

leaves : after_leave (after_enter 300 fresh_limits) ≡ fresh_limits
unfolding executable
leaves = refl

-- ★5
draws : (lig_serial 7 ≡ 9) × (lig_serial 255 ≡ 1) × (lig_serial 0 ≡ 1)
unfolding executable
draws = (refl, refl, refl)

-- mask 13 keeps what is above its low three bits; where the cluster is the same nothing changes
clusters : (set_cluster 4 6 (marked 13 5) ≡ marked 14 4) × (set_cluster 5 6 (marked 13 5) ≡ marked 13 5)
unfolding marked executable
clusters = (refl, refl)

slices : (rightly_lent 12288 12288 ≡ true) × (capacity_of 12288 ≡ 2048) × (words_for 2048 ≡ 12288) × (rightly_lent 12 18 ≡ false) × (rightly_lent 10 10 ≡ false) × (rightly_lent 6291456 6291456 ≡ true) × (rightly_lent 6291462 6291462 ≡ false)
unfolding executable
slices = (refl, refl, refl, refl, refl, refl, refl)

-- "four bytes, low byte first"; two bytes more are no word
words : words_of (99 ∷ 0 ∷ 0 ∷ 0 ∷ 4 ∷ 3 ∷ 2 ∷ 1 ∷ 7 ∷ 8 ∷ []) ≡ 99 ∷ 16909060 ∷ []
unfolding executable
words = refl

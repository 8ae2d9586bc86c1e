-- Bounds of the flag forms.
use mathlib.Core.{Path.◌≡◌, Path.ap}
use Rattle.std.proofs.Common.{ℕ, ◌+◌, ◌-◌, ◌%◌, ◌<◌, ◌≤◌, ltb, le_refl, arith}
use Rattle.std.specs.Prelude.{Option, None, Some}
use Rattle.edits.specs.Flags.{too_far, end_of}

-- d is e - s, modulo 2^64
pub too-far : (s e d : ℕ) → s < 18446744073709551616 → e < 18446744073709551616 → d < 18446744073709551616 → (d + s) % 18446744073709551616 ≡ e → ltb 255 d ≡ too_far (Some s) (Some e)
unfolding too_far
too-far s e d hs he hd h = ap (ltb 255) (by_number s e d hs he hd h)
  where
    by_number : (s e d : ℕ) → s < 18446744073709551616 → e < 18446744073709551616 → d < 18446744073709551616 → (d + s) % 18446744073709551616 ≡ e → d ≡ (e + 18446744073709551616 - s) % 18446744073709551616
    by_number s e d hs he hd h = omega arith

pub end-most : (e : Option ℕ) (n : ℕ) → end_of e n ≤ n
unfolding end_of
end-most None n = le_refl n
end-most (Some e) n = omega arith

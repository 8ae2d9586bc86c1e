-- The account that slices hold: the output, and the input from place `gone` to place `len` of the run, with the cursor at `idx`.
use mathlib.Core.{List.List}
use Rattle.std.specs.Prelude.{ℕ}
use lib.{ListN.take, Seq.slice}
use Rattle.records.specs.{Glyphs.Glyph, Ranges.clusters, Counters.costs}
use Rattle.lists.specs.Account.{Account, State, with_limits}

unfoldable pub holds : (run out : List (Glyph ℕ)) (gone idx len out_length : ℕ) → State → Account ℕ
holds run out gone idx len out_length k = record { done = take out_length out; passed = slice gone idx run; rest = slice idx len run; state = k }

-- what `paying n` does to the state
abbrev pub paid : ℕ → State → State
paid n k = with_limits (costs n k.limits) k

-- the clusters of the first n glyphs
abbrev pub cut : ℕ → List (Glyph ℕ) → List ℕ
cut n l = take n (clusters l)

-- Examples of the cursor's calls, on small accounts.
use mathlib.Core.{Path.◌≡◌, Path.refl, List.List, List.[], List.◌∷◌}
use Prim.Native.Nat.{ℕ}
use Rattle.records.specs.{Phase, Plain, Output, Spoiled, WrongPhase, OutOfRange, OverCapacity, Counters.fresh_limits, Counters.failed, Counters.costs, Counters.grown, Counters.limited, Glyphs.Glyph, Glyphs.blank}
use Rattle.lists.specs.Account.{Account, limiting, len, idx}
use Rattle.lists.specs.Account.{refused, accepted, answered}
use Rattle.lists.specs.Cursor.{next_glyphs, skip_glyph, sync, move_to}
use Rattle.lists.proofs.Executable.{executable}

g : ℕ → Glyph ℕ
g n = record { glyph = n; info = blank n }

-- a buffer with room for three
holding : Phase → ℕ → List (Glyph ℕ) → List (Glyph ℕ) → List (Glyph ℕ) → Account ℕ
holding p gone done passed rest = record { done = done; passed = passed; rest = rest; state = record { phase = p; gone = gone; limits = grown 3 fresh_limits; level = 0; wants = 0 } }

-- ★7: run A, then B and C written; `move_to` 0 costs 3
starred-7 : move_to 2048 0 (holding Output 0 (g 66 ∷ g 67 ∷ []) [] (g 65 ∷ [])) ≡ answered 1 (limiting (costs 2) (limiting (costs 1) (holding Output 0 [] [] (g 66 ∷ g 67 ∷ g 65 ∷ []))))
unfolding g holding executable
starred-7 = refl

-- with one glyph of the input gone and three written, back by two: `len` and `idx` grow by one first
grows : move_to 2048 1 (holding Output 1 (g 1 ∷ g 2 ∷ g 3 ∷ []) [] (g 4 ∷ [])) ≡ answered 1 (limiting (costs 2) (limiting (costs 1) (holding Output 0 (g 1 ∷ []) [] (g 2 ∷ g 3 ∷ g 4 ∷ []))))
unfolding g holding executable
grows = refl

-- the growth stays where the second cost fails: `max_ops` 2, then 1, then below 0
stays : move_to 2048 1 (limiting (costs 536870909) (holding Output 1 (g 1 ∷ g 2 ∷ g 3 ∷ []) [] (g 4 ∷ []))) ≡ answered 0 (limiting (costs 2) (limiting (costs 536870910) (holding Output 2 (g 1 ∷ g 2 ∷ g 3 ∷ []) [] (g 4 ∷ []))))
unfolding g holding executable
stays = refl

-- forward, within the run
forth : move_to 2048 2 (holding Output 1 (g 1 ∷ []) [] (g 2 ∷ g 3 ∷ [])) ≡ answered 1 (limiting (costs 1) (holding Output 2 (g 1 ∷ g 2 ∷ []) [] (g 3 ∷ [])))
unfolding g holding executable
forth = refl

-- refusal 2 before 3 before 5
order : (next_glyphs 3 9 (holding Spoiled 2 [] [] []) ≡ refused WrongPhase) × (next_glyphs 3 2 (holding Output 0 (g 1 ∷ g 2 ∷ g 3 ∷ []) [] (g 4 ∷ [])) ≡ refused OutOfRange) × (next_glyphs 3 1 (holding Output 0 (g 1 ∷ g 2 ∷ g 3 ∷ []) [] (g 4 ∷ [])) ≡ refused OverCapacity)
unfolding g holding executable
order = (refl, refl, refl)

-- a size of `max_len` is there, one more gives up, and is no refusal 5
limit : Account ℕ → Account ℕ
limit a = limiting (limited 4 7) a

sizes : (next_glyphs 3 1 (limit (holding Output 0 (g 1 ∷ g 2 ∷ g 3 ∷ []) [] (g 4 ∷ []))) ≡ refused OverCapacity) × (next_glyphs 4 1 (limit (holding Output 0 (g 1 ∷ g 2 ∷ g 3 ∷ []) [] (g 4 ∷ []))) ≡ accepted (limiting (grown 4) (limit (holding Output 1 (g 1 ∷ g 2 ∷ g 3 ∷ g 4 ∷ []) [] [])))) × (next_glyphs 4 2 (limit (holding Output 0 (g 1 ∷ g 2 ∷ g 3 ∷ []) [] (g 4 ∷ g 5 ∷ []))) ≡ accepted (limiting failed (limit (holding Output 0 (g 1 ∷ g 2 ∷ g 3 ∷ []) [] (g 4 ∷ g 5 ∷ [])))))
unfolding g holding limit executable
sizes = (refl, refl, refl)

-- a failed `sync` keeps `len`, and a good one makes *done* the run
synced : (sync 2048 (limiting failed (holding Output 1 (g 1 ∷ []) [] (g 2 ∷ []))) ≡ answered 0 (limiting failed (holding Spoiled 2 [] [] []))) × (sync 2048 (holding Output 1 (g 1 ∷ []) [] (g 2 ∷ [])) ≡ answered 1 (holding Plain 0 [] [] (g 1 ∷ g 2 ∷ [])))
unfolding g holding executable
synced = (refl, refl)

-- `skip_glyph` drops with output, and passes without
skips : (skip_glyph (holding Output 0 [] [] (g 1 ∷ g 2 ∷ [])) ≡ accepted (holding Output 1 [] [] (g 2 ∷ []))) × (skip_glyph (holding Plain 0 [] (g 1 ∷ []) (g 2 ∷ g 3 ∷ [])) ≡ accepted (holding Plain 0 [] (g 1 ∷ g 2 ∷ []) (g 3 ∷ [])))
unfolding g holding executable
skips = (refl, refl)

-- a spoiled buffer has its `len`, and `idx` 0
spoiled : (len (holding Spoiled 2 [] [] []) ≡ 2) × (idx (holding Spoiled 2 [] [] []) ≡ 0)
unfolding holding executable
spoiled = (refl, refl)

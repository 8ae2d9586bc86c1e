-- Examples of the edits, on small accounts.
use mathlib.Core.{Path.◌≡◌, Path.refl, Bool.true, List.List, List.[], List.◌∷◌}
use Rattle.std.specs.Prelude.{Some}
use Rattle.std.proofs.Common.{ℕ}
use Rattle.records.specs.{Phase, Plain, Output, InputPlace, OutOfRange, BadOperand, OverCapacity, Counters.fresh_limits, Counters.costs, Counters.grown, Glyphs.Glyph, Glyphs.zero_position}
use Rattle.lists.specs.{Account.Account, Account.limiting, Account.refused, Account.accepted}
use Rattle.edits.specs.Writing.{copy_glyph, output_glyph, replace_glyphs}
use Rattle.edits.specs.Merging.{merge_input, merge_done, clusters_merge}
use Rattle.edits.specs.Deleting.{delete_glyph}
use Rattle.edits.specs.Flags.{plain_form, outbuffer_form}
use Rattle.edits.specs.WholeRun.{set_masks, sort}
use Rattle.edits.specs.Groups.{propagate_flags}
use Rattle.edits.proofs.Executable.{executable}

-- glyph, cluster, mask, var0
g : ℕ → ℕ → ℕ → ℕ → Glyph ℕ
g n c m v = record { glyph = n; info = record { mask = m; cluster = c; var0 = v; var1 = 0; origin = 0; position = zero_position } }

holding : Phase → ℕ → ℕ → List (Glyph ℕ) → List (Glyph ℕ) → Account ℕ
holding p wants gone done rest = record { done = done; passed = []; rest = rest; state = record { phase = p; gone = gone; limits = grown 4 fresh_limits; level = 0; wants = wants } }

run : List (Glyph ℕ) → Account ℕ
run l = holding Plain 0 0 [] l

at : ℕ → InputPlace
at n = record { 0 = n }

-- ★6, and the equal tail of *done*
merges : (merge_input clusters_merge (at 0) (at 2) (run (g 1 2 0 0 ∷ g 2 3 7 0 ∷ g 3 3 0 0 ∷ [])) ≡ accepted (limiting (costs 2) (run (g 1 2 0 0 ∷ g 2 2 0 0 ∷ g 3 2 0 0 ∷ [])))) × (merge_input clusters_merge (at 2) (at 4) (holding Output 0 2 (g 1 1 0 0 ∷ g 2 4 0 0 ∷ []) (g 3 4 0 0 ∷ g 4 3 0 0 ∷ [])) ≡ accepted (limiting (costs 2) (holding Output 0 2 (g 1 1 0 0 ∷ g 2 3 0 0 ∷ []) (g 3 3 0 0 ∷ g 4 3 0 0 ∷ []))))
unfolding g holding run at executable
merges = (refl, refl)

-- a merge in *done* that reaches its end takes the equal head of *rest*
merges-out : merge_done clusters_merge (record { 0 = 0 }) (record { 0 = 2 }) (holding Output 0 1 (g 1 2 0 0 ∷ g 2 5 0 0 ∷ []) (g 3 5 0 0 ∷ g 4 6 0 0 ∷ [])) ≡ accepted (limiting (costs 2) (holding Output 0 1 (g 1 2 0 0 ∷ g 2 2 0 0 ∷ []) (g 3 2 0 0 ∷ g 4 6 0 0 ∷ [])))
unfolding g holding executable
merges-out = refl

-- ★8
sorts : sort (at 0) (at 3) 0 4294967295 (run (g 1 0 0 2 ∷ g 2 1 0 1 ∷ g 3 2 0 1 ∷ [])) ≡ accepted (limiting (costs 2) (limiting (costs 2) (run (g 2 0 0 1 ∷ g 3 0 0 1 ∷ g 1 0 0 2 ∷ []))))
unfolding g holding run at executable
sorts = refl

-- ★9
propagates : propagate_flags (holding Plain 3 0 [] (g 1 5 1 0 ∷ g 2 5 4 0 ∷ [])) ≡ accepted (holding Plain 3 0 [] (g 1 5 1 0 ∷ g 2 5 1 0 ∷ []))
unfolding g holding executable
propagates = refl

-- traps: the 255 test comes before the clamp; cluster 4,294,967,295 stays out of a range that starts above 0
far : (plain_form true true 3 (Some (at 0)) (Some (at 300)) (run (g 1 0 0 0 ∷ g 2 1 0 0 ∷ [])) ≡ accepted (run (g 1 0 0 0 ∷ g 2 1 0 0 ∷ []))) × (plain_form true true 3 (Some (at 0)) (Some (at 255)) (run (g 1 0 0 0 ∷ g 2 1 0 0 ∷ [])) ≡ accepted (run (g 1 0 0 0 ∷ g 2 1 3 0 ∷ [])))
unfolding g holding run at executable
far = (refl, refl)

masks : set_masks 1 1 1 4294967295 (run (g 1 5 0 0 ∷ g 2 4294967295 0 0 ∷ [])) ≡ accepted (limiting (costs 2) (run (g 1 5 1 0 ∷ g 2 4294967295 0 0 ∷ [])))
unfolding g holding run executable
masks = refl

-- a lone glyph of *done* is marked if it is not of m
flags-out : outbuffer_form true true 3 (Some (record { 0 = 0 })) (Some (at 1)) (holding Output 0 0 (g 8 5 0 0 ∷ g 9 1 0 0 ∷ []) (g 1 3 0 0 ∷ [])) ≡ accepted (holding Output 0 0 (g 8 5 3 0 ∷ g 9 1 0 0 ∷ []) (g 1 3 3 0 ∷ []))
unfolding g holding at executable
flags-out = refl

-- the dropped mask goes with the cluster
deletes : delete_glyph (holding Output 0 0 (g 8 9 1 0 ∷ []) (g 1 5 6 0 ∷ [])) ≡ accepted (holding Output 0 1 (g 8 5 6 0 ∷ []) [])
unfolding g holding executable
deletes = refl

-- copies are of the first of *rest*, after the merge of what is replaced; 3 before 4 before 5
writes : (replace_glyphs 4 2 1 (99 ∷ []) (holding Output 0 0 [] (g 1 4 0 0 ∷ g 2 3 0 0 ∷ [])) ≡ accepted (limiting (costs 2) (holding Output 0 2 (g 99 3 0 0 ∷ []) []))) × (replace_glyphs 4 2 9 [] (holding Output 0 0 [] (g 1 4 0 0 ∷ [])) ≡ refused OutOfRange) × (replace_glyphs 4 1 9 [] (holding Output 0 0 [] (g 1 4 0 0 ∷ [])) ≡ refused BadOperand) × (replace_glyphs 0 1 5 (1 ∷ 2 ∷ 3 ∷ 4 ∷ 5 ∷ []) (holding Output 0 0 [] (g 1 4 0 0 ∷ [])) ≡ refused OverCapacity)
unfolding g holding executable
writes = (refl, refl, refl, refl)

copies : (copy_glyph 4 (holding Output 0 0 [] (g 1 4 7 2 ∷ [])) ≡ accepted (holding Output 0 0 (g 1 4 7 2 ∷ []) (g 1 4 7 2 ∷ []))) × (output_glyph 4 9 (holding Output 0 1 (g 1 4 7 2 ∷ []) []) ≡ accepted (holding Output 0 1 (g 1 4 7 2 ∷ g 9 4 7 2 ∷ []) []))
unfolding g holding executable
copies = (refl, refl)

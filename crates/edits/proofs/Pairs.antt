-- Glyphs with their positions, in parts.
use mathlib.Core.{Path.◌≡◌, Path.refl, Path.ap, List.List, List.[], List.◌∷◌}
use Rattle.std.proofs.Common.{ℕ, zero, suc, ◌<◌, length, get_or, set, le_of_suc-le-suc, not-suc-le-zero}
use Rattle.records.specs.{Position, Glyphs.Glyph, Glyphs.change, Glyphs.with_cluster, Glyphs.with_position, Glyphs.zero_position, Ranges.edit, View.paired}
use Rattle.edits.specs.{inner.Fills.repositioned, WholeRun.set_position, WholeRun.numbered}

pub paired-numbered : (k : ℕ) (l : List (Glyph ℕ)) (ps : List Position) → paired (numbered k l) ps ≡ numbered k (paired l ps)
unfolding paired numbered change with_cluster with_position
paired-numbered k [] ps = refl
paired-numbered k (g ∷ l) [] = ap {B = List (Glyph ℕ)} (λ r. change (with_cluster k) g ∷ r) (paired-numbered (suc k) l [])
paired-numbered k (g ∷ l) (p ∷ ps) = ap {B = List (Glyph ℕ)} (λ r. change (with_cluster k) (change (with_position p) g) ∷ r) (paired-numbered (suc k) l ps)

-- four numbers of one position
pub paired-placed : (xa ya xo yo i : ℕ) (l : List (Glyph ℕ)) (ps : List Position) → i < length l → i < length ps
    → paired l (set ps i (repositioned xa ya xo yo (get_or ps i zero_position))) ≡ edit i (suc i) (set_position xa ya xo yo) (paired l ps)
unfolding paired edit set_position repositioned change with_position
paired-placed xa ya xo yo i [] ps h k = absurd (not-suc-le-zero h)
paired-placed xa ya xo yo i (g ∷ l) [] h k = absurd (not-suc-le-zero k)
paired-placed xa ya xo yo zero (g ∷ l) (p ∷ ps) h k = refl
paired-placed xa ya xo yo (suc i) (g ∷ l) (p ∷ ps) h k = ap {B = List (Glyph ℕ)} (λ r. change (with_position p) g ∷ r) (paired-placed xa ya xo yo i l ps (le_of_suc-le-suc h) (le_of_suc-le-suc k))

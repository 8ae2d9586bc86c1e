-- What the functions that merge say, over the glyphs of whole slices. Places count in the slices: the account counts them from `gone` on.
use mathlib.Core.{Path.◌≡◌, Bool.Bool, Bool.true, Bool.false, Bool.cond, Bool.◌&&◌, List.List}
use Rattle.std.specs.Bool.{then_some}
use Rattle.std.specs.Prelude.{Option, None, Some, ℕ, ◌+◌, ◌-◌, ◌<◌, ◌≤◌}
use lib.{ListN.length, Seq.slice}
use Rattle.records.specs.{Glyphs.Glyph, Glyphs.set_cluster, Ranges.clusters, Ranges.edit, Ranges.is, Ranges.isnt, Ranges.least, Ranges.first_cluster, Ranges.last_cluster, Ranges.heads, Ranges.tails, View.glyphs}
use Rattle.edits.specs.declared.Plan.{Plan}
use Rattle.edits.specs.Merging.{merge_start, merge_end, out_start, out_end}
use Rattle.edits.specs.inner.Holding.{cut}

-- ---- a merge in the input
-- s..e is a range of the first len glyphs, and m its least cluster
pub record MergeRange (l : List (Glyph ℕ)) (len s e m : ℕ) : Type 0 where
  pub order : s < e
  pub inside : e ≤ len
  pub fits : len ≤ length l
  pub lowest : m ≡ least (slice s e (clusters l))

-- what a merge finds in the clusters of the input
unfoldable pub merge_plan : ℕ → ℕ → ℕ → List ℕ → Plan
merge_plan cursor s e cs =
    let r = slice s e cs in
    record { lowest = least r; from = merge_start cursor s e cs; to = merge_end s e cs; along = then_some (is cursor (merge_start cursor s e cs) && isnt (least r) (first_cluster r)) (first_cluster r) }

unfoldable pub tail_start : Option ℕ → List ℕ → ℕ → ℕ
tail_start None ds n = n
tail_start (Some c) ds n = n - tails (is c) ds

-- the glyphs that a merge by this plan changes: its range, and the tail of the output
unfoldable pub merged_range : Plan → List (Glyph ℕ) → List (Glyph ℕ)
merged_range p l = edit p.from p.to (set_cluster p.lowest 0) l

unfoldable pub merged_tail : Plan → ℕ → List (Glyph ℕ) → List (Glyph ℕ)
merged_tail p out_length out = edit (tail_start p.along (cut out_length out) out_length) out_length (set_cluster p.lowest 0) out

-- the tail that goes along, in the slice that has the output, and nothing of the other
pub record Tailed (p : Plan) (n : ℕ) (out rest out' rest' : List ℕ) : Type 0 where
  pub is : glyphs out' ≡ merged_tail p n (glyphs out)
  pub rest-is : rest' ≡ rest

-- what a merge writes: with the output apart, and with the output in the run, or none
pub record Written (separate : Bool) (idx len out_length s e : ℕ) (run other run' other' : List ℕ) : Type 0 where
  pub p : Plan
  pub p-is : p ≡ merge_plan idx s e (cut len (glyphs run))
  pub apart : separate ≡ true → (glyphs run' ≡ merged_range p (glyphs run)) × (glyphs other' ≡ merged_tail p out_length (glyphs other))
  pub within : separate ≡ false → (glyphs run' ≡ merged_range p (merged_tail p out_length (glyphs run))) × (other' ≡ other)

-- ---- a merge in the output
unfoldable pub out_plan : ℕ → ℕ → List ℕ → Plan
out_plan s e ds =
    let r = slice s e ds in
    record { lowest = least r; from = out_start s e ds; to = out_end s e ds; along = then_some (is (length ds) (out_end s e ds)) (last_cluster r) }

unfoldable pub head_end : Option ℕ → ℕ → List ℕ → ℕ
head_end None idx cs = idx
head_end (Some c) idx cs = idx + heads (is c) cs

unfoldable pub merged_head : Plan → ℕ → ℕ → List (Glyph ℕ) → List (Glyph ℕ)
merged_head p idx len run = edit idx (head_end p.along idx (slice idx len (clusters run))) (set_cluster p.lowest 0) run

-- what it writes, likewise
pub record OutWritten (separate : Bool) (idx len out_length s e : ℕ) (run other run' other' : List ℕ) : Type 0 where
  pub p : Plan
  pub p-is : p ≡ out_plan s e (cut out_length (glyphs (cond separate other run)))
  pub apart : separate ≡ true → (glyphs run' ≡ merged_head p idx len (glyphs run)) × (glyphs other' ≡ merged_range p (glyphs other))
  pub within : separate ≡ false → (glyphs run' ≡ merged_range p (merged_head p idx len (glyphs run))) × (other' ≡ other)

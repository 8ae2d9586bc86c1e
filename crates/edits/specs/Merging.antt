-- Merging: calls 11 to 14.
use Rattle.std.specs.Prelude.{◌+◌, ◌-◌, ◌&&◌, ◌||◌}
use Rattle.records.specs.Library.{ℕ, Bool, cond, not, leb, ltb, List, length, take, drop, slice}
use Rattle.records.specs.{DonePlace, InputPlace, WrongPhase, OutOfRange, Glyphs.set_cluster, Ranges.clusters, Ranges.edit, Ranges.is, Ranges.isnt, Ranges.least}
use Rattle.records.specs.{Ranges.first_cluster, Ranges.last_cluster, Ranges.heads, Ranges.tails}
use Rattle.lists.specs.Account.{Account, has_output, is_spoiled, input, len, out_length, paying, with_input, with_done, Result, accepted, refuse◌when◌else◌}
use Rattle.edits.specs.Flags.{flag_interior}

-- "If the last is not m, e grows over its equals." s..e is a range of the clusters cs, and m their least in it
unfoldable pub merge_end : (s e : ℕ) (cs : List ℕ) → ℕ
merge_end s e cs = let r = slice s e cs in cond (is (least r) (last_cluster r)) e (e + heads (is (last_cluster r)) (drop e cs))

-- "If the first is not m, s falls over its equals, not below the cursor."
unfoldable pub merge_start : (cursor s e : ℕ) (cs : List ℕ) → ℕ
merge_start cursor s e cs = let r = slice s e cs in cond (is (least r) (first_cluster r)) s (s - tails (is (first_cluster r)) (slice cursor s cs))

-- "If s is the cursor and its cluster is not m, the equal tail of *done* becomes m.": where that tail starts, in the clusters ds of *done*
unfoldable pub merge_tail : (cursor s e : ℕ) (cs ds : List ℕ) → ℕ
merge_tail cursor s e cs ds =
    let r = slice s e cs in
    cond (is cursor (merge_start cursor s e cs) && isnt (least r) (first_cluster r)) (length ds - tails (is (first_cluster r)) ds) (length ds)

-- in *done* "both ends grow over their equals"
unfoldable pub out_start : (s e : ℕ) (ds : List ℕ) → ℕ
out_start s e ds = s - tails (is (first_cluster (slice s e ds))) (take s ds)

unfoldable pub out_end : (s e : ℕ) (ds : List ℕ) → ℕ
out_end s e ds = e + heads (is (last_cluster (slice s e ds))) (drop e ds)

-- "if e reaches `out_len`, the head of *rest* equal to the last done cluster becomes m": where that head ends
unfoldable pub out_head : (s e : ℕ) (ds cs : List ℕ) → ℕ
out_head s e ds cs = cond (is (length ds) (out_end s e ds)) (heads (is (last_cluster (slice s e ds))) cs) 0

-- "Levels 2 and 3 flag instead"; "The grapheme kinds do the same with levels 1 and 3 exchanged."
abbrev pub clusters_merge : ℕ → Bool
clusters_merge level = leb level 1

abbrev pub graphemes_merge : ℕ → Bool
graphemes_merge level = is 0 level || is 3 level

module _ {G : Type 0} where
  -- "Cost e − s; m is the least cluster."; "Then s..e becomes m. A merge gives `set_cluster` mask 0." s and e are places in the list `input`
  unfoldable pub merged : (s e : ℕ) → Account G → Account G
  merged s e a =
      let cs = clusters (input a) in let ds = clusters a.done in let cursor = length a.passed in
      let becomes = set_cluster (least (slice s e cs)) 0 in
      paying (e - s)
      (with_done (edit (merge_tail cursor s e cs ds) (length a.done) becomes a.done)
      (with_input (edit (merge_start cursor s e cs) (merge_end s e cs) becomes (input a)) a))

  unfoldable pub merged_out : (s e : ℕ) → Account G → Account G
  merged_out s e a =
      let cs = clusters (input a) in let ds = clusters a.done in
      let becomes = set_cluster (least (slice s e ds)) 0 in
      paying (e - s)
      (with_done (edit (out_start s e ds) (out_end s e ds) becomes a.done)
      (with_input (edit 0 (out_head s e ds cs) becomes (input a)) a))

  -- "under two glyphs nothing happens. Levels 2 and 3 flag instead (`unsafe_to_break`)", mask bits 0 and 1, with its rule of 255
  unfoldable pub merge : (merges : Bool) (s e : ℕ) → Account G → Account G
  merge merges s e a =
      cond (ltb (e - s) 2) a
      (cond merges (merged s e a)
      (cond (ltb 255 (e - s)) a (flag_interior 3 s e a)))

  -- "under two glyphs, and at levels 2 and 3, nothing happens"
  unfoldable pub merge_out : (merges : Bool) (s e : ℕ) → Account G → Account G
  merge_out merges s e a = cond (ltb (e - s) 2) a (cond merges (merged_out s e a) a)

  -- refusal 3 of a range: "a place or count outside the lists, or a start past its end in one list"; "with output s ≥ `idx`"
  unfoldable pub outside_input : (s e : InputPlace) → Account G → Bool
  outside_input s e a = ltb e.0 s.0 || (ltb (len a) e.0 || ltb s.0 a.state.gone)

  -- `merges` says at which levels
  unfoldable pub merge_input : (ℕ → Bool) → (s e : InputPlace) → Account G → Result G  -- 11, 13
  merge_input merges s e a =
      refuse WrongPhase when is_spoiled a else
      refuse OutOfRange when outside_input s e a else
      accepted (merge (merges a.state.level) (s.0 - a.state.gone) (e.0 - a.state.gone) a)

  unfoldable pub merge_done : (ℕ → Bool) → (s e : DonePlace) → Account G → Result G  -- 12, 14
  merge_done merges s e a =
      refuse WrongPhase when not (has_output a) else
      refuse OutOfRange when ltb e.0 s.0 || ltb (out_length a) e.0 else
      accepted (merge_out (merges a.state.level) s.0 e.0 a)

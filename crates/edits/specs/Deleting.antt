-- Deletion: calls 0F and 21.
use Rattle.std.specs.Prelude.{◌+◌, ◌-◌, ◌&&◌, ◌||◌, ◌++◌}
use Rattle.records.specs.Library.{ℕ, zero, suc, Bool, cond, not, ltb, List, [], length, take, drop, get_or}
use Rattle.records.specs.{WrongPhase, OutOfRange, BadOperand, Glyphs.Info, Glyphs.blank, Glyphs.set_cluster, Glyphs.key, Ranges.infos, Ranges.clusters}
use Rattle.records.specs.{Ranges.edit, Ranges.is, Ranges.first_cluster, Ranges.last_cluster, Ranges.tails}
use Rattle.lists.specs.{Account.Account, Account.with_gone, Account.has_output, Account.with_done, Account.Result, Account.accepted, Account.refuse◌when◌else◌}
use Rattle.lists.specs.{Cursor.dropping}
use Rattle.edits.specs.{WholeRun.not_whole, Merging.merge, Merging.clusters_merge}

-- "the next of *rest* or the last of *done* has c": cs are the clusters of *rest*, of which c is the first, ds those of *done*
unfoldable pub survives : (cs ds : List ℕ) → Bool
survives cs ds = (ltb 1 (length cs) && is (first_cluster cs) (get_or cs 1 0)) || (ltb 0 (length ds) && is (first_cluster cs) (last_cluster ds))

module _ {G : Type 0} where
  unfoldable pub current : Account G → Info  -- of the glyph at the cursor
  current a = get_or (infos a.rest) 0 (blank 0)

  -- "if the last of *done* is above c, its equal tail becomes c, given the dropped mask"
  unfoldable pub inherited : (c mask : ℕ) → Account G → Account G
  inherited c mask a =
      let ds = clusters a.done in
      cond (ltb c (last_cluster ds)) (with_done (edit (length ds - tails (is (last_cluster ds)) ds) (length ds) (set_cluster c mask) a.done) a) a

  -- "if *done* is empty and a next exists, the two are merged"
  unfoldable pub merged_forward : Account G → Account G
  merged_forward a = let k = length a.passed in cond (ltb 1 (length a.rest)) (merge (clusters_merge a.state.level) k (k + 2) a) a

  -- "Let c be the cluster of *rest*'s first, the glyph dropped. Unless the next of *rest* or the last of *done* has c, first this"
  unfoldable pub deleted : Account G → Account G
  deleted a =
      dropping 1
      (cond (survives (clusters a.rest) (clusters a.done)) a
      (cond (ltb 0 (length a.done)) (inherited (current a).cluster (current a).mask a) (merged_forward a)))

  unfoldable pub delete_glyph : Account G → Result G  -- 0F
  delete_glyph a =
      refuse WrongPhase when not (has_output a) else
      refuse OutOfRange when ltb (length a.rest) 1 else
      accepted (deleted a)

  unfoldable pub kept : Account G → Account G  -- the first of *rest* goes behind *done*
  kept a = record { done = a.done ++ take 1 a.rest; passed = a.passed; rest = drop 1 a.rest; state = a.state }

  -- "`delete_glyphs_inplace` does so from left to right, the glyphs kept so far as *done*, those after as *rest*.": on the way *done* has glyphs though the
  -- phase has no output, and `kept_run` ends that; n glyphs are left. "deletion takes key = v"
  unfoldable pub deleted_each : (slot mask v n : ℕ) → Account G → Account G
  deleted_each slot mask v zero a = a
  deleted_each slot mask v (suc n) a = deleted_each slot mask v n (cond (is v (key slot mask (current a))) (deleted a) (kept a))

  unfoldable pub kept_run : Account G → Account G  -- the glyphs kept are the run
  kept_run a = record { done = []; passed = []; rest = a.done; state = with_gone 0 a.state }

  unfoldable pub delete_glyphs_inplace : (slot mask v : ℕ) → Account G → Result G  -- 21
  delete_glyphs_inplace slot mask v a =
      refuse WrongPhase when not_whole a else
      refuse BadOperand when ltb 1 slot else
      accepted (kept_run (deleted_each slot mask v (length a.rest) a))

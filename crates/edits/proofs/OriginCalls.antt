-- The calls of this crate leave the count of pushes, and each origin within it: flags, merging, deletion and writing.
use mathlib.Core.{Bool.Bool, List.List}
use Rattle.std.specs.Prelude.{Option}
use Rattle.std.proofs.Common.{ℕ, zero, suc, ◌≤◌, zero-le}
use Rattle.records.specs.{DonePlace, InputPlace, Glyphs.Glyph, Glyphs.Info, Glyphs.with_origin, Ranges.infos}
use Rattle.records.proofs.Apart.{origin-mask, origin-cluster, origin-set, origin-flagged, origin-unless}
use Rattle.records.proofs.Renaming.{append-map, flip-map}
use Rattle.lists.specs.{Account.Account, Account.with_gone}
use Rattle.lists.proofs.OriginLaws as lists
use Rattle.lists.proofs.OriginLaws.{Within, Drawn, Leaves, within-append, within-reverse, none, within-copies, first-within}
use Rattle.edits.specs.Writing.{written, model, writing, copy_glyph, output_glyph, output_info, replace_glyphs}
use Rattle.edits.specs.Merging.{merged, merge, merged_out, merge_out, merge_input, merge_done}
use Rattle.edits.specs.Deleting.{inherited, merged_forward, deleted, delete_glyph, kept, deleted_each, kept_run, delete_glyphs_inplace}
use Rattle.edits.specs.Flags.{interior, flag_interior, flag_out_interior, flag_all, flag_out_all, plain_form, outbuffer_form}

pub ruleset drawing = (lists.drawing, origin-mask, origin-cluster, origin-set, origin-flagged, origin-unless)

module _ {G : Type 0} {n : ℕ} where
  -- ---- flags
  interior-within : (level m bits i j : ℕ) {l : List (Glyph G)} → Within n l → Within n (interior level m bits i j l)
  unfolding interior
  interior-within level m bits i j w = search drawing

  module _ {a : Account G} (d : Drawn n a) where
    flag-interior : (bits i j : ℕ) → Drawn n (flag_interior bits i j a)
    unfolding flag_interior
    flag-interior bits i j = search (drawing, interior-within)

    flag-out-interior : (bits i j : ℕ) → Drawn n (flag_out_interior bits i j a)
    unfolding flag_out_interior
    flag-out-interior bits i j = search (drawing, interior-within)

    flag-all : (bits i j : ℕ) → Drawn n (flag_all bits i j a)
    unfolding flag_all
    flag-all bits i j = search drawing

    flag-out-all : (bits i j : ℕ) → Drawn n (flag_out_all bits i j a)
    unfolding flag_out_all flag_all
    flag-out-all bits i j = search drawing

  module _ {a : Account G} (d : Drawn n a) where
    pub plain-leaves : (i w : Bool) (bits : ℕ) (s e : Option InputPlace) → Leaves n (plain_form i w bits s e a)
    unfolding plain_form
    plain-leaves i w bits s e = search (drawing, flag-interior, flag-all) depth 9

    pub outbuffer-leaves : (i w : Bool) (bits : ℕ) (s : Option DonePlace) (e : Option InputPlace) → Leaves n (outbuffer_form i w bits s e a)
    unfolding outbuffer_form
    outbuffer-leaves i w bits s e = search (drawing, flag-out-interior, flag-out-all) depth 9

    -- ---- merging
    drawn-merged : (s e : ℕ) → Drawn n (merged s e a)
    unfolding merged
    drawn-merged s e = search drawing depth 9

    drawn-merged-out : (s e : ℕ) → Drawn n (merged_out s e a)
    unfolding merged_out
    drawn-merged-out s e = search drawing depth 9

  module _ {a : Account G} (d : Drawn n a) where
    pub drawn-merge : (b : Bool) (s e : ℕ) → Drawn n (merge b s e a)
    unfolding merge
    drawn-merge b s e = search (drawing, drawn-merged, flag-interior)

    pub merge-leaves : (h : ℕ → Bool) (s e : InputPlace) → Leaves n (merge_input h s e a)
    unfolding merge_input merge
    merge-leaves h s e = search (drawing, drawn-merged, flag-interior) depth 9

    pub merge-out-leaves : (h : ℕ → Bool) (s e : DonePlace) → Leaves n (merge_done h s e a)
    unfolding merge_done merge_out
    merge-out-leaves h s e = search (drawing, drawn-merged-out) depth 9

  -- ---- deletion
  module _ {a : Account G} (d : Drawn n a) where
    drawn-inherited : (c m : ℕ) → Drawn n (inherited c m a)
    unfolding inherited
    drawn-inherited c m = search drawing

    drawn-forward : Drawn n (merged_forward a)
    unfolding merged_forward
    drawn-forward = search (drawing, drawn-merge)

    drawn-kept : Drawn n (kept a)
    unfolding kept
    drawn-kept = search drawing

    drawn-kept-run : Drawn n (kept_run a)
    unfolding kept_run with_gone
    drawn-kept-run = search drawing

  module _ {a : Account G} (d : Drawn n a) where
    drawn-deleted : Drawn n (deleted a)
    unfolding deleted
    drawn-deleted = search (drawing, drawn-inherited, drawn-forward)

    pub delete-leaves : Leaves n (delete_glyph a)
    unfolding delete_glyph deleted
    delete-leaves = search (drawing, drawn-inherited, drawn-forward) depth 9

  drawn-deleted-each : (slot mask v k : ℕ) {a : Account G} → Drawn n a → Drawn n (deleted_each slot mask v k a)
  unfolding deleted_each
  drawn-deleted-each slot mask v zero d = d
  drawn-deleted-each slot mask v (suc k) d = drawn-deleted-each slot mask v k (search (drawing, drawn-deleted, drawn-kept))

  pub delete-each-leaves : {a : Account G} → Drawn n a → (slot mask v : ℕ) → Leaves n (delete_glyphs_inplace slot mask v a)
  unfolding delete_glyphs_inplace
  delete-each-leaves d slot mask v = search (drawing, drawn-kept-run, drawn-deleted-each)

  -- ---- writing
  module _ {a : Account G} (d : Drawn n a) where
    drawn-written : {l : List (Glyph G)} → Within n l → Drawn n (written l a)
    unfolding written
    drawn-written w = search drawing

    model-within : (model a).origin ≤ n
    unfolding model infos
    model-within = rw (flip-map, append-map) (first-within (within-append d.rest (within-reverse d.done none)))

    writing-leaves : (capacity k : ℕ) {b : Account G} → Drawn n b → Leaves n (writing capacity k b a)
    unfolding writing
    writing-leaves capacity k e = search drawing

  module _ {a : Account G} (d : Drawn n a) where
    pub copy-leaves : (capacity : ℕ) → Leaves n (copy_glyph capacity a)
    unfolding copy_glyph
    copy-leaves capacity = search (drawing, writing-leaves, drawn-written) depth 9

    pub output-leaves : (capacity : ℕ) (g : G) → Leaves n (output_glyph capacity g a)
    unfolding output_glyph
    output-leaves capacity g = search (drawing, writing-leaves, drawn-written, within-copies, model-within) depth 9

    pub info-leaves : (capacity : ℕ) (g : G) (i : Info) → Leaves n (output_info capacity g i a)
    unfolding output_info with_origin
    info-leaves capacity g i = search (drawing, writing-leaves, drawn-written, within-copies, zero-le) depth 9

    pub replace-leaves : (capacity num-in num-out : ℕ) (gs : List G) → Leaves n (replace_glyphs capacity num-in num-out gs a)
    unfolding replace_glyphs
    replace-leaves capacity num-in num-out gs = search (drawing, writing-leaves, drawn-written, within-copies, model-within, drawn-merge) depth 12

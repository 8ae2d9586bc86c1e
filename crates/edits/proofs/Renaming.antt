-- Renaming an account: the calls of this crate commute with it.
use mathlib.Core.{Path.◌≡◌, Path.refl, Bool.Bool, List.List, List.[], List.◌∷◌, List.map}
use Rattle.std.specs.Prelude.{Option}
use Rattle.std.proofs.Common.{ℕ, zero, suc}
use lib.{ListN.drop}
use Rattle.records.specs.{DonePlace, InputPlace, Glyphs.Glyph, Glyphs.Info, Glyphs.rename, Glyphs.change}
use Rattle.records.proofs.Renaming.{replicate-map, copy-rename}
use Rattle.lists.specs.{Account.Account, Account.renamed}
use Rattle.lists.proofs.Renaming as lists
use Rattle.lists.proofs.Renaming.{renamed_result}
use Rattle.edits.specs.Writing.{written, model, writing, copy_glyph, output_glyph, output_info, replace_glyphs}
use Rattle.edits.specs.Merging.{outside_input, merged, merge, merged_out, merge_out, merge_input, merge_done}
use Rattle.edits.specs.Deleting.{current, inherited, merged_forward, deleted, delete_glyph, kept, deleted_each, kept_run, delete_glyphs_inplace}
use Rattle.edits.specs.Flags.{interior, flag_interior, flag_out_interior, flag_all, flag_out_all, plain_form, outbuffer_form}
use Rattle.edits.specs.WholeRun.{not_whole, push, set_length, place, set_masks, reverse_run, reverse_range, numbered, reset_clusters, rotated, inserted, sorted, sort}
use Rattle.edits.specs.Groups.{regrouped, merged_each, propagated, reverse_clusters, reverse_graphemes, form_clusters, propagate_flags}

module _ {G H : Type 0} (f : G → H) where
  -- ---- places and parts
  module _ (a : Account G) where
    outside_input-rename : (s e : InputPlace) → outside_input s e (renamed f a) ≡ outside_input s e a
    unfolding outside_input
    outside_input-rename s e = simp lists.renaming

    not_whole-rename : not_whole (renamed f a) ≡ not_whole a
    unfolding not_whole
    not_whole-rename = simp lists.renaming

    model-rename : model (renamed f a) ≡ model a
    unfolding model
    model-rename = simp lists.renaming

    current-rename : current (renamed f a) ≡ current a
    unfolding current
    current-rename = simp lists.renaming

    kept-rename : kept (renamed f a) ≡ renamed f (kept a)
    unfolding renamed kept
    kept-rename = simp lists.renaming

    kept_run-rename : kept_run (renamed f a) ≡ renamed f (kept_run a)
    unfolding renamed kept_run
    kept_run-rename = refl

    module _ (l : List (Glyph G)) where
      written-rename : written (map (rename f) l) (renamed f a) ≡ renamed f (written l a)
      unfolding renamed written
      written-rename = simp lists.renaming

  ruleset parts = (lists.renaming, outside_input-rename, not_whole-rename, model-rename, current-rename, kept-rename, kept_run-rename, written-rename)

  -- ---- flags
  interior-rename : (v m bits i j : ℕ) (l : List (Glyph G)) → interior v m bits i j (map (rename f) l) ≡ map (rename f) (interior v m bits i j l)
  unfolding interior
  interior-rename v m bits i j l = simp parts

  module _ (bits i j : ℕ) (a : Account G) where
    flag_interior-rename : flag_interior bits i j (renamed f a) ≡ renamed f (flag_interior bits i j a)
    unfolding flag_interior
    flag_interior-rename = simp (parts, interior-rename)

    flag_out_interior-rename : flag_out_interior bits i j (renamed f a) ≡ renamed f (flag_out_interior bits i j a)
    unfolding flag_out_interior
    flag_out_interior-rename = simp (parts, interior-rename)

    flag_all-rename : flag_all bits i j (renamed f a) ≡ renamed f (flag_all bits i j a)
    unfolding flag_all
    flag_all-rename = simp parts

  flag_out_all-rename : (bits i j : ℕ) (a : Account G) → flag_out_all bits i j (renamed f a) ≡ renamed f (flag_out_all bits i j a)
  unfolding flag_out_all
  flag_out_all-rename bits i j a = simp (parts, flag_all-rename)

  pub plain_form-rename : (i w : Bool) (bits : ℕ) (s e : Option InputPlace) (a : Account G) → plain_form i w bits s e (renamed f a) ≡ renamed_result f (plain_form i w bits s e a)
  unfolding plain_form
  plain_form-rename i w bits s e a = simp (parts, flag_interior-rename, flag_all-rename)

  pub outbuffer_form-rename : (i w : Bool) (bits : ℕ) (s : Option DonePlace) (e : Option InputPlace) (a : Account G) → outbuffer_form i w bits s e (renamed f a) ≡ renamed_result f (outbuffer_form i w bits s e a)
  unfolding outbuffer_form
  outbuffer_form-rename i w bits s e a = simp (parts, flag_out_interior-rename, flag_out_all-rename)

  -- ---- merging
  merged-rename : (s e : ℕ) (a : Account G) → merged s e (renamed f a) ≡ renamed f (merged s e a)
  unfolding merged
  merged-rename s e a = simp parts

  merge-rename : (b : Bool) (s e : ℕ) (a : Account G) → merge b s e (renamed f a) ≡ renamed f (merge b s e a)
  unfolding merge
  merge-rename b s e a = simp (parts, merged-rename, flag_interior-rename)

  merged_out-rename : (s e : ℕ) (a : Account G) → merged_out s e (renamed f a) ≡ renamed f (merged_out s e a)
  unfolding merged_out
  merged_out-rename s e a = simp parts

  merge_out-rename : (b : Bool) (s e : ℕ) (a : Account G) → merge_out b s e (renamed f a) ≡ renamed f (merge_out b s e a)
  unfolding merge_out
  merge_out-rename b s e a = simp (parts, merged_out-rename)

  pub merge_input-rename : (b : ℕ → Bool) (s e : InputPlace) (a : Account G) → merge_input b s e (renamed f a) ≡ renamed_result f (merge_input b s e a)
  unfolding merge_input
  merge_input-rename b s e a = simp (parts, merge-rename)

  pub merge_done-rename : (b : ℕ → Bool) (s e : DonePlace) (a : Account G) → merge_done b s e (renamed f a) ≡ renamed_result f (merge_done b s e a)
  unfolding merge_done
  merge_done-rename b s e a = simp (parts, merge_out-rename)

  -- ---- deletion
  inherited-rename : (c m : ℕ) (a : Account G) → inherited c m (renamed f a) ≡ renamed f (inherited c m a)
  unfolding inherited
  inherited-rename c m a = simp parts

  merged_forward-rename : (a : Account G) → merged_forward (renamed f a) ≡ renamed f (merged_forward a)
  unfolding merged_forward
  merged_forward-rename a = simp (parts, merge-rename)

  deleted-rename : (a : Account G) → deleted (renamed f a) ≡ renamed f (deleted a)
  unfolding deleted
  deleted-rename a = simp (parts, inherited-rename, merged_forward-rename)

  deleted_each-rename : (slot mask v n : ℕ) (a : Account G) → deleted_each slot mask v n (renamed f a) ≡ renamed f (deleted_each slot mask v n a)
  unfolding deleted_each
  deleted_each-rename slot mask v zero a = refl
  deleted_each-rename slot mask v (suc n) a = simp (parts, deleted-rename) (deleted_each-rename slot mask v n _)

  -- ---- writing
  writing-rename : (capacity n : ℕ) (b a : Account G) → writing capacity n (renamed f b) (renamed f a) ≡ renamed_result f (writing capacity n b a)
  unfolding writing
  writing-rename capacity n b a = simp parts

  -- ---- groups
  numbered-rename : (n : ℕ) (l : List (Glyph G)) → numbered n (map (rename f) l) ≡ map (rename f) (numbered n l)
  unfolding numbered rename change
  numbered-rename n [] = refl
  numbered-rename n (g ∷ l) = simp (numbered-rename (suc n) l)

  regrouped-rename : (ns : List ℕ) (l : List (Glyph G)) → regrouped ns (map (rename f) l) ≡ map (rename f) (regrouped ns l)
  unfolding regrouped
  regrouped-rename [] l = refl
  regrouped-rename (n ∷ ns) l = simp (parts, regrouped-rename ns (drop n l))

  merged_each-rename : (b : Bool) (ns : List ℕ) (s : ℕ) (a : Account G) → merged_each b ns s (renamed f a) ≡ renamed f (merged_each b ns s a)
  unfolding merged_each
  merged_each-rename b [] s a = refl
  merged_each-rename b (n ∷ ns) s a = rw merge-rename (merged_each-rename b ns _ _)

  propagated-rename : (w : ℕ) (ns : List ℕ) (s : ℕ) (l : List (Glyph G)) → propagated w ns s (map (rename f) l) ≡ map (rename f) (propagated w ns s l)
  unfolding propagated
  propagated-rename w [] s l = refl
  propagated-rename w (n ∷ ns) s l = simp parts (propagated-rename w ns _ _)

  -- ---- sorting
  rotated-rename : (j i : ℕ) (l : List (Glyph G)) → rotated j i (map (rename f) l) ≡ map (rename f) (rotated j i l)
  unfolding rotated
  rotated-rename j i l = simp parts

  inserted-rename : (j i : ℕ) (a : Account G) → inserted j i (renamed f a) ≡ renamed f (inserted j i a)
  unfolding inserted
  inserted-rename j i a = simp (parts, merge-rename, rotated-rename)

  sorted-rename : (slot mask s n i : ℕ) (a : Account G) → sorted slot mask s n i (renamed f a) ≡ renamed f (sorted slot mask s n i a)
  unfolding sorted
  sorted-rename slot mask s zero i a = refl
  sorted-rename slot mask s (suc n) i a = simp (parts, inserted-rename) (sorted-rename slot mask s n (suc i) _)

  ruleset acts = (parts, merge-rename, deleted-rename, deleted_each-rename, writing-rename, numbered-rename, regrouped-rename, merged_each-rename, propagated-rename, sorted-rename)

  -- ---- calls
  module _ (a : Account G) where
    pub push-rename : (capacity : ℕ) (g : G) (cluster : ℕ) → push capacity (f g) cluster (renamed f a) ≡ renamed_result f (push capacity g cluster a)
    unfolding push
    push-rename capacity g cluster = simp (acts, copy-rename f)

    pub set_length-rename : (z : G) (capacity n : ℕ) → set_length (f z) capacity n (renamed f a) ≡ renamed_result f (set_length z capacity n a)
    unfolding set_length
    set_length-rename z capacity n = simp (acts, replicate-map f)

    pub place-rename : (i : InputPlace) (xa ya xo yo : ℕ) → place i xa ya xo yo (renamed f a) ≡ renamed_result f (place i xa ya xo yo a)
    unfolding place
    place-rename i xa ya xo yo = simp acts

    pub copy_glyph-rename : (capacity : ℕ) → copy_glyph capacity (renamed f a) ≡ renamed_result f (copy_glyph capacity a)
    unfolding copy_glyph
    copy_glyph-rename capacity = simp acts

    pub output_glyph-rename : (capacity : ℕ) (g : G) → output_glyph capacity (f g) (renamed f a) ≡ renamed_result f (output_glyph capacity g a)
    unfolding output_glyph
    output_glyph-rename capacity g = simp (acts, copy-rename f)

    pub output_info-rename : (capacity : ℕ) (g : G) (i : Info) → output_info capacity (f g) i (renamed f a) ≡ renamed_result f (output_info capacity g i a)
    unfolding output_info
    output_info-rename capacity g i = simp (acts, copy-rename f)

    pub replace_glyphs-rename : (capacity i o : ℕ) (gs : List G) → replace_glyphs capacity i o (map f gs) (renamed f a) ≡ renamed_result f (replace_glyphs capacity i o gs a)
    unfolding replace_glyphs
    replace_glyphs-rename capacity i o gs = simp acts

    pub delete_glyph-rename : delete_glyph (renamed f a) ≡ renamed_result f (delete_glyph a)
    unfolding delete_glyph
    delete_glyph-rename = simp acts

    module _ (s e : InputPlace) where
      pub reverse_range-rename : reverse_range s e (renamed f a) ≡ renamed_result f (reverse_range s e a)
      unfolding reverse_range
      reverse_range-rename = simp acts

      pub sort-rename : (slot mask : ℕ) → sort s e slot mask (renamed f a) ≡ renamed_result f (sort s e slot mask a)
      unfolding sort
      sort-rename slot mask = simp acts

    pub set_masks-rename : (v m s e : ℕ) → set_masks v m s e (renamed f a) ≡ renamed_result f (set_masks v m s e a)
    unfolding set_masks
    set_masks-rename v m s e = simp acts

    pub reverse_run-rename : reverse_run (renamed f a) ≡ renamed_result f (reverse_run a)
    unfolding reverse_run
    reverse_run-rename = simp acts

    pub reverse_clusters-rename : reverse_clusters (renamed f a) ≡ renamed_result f (reverse_clusters a)
    unfolding reverse_clusters
    reverse_clusters-rename = simp acts

    pub reset_clusters-rename : reset_clusters (renamed f a) ≡ renamed_result f (reset_clusters a)
    unfolding reset_clusters
    reset_clusters-rename = simp acts

    pub propagate_flags-rename : propagate_flags (renamed f a) ≡ renamed_result f (propagate_flags a)
    unfolding propagate_flags
    propagate_flags-rename = simp acts

    module _ (slot mask : ℕ) where
      pub reverse_graphemes-rename : reverse_graphemes slot mask (renamed f a) ≡ renamed_result f (reverse_graphemes slot mask a)
      unfolding reverse_graphemes
      reverse_graphemes-rename = simp acts

      pub form_clusters-rename : form_clusters slot mask (renamed f a) ≡ renamed_result f (form_clusters slot mask a)
      unfolding form_clusters
      form_clusters-rename = simp acts

      pub delete_glyphs_inplace-rename : (v : ℕ) → delete_glyphs_inplace slot mask v (renamed f a) ≡ renamed_result f (delete_glyphs_inplace slot mask v a)
      unfolding delete_glyphs_inplace
      delete_glyphs_inplace-rename v = simp acts

-- Renaming a call, and a list of calls.
use mathlib.Core.{Path.◌≡◌, Path.refl, Path.ap, Path.◌∙◌, List.List, List.[], List.◌∷◌, List.map}
use Prim.Native.Nat.{ℕ}
use lib.{ListN.get_or, ListN.get_or-map}
use Rattle.records.specs.{Refusal}
use Rattle.lists.specs.{Account.Account, Account.renamed, Account.Result, Account.refused, Account.accepted, Account.answered, Account.Outcome, Account.outcome}
use Rattle.lists.proofs.Renaming.{renamed_result, state-rename, refused-rename, refuse-rename, fresh-rename, enter-rename, leave-rename, allocate_lig_id-rename, clear_output-rename, clear_positions-rename, next_glyphs-rename, skip_glyph-rename, sync-rename, move_to-rename}
use Rattle.edits.proofs.Renaming.{copy_glyph-rename, delete_glyph-rename, delete_glyphs_inplace-rename, form_clusters-rename, merge_done-rename, merge_input-rename, outbuffer_form-rename, output_glyph-rename, output_info-rename, place-rename, plain_form-rename, propagate_flags-rename, push-rename, replace_glyphs-rename, reset_clusters-rename, reverse_clusters-rename, reverse_graphemes-rename, reverse_range-rename, reverse_run-rename, set_length-rename, set_masks-rename, sort-rename}
use Rattle.commands.specs.Calls.{Call, Worded, perform, step, run, c00-fresh, c01-push, c02-set-length, c03-clear-output, c04-sync, c05-clear-positions, c06-place, c07-next-glyph, c08-next-glyphs, c09-skip-glyph, c0A-copy-glyph, c0B-output-glyph, c0C-output-info, c0D-replace-glyph, c0E-replace-glyphs, c0F-delete-glyph, c10-move-to, c11-merge-clusters, c12-merge-out-clusters, c13-merge-grapheme-clusters, c14-merge-out-grapheme-clusters, c15-unsafe-to-break, c16-unsafe-to-concat, c17-safe-to-insert-tatweel, c18-unsafe-to-break-from-outbuffer, c19-unsafe-to-concat-from-outbuffer, c1A-set-masks, c1B-reverse, c1C-reverse-range, c1D-reverse-clusters, c1E-reverse-graphemes, c1F-reset-clusters, c20-sort, c21-delete-glyphs-inplace, c22-form-clusters, c23-propagate-flags, c24-enter, c25-leave, c26-allocate-lig-id}
use Rattle.commands.specs.Claims.{renamed_outcome, reworded}

module _ {G H : Type 0} (f : G → H) where
  outcome-rename : (a : Account G) (x : Result G) → outcome (renamed f a) (renamed_result f x) ≡ renamed_outcome f (outcome a x)
  unfolding outcome renamed_result renamed_outcome
  outcome-rename a (refused r) = refl
  outcome-rename a (accepted b) = refl
  outcome-rename a (answered v b) = refl

  pub refused-outcome : (a : Account G) (why : Refusal) → outcome (renamed f a) (refused why) ≡ renamed_outcome f (outcome a (refused why))
  refused-outcome a why = ap (outcome (renamed f a)) (refused-rename f why) ∙ outcome-rename a (refused why)

module _ {G H : Type 0} (f : G → H) (z : G) where
  get_or-rename : (gs : List G) → get_or (map f gs) 0 (f z) ≡ f (get_or gs 0 z)
  get_or-rename gs = get_or-map f gs 0 z

  ruleset calls = (get_or-rename, state-rename, fresh-rename, enter-rename, leave-rename, allocate_lig_id-rename, clear_output-rename, clear_positions-rename, next_glyphs-rename, skip_glyph-rename, sync-rename, move_to-rename, copy_glyph-rename, delete_glyph-rename, delete_glyphs_inplace-rename, form_clusters-rename, merge_done-rename, merge_input-rename, outbuffer_form-rename, place-rename, plain_form-rename, propagate_flags-rename, replace_glyphs-rename, reset_clusters-rename, reverse_clusters-rename, reverse_graphemes-rename, reverse_range-rename, reverse_run-rename, set_masks-rename, sort-rename)

  -- every call
  perform-rename : (capacity : ℕ) (c : Call) (gs : List G) (a : Account G) → perform (f z) capacity c (map f gs) (renamed f a) ≡ renamed_result f (perform z capacity c gs a)
  unfolding perform
  perform-rename capacity (c00-fresh level wants) gs a = simp calls
  perform-rename capacity (c01-push cluster) gs a = simp (calls, push-rename f)
  perform-rename capacity (c02-set-length n) gs a = simp (set_length-rename f)
  perform-rename capacity c03-clear-output gs a = simp calls
  perform-rename capacity c04-sync gs a = simp calls
  perform-rename capacity c05-clear-positions gs a = simp calls
  perform-rename capacity (c06-place i xa ya xo yo) gs a = simp calls
  perform-rename capacity c07-next-glyph gs a = simp calls
  perform-rename capacity (c08-next-glyphs n) gs a = simp calls
  perform-rename capacity c09-skip-glyph gs a = simp calls
  perform-rename capacity c0A-copy-glyph gs a = simp calls
  perform-rename capacity c0B-output-glyph gs a = simp (calls, output_glyph-rename f)
  perform-rename capacity (c0C-output-info mask cluster var0 var1) gs a = simp (calls, output_info-rename f)
  perform-rename capacity c0D-replace-glyph gs a = rw get_or-rename (replace_glyphs-rename f a capacity 1 1 (get_or gs 0 z ∷ []))
  perform-rename capacity (c0E-replace-glyphs num-in num-out) gs a = simp calls
  perform-rename capacity c0F-delete-glyph gs a = simp calls
  perform-rename capacity (c10-move-to i) gs a = simp calls
  perform-rename capacity (c11-merge-clusters s e) gs a = simp calls
  perform-rename capacity (c12-merge-out-clusters s e) gs a = simp calls
  perform-rename capacity (c13-merge-grapheme-clusters s e) gs a = simp calls
  perform-rename capacity (c14-merge-out-grapheme-clusters s e) gs a = simp calls
  perform-rename capacity (c15-unsafe-to-break s e) gs a = simp calls
  perform-rename capacity (c16-unsafe-to-concat s e) gs a = simp calls
  perform-rename capacity (c17-safe-to-insert-tatweel s e) gs a = simp calls
  perform-rename capacity (c18-unsafe-to-break-from-outbuffer s e) gs a = simp calls
  perform-rename capacity (c19-unsafe-to-concat-from-outbuffer s e) gs a = simp calls
  perform-rename capacity (c1A-set-masks value mask s e) gs a = simp calls
  perform-rename capacity c1B-reverse gs a = simp calls
  perform-rename capacity (c1C-reverse-range s e) gs a = simp calls
  perform-rename capacity c1D-reverse-clusters gs a = simp calls
  perform-rename capacity (c1E-reverse-graphemes slot mask) gs a = simp calls
  perform-rename capacity c1F-reset-clusters gs a = simp calls
  perform-rename capacity (c20-sort s e slot mask) gs a = simp calls
  perform-rename capacity (c21-delete-glyphs-inplace slot mask v) gs a = simp calls
  perform-rename capacity (c22-form-clusters slot mask) gs a = simp calls
  perform-rename capacity c23-propagate-flags gs a = simp calls
  perform-rename capacity c24-enter gs a = simp calls
  perform-rename capacity c25-leave gs a = simp calls
  perform-rename capacity c26-allocate-lig-id gs a = simp calls

  pub step-rename : (first second : ℕ) (w : Worded G) (a : Account G) → step (f z) first second (reworded f w) (renamed f a) ≡ renamed_outcome f (step z first second w a)
  unfolding step reworded
  step-rename first second w a = rw (perform-rename, refuse-rename) (outcome-rename f a _)

  -- every list of calls
  pub run-rename : (first second : ℕ) (ws : List (Worded G)) (a : Account G) → run (f z) first second (map (reworded f) ws) (renamed f a) ≡ map (renamed_outcome f) (run z first second ws a)
  unfolding run renamed_outcome
  run-rename first second [] a = refl
  run-rename first second (w ∷ ws) a = rw step-rename (ap {B = List (Outcome H)} (λ r. renamed_outcome f (step z first second w a) ∷ r) (run-rename first second ws _))

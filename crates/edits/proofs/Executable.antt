-- To unfold `executable` is to unfold every definition of this crate and of those below it: for theorems that compute.
use Rattle.lists.proofs.Executable as lists
use Rattle.edits.specs.Writing.{written, model, writing, copy_glyph, output_glyph, output_info, replace_glyphs}
use Rattle.edits.specs.Merging.{merge_end, merge_start, merge_tail, out_start, out_end, out_head, merged, merged_out, merge, merge_out, outside_input, merge_input, merge_done}
use Rattle.edits.specs.Deleting.{survives, current, inherited, merged_forward, deleted, delete_glyph, kept, deleted_each, kept_run, delete_glyphs_inplace}
use Rattle.edits.specs.Flags.{search_level, sought, place_number, too_far, start_of, end_of, interior, flag_interior, flag_out_interior, flag_all, flag_out_all, plain_form, outbuffer_form}
use Rattle.edits.specs.WholeRun.{set_position, masked, goal, not_whole, push, set_length, place, set_masks, reverse_run, reverse_range, numbered, reset_clusters, rotated, inserted, sorted, sort}
use Rattle.edits.specs.Groups.{joins, group_sizes, joined, settled_mask, regrouped, merged_each, propagated, reverse_clusters, reverse_graphemes, form_clusters, propagate_flags}

unfoldable pub executable : Unit {0}
unfolding lists.executable written model writing copy_glyph output_glyph output_info replace_glyphs merge_end merge_start merge_tail out_start out_end out_head merged merged_out merge merge_out outside_input merge_input merge_done survives current inherited merged_forward deleted delete_glyph kept deleted_each kept_run delete_glyphs_inplace search_level sought place_number too_far start_of end_of interior flag_interior flag_out_interior flag_all flag_out_all plain_form outbuffer_form set_position masked goal not_whole push set_length place set_masks reverse_run reverse_range numbered reset_clusters rotated inserted sorted sort joins group_sizes joined settled_mask regrouped merged_each propagated reverse_clusters reverse_graphemes form_clusters propagate_flags
executable = tt

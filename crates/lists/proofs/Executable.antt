-- To unfold `executable` is to unfold every definition of this crate and of those below it: for theorems that compute.
use Rattle.records.proofs.Executable as records
use Rattle.lists.specs.Account.{read_level, in_phase, with_gone, with_limits, renamed, has_output, has_positions, is_spoiled, input, len, idx, out_length, positions, fresh_account, limiting, paying, failing, sized, with_input, with_done, with_rest}
use Rattle.lists.specs.Account.{refuse◌when◌else◌, outcome, needing}
use Rattle.lists.specs.Cursor.{fresh, enter, leave, allocate_lig_id, moved, dropping, back, cursor_at, growing, output_as_run, spoiling, without_positions, opened, positioned, clear_output, clear_positions, next_glyphs, skip_glyph, sync, pays_for, forward, goes_back, backward, move_to}
use Rattle.lists.specs.Contract.{items}

unfoldable pub executable : Unit {0}
unfolding records.executable read_level in_phase with_gone with_limits renamed has_output has_positions is_spoiled input len idx out_length positions fresh_account limiting paying failing sized with_input with_done with_rest outcome refuse◌when◌else◌ needing fresh enter leave allocate_lig_id moved dropping back cursor_at growing output_as_run spoiling without_positions opened positioned clear_output clear_positions next_glyphs skip_glyph sync pays_for forward goes_back backward move_to items
executable = tt

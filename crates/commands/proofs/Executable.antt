-- To unfold `executable` is to unfold every definition of this crate and of those below it: for theorems that compute.
use Rattle.edits.proofs.Executable as edits
use Rattle.commands.specs.Calls.{perform, step, run}
use Rattle.commands.specs.Calls.{mapped, words, operand, input_place, done_place, bound, forms, read_form, read_up_to, run_read, run_bytes}
use Rattle.commands.specs.Claims.{renamed_outcome, reworded, over_operands, as_it_is, renamed_number, renamed_form, renamed_up_to, renamed_bytes}
use Rattle.commands.specs.{Lines.digits, Lines.decimal, Lines.signed, Lines.hex_digit, Lines.ending, Lines.answer_line, Lines.counters_line, Lines.end_line, inner.Writes.end_line_of, Lines.glyph_line, Lines.position_line, Lines.item_line, Lines.sum_line, Lines.lines_above, Lines.last_line, Lines.report_lines, Lines.report}
use Rattle.commands.specs.Totals.{read_on, number_of, onto, parted, fields}
use Rattle.commands.specs.Totals.{is_glyph_kind, read_line, plus, starts, counted, counted_below, read_totals}
use Rattle.commands.specs.Runs.{last_of}
use Rattle.commands.specs.Texts.{from_space, without_glyph, layout_record, command_bytes, answer_lines, answers, exam_run, last_account, exam_text, desk_text}
use Rattle.commands.specs.{Reading.operands_of, Reading.count, Reading.made, inner.Orders.order_at, Reading.worded_of, Reading.reading_of}

unfoldable pub executable : Unit {0}
unfolding edits.executable perform step run mapped words operand input_place done_place bound forms read_form read_up_to run_read run_bytes renamed_outcome reworded over_operands as_it_is renamed_number renamed_form renamed_up_to renamed_bytes digits decimal signed hex_digit ending answer_line counters_line end_line end_line_of glyph_line position_line item_line sum_line lines_above last_line report_lines report read_on number_of onto parted fields is_glyph_kind read_line plus starts counted counted_below read_totals last_of from_space without_glyph layout_record command_bytes answer_lines answers exam_run last_account exam_text desk_text operands_of count made order_at worded_of reading_of
executable = tt

-- What each call of the list comes to.
use Rattle.std.specs.Prelude.{ℕ}
use Rattle.lists.specs.Account.{Account, Result}
use Rattle.lists.specs.Cursor.{clear_output, next_glyphs, move_to, sync}
use Rattle.edits.specs.{WholeRun.push, Writing.output_glyph, Merging.merge_input, Merging.clusters_merge}
use Rattle.try_commands.specs.declared.calls.Call.{Call}
use Rattle.try_commands.specs.declared.calls.Call.TheVariants.{Push, ClearOutput, Sync, NextGlyphs, OutputGlyph, MoveTo, MergeClusters}

unfoldable pub comes_to : Call → ℕ → Account ℕ → Result ℕ
comes_to (Push number cluster) = λ capacity a. push capacity number cluster a
comes_to ClearOutput = λ capacity a. clear_output a
comes_to Sync = λ capacity a. sync capacity a
comes_to (NextGlyphs n) = λ capacity a. next_glyphs capacity n a
comes_to (OutputGlyph number) = λ capacity a. output_glyph capacity number a
comes_to (MoveTo i) = λ capacity a. move_to capacity i a
comes_to (MergeClusters start end) = λ capacity a. merge_input clusters_merge start end a

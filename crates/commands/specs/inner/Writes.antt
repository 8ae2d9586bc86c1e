-- What a writer has written, and the line `end` from a buffer's own counters.
use mathlib.Core.{Path.◌≡◌, Bool.cond, List.List}
use Rattle.std.specs.Prelude.{ℕ}
use lib.{ListN.length}
use Rattle.lists.specs.{Account.spoiled_phase, declared.Buffer.Buffer}
use Rattle.commands.specs.{Lines.counters_line, Texts.Wrote, declared.writer.Writer.Writer}

-- these bytes, from its place on, into the slice that it has
pub record Puts (bytes : List ℕ) (w w' : Writer) : Type 0 where
  pub same : w'.out.ghost_name ≡ w.out.ghost_name
  pub size : length w'.out.now ≡ length w.out.now
  pub wrote : Wrote bytes w.out.now w.at w'.at w'.out.now

-- spoiled, `idx` is 0
unfoldable pub end_line_of : Buffer → List ℕ
end_line_of b = counters_line b.len.0 (cond (spoiled_phase b.phase) 0 b.idx.0) b.out_len.0 b.limits.max_ops b.limits.successful

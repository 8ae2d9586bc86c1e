-- With these laws, renamed, on the function in place of the answers, the check does not close them.
use Rattle.commands.specs.Lines.{ending}
use Rattle.commands.proofs.Writes.{glyph-put, writing}
use Rattle.commands.proofs.lines.write_glyph.Goals as goal

pub returns-clause-puts : goal.returns-clause-puts
unfolding ending
returns-clause-puts c = search (glyph-put, writing) depth 10

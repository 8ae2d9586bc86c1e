-- With these laws, renamed, on the function in place of the answers, the check does not close them.
use Rattle.commands.specs.Lines.{ending, counters_line}
use Rattle.commands.proofs.Writes.{counters-put, writing}
use Rattle.commands.proofs.lines.BufferLine.write.Goals as goal

pub returns-clause-puts : goal.returns-clause-puts
unfolding counters_line ending
returns-clause-puts c = search (counters-put, writing) depth 10

-- With these laws named on the function in place of the answers, the check does not close them.
use Rattle.commands.specs.Lines.{ending, sum_line}
use Rattle.commands.proofs.Writes.{writing}
use Rattle.commands.proofs.lines.TotalsLine.write.Goals as goal

pub returns-clause-puts : goal.returns-clause-puts
unfolding sum_line ending
returns-clause-puts c = search writing depth 9

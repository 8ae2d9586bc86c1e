-- With these laws named on the function in place of the answers, the check does not close them.
use Rattle.commands.specs.Lines.{ending, position_line}
use Rattle.commands.proofs.Writes.{writing}
use Rattle.commands.proofs.lines.write_position.Goals as goal

pub returns-clause-puts : goal.returns-clause-puts
unfolding position_line ending
returns-clause-puts c = search writing depth 9

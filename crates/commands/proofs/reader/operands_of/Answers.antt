use Rattle.commands.proofs.Readings.{no-command, past}
use Rattle.commands.proofs.reader.operands_of.Goals as goal

pub returns-in_default : goal.returns-in_default
returns-in_default c = no-command _ (past 39 c.args.byte (search))

use Rattle.std.proofs.Common.{sym, rules, ◌∙◌}
use Rattle.commands.proofs.Readings.{reads-unknown}
use Rattle.commands.proofs.reader.read_command.Goals as goal

pub returns-in_err-n : goal.returns-in_err-n
returns-in_err-n c = rw c.from_residual-in_err-n.ensures (reads-unknown (search rules) (search rules) (sym c.operands_of.ensures ∙ c.in_err-n.was))

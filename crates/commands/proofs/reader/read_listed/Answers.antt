use Rattle.std.proofs.Common.{rules, arith}
use Rattle.commands.proofs.Readings.{listed-ordered}
use Rattle.commands.proofs.reader.read_listed.Goals as goal

pub returns : goal.returns
returns c = rw (c.order.ensures, c.word-m.ensures) (listed-ordered _ _ _ (search rules) (omega (arith, c.word-m.ensures, c.if-left-m.false)))

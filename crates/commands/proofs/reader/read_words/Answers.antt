use Rattle.std.proofs.Common.{rules, arith}
use Rattle.commands.proofs.Readings.{words-ordered}
use Rattle.commands.proofs.reader.read_words.Goals as goal

pub returns : goal.returns
returns c = rw c.order.ensures (words-ordered _ _ _ _ (search rules) (omega arith))

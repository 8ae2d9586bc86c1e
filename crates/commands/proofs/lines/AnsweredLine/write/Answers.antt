use Rattle.std.proofs.Common.{rules}
use Rattle.commands.specs.Lines.{ending, answer_line}
use Rattle.commands.proofs.Writes.{said-ok, said-value, writing}
use Rattle.commands.proofs.lines.AnsweredLine.write.Goals as goal

pub returns-in-Ok-None-clause-puts : goal.returns-in-Ok-None-clause-puts
unfolding answer_line ending
returns-in-Ok-None-clause-puts c = rw (said-ok c.in-Ok-None.is (search rules)) (search writing)

pub returns-in-Ok-Some-clause-puts : goal.returns-in-Ok-Some-clause-puts
unfolding answer_line ending
returns-in-Ok-Some-clause-puts c = rw (said-value {v = c.in-Ok-Some.v} c.in-Ok-Some.is (search rules)) (search writing depth 7)

pub returns-in-Err-clause-puts : goal.returns-in-Err-clause-puts
unfolding answer_line ending
returns-in-Err-clause-puts c = rw (c.in-Err.is, ← c.from.ensures) (search writing depth 7)

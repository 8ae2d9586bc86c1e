use Rattle.commands.specs.Calls.{bound, forms, input_place, done_place, operand, perform}
use Rattle.commands.specs.Reading.{operands_of, count, made, ordered}
use Rattle.commands.proofs.CallLaws.{last_byte}
use Rattle.std.proofs.Common.{rules, arith}
use Rattle.commands.proofs.calls.prepare.Goals as goal

pub returns-in_default : goal.returns-in_default
unfolding bound forms input_place done_place operand perform operands_of count made ordered
returns-in_default c = record { meets = λ gs. rw (last_byte 0 6 c.args.o.byte (omega arith) (c.requires.0) (search)) (search rules) }

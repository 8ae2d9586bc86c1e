use Rattle.commands.specs.Calls.{bound, forms, input_place, done_place, operand, perform}
use Rattle.commands.specs.Reading.{operands_of, count, made, ordered}
use Rattle.commands.proofs.CallLaws.{last_byte}
use Rattle.std.proofs.Common.{rules}
use Rattle.commands.proofs.calls.flag.Goals as goal

pub returns-in_default : goal.returns-in_default
unfolding bound forms input_place done_place operand perform operands_of count made ordered
returns-in_default c = record { meets = λ gs. rw (last_byte 21 4 c.args.o.byte (c.requires.0) (c.requires.1) (search)) (search rules) }

use Rattle.commands.specs.Calls.{bound, forms, input_place, done_place, operand, perform}
use Rattle.commands.specs.Reading.{operands_of, count, made, ordered, worded_of}
use Rattle.commands.proofs.CallLaws.{last_byte}
use Rattle.std.proofs.Common.{rules}
use Rattle.commands.proofs.calls.write.Goals as goal

pub returns-in_default : goal.returns-in_default
unfolding bound forms input_place done_place operand perform operands_of count made ordered worded_of
returns-in_default c = rw (last_byte 8 8 c.args.o.byte (c.requires.0) (c.requires.1) (search)) (search rules)

pub replace_glyphs-requires : goal.replace_glyphs-requires
replace_glyphs-requires c = c.requires.2 c.in-14.is

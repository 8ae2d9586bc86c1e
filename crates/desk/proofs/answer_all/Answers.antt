use Rattle.std.proofs.Common.{arith}
use Rattle.commands.proofs.ProgramLaws.{holds-record}
use Rattle.desk.proofs.answer_all.Goals as goal

pub returns : goal.returns
returns c = holds-record c.play_fresh-ran.ensures (omega arith) (omega arith) (c.layout_record.ensures.fills, c.layout_record.ensures.upper_bound)

use Rattle.std.proofs.Common.{arith}
use Rattle.commands.proofs.ProgramLaws.{holds-report}
use Rattle.exam.proofs.answer_all.Goals as goal

pub returns : goal.returns
returns c = holds-report c.play_fresh-ran.ensures (omega arith) (omega arith) (c.report.ensures.fills, c.report.ensures.upper_bound)

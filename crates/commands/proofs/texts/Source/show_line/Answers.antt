use Rattle.commands.proofs.TextLaws.{stands_cut}
use Rattle.commands.proofs.texts.Source.show_line.Goals as goal

pub returns : goal.returns
returns g c = stands_cut c.report_line-end.ensures c.requires c.start-start.ensures c.start-start.auto.line

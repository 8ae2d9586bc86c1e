use Rattle.records.proofs.View.{seen-numbered}
use Rattle.edits.proofs.puts.numbered.Goals as goal

pub returns : goal.returns
returns c = seen-numbered _ _

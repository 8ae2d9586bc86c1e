-- With these laws, renamed, on the function in place of the answers, the check does not close them.
use Rattle.commands.proofs.TextLaws.{filling-more}
use Rattle.commands.proofs.texts.Source.put_text.Goals as goal

pub loop-k-preserved : goal.loop-k-preserved
loop-k-preserved g c = search filling-more

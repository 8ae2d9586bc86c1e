-- With these laws named on the function in place of the answers, the check does not close them.
use Rattle.commands.proofs.TotalLaws.{counting_more}
use Rattle.commands.proofs.counting.totals.Goals as goal

pub loop-k-preserved : goal.loop-k-preserved
loop-k-preserved c = search counting_more

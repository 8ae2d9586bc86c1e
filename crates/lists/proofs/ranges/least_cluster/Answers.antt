-- What is found so far is the least from i on.
-- With these laws named on the function in place of the answers, the check does not close them.
use Rattle.lists.proofs.Runs.{running}
use Rattle.lists.proofs.ranges.least_cluster.Goals as goal

pub loop-i-init : goal.loop-i-init
loop-i-init c = search running

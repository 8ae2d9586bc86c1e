-- All from i up to s are of the cluster.
-- With these laws named on the function in place of the answers, the check does not close them.
use Rattle.lists.proofs.Runs.{running}
use borrow.Author.Rules.{rules}
use Rattle.lists.proofs.ranges.equal_start.Goals as goal

pub returns-then-cluster_at-cluster : goal.returns-then-cluster_at-cluster
returns-then-cluster_at-cluster c = search (running, rules)

pub loop-i-preserved : goal.loop-i-preserved
loop-i-preserved c = search (running, rules)

pub returns : goal.returns
returns c = search (running, rules)

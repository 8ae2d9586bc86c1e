-- None from s up to i is of the cluster.
use Rattle.lists.proofs.Runs.{ahead_more, running}
use borrow.Author.Rules.{rules}
use Rattle.lists.proofs.ranges.other_end.Goals as goal

pub loop-i-preserved : goal.loop-i-preserved
loop-i-preserved c = ahead_more c.loop-i.invariant c.loop-i-test.true (search (running, rules)) _ c.cluster_at.ensures (search (running, rules))

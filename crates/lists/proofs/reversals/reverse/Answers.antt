-- k exchanges are made, and what lies between them is still to turn.
use Rattle.lists.proofs.Turns.{turning-on}
use Rattle.lists.proofs.reversals.reverse.Goals as goal

pub loop-k-preserved : goal.loop-k-preserved
loop-k-preserved g c = turning-on g.T.Stored.blank c.loop-k.invariant c.loop-k-test.true c.swap.ensures

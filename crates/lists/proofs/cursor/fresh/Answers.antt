use Rattle.lists.proofs.Decisions.{ends}
use Rattle.lists.proofs.PhaseCalls.{fresh_meets}
use Rattle.lists.proofs.cursor.fresh.Goals as goal

pub returns : goal.returns
returns c = ends c.settled_as.ensures (fresh_meets _ _ (search) (search))

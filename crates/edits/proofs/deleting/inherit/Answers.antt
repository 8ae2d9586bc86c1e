use Rattle.std.proofs.Common.{rules}
use Rattle.lists.proofs.EitherSlice.{sided-acts}
use Rattle.edits.proofs.DeleteCalls.{inherits-tail}
use Rattle.edits.proofs.deleting.inherit.Goals as goal

pub returns : goal.returns
returns c = inherits-tail _ _ (search rules) c.get-g.ensures c.last_done-d.ensures (search rules) (sided-acts c.act_on.ensures (λ run other run' other' a. record { is = search rules; rest-is = search rules })) c.act_on.auto.first c.act_on.auto.second

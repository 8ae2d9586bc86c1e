use Rattle.std.proofs.Common.{refl, rules}
use Rattle.lists.proofs.EitherSlice.{carries-act, carries-none}
use Rattle.lists.proofs.swapping.carried.Goals as goal
use Rattle.lists.proofs.swapping.carried.Goals.{else-v, then-v}

pub returns : goal.returns
returns g c = elim c.if-v.branch [ then-v w ↦ carries-act c.replied.ensures refl w.if-v.true (search rules) (search rules) (search rules) w.act_on.ensures | else-v w ↦ carries-none c.replied.ensures refl w.if-v.false (search rules) (search rules) (search rules) ]

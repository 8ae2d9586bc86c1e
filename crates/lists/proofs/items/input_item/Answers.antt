use native.Mathlib.Omega.{arith}
use Rattle.lists.proofs.Accounts.{gone-within}
use Rattle.lists.proofs.ItemLaws.{passed-at, rest_at, placed_at}
use Rattle.lists.proofs.items.input_item.Goals as goal

pub overflow_sub-n : goal.overflow_sub-n
overflow_sub-n c = omega (arith, gone-within)

pub returns-then-n-k : goal.returns-then-n-k
returns-then-n-k c = placed_at _ _ _ (search) _ (search) (search) c.position_item.ensures

pub returns-then-from-k : goal.returns-then-from-k
returns-then-from-k c = passed-at _ _ _ (search) _ (search) (search) (search) c.if-from-k.true

pub returns : goal.returns
returns c = rest_at _ _ _ (search) _ (search) (search) (search) c.if-from-k.false

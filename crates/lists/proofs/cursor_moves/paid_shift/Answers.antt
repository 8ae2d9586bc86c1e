use Rattle.lists.proofs.BackCalls.{shifts-ready}
use borrow.Author.Rules.{rules}
use Rattle.lists.proofs.cursor_moves.paid_shift.Goals as goal

pub paid_back-requires : goal.paid_back-requires
paid_back-requires c = shifts-ready _ _ _ _ c.at_places-up.ensures (search rules)

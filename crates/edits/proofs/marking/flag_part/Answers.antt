-- With this law named on the function in place of the answer, the check leaves this goal open.
use Rattle.edits.proofs.MarkLaws.{part-interior}
use Rattle.edits.proofs.marking.flag_part.Goals as goal

pub returns-then-s-e : goal.returns-then-s-e
returns-then-s-e c = part-interior _ _ _ _ _ c.in-Some.is c.mark_interior.ensures

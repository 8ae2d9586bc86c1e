use mathlib.Core.{Path.refl}
use Rattle.lists.proofs.EitherSlice.{carried}
use borrow.Author.Rules.{rules}
use Rattle.lists.proofs.cursor.next_glyphs.Goals as goal

pub returns : goal.returns
returns c = carried c.next_verdict-decision.ensures (λ x v. refl) c.carry_out.ensures (search rules) (search rules) (λ x run other run' other' a. search rules)

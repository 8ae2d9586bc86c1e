use mathlib.Core.{Path.refl}
use Rattle.std.proofs.Common.{rules}
use Rattle.lists.proofs.EitherSlice.{carried, may-act}
use Rattle.edits.specs.inner.Fills.{Placeable}
use Rattle.edits.proofs.Placings.{placeable-turned}
use Rattle.edits.proofs.filling.place.Goals as goal

pub carry_out-requires : goal.carry_out-requires
carry_out-requires c = λ t. may-act (Placeable _) (λ run other. placeable-turned) ((c.place_verdict-decision.ensures.is 0 0 0 0).asked t) (λ p q w. search)

pub returns : goal.returns
returns c = carried (c.place_verdict-decision.ensures.is _ _ _ _) (λ x v. refl) c.carry_out.ensures (search rules) (search rules) (λ x run other run' other' a. search rules)

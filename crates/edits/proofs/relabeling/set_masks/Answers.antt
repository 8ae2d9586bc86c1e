use mathlib.Core.{Path.refl}
use Rattle.std.proofs.Common.{rules}
use Rattle.lists.proofs.EitherSlice.{carried, may-act}
use Rattle.edits.specs.inner.Wholes.{RunOf}
use Rattle.edits.proofs.WholeCalls.{run-turned}
use Rattle.edits.proofs.relabeling.set_masks.Goals as goal

pub carry_out-requires : goal.carry_out-requires
carry_out-requires c = λ t. may-act (RunOf _ _) (λ run other. run-turned) ((c.masks_verdict-decision.ensures.is 0 0 0).asked t) (λ p q w. search rules)

pub returns : goal.returns
returns c = carried (c.masks_verdict-decision.ensures.is _ _ _) (λ x v. refl) c.carry_out.ensures (search rules) (search rules) (λ x run other run' other' a. search rules)

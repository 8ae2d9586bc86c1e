use Rattle.std.proofs.Common.{refl, rules}
use Rattle.lists.proofs.EitherSlice.{carried, may-act}
use Rattle.edits.specs.inner.Fills.{Puttable}
use Rattle.edits.proofs.Lengths.{puttable-turned, was-put}
use Rattle.edits.proofs.filling.push.Goals as goal

pub carry_out-requires : goal.carry_out-requires
carry_out-requires c = λ t. may-act (Puttable _) (λ run other. puttable-turned) ((c.push_verdict-decision.ensures.is 0 0 refl).asked t) (λ p q w. search)

pub returns : goal.returns
returns c = carried (c.push_verdict-decision.ensures.is _ _ c.next_push-origin.ensures) (λ x v. refl) c.carry_out.ensures (search rules) (search rules) (λ x run other run' other' a. search (was-put, rules))

use Rattle.lists.proofs.EitherSlice.{carried, may-act}
use Rattle.edits.specs.inner.MergeActs.{MergeRoom}
use Rattle.edits.proofs.MergeDecisions.{merge-room, merge-turned}
use Rattle.std.proofs.Common.{refl, rules}
use Rattle.edits.proofs.merges.merge_input.Goals as goal

pub carry_out-requires : goal.carry_out-requires
carry_out-requires c = λ t. may-act (MergeRoom _ _ _ _) (λ run other. merge-turned) (merge-room c.merge_verdict-decision.ensures t) (λ p q w. search rules)

pub returns : goal.returns
returns c = record { is = λ at em. carried (c.merge_verdict-decision.ensures.is at em _ c.lies_apart.ensures) (λ x v. refl) c.carry_out.ensures (search rules) (search rules) (λ x run other run' other' a. search rules) }

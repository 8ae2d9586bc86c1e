use Rattle.lists.proofs.EitherSlice.{carried, may-act}
use Rattle.edits.specs.inner.MergeActs.{OutMergeRoom}
use Rattle.edits.proofs.OutCalls.{done-room, out-turned}
use Rattle.std.proofs.Common.{refl, rules}
use Rattle.edits.proofs.merges.merge_done.Goals as goal

pub carry_out-requires : goal.carry_out-requires
carry_out-requires c = λ t. may-act (OutMergeRoom _ _ _ _ _) (λ run other. out-turned) (done-room c.merge_out_verdict-decision.ensures t) (λ p q w. search rules)

pub returns : goal.returns
returns c = record { is = λ at em. carried (c.merge_out_verdict-decision.ensures.is at em) (λ x v. refl) c.carry_out.ensures (search rules) (search rules) (λ x run other run' other' a. search rules) }

use Rattle.std.proofs.Common.{refl, rules}
use Rattle.lists.proofs.EitherSlice.{carried, may-act}
use Rattle.edits.specs.inner.Wholes.{RunOf}
use Rattle.edits.proofs.ReverseCalls.{range-order, range-run}
use Rattle.edits.proofs.WholeCalls.{run-turned}
use Rattle.edits.proofs.reversing.reverse_range.Goals as goal

pub carry_out-requires : goal.carry_out-requires
carry_out-requires c = λ t. let o = range-order c.range_verdict-decision.ensures t in may-act (RunOf _ _) (λ run other. run-turned) (range-run c.range_verdict-decision.ensures t) (λ p q w. search rules)

pub returns : goal.returns
returns c = carried c.range_verdict-decision.ensures.is (λ x v. refl) c.carry_out.ensures (search rules) (search rules) (λ x run other run' other' a. search rules)

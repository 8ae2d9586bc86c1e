use Rattle.std.proofs.Common.{refl, zero-le, rules}
use Rattle.lists.proofs.EitherSlice.{carried, may-act}
use Rattle.edits.specs.inner.Wholes.{RunOf}
use Rattle.edits.proofs.ReverseCalls.{reverse-decided}
use Rattle.edits.proofs.WholeCalls.{takes_run, run-turned}
use Rattle.edits.proofs.reversing.reverse.Goals as goal

pub carry_out-requires : goal.carry_out-requires
carry_out-requires c = λ t. may-act (RunOf _ _) (λ run other. run-turned) (takes_run c.whole_verdict-decision.ensures refl t) (λ p q w. search (zero-le, rules))

pub returns : goal.returns
returns c = carried (reverse-decided c.whole_verdict-decision.ensures) (λ x v. refl) c.carry_out.ensures (search rules) (search rules) (λ x run other run' other' a. search rules)

use mathlib.Core.{Path.refl}
use Rattle.std.proofs.Common.{rules}
use Rattle.lists.proofs.EitherSlice.{carried, may-act}
use Rattle.edits.specs.inner.Wholes.{RunOf}
use Rattle.edits.proofs.WholeCalls.{run-turned}
use Rattle.edits.proofs.Relabelings.{reset-decided}
use Rattle.edits.proofs.relabeling.reset_clusters.Goals as goal

pub carry_out-requires : goal.carry_out-requires
carry_out-requires c = λ t. may-act (RunOf _ _) (λ run other. run-turned) ((reset-decided c.whole_verdict-decision.ensures).asked t) (λ p q w. search rules)

pub returns : goal.returns
returns c = carried (reset-decided c.whole_verdict-decision.ensures) (λ x v. refl) c.carry_out.ensures (search rules) (search rules) (λ x run other run' other' a. search rules)

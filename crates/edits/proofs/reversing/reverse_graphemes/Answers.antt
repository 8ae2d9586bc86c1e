use Rattle.std.proofs.Common.{refl, rules}
use Rattle.lists.proofs.EitherSlice.{may-act}
use Rattle.edits.proofs.EitherSlice.{carried-by}
use Rattle.edits.specs.inner.Wholes.{RunOf}
use Rattle.edits.proofs.{Charging.keyed-run, GraphemeCalls.graphemes-decided, WholeCalls.run-turned}
use Rattle.edits.proofs.reversing.reverse_graphemes.Goals as goal

pub carry_out-requires : goal.carry_out-requires
carry_out-requires c = λ t. may-act (RunOf _ _) (λ run other. run-turned) (keyed-run c.keyed_verdict-decision.ensures refl t) (λ p q w. search rules)

pub returns : goal.returns
returns c = carried-by (graphemes-decided _ c.read_level.ensures refl c.keyed_verdict-decision.ensures) c.carry_out.ensures (search rules) (search rules) (λ x run other run' other' a. search rules)

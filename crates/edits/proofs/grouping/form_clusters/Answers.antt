use mathlib.Core.{Path.refl}
use Rattle.std.proofs.Common.{rules}
use Rattle.lists.proofs.EitherSlice.{may-act}
use Rattle.edits.proofs.EitherSlice.{carried-by}
use Rattle.edits.specs.inner.Wholes.{RunRoom}
use Rattle.edits.proofs.{Charging.keyed-room, MergeEach.form-decided, WholeCalls.room-turned}
use Rattle.edits.proofs.grouping.form_clusters.Goals as goal

pub carry_out-requires : goal.carry_out-requires
carry_out-requires c = λ t. may-act (RunRoom _) (λ run other. room-turned) (keyed-room c.keyed_verdict-decision.ensures refl t) (λ p q w. search rules)

pub returns : goal.returns
returns c = carried-by (form-decided _ c.graphemes_merge.ensures c.keyed_verdict-decision.ensures) c.carry_out.ensures (search rules) (search rules) (λ x run other run' other' a. search rules)

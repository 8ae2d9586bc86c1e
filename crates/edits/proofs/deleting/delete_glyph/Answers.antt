use Rattle.std.proofs.Common.{rules}
use Rattle.lists.proofs.EitherSlice.{may-act}
use Rattle.edits.proofs.EitherSlice.{by-part, carried-by}
use Rattle.edits.specs.inner.Deletes.{DeleteRoom}
use Rattle.edits.proofs.DeleteCalls.{delete-turned}
use Rattle.edits.proofs.deleting.delete_glyph.Goals as goal

pub carry_out-requires : goal.carry_out-requires
carry_out-requires c = λ t. let e = c.clusters_merge.ensures in may-act (DeleteRoom _ _ _) (λ run other. delete-turned) (c.delete_verdict-decision.ensures.asked t) (λ p q w. search rules)

pub returns : goal.returns
returns c = carried-by (by-part (λ d. d.merged) c.delete_verdict-decision.ensures) c.carry_out.ensures (search rules) (search rules) (λ x run other run' other' a. search rules)

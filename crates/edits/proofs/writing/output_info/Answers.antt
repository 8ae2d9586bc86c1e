use mathlib.Core.{Path.refl}
use Rattle.std.proofs.Common.{rules}
use Rattle.lists.proofs.EitherSlice.{carried, may-act}
use Rattle.edits.specs.inner.Puts.{Puttable}
use Rattle.edits.proofs.PutLaws.{puttable-turned}
use Rattle.edits.proofs.writing.output_info.Goals as goal

pub carry_out-requires : goal.carry_out-requires
carry_out-requires c = λ t. may-act (Puttable _ _) (λ run other. puttable-turned) (c.info_verdict-decision.ensures.is.asked t) (λ p q w. let e = c.lists_of-at.ensures in search rules)

pub returns : goal.returns
returns c = carried c.info_verdict-decision.ensures.is (λ x v. refl) c.carry_out.ensures (search rules) (search rules) (λ x run other run' other' a. let e = c.lists_of-at.ensures in search rules)

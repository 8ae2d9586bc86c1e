use mathlib.Core.{Path.refl}
use Rattle.std.proofs.Common.{rules}
use Rattle.lists.proofs.EitherSlice.{carried, may-act}
use Rattle.edits.specs.inner.Puts.{Outputable}
use Rattle.edits.proofs.PutLaws.{outputable-turned}
use Rattle.edits.proofs.writing.copy_glyph.Goals as goal

pub carry_out-requires : goal.carry_out-requires
carry_out-requires c = λ t. may-act (Outputable _) (λ run other. outputable-turned) (c.copy_verdict-decision.ensures.is.asked t) (λ p q w. let e = c.lists_of-at.ensures in search rules)

pub returns : goal.returns
returns c = carried c.copy_verdict-decision.ensures.is (λ x v. refl) c.carry_out.ensures (search rules) (search rules) (λ x run other run' other' a. let e = c.lists_of-at.ensures in search rules)

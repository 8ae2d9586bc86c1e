use mathlib.Core.{Path.refl}
use Rattle.std.proofs.Common.{rules}
use Rattle.lists.proofs.EitherSlice.{carried, may-act}
use Rattle.edits.specs.inner.Puts.{Replaceable}
use Rattle.edits.proofs.PutLaws.{replaceable-turned}
use Rattle.edits.proofs.replacing.replace_given.Goals as goal

pub carry_out-requires : goal.carry_out-requires
carry_out-requires g c = λ t. may-act (Replaceable _ _ _ _) (λ run other. replaceable-turned) (c.replace_verdict-decision.ensures.is.asked t) (λ p q w. let e = c.lists_of-at.ensures in search rules)

pub returns : goal.returns
returns g c = carried c.replace_verdict-decision.ensures.is (λ x v. refl) c.carry_out.ensures (search rules) (search rules) (λ x run other run' other' a. let e = c.lists_of-at.ensures in let m = c.clusters_merge.ensures in search rules)

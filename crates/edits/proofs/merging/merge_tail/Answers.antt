use Rattle.std.proofs.Common.{rules}
use Rattle.lists.proofs.EitherSlice.{sided-acts}
use Rattle.edits.proofs.MergeLaws.{tail-some}
use Rattle.edits.proofs.merging.merge_tail.Goals as goal

pub returns-in-Some : goal.returns-in-Some
returns-in-Some c = sided-acts c.act_on.ensures (λ run other run' other' a. record { is = tail-some _ _ _ c.in-Some.is (search rules); rest-is = search rules })

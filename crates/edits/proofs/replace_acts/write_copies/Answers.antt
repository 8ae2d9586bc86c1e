use Rattle.std.proofs.Common.{rules}
use Rattle.lists.proofs.EitherSlice.{sided-acts}
use Rattle.edits.proofs.PutLaws.{wrote-by}
use Rattle.edits.proofs.replace_acts.write_copies.Goals as goal

pub returns : goal.returns
returns g c = wrote-by c.bring-lies_apart.ensures (sided-acts c.act_on.ensures (λ run other run' other' a. record { run_is = search rules; other-is = search rules }))

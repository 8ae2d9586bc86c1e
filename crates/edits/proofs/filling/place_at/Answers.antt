-- With these laws named on the function in place of the answers, the check does not close them.
use Rattle.edits.proofs.Placings.{place_calls}
use Rattle.edits.proofs.filling.place_at.Goals as goal

pub returns : goal.returns
returns c = search place_calls

use Rattle.lists.proofs.Decisions.{settled_fields}
use Rattle.lists.proofs.verdicts.after.Goals as goal

pub returns : goal.returns
returns c = settled_fields _ _

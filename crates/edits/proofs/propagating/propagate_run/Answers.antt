use Rattle.std.proofs.Common.{refl, rules}
use Rattle.edits.specs.Groups.{flag_table}
use Rattle.edits.proofs.propagating.propagate_run.Goals as goal

pub propagate_each-requires : goal.propagate_each-requires
unfolding flag_table
propagate_each-requires c = (refl, search rules)

use Rattle.edits.proofs.GroupLaws.{ends-cluster}
use Rattle.edits.proofs.groups.OneClusterGrouping.end_of.Goals as goal

pub returns : goal.returns
returns c = ends-cluster c.requires c.cluster_end.ensures

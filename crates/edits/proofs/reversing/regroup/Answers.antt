use Rattle.edits.proofs.WholeCalls.{run-lengths}
use Rattle.edits.proofs.reversing.regroup.Goals as goal

pub turn_groups-requires : goal.turn_groups-requires
turn_groups-requires c = run-lengths c.requires c.if-keyed.auto.run c.if-keyed.auto.other

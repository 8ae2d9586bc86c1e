-- With the laws of the second answer named on the function, the check does not close it.
use Rattle.std.proofs.Common.{zero-le, rules}
use Rattle.edits.proofs.GroupTurns.{turning-room, turns_each}
use Rattle.edits.proofs.WholeCalls.{run-lengths}
use Rattle.edits.proofs.reversing.turn_groups.Goals as goal

pub each_group-requires : goal.each_group-requires
each_group-requires g c = record { fits = c.requires.room.fits; law = λ p q s e lr lo o i. let w = turning-room c.requires lr lo o i in search rules }

pub turn_range-requires : goal.turn_range-requires
turn_range-requires g c = search (zero-le, run-lengths, rules)

pub returns : goal.returns
returns g c = turns_each c.requires c.each_group.ensures (λ s e run other run' other' a. search rules) c.turn_range.ensures

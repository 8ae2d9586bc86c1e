-- The commands before the last step's place are done, and their lines written.
use Prim.Native.Nat.{◌-◌}
use lib.ListN.{length}
use Rattle.commands.proofs.PartLaws.{Playing}
use Rattle.commands.proofs.playing.play.Given as goal

abbrev pub invariant-steps : goal.invariant-steps
invariant-steps l = Playing l.script l.at l.initial.last.reply.buffer l.initial.first l.initial.second l.initial.out l.first l.second l.out l.last l.commands l.written

abbrev pub decreases-steps : goal.decreases-steps
decreases-steps l = length l.script - l.last.next

-- The commands of the parts before the last place are done.
use Prim.Native.Nat.{◌-◌}
use lib.ListN.{length}
use Rattle.printing.proofs.Parts.{Parted}
use Rattle.printing.proofs.play.Given as goal

abbrev pub invariant-loop-last : goal.invariant-loop-last
invariant-loop-last l = Parted l.script l.initial.last.reply.buffer l.initial.first l.initial.second l.initial.out l.first l.second l.out l.last l.commands

abbrev pub decreases-loop-last : goal.decreases-loop-last
decreases-loop-last l = length l.script - l.last.next

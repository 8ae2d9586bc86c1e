-- The commands before the last step's place are done.
use Prim.Native.Nat.{◌-◌}
use lib.ListN.{length}
use Rattle.commands.proofs.MadeLaws.{Made}
use Rattle.commands.proofs.runs.run.Given as goal

abbrev pub invariant-steps : goal.invariant-steps
invariant-steps l = Made l.script 0 l.initial.last.reply.buffer l.initial.first l.initial.second l.first l.second l.last.reply l.last.next l.commands

abbrev pub decreases-steps : goal.decreases-steps
decreases-steps l = length l.script - l.last.next

-- Each turn takes one command more.
use Prim.Native.Nat.{◌-◌}
use lib.ListN.{length}
use Rattle.try_commands.proofs.play.Given as goal

abbrev pub invariant-loop-reader : goal.invariant-loop-reader
invariant-loop-reader l = Unit {0}

abbrev pub decreases-loop-reader : goal.decreases-loop-reader
decreases-loop-reader l = length l.reader.bytes.now - l.reader.place

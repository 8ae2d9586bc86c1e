-- k things were counted.
use Rattle.commands.proofs.TotalLaws.{Counting}
use Rattle.commands.proofs.counting.totals.Given as goal

abbrev pub invariant-loop-k : goal.invariant-loop-k
invariant-loop-k l = Counting l.b l.first l.second l.k l.t l.above

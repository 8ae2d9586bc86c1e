-- k exchanges are made, and what lies between them is still to turn.
use Prim.Native.Nat.{◌+◌, ◌-◌}
use Rattle.lists.proofs.Turns.{Turning}
use Rattle.lists.proofs.reversals.reverse.Given as goal

abbrev pub invariant-loop-k : goal.invariant-loop-k
invariant-loop-k g l = Turning (g.T.Stored.items l.initial.ws) l.s l.e (g.T.Stored.items l.ws) (l.s + l.k) (l.e - l.k)

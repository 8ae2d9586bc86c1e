-- The range is zero up to i.
use Rattle.lists.proofs.Filling.{Filling}
use Rattle.lists.proofs.fills.zero.Given as goal

abbrev pub invariant-loop-i : goal.invariant-loop-i
invariant-loop-i g l = Filling g.T.Stored.items g.T.Stored.blank l.initial.ws l.s l.e l.ws l.i

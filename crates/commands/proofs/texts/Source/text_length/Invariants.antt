-- The lengths of k lines are added up.
use Rattle.commands.proofs.TextLaws.{Adding}
use Rattle.commands.proofs.texts.Source.text_length.Given as goal

abbrev pub invariant-loop-k : goal.invariant-loop-k
invariant-loop-k g l = Adding g.C.Column.shown l.self l.k l.total

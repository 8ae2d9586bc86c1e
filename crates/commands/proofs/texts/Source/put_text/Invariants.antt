-- The first k lines stand in their places.
use Rattle.commands.specs.inner.TextParts.{report_of}
use Rattle.commands.proofs.TextLaws.{Filling}
use Rattle.commands.proofs.texts.Source.put_text.Given as goal

abbrev pub invariant-loop-k : goal.invariant-loop-k
invariant-loop-k g l = Filling g.C.Column.shown (report_of l.self) l.fn.out l.initial.w l.w l.k

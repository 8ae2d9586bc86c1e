-- With these laws, renamed, on the function in place of the answers, the check does not close them.
use Rattle.std.proofs.Common.{rules}
use Rattle.commands.proofs.TextLaws.{adding-fits, adding-more, adding-all}
use Rattle.commands.proofs.texts.Source.text_length.Goals as goal

pub overflow_add-total : goal.overflow_add-total
overflow_add-total g c = record { fits = search (adding-fits, rules) }

pub loop-k-preserved : goal.loop-k-preserved
loop-k-preserved g c = search (adding-more, rules)

pub returns : goal.returns
returns g c = search (adding-all, rules)

-- With these laws, renamed, on the function in place of the answers, the check does not close them.
use Rattle.commands.proofs.ProgramLaws.{runs-fresh}
use borrow.Author.Rules.{rules}
use Rattle.printing.proofs.play_fresh.Goals as goal

pub returns : goal.returns
returns c = search (runs-fresh, rules)

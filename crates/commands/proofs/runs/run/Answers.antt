-- With these laws, renamed, on the function in place of the answers, the check does not close them.
use Rattle.std.proofs.Common.{rules}
use Rattle.commands.proofs.MadeLaws.{made-runs}
use Rattle.commands.proofs.runs.run.Goals as goal

pub returns : goal.returns
returns c = search (made-runs, rules)

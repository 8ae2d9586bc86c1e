-- With these laws named on the function in place of the answers, the check does not close them.
use Rattle.std.proofs.Common.{rules}
use Rattle.commands.proofs.Claims.{claims}
use Rattle.commands.proofs.runs.begin.Goals as goal

pub returns-clause-claims : goal.returns-clause-claims
returns-clause-claims c = search (claims, rules)

-- With these laws named on the function in place of the answers, the check does not close them.
use Rattle.std.proofs.Common.{rules}
use Rattle.replay.proofs.KnownLaws.{checked_printed}
use Rattle.replay.proofs.Tally.answer.Goals as goal

pub returns : goal.returns
returns c = search (checked_printed, rules)

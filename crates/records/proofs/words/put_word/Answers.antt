-- With these laws named on the function in place of the answer, the check does not close it.
use Rattle.records.proofs.Places.{was-put}
use Rattle.std.proofs.Common.{rules}
use Rattle.records.proofs.words.put_word.Goals as goal

pub returns : goal.returns
returns g c = search (was-put, rules)

-- With these laws named on the function in place of the answers, the check does not close them.
use Rattle.edits.proofs.ReplaceCalls.{replace_calls}
use Rattle.edits.proofs.replacing.one_verdict.Goals as goal

pub returns-then-b : goal.returns-then-b
returns-then-b c = search replace_calls

pub returns-then-have_output : goal.returns-then-have_output
returns-then-have_output c = search replace_calls

pub returns : goal.returns
returns c = search replace_calls

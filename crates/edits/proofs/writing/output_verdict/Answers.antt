-- With these laws named on the function in place of the answers, the check does not close them.
use Rattle.edits.proofs.WriteCalls.{write_calls}
use Rattle.edits.proofs.writing.output_verdict.Goals as goal

pub returns-then-some : goal.returns-then-some
returns-then-some c = search write_calls

pub returns-then-have_output : goal.returns-then-have_output
returns-then-have_output c = search write_calls

pub returns : goal.returns
returns c = search write_calls

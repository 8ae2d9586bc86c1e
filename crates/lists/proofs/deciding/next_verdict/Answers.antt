-- With these laws named on the function, the check does not close these.
use Rattle.lists.proofs.CursorCalls.{cursor_calls}
use Rattle.lists.proofs.deciding.next_verdict.Goals as goal

pub returns-in_err-unspoiled : goal.returns-in_err-unspoiled
returns-in_err-unspoiled c = search cursor_calls

pub returns-then-b-n : goal.returns-then-b-n
returns-then-b-n c = search cursor_calls

pub returns-then-have_output : goal.returns-then-have_output
returns-then-have_output c = search cursor_calls fits 6000

pub returns : goal.returns
returns c = search cursor_calls

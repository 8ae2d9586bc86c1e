-- With these laws named on the function in place of the answers, the check does not close them.
use Rattle.lists.proofs.Decisions.{settles-refused}
use Rattle.lists.proofs.CursorCalls.{cursor_calls, leave-spoiled}
use Rattle.lists.proofs.deciding.leave_verdict.Goals as goal

pub returns-in_err-unspoiled : goal.returns-in_err-unspoiled
returns-in_err-unspoiled c = settles-refused (search cursor_calls) (leave-spoiled (search cursor_calls)) (search cursor_calls)

pub returns-in_err-sound : goal.returns-in_err-sound
returns-in_err-sound c = search cursor_calls

pub returns : goal.returns
returns c = search cursor_calls

-- With these laws named on the function, the check does not close these.
use Rattle.lists.proofs.Decisions.{settles-refused, turned}
use Rattle.lists.proofs.CursorCalls.{cursor_calls, skip-spoiled}
use Rattle.lists.proofs.deciding.skip_verdict.Goals as goal

pub returns-in_err-unspoiled : goal.returns-in_err-unspoiled
returns-in_err-unspoiled c = settles-refused (search cursor_calls) (skip-spoiled (search cursor_calls)) (search cursor_calls)

pub returns-in_err-sound : goal.returns-in_err-sound
returns-in_err-sound c = search cursor_calls

pub returns-then-b-lt1 : goal.returns-then-b-lt1
returns-then-b-lt1 c = settles-refused (search cursor_calls) (search cursor_calls) (turned _)

pub returns : goal.returns
returns c = search cursor_calls

-- With these laws, renamed, on the function in place of the answers, the check does not close them.
use Rattle.commands.proofs.StepLaws.{step-obeyed, step-unread}
use Rattle.commands.proofs.steps.step.Goals as goal

pub returns-in-Some : goal.returns-in-Some
returns-in-Some c = search step-obeyed

pub returns-in-None : goal.returns-in-None
returns-in-None c = search step-unread

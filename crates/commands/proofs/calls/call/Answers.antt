use Rattle.commands.specs.Reading.{worded_of}
use Rattle.commands.proofs.calls.call.Goals as goal

pub returns-in-0-to-6 : goal.returns-in-0-to-6
unfolding worded_of
returns-in-0-to-6 c = c.prepare.ensures.meets _

pub returns-in-17-to-20 : goal.returns-in-17-to-20
unfolding worded_of
returns-in-17-to-20 c = c.merge.ensures.meets _

pub returns-in-21-to-25 : goal.returns-in-21-to-25
unfolding worded_of
returns-in-21-to-25 c = c.flag.ensures.meets _

pub returns-in_default : goal.returns-in_default
unfolding worded_of
returns-in_default c = c.arrange.ensures.meets _

-- Every command goes on in the string.
use Rattle.std.proofs.Common.{◌-◌, length}
use Rattle.replay.proofs.playing.play.Given as goal

abbrev pub decreases-loop-last : goal.decreases-loop-last
decreases-loop-last l = length l.list.script.now - l.last.next

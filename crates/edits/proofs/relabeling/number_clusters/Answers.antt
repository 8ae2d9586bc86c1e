-- With these laws named on the function in place of the answers, the check does not close them.
-- The glyphs up to i have their places as clusters.
use Rattle.edits.proofs.Relabelings.{relabeling}
use Rattle.edits.proofs.relabeling.number_clusters.Goals as goal

pub loop-i-init : goal.loop-i-init
loop-i-init c = search relabeling

pub loop-i-preserved : goal.loop-i-preserved
loop-i-preserved c = search relabeling

-- With these laws named on the function in place of the answers, the check does not close them.
-- What is left to do from the cursor on comes to what there was to do.
use Rattle.edits.proofs.SiftedRuns.{sifting}
use Rattle.edits.proofs.deleting_inplace.sift.Goals as goal
use Rattle.edits.proofs.deleting_inplace.sift.Goals.{else-key_at-value, then-key_at-value}

pub keep_cluster-merged-requires : goal.keep_cluster-merged-requires
keep_cluster-merged-requires c = search sifting

pub move_glyph-requires : goal.move_glyph-requires
move_glyph-requires c = search sifting

pub loop-idx-preserved : goal.loop-idx-preserved
loop-idx-preserved c = elim c.if-key_at-value.branch [ then-key_at-value w ↦ search sifting | else-key_at-value w ↦ search sifting ]

pub returns : goal.returns
returns c = search sifting

-- What is left to do from the cursor on comes to what there was to do.
use Rattle.edits.proofs.SiftedRuns.{SiftingOf}
use Rattle.edits.proofs.deleting_inplace.sift.Given as goal

abbrev pub invariant-loop-idx : goal.invariant-loop-idx
invariant-loop-idx l = SiftingOf l.keyed.key.slot l.keyed.key.mask l.value l.positions l.keyed.way.level l.keyed.way.wants l.keyed.len l.initial.left l.initial.run l.initial.other l.left l.run l.other l.idx l.out_len

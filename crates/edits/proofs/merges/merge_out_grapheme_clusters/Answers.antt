use Rattle.edits.proofs.merges.merge_out_grapheme_clusters.Goals as goal

pub returns : goal.returns
returns c = c.merge_done.ensures.is _ c.graphemes_merge.ensures

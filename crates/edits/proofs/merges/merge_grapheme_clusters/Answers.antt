use Rattle.edits.proofs.merges.merge_grapheme_clusters.Goals as goal

pub returns : goal.returns
returns c = c.merge_input.ensures.is _ c.graphemes_merge.ensures

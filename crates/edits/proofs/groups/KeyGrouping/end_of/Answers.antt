use Rattle.edits.proofs.GroupLaws.{ends-grapheme}
use Rattle.edits.proofs.groups.KeyGrouping.end_of.Goals as goal

pub returns : goal.returns
returns c = ends-grapheme c.requires _ _ c.grapheme_end.ensures

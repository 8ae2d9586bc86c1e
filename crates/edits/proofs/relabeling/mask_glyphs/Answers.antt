-- With these laws named on the function in place of the answers, the check does not close them.
-- The glyphs up to i are changed.
use Rattle.std.proofs.Common.{zero-le}
use Rattle.lists.proofs.Editing.{editing}
use Rattle.edits.proofs.relabeling.mask_glyphs.Goals as goal

pub loop-i-init : goal.loop-i-init
loop-i-init c = search (editing, zero-le)

pub loop-i-preserved : goal.loop-i-preserved
loop-i-preserved c = search editing

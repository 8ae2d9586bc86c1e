-- What is joined so far is that of the masks from i on.
-- With these laws named on the function in place of the answers, the check does not close them.
use Rattle.lists.proofs.Joining.{joining}
use Rattle.lists.proofs.masks.joined_masks.Goals as goal

pub loop-i-init : goal.loop-i-init
loop-i-init c = search joining

-- The first i glyphs are copied.
-- With these laws named on the function in place of the answers, the check does not close them.
use native.Mathlib.Omega.{arith}
use Rattle.records.proofs.View.{glyphs-fit}
use Rattle.lists.proofs.Copying.{copying_down}
use Rattle.lists.proofs.copies.copy_down.Goals as goal

pub overflow_add-from : goal.overflow_add-from
overflow_add-from c = omega (arith, glyphs-fit c.args.ws.now)

pub overflow_add-to : goal.overflow_add-to
overflow_add-to c = omega (arith, glyphs-fit c.args.ws.now)

pub loop-i-preserved : goal.loop-i-preserved
loop-i-preserved c = search copying_down

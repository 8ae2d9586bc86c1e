-- With these laws named on the function in place of the answers, the check does not close them.
-- The first i copies are put.
use Rattle.std.proofs.Common.{arith}
use Rattle.records.proofs.View.{glyphs-fit}
use Rattle.edits.proofs.Acting.{putting}
use Rattle.edits.proofs.replace_acts.put_copies.Goals as goal

pub overflow_add-at : goal.overflow_add-at
overflow_add-at g c = omega (arith, glyphs-fit c.args.ws.now)

pub loop-i-preserved : goal.loop-i-preserved
loop-i-preserved g c = search putting

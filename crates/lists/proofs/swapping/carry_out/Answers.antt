use Rattle.lists.proofs.EitherSlice.{carries-ok, carries-err}
use Rattle.lists.proofs.swapping.carry_out.Goals as goal

pub returns-in-Ok : goal.returns-in-Ok
returns-in-Ok g c = carries-ok c.in-Ok.is c.carried.ensures

pub returns-in-Err : goal.returns-in-Err
returns-in-Err g c = carries-err c.in-Err.is c.reply.ensures

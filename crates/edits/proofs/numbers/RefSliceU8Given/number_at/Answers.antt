use Rattle.std.proofs.Common.{arith}
use Rattle.edits.proofs.GivenLaws.{word_room}
use Rattle.edits.proofs.numbers.RefSliceU8Given.number_at.Goals as goal

pub overflow_mul-i : goal.overflow_mul-i
overflow_mul-i c = let h = word_room c.args.self.now c.args.i c.requires in omega arith

pub word-requires : goal.word-requires
word-requires c = word_room c.args.self.now c.args.i c.requires

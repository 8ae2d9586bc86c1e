-- With these laws named on the function in place of the answers, the check does not close them.
use Rattle.std.proofs.Common.{rules}
use Rattle.replay.proofs.Lendings.{few_words}
use Rattle.replay.proofs.playing.part.Goals as goal

pub words_for-end-requires : goal.words_for-end-requires
words_for-end-requires c = search (few_words, rules)

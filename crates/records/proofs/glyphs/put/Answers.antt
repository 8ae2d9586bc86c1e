use Rattle.records.proofs.Stores.{put-glyphs}
use Rattle.records.proofs.glyphs.put.Goals as goal

pub returns : goal.returns
returns c = put-glyphs c.put_word.ensures c.put_word-2.ensures c.put_word-3.ensures c.put_word-4.ensures c.put_word-5.ensures c.put_word-6.ensures

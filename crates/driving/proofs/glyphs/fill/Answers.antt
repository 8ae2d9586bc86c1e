use Rattle.std.proofs.Common.{sym, ◌∙◌}
use Rattle.records.specs.View.{seen}
use Rattle.driving.proofs.Laying.{laid_more, laid_all}
use Rattle.driving.proofs.glyphs.fill.Goals as goal

pub loop-i-preserved : goal.loop-i-preserved
loop-i-preserved c = rw c.put_at.ensures (sym (laid_more seen _ _ _ _ c.loop-i-test.true) ∙ c.loop-i.invariant)

pub returns : goal.returns
returns c = sym (laid_all seen _ _ _ c.loop-i-test.false) ∙ c.loop-i.invariant

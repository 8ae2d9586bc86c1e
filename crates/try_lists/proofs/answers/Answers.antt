-- The account of the run is followed from call to call; each answer is computed from it.
use Rattle.std.proofs.Common.{◌∙◌, refl}
use Rattle.records.specs.Counters.{words_for}
use Rattle.lists.proofs.Chains.{leaves}
use Rattle.driving.proofs.Telling.{answered}
use Rattle.try_lists.proofs.Run.{a₁, a₂, a₃, a₄, a₅, at-start, far-answered, there-answered, back-answered, synced-answered, again-answered}
use Rattle.try_lists.proofs.answers.Goals as goal

pub returns : goal.returns
unfolding words_for a₁ a₂ a₃ a₄ a₅
returns c =
    let opened = leaves c.clear_output-opened.ensures (at-start c.start.ensures) refl in
    let far = leaves c.next_glyphs-far.ensures opened c.next_glyphs-far.auto.first in
    let there = leaves c.next_glyphs-there.ensures far c.next_glyphs-there.auto.first in
    let back = leaves c.move_to-back.ensures there c.move_to-back.auto.first in
    let synced = leaves c.sync-synced.ensures back c.sync-synced.auto.first in
    rw (
      answered c.next_glyphs-far.ensures opened ∙ far-answered,
      answered c.next_glyphs-there.ensures far ∙ there-answered,
      answered c.move_to-back.ensures there ∙ back-answered,
      answered c.sync-synced.ensures back ∙ synced-answered,
      answered c.sync-again.ensures synced ∙ again-answered,
    )

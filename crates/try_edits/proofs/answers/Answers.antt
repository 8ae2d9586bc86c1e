-- The account of the run is followed from call to call; each answer is computed from it.
use Rattle.std.proofs.Common.{◌∙◌, refl}
use Rattle.records.specs.Counters.{words_for}
use Rattle.lists.proofs.Chains.{leaves}
use Rattle.driving.proofs.Telling.{answered}
use Rattle.try_edits.proofs.Run.{a₁, a₂, a₃, a₄, a₅, at-start, few-answered, past-answered, full-answered, over-answered, none-answered}
use Rattle.try_edits.proofs.answers.Goals as goal

pub returns : goal.returns
unfolding words_for a₁ a₂ a₃ a₄ a₅
returns c =
    let opened = leaves c.clear_output-opened.ensures (at-start c.start.ensures) refl in
    let few = leaves c.replace_glyphs-few.ensures opened c.replace_glyphs-few.auto.first in
    let past = leaves c.merge_clusters-past.ensures few c.merge_clusters-past.auto.first in
    let full = leaves c.replace_glyphs-full.ensures past c.replace_glyphs-full.auto.first in
    let over = leaves c.output_glyph-over.ensures full c.output_glyph-over.auto.first in
    rw (
      answered c.replace_glyphs-few.ensures opened ∙ few-answered,
      answered c.merge_clusters-past.ensures few ∙ past-answered,
      answered c.replace_glyphs-full.ensures past ∙ full-answered,
      answered c.output_glyph-over.ensures full ∙ over-answered,
      answered c.delete_glyph-none.ensures over ∙ none-answered,
    )

use mathlib.Core.{Path.refl}
use Rattle.std.proofs.Common.{true, rules}
use Rattle.lists.proofs.EitherSlice.{carried, may-act}
use Rattle.edits.specs.inner.Marks.{Flaggable}
use Rattle.edits.proofs.FlagCalls.{flaggable-turned, flags-input}
use Rattle.edits.proofs.flagging.flag_plain.Goals as goal

pub carry_out-requires : goal.carry_out-requires
carry_out-requires c = λ t. may-act (Flaggable _ _) (λ run other. flaggable-turned) (((flags-input c.is_spoiled-spoiled.ensures c.idles-idle.ensures c.start-s.ensures c.end-e.ensures c.outside_flags.ensures c.verdict-decision.ensures).is true (λ n. 0) c.start-s.ensures c.end-e.ensures).asked t) (λ p q w. search rules)

pub returns : goal.returns
returns c = record { is = λ g e. carried ((flags-input c.is_spoiled-spoiled.ensures c.idles-idle.ensures c.start-s.ensures c.end-e.ensures c.outside_flags.ensures c.verdict-decision.ensures).is _ g c.start-s.ensures c.end-e.ensures) (λ x v. refl) c.carry_out.ensures (search rules) (search rules) (λ x run other run' other' a. let l = c.form_of-form.ensures in search rules) }

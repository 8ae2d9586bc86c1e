use mathlib.Core.{Path.refl}
use Rattle.std.proofs.Common.{true, rules}
use Rattle.lists.proofs.EitherSlice.{carried, may-act}
use Rattle.edits.specs.inner.Marks.{OutFlaggable}
use Rattle.edits.proofs.OutFlagCalls.{flags-out, out-lies, out-turned}
use Rattle.edits.proofs.flagging.flag_outbuffer.Goals as goal

pub carry_out-requires : goal.carry_out-requires
carry_out-requires c = λ t. may-act (OutFlaggable _ _ _) (λ run other. out-turned) (((flags-out c.have_output-lacks_output.ensures c.idles-idle.ensures c.start-s.ensures c.end-e.ensures c.outside_out.ensures c.verdict-decision.ensures).is true (λ n. 0) c.start-s.ensures c.end-e.ensures).asked t) (λ p q w. let e = c.lists_of-at.ensures in search rules)

pub returns : goal.returns
returns c = record { is = λ g e. carried ((flags-out c.have_output-lacks_output.ensures c.idles-idle.ensures c.start-s.ensures c.end-e.ensures c.outside_out.ensures c.verdict-decision.ensures).is _ g c.start-s.ensures c.end-e.ensures) (λ x v. refl) c.carry_out.ensures (search rules) (search rules) (λ x run other run' other' a. let l = c.form_of-form.ensures in out-lies c.lists_of-at.ensures (search rules)) }

use Rattle.std.proofs.Common.{◌≤◌, length}
use Rattle.records.specs.View.{positions_in}
use Rattle.lists.specs.inner.Moving.{Zeroed}
use Rattle.lists.specs.inner.Verdicts.{Sided}
use Rattle.lists.proofs.Carrying.{zeroed}
use Rattle.lists.proofs.EitherSlice.{sided-acts}
use Rattle.lists.proofs.PhaseCalls.{phase_calls}
use borrow.Author.Rules.{rules}
use Rattle.lists.proofs.cursor.clear_positions.Goals as goal
use Rattle.lists.proofs.cursor.clear_positions.Goals.{else-acts, then-acts}

pub act_on-requires : goal.act_on-requires
act_on-requires c = let h : (c.args.b.len.0 ≤ length (positions_in c.args.first.now)) × (c.args.b.len.0 ≤ length (positions_in c.args.second.now)) = search phase_calls in search rules

pub returns : goal.returns
returns c =
    elim c.if-acts.branch [ then-acts w ↦ let act : Sided c.args.b.swapped (Zeroed c.args.b.len.0) c.args.first.now c.args.second.now w.act_on.new.first w.act_on.new.second = sided-acts w.act_on.ensures (λ run other run' other' a. search (zeroed, rules)) in search phase_calls | else-acts w ↦ search phase_calls ]

use Rattle.lists.proofs.Decisions.{end-acted, ending}
use Rattle.lists.proofs.EitherSlice.{sided-acts}
use borrow.Author.Rules.{rules}
use Rattle.lists.proofs.cursor.sync.Goals as goal
use Rattle.lists.proofs.cursor.sync.Goals.{else-acts, then-acts}

pub returns : goal.returns
returns c = elim c.if-acts.branch [ then-acts w ↦ end-acted c.synced.ensures c.sync_verdict-decision.ensures c.acts.ensures w.if-acts.true w.first-is w.second-is (search rules) (search rules) (sided-acts w.act_on.ensures (λ run other run' other' a. search rules)) | else-acts w ↦ search ending ]

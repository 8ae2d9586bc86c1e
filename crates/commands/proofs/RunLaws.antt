-- What is left of a string, command by command.
use mathlib.Core.{Path.◌≡◌, Path.refl, Path.sym, Path.ap, Path.◌∙◌, Bool.true, List.List, List.[], List.◌∷◌}
use Rattle.std.specs.Prelude.{Option, None as none, Some as some}
use Prim.Native.Nat.{ℕ, zero, suc, ◌+◌, ◌-◌, ◌<◌, ◌≤◌}
use native.Mathlib.Omega.{arith}
use lib.{ListN.length, ListN.drop, ListN.drop_of_length-le}
use Rattle.records.specs.{Unreadable as Unread}
use Rattle.lists.specs.{declared.Buffer.Buffer}
use Rattle.lists.specs.{Account.Account, Account.Outcome, Account.refused, Account.outcome, Contract.account, Contract.sound, Contract.outcome_of}
use Rattle.commands.specs.Calls.{Worded, step}
use Rattle.commands.specs.Calls.{Read, unreadable, got, read_up_to, run_read, run_bytes}
use Rattle.commands.specs.{Calls.front, Calls.behind, Runs.called, Runs.stepped, Runs.Steps}
use Rattle.commands.specs.Runs.{outcomes}
use Rattle.commands.specs.declared.Step.{Step}
use Rattle.commands.proofs.Bytes.{continued}
use Rattle.commands.proofs.Readings.{next}

-- ---- one command of a list
outcome_at : (Worded ℕ → Account ℕ → Outcome ℕ) → Read (Worded ℕ) → Account ℕ → Outcome ℕ
outcome_at call unreadable a = outcome a (refused Unread)
outcome_at call (got w l) a = call w a

none_left : (m : ℕ) → read_up_to m [] ≡ []
unfolding read_up_to
none_left zero = refl
none_left (suc m) = refl

runs_on : (call : Worded ℕ → Account ℕ → Outcome ℕ) (m : ℕ) (x : Read (Worded ℕ)) (a : Account ℕ) → run_read call (continued m x) a ≡ outcome_at call x a ∷ run_read call (read_up_to m (behind x)) (outcome_at call x a).after
unfolding outcome_at run_read continued behind
runs_on call m unreadable a = ap (λ (l : List (Outcome ℕ)). outcome a (refused Unread) ∷ l) (sym (ap (λ (l : List (Option (Worded ℕ))). run_read call l (outcome a (refused Unread)).after) (none_left m)))
runs_on call m (got w l) a = refl

up-to-front : (m : ℕ) (t : List ℕ) (at : ℕ) → at < length t → read_up_to (suc m) (drop at t) ≡ continued m (front (drop at t))
unfolding read_up_to continued front
up-to-front m t at h = rw (next t at (at + 1) h (omega arith))

-- at the end of a string nothing is left
pub ends : (call : Worded ℕ → Account ℕ → Outcome ℕ) (m : ℕ) (t : List ℕ) (at : ℕ) (a : Account ℕ) → length t ≤ at → run_read call (read_up_to m (drop at t)) a ≡ []
unfolding run_read
ends call m t at a h = ap (λ (j : List (Option (Worded ℕ))). run_read call j a) (ap (read_up_to m) (drop_of_length-le t h) ∙ none_left m)

-- ---- a step
stepped-is : (x : Read (Worded ℕ)) (b : Buffer) (f s : List ℕ) → stepped x b f s ≡ outcome_at (called (sound b f s) (length f) (length s)) x (account b f s)
unfolding stepped outcome_at
stepped-is unreadable b f s = refl
stepped-is (got w l) b f s = refl

module _ {t : List ℕ} {at : ℕ} {b : Buffer} {f s : List ℕ} {r : Step} {f' s' : List ℕ} (w : Steps t at b f s r f' s') where
  -- its outcome is the first of what is left
  pub goes_on : (m : ℕ) → at < length t
      → let call = called (sound b f s) (length f) (length s) in
      run_read call (read_up_to (suc m) (drop at t)) (account b f s) ≡ outcome_of r.reply f' s' ∷ run_read call (read_up_to m (drop r.next t)) (account r.reply.buffer f' s')
  goes_on m h =
      let call = called (sound b f s) (length f) (length s) in
      let y = front (drop at t) in
      let is : outcome_of r.reply f' s' ≡ outcome_at call y (account b f s) = w.is ∙ stepped-is y b f s in
      ap (λ (j : List (Option (Worded ℕ))). run_read call j (account b f s)) (up-to-front m t at h)
      ∙ (runs_on call m y (account b f s)
      ∙ rw (← is, ← w.next-is))

pub running-less : {t : List ℕ} {b : Buffer} {f s f' s' : List ℕ} {at : ℕ} {r : Step} → Steps t at b f s r f' s' → at < length t → length t - r.next < length t - at
running-less w h = omega (arith, w.onward h)

-- ---- where refusal 1 meets no command, the outcomes are the account's own
called-step : (p q : ℕ) (ws : List (Option (Worded ℕ))) (a : Account ℕ) → run_read (called true p q) ws a ≡ run_read (step 0 p q) ws a
unfolding run_read called
called-step p q [] a = refl
called-step p q (none ∷ ws) a = refl
called-step p q (some w ∷ ws) a = ap (λ (l : List (Outcome ℕ)). step 0 p q w a ∷ l) (called-step p q ws (step 0 p q w a).after)

pub outcomes-are : (script : List ℕ) (b : Buffer) (f s : List ℕ) → sound b f s ≡ true → outcomes script b f s ≡ run_bytes (length f) (length s) script (account b f s)
unfolding run_bytes
outcomes-are script b f s h = rw h (called-step (length f) (length s) (read_up_to (length script) script) (account b f s))

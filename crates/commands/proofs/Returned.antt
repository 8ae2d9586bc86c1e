-- What the functions give back and leave is the account's own run, so demand 3 and the two wordings hold of it.
use mathlib.Core.{Path.◌≡◌, Path.refl, Path.ap, Path.sym, Path.◌∙◌, Bool.Bool, Bool.true, Bool.false, Bool.cond, Bool.not, List.List, List.[], List.◌∷◌, List.map}
use Rattle.std.specs.Prelude.{Option, None as none, Some as some}
use Prim.Native.Nat.{ℕ, zero, suc, ◌+◌, ◌<◌, ◌≤◌}
use native.Mathlib.Omega.{arith}
use lib.{ListN.length, ListN.drop}
use Rattle.records.specs.{Contradiction, Counters.capacity_of, Counters.rightly_lent}
use Rattle.lists.specs.{declared.Buffer.Buffer, declared.Reply.Reply}
use Rattle.lists.specs.{Account.Account, Account.renamed, Account.Result, Account.Outcome, Account.refused, Account.outcome, Account.refuse◌when◌else◌, Contract.account, Contract.sound, Contract.Begins}
use Rattle.lists.proofs.{Renaming.begun-renamed, Renaming.begun-same, Simple.refuse-yes}
use Rattle.commands.specs.{Calls.Worded, Calls.perform, Calls.step, Calls.run, Calls.read_up_to, Calls.run_read, Calls.run_bytes, Claims.renamed_outcome, Claims.reworded, Claims.renamed_bytes}
use Rattle.commands.specs.{Runs.called, Runs.last_of, Runs.outcomes}
use Rattle.commands.specs.Claims.{Renamed}
use Rattle.commands.specs.Claims.{SameLengths, SameEdits, SameEditBytes, SameRecords, Returned, returned_outcome, DirectRun, ReturnedAt, returned_outcome_at, StepRun}
use Rattle.commands.proofs.{Renaming.step-rename, Renaming.refused-outcome, Bytes.string-rename, StepLaws.judged-called, RunLaws.goes_on, RunLaws.ends}
use Rattle.commands.proofs.Demand.{same-account, same-outcomes, demand-3-from, two-wordings, two-wordings-bytes}

-- ---- direct calls
called-lent : (p q : ℕ) (w : Worded ℕ) (a : Account ℕ) → called (rightly_lent p q) p q w a ≡ step 0 p q w a
unfolding called step
called-lent p q w a = by (rightly_lent p q) refl
  where
    act : Result ℕ
    act = perform 0 (capacity_of p) w.call w.glyphs a

    by : (x : Bool) → rightly_lent p q ≡ x → cond x (outcome a (refuse Contradiction when not (rightly_lent p q) else act)) (outcome a (refused Contradiction)) ≡ outcome a (refuse Contradiction when not (rightly_lent p q) else act)
    by true e = refl
    by false e = ap (outcome a) (sym (refuse-yes Contradiction act (not (rightly_lent p q)) (rw e)))

-- from a buffer whose counters do not contradict each other
pub calls-run : (ws : List (Worded ℕ)) (xs : List Returned) {p q : ℕ} (b : Buffer) (f s : List ℕ) → length f ≡ p → length s ≡ q → sound b f s ≡ rightly_lent p q → DirectRun ws b f s xs → map returned_outcome xs ≡ run 0 p q ws (account b f s)
unfolding run
calls-run [] [] b f s ef es h c = refl
calls-run [] (x ∷ xs) b f s ef es h c = absurd c
calls-run (w ∷ ws) [] b f s ef es h c = absurd c
calls-run (w ∷ ws) (x ∷ xs) {p} {q} b f s ef es h c =
    let m = c.0 in
    let here : returned_outcome x ≡ step 0 p q w (account b f s) = m.is ∙ (rw (h, ef, es) at (judged-called w b f s) ∙ called-lent p q w (account b f s)) in
    let rest : map returned_outcome xs ≡ run 0 p q ws (account x.reply.buffer x.first x.second) = calls-run ws xs x.reply.buffer x.first x.second (c.1.0 ∙ ef) (c.1.1 ∙ es) (m.alone.sounds ∙ h) c.2 in
    rw (← here) (ap (λ (l : List (Outcome ℕ)). returned_outcome x ∷ l) rest)

module _ {level wants : ℕ} {r : Reply} (v : Begins level wants r) where
  -- Demand 3 of what direct calls return and leave: any functions that meet the calls' contracts, from the first buffer in slices of the same lengths
  pub demand-3-calls : (f : ℕ → ℕ) → f 0 ≡ 0 → (ws : List (Worded ℕ)) (first second first' second' : List ℕ) → SameLengths first second first' second' → (xs ys : List Returned)
      → let b = r.buffer in
      DirectRun ws b first second xs → DirectRun (map (reworded f) ws) b first' second' ys
      → Renamed f (account b first second) (map returned_outcome xs) (account b first' second') (map returned_outcome ys)
  demand-3-calls f z ws first second first' second' e xs ys c d =
      let b = r.buffer in
      let one : map returned_outcome xs ≡ run 0 (length first) (length second) ws (account b first second) = calls-run ws xs b first second refl refl (v.is-sound first second) c in
      let other : map returned_outcome ys ≡ run 0 (length first) (length second) (map (reworded f) ws) (account b first' second') = calls-run (map (reworded f) ws) ys b first' second' e.0 e.1 (rw (e.0, e.1) at (v.is-sound first' second')) d in
      rw (one, other, begun-renamed v f first second first' second') (rw z at (demand-3-from f 0 (length first) (length second) ws (account b first second)))

  -- two wordings of direct calls
  pub two-wordings-calls : (ws others : List (Worded ℕ)) (first second first' second' : List ℕ) → SameLengths first second first' second' → (xs ys : List Returned)
      → SameEdits ws others → DirectRun ws r.buffer first second xs → DirectRun others r.buffer first' second' ys
      → SameRecords (map returned_outcome xs) (map returned_outcome ys)
  two-wordings-calls ws others first second first' second' e xs ys same c d =
      let b = r.buffer in
      let one = calls-run ws xs b first second refl refl (v.is-sound first second) c in
      let other : map returned_outcome ys ≡ run 0 (length first) (length second) others (account b first' second') = calls-run others ys b first' second' e.0 e.1 (rw (e.0, e.1) at (v.is-sound first' second')) d in
      rw (one, other, begun-same v first second first' second') (two-wordings (length first) (length second) ws others (account b first second) same)

-- ---- bytes: the steps of a string from a place on
pub steps-run : (t : List ℕ) (xs : List ReturnedAt) (m at : ℕ) (b : Buffer) (f s : List ℕ) → length t ≤ at + m → StepRun t at b f s xs
    → map returned_outcome_at xs ≡ run_read (called (sound b f s) (length f) (length s)) (read_up_to m (drop at t)) (account b f s)
steps-run t [] m at b f s h c = sym (ends (called (sound b f s) (length f) (length s)) m t at (account b f s) c)
steps-run t (x ∷ xs) zero at b f s h c = let here : at < length t = c.0 in absurd (omega arith)
steps-run t (x ∷ xs) (suc m) at b f s h c =
    let w = c.1 in
    let on : length t ≤ x.step.next + m = omega (arith, w.onward c.0) in
    let rest : map returned_outcome_at xs ≡ run_read (called (sound b f s) (length f) (length s)) (read_up_to m (drop x.step.next t)) (account x.step.reply.buffer x.first x.second)
    = rw (w.alone.sounds, c.2.0, c.2.1) at (steps-run t xs m x.step.next x.step.reply.buffer x.first x.second on c.3) in
    ap (λ (l : List (Outcome ℕ)). returned_outcome_at x ∷ l) rest ∙ sym (goes_on w m c.0)

-- from the first buffer these are the account's own
lent-run : (p q : ℕ) (ws : List (Option (Worded ℕ))) (a : Account ℕ) → run_read (called (rightly_lent p q) p q) ws a ≡ run_read (step 0 p q) ws a
unfolding run_read
lent-run p q [] a = refl
lent-run p q (none ∷ ws) a = refl
lent-run p q (some w ∷ ws) a = rw (called-lent p q w a) (ap (λ (l : List (Outcome ℕ)). step 0 p q w a ∷ l) (lent-run p q ws (step 0 p q w a).after))

pub bytes_run : {level wants : ℕ} {r : Reply} → Begins level wants r → (f s script : List ℕ) (xs : List ReturnedAt)
    → StepRun script 0 r.buffer f s xs → map returned_outcome_at xs ≡ run_bytes (length f) (length s) script (account r.buffer f s)
unfolding run_bytes
bytes_run {r = r} v f s script xs c =
    rw (v.is-sound f s) at (steps-run script xs (length script) 0 r.buffer f s (omega arith) c)
    ∙ lent-run (length f) (length s) (read_up_to (length script) script) (account r.buffer f s)

-- ---- what a string comes to, renamed
pub last_of-map : {H : Type 0} (f : ℕ → H) (o : Outcome ℕ) (os : List (Outcome ℕ)) → last_of (renamed_outcome f o) (map (renamed_outcome f) os) ≡ renamed_outcome f (last_of o os)
unfolding last_of
last_of-map f o [] = refl
last_of-map f o (p ∷ os) = last_of-map f p os

module _ (f : ℕ → ℕ) (z : f 0 ≡ 0) where
  called-rename : (rightful : Bool) (p q : ℕ) (w : Worded ℕ) (a : Account ℕ) → called rightful p q (reworded f w) (renamed f a) ≡ renamed_outcome f (called rightful p q w a)
  unfolding called
  called-rename true p q w a = rw z at (step-rename f 0 p q w a)
  called-rename false p q w a = refused-outcome f a Contradiction

  module _ {level wants : ℕ} {r₀ : Reply} (v : Begins level wants r₀) (script first second first' second' : List ℕ) (e : SameLengths first second first' second') where
    outcomes-rename : outcomes (renamed_bytes f script) r₀.buffer first' second' ≡ map (renamed_outcome f) (outcomes script r₀.buffer first second)
    outcomes-rename =
        let b = r₀.buffer in
        let same : sound b first' second' ≡ sound b first second = v.is-sound first' second' ∙ (ap (λ (k : ℕ). rightly_lent k (length second')) e.0 ∙ (ap (rightly_lent (length first)) e.1 ∙ sym (v.is-sound first second))) in
        rw (same, begun-renamed v f first second first' second', e.0, e.1) (string-rename f (called (sound b first second) (length first) (length second)) (called-rename (sound b first second) (length first) (length second)) script (account b first second))

    -- Demand 3 of what `step` returns and leaves, command by command, from the first buffer in slices of the same lengths
    pub demand-3-steps : (xs ys : List ReturnedAt)
        → let b = r₀.buffer in
        StepRun script 0 b first second xs → StepRun (renamed_bytes f script) 0 b first' second' ys
        → Renamed f (account b first second) (map returned_outcome_at xs) (account b first' second') (map returned_outcome_at ys)
    demand-3-steps xs ys c d =
        let b = r₀.buffer in
        let one : map returned_outcome_at xs ≡ outcomes script b first second = steps-run script xs (length script) 0 b first second (omega arith) c in
        let other : map returned_outcome_at ys ≡ outcomes (renamed_bytes f script) b first' second' = steps-run (renamed_bytes f script) ys (length (renamed_bytes f script)) 0 b first' second' (omega arith) d in
        record {
          before = rw (begun-renamed v f first second first' second') (same-account f (account b first second));
          after = rw (one, other, outcomes-rename) (same-outcomes f (outcomes script b first second));
        }

-- ---- two wordings
module _ {level wants : ℕ} {r : Reply} (v : Begins level wants r) where
  pub two-wordings-steps : (script other first second first' second' : List ℕ) → SameLengths first second first' second' → (xs ys : List ReturnedAt)
      → SameEditBytes script other → StepRun script 0 r.buffer first second xs → StepRun other 0 r.buffer first' second' ys
      → SameRecords (map returned_outcome_at xs) (map returned_outcome_at ys)
  two-wordings-steps script other first second first' second' e xs ys same c d =
      let b = r.buffer in
      let one = bytes_run v first second script xs c in
      let two : map returned_outcome_at ys ≡ run_bytes (length first) (length second) other (account b first second) = rw (e.0, e.1, begun-same v first second first' second') at (bytes_run v first' second' other ys d) in
      rw (one, two) (two-wordings-bytes (length first) (length second) script other (account b first second) same)

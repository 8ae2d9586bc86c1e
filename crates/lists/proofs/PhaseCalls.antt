-- What the calls that leave another phase come to: 00, 03, 04, 05.
use Rattle.std.specs.Prelude.{Ok, Err, Option, Some, None}
use mathlib.Core.{Path.◌≡◌, Path.refl, Path.sym, Path.ap, Path.◌∙◌, Bool.Bool, Bool.true, Bool.false, Bool.cond, Bool.◌||◌, Bool.false≢true, List.List}
use Prim.Native.Nat.{ℕ, ◌+◌, ◌-◌, ◌≤◌, ◌<◌}
use native.Mathlib.Omega.{arith}
use borrow.Author.Tests.{le-ltb, lt-ltb}
use lib.{Dec.ltb, ListN.length}
use Rattle.records.specs.{Refusal, Contradiction, WrongPhase, BadOperand, Counters.capacity_of, View.positions_in}
use Rattle.records.proofs.View.{positions-glyphs}
use Rattle.lists.specs.{declared.Buffer.Buffer, declared.Reply.Reply, declared.Verdict.Verdict, inner.Held.Room}
use Rattle.lists.specs.Account.{Account, output_phase, spoiled_phase, has_output, is_spoiled}
use Rattle.lists.specs.Account.{refuse◌when◌else◌, Result, accepted}
use Rattle.lists.specs.Cursor.{opened, positioned, fresh, clear_output, clear_positions, sync}
use Rattle.lists.specs.{Contract.account_of, Contract.sound, inner.Held.room_for}
use Rattle.lists.specs.inner.States.{Decision, reply, with_limits_of, at_places, fresh_buffer, opened_buffer, positioned_buffer, restarted_buffer, spoiled_buffer, swapped_buffer}
use Rattle.lists.specs.Contract.{Meets}
use Rattle.lists.proofs.Sides.{MeetsIn}
use Rattle.lists.specs.inner.Moving.{Passable, Carried, Zeroed}
use Rattle.lists.specs.inner.Verdicts.{acts_of, Turned, leaving, Leaves, Sized, by_size, wrote_buffer, failed_buffer, lies_elsewhere, fresh_verdict, clear_verdict, Freshens, Clears, settled_buffer, settled, settled_as, synced, Sided, Decided}
use Rattle.lists.proofs.Accounts.{output-of, spoiled-of, places_in}
use Rattle.lists.proofs.SizeLaws.{room-why}
use Rattle.lists.proofs.SoundLaws.{sound-held, soundness}
use Rattle.lists.proofs.Calls.{shell-unsound, shell-accepted, in-accepted}
use Rattle.lists.proofs.Simple.{refuse-yes, refuse-no, fresh-account, fresh-held, opened_of, opened-held}
use Rattle.lists.proofs.Positioning.{Placeable, place-moves}
use Rattle.lists.proofs.Moving.{forward-moves}
use Rattle.lists.proofs.Inner.{move-accepted}
use Rattle.lists.proofs.SyncLaws.{Syncable, sync-in-none, sync-in-spoils, sync-over, sync-gives-up, sync-ready, sync-moves}
use Rattle.lists.proofs.Lying.{Lying}
use Rattle.lists.proofs.Decisions.{turned, Refuses, leaves-is, near_same, settled_is, acts-is, meets-still, meets-refused, decided-still, decided-turned, decided-acts, room_of, over-as, end-acted, end-still}
use Rattle.lists.proofs.CursorCalls.{stands, room-carriable}
use Rattle.records.proofs.Tests.{tested}

-- ---- 00
module _ {wants : ℕ} {b : Buffer} {f s : List ℕ} {v : Decision} where
  pub fresh-unsound : sound b f s ≡ false → Turned Contradiction v → Freshens wants b f s v
  unfolding fresh_verdict
  fresh-unsound h w = record { is = rw h w.is }

  pub fresh-bad : sound b f s ≡ true → 7 < wants → Turned BadOperand v → Freshens wants b f s v
  unfolding fresh_verdict
  fresh-bad h k w = record { is = rw (h, lt-ltb 7 wants k) w.is }

  pub fresh-ahead : sound b f s ≡ true → wants ≤ 7 → Leaves b true None v → Freshens wants b f s v
  unfolding fresh_verdict
  fresh-ahead h k w = record { is = rw (h, le-ltb 7 wants k) w.is }

-- whichever state the call would leave
as-still : {b : Buffer} (after : Buffer) {v : Decision} {a : Option ℕ} → Leaves b false a v → settled_as b after v ≡ reply b (Ok a)
unfolding settled_as
as-still {b} after {v} w = ap (λ (x : Bool). cond x (reply after (Ok None)) (settled b v)) (acts-is w) ∙ settled_is (near_same b) w

as-refused : {b : Buffer} (after : Buffer) {v : Decision} {why : Refusal} → Turned why v → settled_as b after v ≡ reply b (Err why)
unfolding settled_as settled
as-refused {b} after w = ap (settled_as b after) w.is

as-done : {b : Buffer} (after : Buffer) {v : Decision} → Leaves b true None v → settled_as b after v ≡ reply after (Ok None)
unfolding settled_as
as-done {b} after {v} w = ap (λ (x : Bool). cond x (reply after (Ok None)) (settled b v)) (acts-is w)

pub fresh_meets : (level wants : ℕ) {b : Buffer} {x : Buffer} {f s : List ℕ} {v : Decision} → Freshens wants b f s v → x ≡ fresh_buffer level wants → Meets (λ capacity a. fresh level wants a) b f s (settled_as b x v) f s
unfolding fresh_verdict fresh
fresh_meets level wants {b} {x} {f} {s} {v} ev ex = by (sound b f s) (ltb 7 wants) refl refl ev.is
  where
    by : (p q : Bool) → sound b f s ≡ p → ltb 7 wants ≡ q → v ≡ cond p (cond q (Err BadOperand) (leaving b true None)) (Err Contradiction) → Meets (λ capacity a. fresh level wants a) b f s (settled_as b x v) f s
    by false q h k e = shell-unsound h (as-refused x (record { is = e }))
    by true true h k e = meets-refused h (record { law = λ run other l. refuse-yes BadOperand _ (ltb 7 wants) k }) (as-refused x (record { is = e }))
    by true false h k e = shell-accepted h (fresh_buffer level wants) (refuse-no BadOperand _ (ltb 7 wants) k ∙ ap accepted (fresh-account level wants f s)) (as-done x (leaves-is b e) ∙ ap (λ (y : Buffer). reply y (Ok None)) ex) (fresh-held level wants b f s (sound-held b f s h))

-- ---- 03 and 05
module _ {b : Buffer} {f s : List ℕ} {v : Decision} where
  pub clear-unsound : sound b f s ≡ false → Turned Contradiction v → Clears b f s v
  unfolding clear_verdict
  clear-unsound h w = record { is = rw h w.is }

  pub clear-output : sound b f s ≡ true → output_phase b.phase ≡ true → Turned WrongPhase v → Clears b f s v
  unfolding clear_verdict
  clear-output h o w = record { is = rw (h, o) w.is }

  pub clear-spoiled : sound b f s ≡ true → output_phase b.phase ≡ false → spoiled_phase b.phase ≡ true → Turned WrongPhase v → Clears b f s v
  unfolding clear_verdict
  clear-spoiled h o p w = record { is = rw (h, o, p) w.is }

  pub clear-ahead : sound b f s ≡ true → output_phase b.phase ≡ false → spoiled_phase b.phase ≡ false → Leaves b true None v → Clears b f s v
  unfolding clear_verdict
  clear-ahead h o p w = record { is = rw (h, o, p) w.is }

-- from here on what the call does where it goes ahead
by-phases : (b : Buffer) (run other : List ℕ) (p : Bool) → output_phase b.phase || spoiled_phase b.phase ≡ p → has_output (account_of b run other) || is_spoiled (account_of b run other) ≡ p
by-phases b run other p e = rw (output-of b run other, spoiled-of b run other) e

module _ {call : ℕ → Account ℕ → Result ℕ} (h : Account ℕ → Account ℕ) {b : Buffer} (after : Buffer) {f s : List ℕ} {v : Decision} {Ask : Type 0} {Act : (run other run' other' : List ℕ) → Type 0}
    (is : (capacity : ℕ) (a : Account ℕ) → call capacity a ≡ (refuse WrongPhase when has_output a || is_spoiled a else accepted (h a))) where
  cleared : Clears b f s v → (sound b f s ≡ true → Ask)
      → (sound b f s ≡ true → output_phase b.phase ≡ false → spoiled_phase b.phase ≡ false → (run other run' other' : List ℕ) → Lying b f run other → length run' ≡ length run → length other' ≡ length other → Act run other run' other' → call (capacity_of (length run)) (account_of b run other) ≡ accepted (h (account_of b run other)) → MeetsIn call b run other (reply after (Ok None)) run' other')
      → Decided call b f s (settled_as b after v) (acts_of v) Ask Act
  unfolding clear_verdict
  cleared ev ask law = by (sound b f s) (output_phase b.phase) (spoiled_phase b.phase) refl refl refl ev.is
    where
      refuses : output_phase b.phase || spoiled_phase b.phase ≡ true → Refuses call b f WrongPhase
      refuses e = record { law = λ run other l. is _ _ ∙ refuse-yes WrongPhase _ (has_output (account_of b run other) || is_spoiled (account_of b run other)) (by-phases b run other true e) }

      by : (x o p : Bool) → sound b f s ≡ x → output_phase b.phase ≡ o → spoiled_phase b.phase ≡ p → v ≡ cond x (cond (o || p) (Err WrongPhase) (leaving b true None)) (Err Contradiction) → Decided call b f s (settled_as b after v) (acts_of v) Ask Act
      by false o p hx ho hp e = decided-turned (record { is = e }) (shell-unsound hx (as-refused after (record { is = e })))
      by true true p hx ho hp e = decided-turned (record { is = e }) (meets-refused hx (refuses (rw ho)) (as-refused after (record { is = e })))
      by true false true hx ho hp e = decided-turned (record { is = e }) (meets-refused hx (refuses (rw (ho, hp))) (as-refused after (record { is = e })))
      by true false false hx ho hp e =
          rw (as-done after (leaves-is b e)) (decided-acts hx (leaves-is b e) (λ t. ask hx) (λ q. absurd (false≢true (sym q)))
          (λ run other run' other' l lr lo act. law hx ho hp run other run' other' l lr lo act (is _ _ ∙ refuse-no WrongPhase _ (has_output (account_of b run other) || is_spoiled (account_of b run other)) (by-phases b run other false (rw (ho, hp))))))

-- nothing is written
Unwritten : (run other run' other' : List ℕ) → Type 0
Unwritten run other run' other' = (run' ≡ run) × (other' ≡ other)

pub clear_output_meets : {b x : Buffer} {f s : List ℕ} {v : Decision} → Clears b f s v → x ≡ opened_buffer b → Meets (λ capacity a. clear_output a) b f s (settled_as b x v) f s
unfolding clear_output restarted_buffer Unwritten
clear_output_meets {b} {x} {f} {s} {v} ev ex = rw ex (by (acts_of v) refl)
  where
    decided : Decided (λ capacity a. clear_output a) b f s (settled_as b (opened_buffer b) v) (acts_of v) (Unit {0}) Unwritten
    decided = cleared opened (opened_buffer b) (λ capacity a. refl) ev (λ h. tt) (λ hx ho hp run other run' other' l lr lo act e. rw (act.0, act.1)
        (in-accepted (opened_buffer b) refl refl refl (opened-held b run other l.held) (e ∙ ap accepted (opened_of b run other l.held ho hp)) refl))

    by : (x : Bool) → acts_of v ≡ x → Meets (λ capacity a. clear_output a) b f s (settled_as b (opened_buffer b) v) f s
    by false e = decided.still e
    by true e = decided.acted e refl refl (record { first = λ k. (refl, refl); second = λ k. (refl, refl) })

pub clear-positions-decided : {b x : Buffer} {f s : List ℕ} {v : Decision} → Clears b f s v → x ≡ positioned_buffer b → Decided (λ capacity a. clear_positions a) b f s (settled_as b x v) (acts_of v) ((b.len.0 ≤ length (positions_in f)) × (b.len.0 ≤ length (positions_in s))) (Zeroed b.len.0)
unfolding clear_positions
clear-positions-decided {b} {x} {f} {s} ev ex = rw ex (cleared positioned (positioned_buffer b) (λ capacity a. refl) ev (λ h. let w = sound-held b f s h in (omega (arith, positions-glyphs f), places_in b f s w)) (λ hx ho hp run other run' other' l lr lo act e.
    let v : Placeable b run other = record { held = l.held; plain = ho; clean = hp } in
    rw act.run_is (move-accepted (place-moves b run other v other' act.other-is lo refl) refl e refl)))

-- the act comes before the reply is made
pub clear_first : {b : Buffer} {f s : List ℕ} {v : Decision} {t : Bool} → Clears b f s v → t ≡ acts_of v → t ≡ true → b.len.0 ≤ length (positions_in f)
clear_first w et k = ((clear-positions-decided w refl).asked (sym et ∙ k)).0

pub clear_second : {b : Buffer} {f s : List ℕ} {v : Decision} {t : Bool} → Clears b f s v → t ≡ acts_of v → t ≡ true → b.len.0 ≤ length (positions_in s)
clear_second w et k = ((clear-positions-decided w refl).asked (sym et ∙ k)).1

module _ {b x : Buffer} {f s f'' s'' : List ℕ} {v : Decision} {t : Bool} {r : Reply} (er : r ≡ settled_as b x v) (ex : x ≡ positioned_buffer b) (w : Clears b f s v) (et : t ≡ acts_of v) where
  pub positions-acted : {f' s' : List ℕ} → t ≡ true → f'' ≡ f' → s'' ≡ s' → length f' ≡ length f → length s' ≡ length s → Sided b.swapped (Zeroed b.len.0) f s f' s' → Meets (λ capacity a. clear_positions a) b f s r f'' s''
  positions-acted k ef es lf ls act = end-acted er (clear-positions-decided w ex) et k ef es lf ls act

  pub positions-still : t ≡ false → f'' ≡ f → s'' ≡ s → Meets (λ capacity a. clear_positions a) b f s r f'' s''
  positions-still k ef es = end-still er (clear-positions-decided w ex) et k ef es

-- ---- 04
synced-no : {b : Buffer} {v : Decision} {why : Refusal} → Turned why v → synced b v ≡ reply b (Err why)
unfolding synced
synced-no {b} w = ap (synced b) w.is

module _ {b : Buffer} {f s : List ℕ} {v : Decision} {Ask : Type 0} {Act : (run other run' other' : List ℕ) → Type 0} where
  pub sync-unsound : sound b f s ≡ false → Turned Contradiction v → Decided (λ capacity a. sync capacity a) b f s (synced b v) (acts_of v) Ask Act
  sync-unsound h w = decided-turned w (shell-unsound h (synced-no w))

  module _ (h : sound b f s ≡ true) where
    pub sync-phase : output_phase b.phase ≡ false → Turned WrongPhase v → Decided (λ capacity a. sync capacity a) b f s (synced b v) (acts_of v) Ask Act
    sync-phase o w = decided-turned w (meets-still h (λ run other l. sync-in-none l.held o (synced-no w)))

    pub sync-spoils : output_phase b.phase ≡ true → b.limits.successful ≡ false → Leaves b false (Some 0) v → Decided (λ capacity a. sync capacity a) b f s (synced b v) (acts_of v) Ask Act
    unfolding synced
    sync-spoils o k w = decided-still w (meets-still h (λ run other l. sync-in-spoils l.held o k refl (ap (synced b) w.is)))

abbrev rest_of : Buffer → ℕ
rest_of b = b.len.0 - b.idx.0

abbrev SyncDecided : Buffer → (f s : List ℕ) → Decision → Type 0
SyncDecided b f s v = Decided (λ capacity a. sync capacity a) b f s (synced b v) (acts_of v) ((b.idx.0 ≤ b.len.0) × Passable b.have_separate_output b.idx.0 b.out_len.0 (rest_of b) f s) (Carried b.have_separate_output b.idx.0 b.out_len.0 (rest_of b))

pub sync-decided : {b : Buffer} {f s : List ℕ} {v : Decision} {m : ℕ} {t : Bool} → sound b f s ≡ true → output_phase b.phase ≡ true → b.limits.successful ≡ true → m ≡ capacity_of (length f) → t ≡ lies_elsewhere b → Sized m b (rest_of b) (rest_of b) t v → SyncDecided b f s v
unfolding synced settled_buffer wrote_buffer failed_buffer with_limits_of at_places
sync-decided {b} {f} {s} {v} {m} {t} h o ok em et w = by-room (room_for (capacity_of (length f)) (b.out_len.0 + rest_of b) b.limits) refl (rw (em, et) at w.is)
  where
    ready : {run other : List ℕ} → Lying b f run other → Syncable b run other
    ready l = record { held = l.held; output = o; successful = ok }

    by-room : (room : Room) → room_for (capacity_of (length f)) (b.out_len.0 + rest_of b) b.limits ≡ room → v ≡ by_size room b (rest_of b) (rest_of b) (lies_elsewhere b) → SyncDecided b f s v
    by-room (Ok true) k q =
        decided-acts h (leaves-is (wrote_buffer (rest_of b) (rest_of b) b) q)
        (λ t. ((sound-held b f s h).idx-in, room-carriable h (omega arith) (record { law = λ run other l. room_of (b.out_len.0 + rest_of b) l k })))
        (λ none run other l. stands b (rest_of b) run other none)
        (λ run other run' other' l lr lo act.
        let fits = room_of (b.out_len.0 + rest_of b) l k in
        sync-moves (ready l) fits refl refl (forward-moves _ (rest_of b) run other (sync-ready (ready l) fits refl refl) run' other' act.run_is act.other-is lr lo refl) refl (ap (synced b) q))
    by-room (Ok false) k q = decided-still (leaves-is (failed_buffer b) q) (meets-still h (λ run other l. sync-gives-up (ready l) (room_of (b.out_len.0 + rest_of b) l k) refl refl refl (ap (synced b) q)))
    by-room (Err why) k q = decided-turned (record { is = q }) (meets-still h (λ run other l. sync-over (ready l) (over-as _ _ _ (room_of (b.out_len.0 + rest_of b) l k)) (ap (synced b) (q ∙ ap Err (room-why _ _ _ k)))))

-- the reply of `sync`, as the code makes it
synced_as : Buffer → Verdict → Option ℕ → Reply
synced_as b v a = elim a [ None ↦ reply (swapped_buffer (settled_buffer b v)) (Ok (Some 1)) | Some x ↦ reply (spoiled_buffer b) (Ok (Some x)) ]

module _ (b : Buffer) {d : Decision} {v : Verdict} (e : d ≡ Ok v) where
  by_answer : {a : Option ℕ} → v.value ≡ a → synced b d ≡ synced_as b v a
  unfolding synced synced_as
  by_answer k = ap (synced b) e ∙ ap (synced_as b v) k

  pub synced-done : {x y : Buffer} {r : Reply} → v.value ≡ None → x ≡ settled_buffer b v → y ≡ swapped_buffer x → r ≡ reply y (Ok (Some 1)) → r ≡ synced b d
  unfolding synced_as
  synced-done k ex ey er = er ∙ (ap (λ (z : Buffer). reply z (Ok (Some 1))) (ey ∙ ap swapped_buffer ex) ∙ sym (by_answer k))

  pub synced-value : {n : ℕ} {y : Buffer} {r : Reply} → v.value ≡ Some n → y ≡ spoiled_buffer b → r ≡ reply y (Ok (Some n)) → r ≡ synced b d
  unfolding synced_as
  synced-value {n} k ey er = er ∙ (ap (λ (z : Buffer). reply z (Ok (Some n))) ey ∙ sym (by_answer k))

pub synced-refused : (b : Buffer) {d : Decision} {why : Refusal} {r : Reply} → d ≡ Err why → r ≡ reply b (Err why) → r ≡ synced b d
synced-refused b e er = er ∙ sym (synced-no (record { is = e }))

-- for the proofs of functions
pub ruleset phase_calls = (turned, soundness, tested, fresh-unsound, fresh-bad, fresh-ahead, fresh_meets, clear-unsound, clear-output, clear-spoiled, clear-ahead, clear_output_meets, clear_first, clear_second, positions-acted, positions-still, sync-unsound, sync-phase, sync-spoils, sync-decided, synced-done, synced-value, synced-refused)

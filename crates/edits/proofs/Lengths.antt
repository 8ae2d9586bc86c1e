-- A run of another length, on the account, and `push`.
use Rattle.lists.proofs.Tries.{Exits}
use Rattle.lists.specs.inner.Held.{Test}
use Rattle.std.specs.Prelude.{None, Option}
use Rattle.lists.proofs.Decisions.{turned, over-as, turned-as}
use Rattle.lists.specs.inner.States.{Decision}
use Rattle.lists.specs.inner.Verdicts.{acts_of, Turned}
use Rattle.std.specs.Prelude.{Ok, Err}
use Rattle.lists.specs.inner.Held.{fitting, given_up, Room}
use mathlib.Core.{Path.◌≡◌, Path.refl, Path.sym, Path.ap, Path.◌∙◌, Bool.Bool, Bool.true, Bool.false, Bool.false≢true, List.List, List.[], List.◌∷◌, List.◌++◌}
use Rattle.std.proofs.Common.{ℕ, ◌+◌, ◌^◌, ◌<◌, ◌≤◌, add-one, arith}
use lib.{ListN.length, ListN.take, ListN.drop, ListN.set, Seq.take-suc-set, Seq.drop-set-lt}
use Rattle.records.specs.{Limits, Contradiction, WrongPhase, Glyphs.Glyph, Glyphs.Info, Glyphs.change, Glyphs.with_origin, Glyphs.blank, Counters.capacity_of, Counters.grown, Counters.next_push, Counters.counted, Ranges.copies, View.glyphs, View.positions_in, View.words_from}
use Rattle.records.proofs.View.{length-glyphs, glyphs-same, beyond-glyphs, beyond-positions}
use Rattle.lists.specs.{declared.Buffer.Buffer}
use Rattle.lists.specs.{Account.Account, Account.positions_phase, Account.has_positions, Account.len, Account.limiting, Account.sized, Account.failing, Account.with_limits, Account.with_rest, Account.Result, Account.refused, Account.accepted, Account.needing, Contract.shown, Contract.state_of, Contract.account_of, Contract.sound, inner.Held.Tested, inner.Held.Held, inner.Held.room_for, inner.States.reply, inner.States.at_places, inner.States.with_limits_of, inner.Verdicts.Leaves, inner.Verdicts.failed_buffer, inner.Verdicts.settled, inner.Verdicts.Decided}
use Rattle.lists.proofs.Sides.{MeetsIn}
use Rattle.lists.proofs.{Accounts.limits_of, Accounts.len_of, SizeLaws.fits-within, SizeLaws.needing-fits, Calls.in-accepted, Accounts.positions-of, Inner.room-gives-up, Inner.room-over, CursorCalls.sound-len}
use Rattle.lists.proofs.Decisions.{Near, near-placed, leaves-is, result, room_of, gives_up, decided-unsound, decided-refused, decided-accepted, decided-does}
use Rattle.lists.proofs.SoundLaws.{soundness}
use Rattle.lists.proofs.Refusing.{refusing}
use Rattle.records.proofs.Tests.{tested}
use Rattle.records.proofs.Edited.{copies-one}
use Rattle.lists.proofs.Changed.{changed, held-placed, state-placed}
use Rattle.lists.proofs.Showing.{shown-glyphs}
use Rattle.edits.specs.{inner.Fills.longer_buffer, inner.Fills.by_length, inner.Fills.Lengthens, inner.Fills.Puttable, inner.Fills.Put, inner.Fills.Pushes, WholeRun.not_whole, WholeRun.push, inner.Wholes.WholeInput}
use Rattle.lists.proofs.Inner.{Roomy, roomy-grown}
use Rattle.edits.proofs.Holding.{behind-further, same-account}
use Rattle.edits.proofs.WholeInputs.{whole_test, not-not-whole, whole-gone, account-whole, whole-lengths}
use Rattle.edits.proofs.WholeCalls.{OnWhole, whole-refuses, lying-whole, sound-whole}

-- ---- a run of n glyphs, whose size is there
pub longer-made : (b : Buffer) (n : ℕ) (l : Limits) {g r : Buffer} → g ≡ with_limits_of l b → r ≡ at_places b.idx.0 n b.out_len.0 g → r ≡ longer_buffer n l b
unfolding longer_buffer
longer-made b n l eg er = er ∙ ap (at_places b.idx.0 n b.out_len.0) eg

module _ {b : Buffer} {run other : List ℕ} (w : WholeInput b run other) where
  pub rest-is : (account_of b run other).rest ≡ take b.len.0 (shown b.phase run other)
  rest-is = ap (λ (a : Account ℕ). a.rest) (account-whole w)

  module _ (n : ℕ) (h : room_for (capacity_of (length run)) n b.limits ≡ fitting) where
    pub size-within : n ≤ length (glyphs run)
    size-within =
        let e : length (glyphs run) ≡ capacity_of (length run) = length-glyphs run in
        let fit : n ≤ capacity_of (length run) = fits-within (capacity_of (length run)) n b.limits (omega (arith, w.held.all_in)) h in
        omega arith

    pub room_fits : (x y : Result ℕ) → needing (capacity_of (length run)) n (account_of b run other) x y ≡ x
    room_fits x y = needing-fits _ _ (account_of b run other) x y (ap (room_for (capacity_of (length run)) n) (limits_of b run other) ∙ h)

    pub roomy-counted : Roomy b n (counted (grown n b.limits)) run
    unfolding counted
    roomy-counted = let r = roomy-grown b run other w.held n h in record { grows = r.grows; room = r.room; within = r.within }

  -- the limits become what `more` makes of them
  module _ (n : ℕ) (more : Limits → Limits) (r : Roomy b n (more b.limits) run) where
    pub longer-held : Held (longer_buffer n (more b.limits) b) run other
    unfolding longer_buffer
    longer-held = held-placed w.held _ _ _ _ (omega (arith, w.start)) r.room (omega (arith, w.held.out-in, r.grows)) r.within w.held.behind w.held.none

    longer-whole : WholeInput (longer_buffer n (more b.limits) b) run other
    unfolding longer_buffer
    longer-whole = record { held = longer-held; plain = simp changed w.plain; clean = simp changed w.clean; start = simp changed w.start }

    pub longer-side : (longer_buffer n (more b.limits) b).swapped ≡ b.swapped
    unfolding longer_buffer
    longer-side = simp changed

    longer-size : n ≤ (longer_buffer n (more b.limits) b).limits.allocated
    unfolding longer_buffer
    longer-size = simp changed r.room

    longer-state : state_of (longer_buffer n (more b.limits) b) ≡ with_limits (more b.limits) (state_of b)
    unfolding longer_buffer
    longer-state = state-placed _ _ _ _ b (whole-gone longer-whole ∙ sym (whole-gone w))

    module _ (run' other' : List ℕ) (lr : length run' ≡ length run) (lo : length other' ≡ length other) where
      longer-account : account_of (longer_buffer n (more b.limits) b) run' other' ≡ record { done = []; passed = []; rest = take n (shown b.phase run' other'); state = state_of (longer_buffer n (more b.limits) b) }
      unfolding longer_buffer
      longer-account = simp changed at (account-whole {run = run'} {other = other'} (whole-lengths lr lo longer-whole))

      old-account : (L : List (Glyph ℕ)) → with_rest L (limiting more (account_of b run other)) ≡ record { done = []; passed = []; rest = L; state = with_limits (more b.limits) (state_of b) }
      unfolding with_rest limiting state_of
      old-account L = ap (λ (a : Account ℕ). with_rest L (limiting more a)) (account-whole w)

      pub longer-is : (L : List (Glyph ℕ)) → take n (shown b.phase run' other') ≡ L → account_of (longer_buffer n (more b.limits) b) run' other' ≡ with_rest L (limiting more (account_of b run other))
      longer-is L e = longer-account ∙ (same-account refl refl e longer-state ∙ sym (old-account L))

      pub longer-beyond : drop n (glyphs run') ≡ drop n (glyphs run) → words_from (longer_buffer n (more b.limits) b).limits.allocated run' ≡ words_from (longer_buffer n (more b.limits) b).limits.allocated run
      longer-beyond d =
          let m : ℕ = (longer_buffer n (more b.limits) b).limits.allocated in
          beyond-glyphs m run' run (behind-further n m (glyphs run) (glyphs run') longer-size d)

      pub other-beyond : drop n (positions_in other') ≡ drop n (positions_in other) → words_from (longer_buffer n (more b.limits) b).limits.allocated other' ≡ words_from (longer_buffer n (more b.limits) b).limits.allocated other
      other-beyond d =
          let m : ℕ = (longer_buffer n (more b.limits) b).limits.allocated in
          beyond-positions m other' other (behind-further n m (positions_in other) (positions_in other') longer-size d)

-- ---- a verdict by the size
module _ {capacity n : ℕ} {l : Limits} {there short : Option ℕ} {b : Buffer} {v : Decision} {room : Room} (e : room ≡ room_for capacity n b.limits) where
  by-room : (k : Room) → room ≡ k → v ≡ by_length k n l there short b → Lengthens capacity n l there short b v
  by-room k h q = record { is = rw (sym e ∙ h) q }

  pub lengthens-fits : {x : Buffer} → room ≡ fitting → x ≡ longer_buffer n l b → Leaves x true there v → Lengthens capacity n l there short b v
  lengthens-fits h ex w = by-room (Ok true) h (rw ex at w.is)

  pub lengthens-fails : room ≡ given_up → Leaves (failed_buffer b) false short v → Lengthens capacity n l there short b v
  lengthens-fails h w = by-room (Ok false) h w.is

  pub lengthens-over : Exits room v → Lengthens capacity n l there short b v
  lengthens-over w = by-room (Err w.why) w.was w.is

-- a call that needs size n, and leaves a run of n glyphs and limits l where it is there
pub record Needing (call : ℕ → Account ℕ → Result ℕ) (b : Buffer) (n : ℕ) (l : Limits) (there short : Option ℕ) (Ask : List ℕ → List ℕ → Type 0) (Act : (run other run' other' : List ℕ) → Type 0) : Type 0 where
  pub then : (run other : List ℕ) → Result ℕ
  pub sized : (run other : List ℕ) → WholeInput b run other → call (capacity_of (length run)) (account_of b run other) ≡ needing (capacity_of (length run)) n (account_of b run other) (then run other) (result short (failing (account_of b run other)))
  pub done : (run other run' other' : List ℕ) → WholeInput b run other → room_for (capacity_of (length run)) n b.limits ≡ fitting → length run' ≡ length run → length other' ≡ length other → Act run other run' other' → MeetsIn call b run other (reply (longer_buffer n l b) (Ok there)) run' other'
  pub asked : (f s : List ℕ) → WholeInput b f s → n ≤ length (glyphs f) → Ask f s

near-longer : (n : ℕ) (l : Limits) (b : Buffer) → Near b (longer_buffer n l b)
unfolding longer_buffer
near-longer n l b = near-placed b _ _ _ _

pub decided-lengthens : {call : ℕ → Account ℕ → Result ℕ} {b : Buffer} {f s : List ℕ} {v : Decision} {m n : ℕ} {l : Limits} {there short : Option ℕ} {t : Bool} {Ask : List ℕ → List ℕ → Type 0} {Act : (run other run' other' : List ℕ) → Type 0}
    → sound b f s ≡ true → t ≡ whole_test b → t ≡ false → Needing call b n l there short Ask Act → m ≡ capacity_of (length f) → Lengthens m n l there short b v → Decided call b f s (settled b v) (acts_of v) (Ask f s) Act
decided-lengthens {call} {b} {f} {s} {v} {m} {n} {l} {there} {short} {t} {Ask} {Act} h et k needs em w = by (room_for (capacity_of (length f)) n b.limits) refl (rw em at w.is)
  where
    by : (room : Room) → room_for (capacity_of (length f)) n b.limits ≡ room → v ≡ by_length room n l there short b → Decided call b f s (settled b v) (acts_of v) (Ask f s) Act
    by (Ok true) q e = decided-does h (record {
      near = near-longer n l b;
      none = λ c. absurd (false≢true (sym c));
      law = λ run other run' other' lies lr lo act. needs.done run other run' other' (lying-whole et k lies) (room_of n lies q) lr lo act;
    }) (λ c. let whole = sound-whole h et k in needs.asked f s whole (size-within whole n q)) (leaves-is (longer_buffer n l b) e)
    by (Ok false) q e = decided-accepted h (gives_up short (λ run other lies. needs.sized run other (lying-whole et k lies) ∙ room-gives-up b run other (capacity_of (length run)) n _ _ (room_of n lies q))) (leaves-is (failed_buffer b) e)
    by (Err why) q e = decided-refused h (record { law = λ run other lies. needs.sized run other (lying-whole et k lies) ∙ room-over b run other (capacity_of (length run)) n _ _ (room_of n lies (over-as _ _ _ q)) }) (turned-as _ _ _ q e)

-- ---- push
-- the limits that it leaves: the size, and one push more
abbrev pushes-more : ℕ → Limits → Limits
pushes-more n l = counted (grown n l)

module _ (g c : ℕ) where
  abbrev pushed : Buffer → Info
  pushed b = with_origin (next_push b.limits) (blank c)

  on-whole-push : OnWhole (λ capacity a. push capacity g c a)
  unfolding push
  on-whole-push = record { refuses = λ capacity a h. simp (h, refusing) }

  module _ (capacity : ℕ) (a : Account ℕ) where
    push-placed : not_whole a ≡ false → has_positions a ≡ true → push capacity g c a ≡ refused WrongPhase
    unfolding push
    push-placed h k = simp (h, k, refusing)

    push-needs : not_whole a ≡ false → has_positions a ≡ false → (n : ℕ) → len a ≡ n
        → push capacity g c a ≡ needing capacity (n + 1) a (accepted (with_rest (a.rest ++ copies (with_origin (next_push a.state.limits) (blank c)) (g ∷ [])) (limiting counted (sized (n + 1) a)))) (accepted (failing a))
    unfolding push
    push-needs h k n e = simp (h, k, e, refusing)

  module _ {b : Buffer} {run other : List ℕ} (w : WholeInput b run other) (p : positions_phase b.phase ≡ false) where
    push-is : push (capacity_of (length run)) g c (account_of b run other)
        ≡ needing (capacity_of (length run)) (b.len.0 + 1) (account_of b run other) (accepted (with_rest ((account_of b run other).rest ++ copies (pushed b) (g ∷ [])) (limiting (pushes-more (b.len.0 + 1)) (account_of b run other)))) (accepted (failing (account_of b run other)))
    unfolding sized limiting with_limits
    push-is =
        let a : Account ℕ = account_of b run other in
        push-needs _ a (not-not-whole w) (positions-of b run other ∙ p) b.len.0 (len_of b run other w.held w.clean)
        ∙ ap (λ (l : Limits). needing (capacity_of (length run)) (b.len.0 + 1) a (accepted (with_rest (a.rest ++ copies (with_origin (next_push l) (blank c)) (g ∷ [])) (limiting (pushes-more (b.len.0 + 1)) a))) (accepted (failing a))) (limits_of b run other)

    module _ (h : room_for (capacity_of (length run)) (b.len.0 + 1) b.limits ≡ fitting) (run' : List ℕ) (e : glyphs run' ≡ set (glyphs run) b.len.0 (record { glyph = g; info = pushed b })) where
      push-rest : take (b.len.0 + 1) (shown b.phase run' other) ≡ (account_of b run other).rest ++ copies (pushed b) (g ∷ [])
      push-rest =
          let n : ℕ = b.len.0 in
          let x : Glyph ℕ = record { glyph = g; info = pushed b } in
          rw copies-one (ap (take (n + 1)) (shown-glyphs b.phase run' other p w.clean ∙ e)
          ∙ (rw add-one (take-suc-set (glyphs run) n x (omega (arith, size-within w (n + 1) h)))
          ∙ ap (λ (l : List (Glyph ℕ)). l ++ (x ∷ [])) (sym (rest-is w ∙ ap (take n) (shown-glyphs b.phase run other p w.clean)))))

      push-done : length run' ≡ length run → MeetsIn (λ capacity a. push capacity g c a) b run other (reply (longer_buffer (b.len.0 + 1) (pushes-more (b.len.0 + 1) b.limits) b) (Ok None)) run' other
      push-done lr =
          let n : ℕ = b.len.0 + 1 in
          let behind : drop n (glyphs run') ≡ drop n (glyphs run) = ap (drop n) e ∙ drop-set-lt n (glyphs run) b.len.0 _ (omega arith) in
          let more : Limits → Limits = pushes-more n in
          let r : Roomy b n (more b.limits) run = roomy-counted w n h in
          in-accepted (longer_buffer n (more b.limits) b) (longer-side w n more r) (longer-beyond w n more r run' other lr refl behind) refl (longer-held w n more r)
          (push-is ∙ (room_fits w n h _ _ ∙ ap accepted (sym (longer-is w n more r run' other lr refl _ push-rest))))
          refl

  push-needing : {b : Buffer} {o : ℕ} → positions_phase b.phase ≡ false → o ≡ next_push b.limits → Needing (λ capacity a. push capacity g c a) b (b.len.0 + 1) (pushes-more (b.len.0 + 1) b.limits) None None (Puttable b.len.0) (Put b.len.0 g c o)
  push-needing {b} p eo = record {
    then = _;
    sized = λ run other w. push-is w p;
    done = λ run other run' other' w h lr lo act. rw act.other-is (push-done w p h run' (act.run_is ∙ ap (λ (k : ℕ). set (glyphs run) b.len.0 (record { glyph = g; info = with_origin k (blank c) })) eo) lr);
    asked = λ f s w k. let same : length (glyphs f) ≡ length (glyphs s) = glyphs-same f s w.held.same in record { in-first = omega arith; in-second = omega arith };
  }

module _ {b : Buffer} {f s : List ℕ} {v : Decision} where
  pub push-unsound : sound b f s ≡ false → Turned Contradiction v → Pushes b f s v
  push-unsound h w = record { is = λ g c eo. decided-unsound h w }

  module _ {t : Bool} (h : sound b f s ≡ true) (et : t ≡ whole_test b) where
    pub push-not-whole : t ≡ true → Turned WrongPhase v → Pushes b f s v
    push-not-whole k w = record { is = λ g c eo. decided-refused h (whole-refuses (on-whole-push g c) et k) w }

    module _ (k : t ≡ false) where
      pub push-positions : positions_phase b.phase ≡ true → Turned WrongPhase v → Pushes b f s v
      push-positions p w = record { is = λ g c eo. decided-refused h (record { law = λ run other l. push-placed g c _ _ (not-not-whole (lying-whole et k l)) (positions-of b run other ∙ p) }) w }

      pub push-ahead : {m : ℕ} {l : Limits} → positions_phase b.phase ≡ false → m ≡ capacity_of (length f) → l ≡ pushes-more (b.len.0 + 1) b.limits → Lengthens m (b.len.0 + 1) l None None b v → Pushes b f s v
      push-ahead p em el w = record { is = λ g c eo. decided-lengthens h et k (push-needing g c p eo) em (rw el at w) }

pub push-size : {b : Buffer} {f s : List ℕ} {t : Test} {y : Unit {0}} → Tested b f s t → t ≡ Ok y → b.len.0 + 1 < 2 ^ 64
push-size w h = omega (arith, sound-len w h)

pub push-limits : (n : ℕ) (l : Limits) {m k : Limits} → m ≡ grown n l → k ≡ counted m → k ≡ pushes-more n l
push-limits n l em ek = ek ∙ ap counted em

pub puttable-turned : {n : ℕ} {f s : List ℕ} → Puttable n f s → Puttable n s f
puttable-turned w = record { in-first = w.in-second; in-second = w.in-first }

pub was-put : {run other run' : List ℕ} {at number cluster origin : ℕ} {x y : Glyph ℕ} → x ≡ record { glyph = number; info = blank cluster } → y ≡ change (with_origin origin) x → glyphs run' ≡ set (glyphs run) at y → Put at number cluster origin run other run' other
unfolding change
was-put {run} {other} {run'} {at} {number} {cluster} {origin} ex ey e = record { run_is = e ∙ ap (set (glyphs run) at) (ey ∙ ap (change (with_origin origin)) ex); other-is = refl }

-- for the proofs of functions
pub ruleset push_calls = (turned, soundness, tested, push-unsound, push-not-whole, push-positions, push-ahead, push-size, push-limits)

pub ruleset lengthening = (longer-made, lengthens-fits, lengthens-fails, lengthens-over)

-- Laws of verdicts, whichever the call: that the reply made of a verdict meets the call. A law of a single call is stated of the slice that holds the run and the other.
use Rattle.std.specs.Prelude.{Ok, Err, Option, Some, None}
use mathlib.Core.{Path.◌≡◌, Path.refl, Path.sym, Path.ap, Path.◌∙◌, Bool.Bool, Bool.true, Bool.false, Bool.cond, Bool.◌||◌, Bool.false≢true, List.List}
use Prim.Native.Nat.{ℕ, ◌+◌}
use lib.{ListN.length}
use Rattle.records.specs.{Refusal, Contradiction, OverCapacity, Limits, Counters.capacity_of, Counters.failed, Counters.grown, View.words_from}
use Rattle.lists.specs.{declared.Buffer.Buffer, declared.Reply.Reply, declared.Verdict.Verdict, inner.Held.Room, inner.Held.fitting, inner.Held.given_up, inner.Held.over_capacity}
use Rattle.lists.specs.Account.{Account, failing}
use Rattle.lists.specs.Account.{Result, outcome, refused, accepted, answered, needing}
use Rattle.lists.specs.{Contract.account_of, Contract.account, Contract.sound, inner.Held.Held, inner.Held.room_for}
use Rattle.lists.specs.inner.States.{Decision, reply, with_limits_of, at_places, apart_buffer}
use Rattle.lists.specs.Contract.{judged, Meets}
use Rattle.lists.proofs.Sides.{MeetsIn}
use Rattle.lists.specs.inner.Verdicts.{leaving, Leaves, Sized, by_size, wrote_buffer, failed_buffer, settled_buffer, settled, settled_as, acts_of, Turned, Sided, Decided}
use Rattle.lists.proofs.Tries.{Exits, tried}
use Rattle.lists.proofs.SizeLaws.{room-why}
use Rattle.lists.proofs.Calls.{account-first, account-second, judged-sound, shell-unsound, shell-first, shell-second, in-refused, in-accepted, in-answered}
use Rattle.lists.proofs.Inner.{room-over, room-gives-up, held-failed, failing-of}
use Rattle.lists.proofs.Lying.{sided-first, sided-second, Lying, lying-first, lying-second}

-- ---- the reply of a verdict: b' differs from b in places and limits alone
pub record Near (b b' : Buffer) : Type 0 where
  pub is : with_limits_of b'.limits (at_places b'.idx.0 b'.len.0 b'.out_len.0 b) ≡ b'

module _ (b : Buffer) where
  pub near_same : Near b b
  unfolding with_limits_of at_places
  near_same = record { is = refl }

  pub near-places : (i l o : ℕ) → Near b (at_places i l o b)
  unfolding with_limits_of at_places
  near-places i l o = record { is = refl }

  pub near-limits : (l : Limits) → Near b (with_limits_of l b)
  unfolding with_limits_of at_places
  near-limits l = record { is = refl }

  pub near-placed : (i l o : ℕ) (m : Limits) → Near b (at_places i l o (with_limits_of m b))
  unfolding with_limits_of at_places
  near-placed i l o m = record { is = refl }

near-side : (b b' : Buffer) → Near b b' → b'.swapped ≡ b.swapped
unfolding with_limits_of at_places
near-side b b' near = sym (ap (λ (x : Buffer). x.swapped) near.is)

pub settled_is : {b b' : Buffer} {acts : Bool} {a : Option ℕ} {v : Decision} → Near b b' → Leaves b' acts a v → settled b v ≡ reply b' (Ok a)
unfolding settled settled_buffer
settled_is {b} {b'} {acts} {a} near w = ap (settled b) w.is ∙ ap (λ (x : Buffer). reply x (Ok a)) near.is

pub settled-refused : {b : Buffer} {why : Refusal} {v : Decision} → Turned why v → settled b v ≡ reply b (Err why)
unfolding settled
settled-refused {b} w = ap (settled b) w.is

pub acts-refused : {why : Refusal} {v : Decision} → Turned why v → acts_of v ≡ false
acts-refused w = ap acts_of w.is

pub acts-is : {b' : Buffer} {acts : Bool} {a : Option ℕ} {v : Decision} → Leaves b' acts a v → acts_of v ≡ acts
acts-is w = ap acts_of w.is

pub leaves-is : (b : Buffer) {acts : Bool} {a : Option ℕ} {v : Decision} → v ≡ leaving b acts a → Leaves b acts a v
leaves-is b e = record { is = e }

pub leaves-as : {b b' : Buffer} {acts : Bool} {a : Option ℕ} {v : Decision} → b ≡ b' → Leaves b acts a v → Leaves b' acts a v
leaves-as {b} {b'} {acts} {a} e w = record { is = w.is ∙ ap (λ (x : Buffer). leaving x acts a) e }

pub leaves-failed : (b : Buffer) {x : Buffer} {acts : Bool} {a : Option ℕ} {v : Decision} {l : Limits} → l ≡ failed b.limits → x ≡ with_limits_of l b → Leaves x acts a v → Leaves (failed_buffer b) acts a v
unfolding failed_buffer
leaves-failed b el ex w = leaves-as (ex ∙ ap (λ (y : Limits). with_limits_of y b) el) w

-- ---- what the account's call comes to, whichever slice holds the run
abbrev pub result : Option ℕ → Account ℕ → Result ℕ
result a x = elim a [ None ↦ accepted x | Some n ↦ answered n x ]

pub record Refuses (call : ℕ → Account ℕ → Result ℕ) (b : Buffer) (f : List ℕ) (why : Refusal) : Type 0 where
  pub law : (run other : List ℕ) → Lying b f run other → call (capacity_of (length run)) (account_of b run other) ≡ refused why

-- b' is the state that is left
module _ {call : ℕ → Account ℕ → Result ℕ} {b b' : Buffer} {run other run' other' : List ℕ} where
  pub in-result : (a : Option ℕ) → Near b b' → words_from b'.limits.allocated run' ≡ words_from b'.limits.allocated run → words_from b'.limits.allocated other' ≡ words_from b'.limits.allocated other → Held b' run other
      → call (capacity_of (length run)) (account_of b run other) ≡ result a (account_of b' run' other') → MeetsIn call b run other (reply b' (Ok a)) run' other'
  in-result None near br bo v e = in-accepted b' (near-side b b' near) br bo v e refl
  in-result (Some x) near br bo v e = in-answered b' (near-side b b' near) br bo v x e refl

-- accepted, with no word written
pub record Accepts (call : ℕ → Account ℕ → Result ℕ) (b : Buffer) (f : List ℕ) (b' : Buffer) (a : Option ℕ) : Type 0 where
  pub near : Near b b'
  pub law : (run other : List ℕ) → Lying b f run other → MeetsIn call b run other (reply b' (Ok a)) run other

-- from the account's call alone
pub accepts : {call : ℕ → Account ℕ → Result ℕ} {b b' : Buffer} {f : List ℕ} (a : Option ℕ) → Near b b'
    → ((run other : List ℕ) → Lying b f run other → (call (capacity_of (length run)) (account_of b run other) ≡ result a (account_of b' run other)) × Held b' run other) → Accepts call b f b' a
accepts a near law = record { near = near; law = λ run other l. in-result a near refl refl (law run other l).1 (law run other l).0 }

-- accepted, with an act
pub record Does (call : ℕ → Account ℕ → Result ℕ) (b : Buffer) (f : List ℕ) (b' : Buffer) (acts : Bool) (a : Option ℕ) (Act : (run other run' other' : List ℕ) → Type 0) : Type 0 where
  pub near : Near b b'
  pub none : acts ≡ false → (run other : List ℕ) → Lying b f run other → Act run other run other
  pub law : (run other run' other' : List ℕ) → Lying b f run other → length run' ≡ length run → length other' ≡ length other → Act run other run' other' → MeetsIn call b run other (reply b' (Ok a)) run' other'

-- "needs size": `out_len` and o more; given up, it only fails
pub record Needs (call : ℕ → Account ℕ → Result ℕ) (b : Buffer) (f : List ℕ) (o : ℕ) : Type 0 where
  pub then : (run other : List ℕ) → Result ℕ
  pub law : (run other : List ℕ) → Lying b f run other → call (capacity_of (length run)) (account_of b run other) ≡ needing (capacity_of (length run)) (b.out_len.0 + o) (account_of b run other) (then run other) (accepted (failing (account_of b run other)))

pub record Rooms (b : Buffer) (f : List ℕ) (o : ℕ) : Type 0 where
  pub law : (run other : List ℕ) → Lying b f run other → room_for (capacity_of (length run)) (b.out_len.0 + o) b.limits ≡ fitting

pub over-as : (capacity n : ℕ) (l : Limits) {why : Refusal} → room_for capacity n l ≡ Err why → room_for capacity n l ≡ over_capacity
over-as capacity n l k = k ∙ ap Err (room-why capacity n l k)

pub turned-as : (capacity n : ℕ) (l : Limits) {why : Refusal} {v : Decision} → room_for capacity n l ≡ Err why → v ≡ Err why → Turned OverCapacity v
turned-as capacity n l k q = record { is = q ∙ ap Err (room-why capacity n l k) }

-- a verdict that is written out
pub turned : (why : Refusal) → Turned why (Err why)
turned why = record { is = refl }

pub room_of : {b : Buffer} {f run other : List ℕ} {room : Room} (n : ℕ) → Lying b f run other → room_for (capacity_of (length f)) n b.limits ≡ room → room_for (capacity_of (length run)) n b.limits ≡ room
room_of {b} n l k = ap (λ (m : ℕ). room_for (capacity_of m) n b.limits) l.long ∙ k

-- a buffer that gives up, and nothing else
pub gives_up : {call : ℕ → Account ℕ → Result ℕ} {b : Buffer} {f : List ℕ} (a : Option ℕ) → ((run other : List ℕ) → Lying b f run other → call (capacity_of (length run)) (account_of b run other) ≡ result a (failing (account_of b run other))) → Accepts call b f (failed_buffer b) a
unfolding failed_buffer
gives_up {call} {b} {f} a law = accepts a (near-limits b (failed b.limits)) (λ run other l. (law run other l ∙ ap (result a) (sym (failing-of b run other)), held-failed b run other l.held))

-- ---- from these to what is promised
module _ {call : ℕ → Account ℕ → Result ℕ} {b : Buffer} {f s : List ℕ} {r : Reply} where
  pub meets-still : sound b f s ≡ true → ((run other : List ℕ) → Lying b f run other → MeetsIn call b run other r run other) → Meets call b f s r f s
  meets-still h law = by_side b.swapped refl
    where
      by_side : (x : Bool) → b.swapped ≡ x → Meets call b f s r f s
      by_side true e = shell-second h refl refl e (law s f (lying-second h))
      by_side false e = shell-first h refl refl e (law f s (lying-first h))

  pub meets-sided : {Act : (run other run' other' : List ℕ) → Type 0} {f' s' : List ℕ} → sound b f s ≡ true → length f' ≡ length f → length s' ≡ length s → Sided b.swapped Act f s f' s'
      → ((run other run' other' : List ℕ) → Lying b f run other → length run' ≡ length run → length other' ≡ length other → Act run other run' other' → MeetsIn call b run other r run' other')
      → Meets call b f s r f' s'
  meets-sided {Act} {f'} {s'} h ef es act law = by_side b.swapped refl
    where
      by_side : (x : Bool) → b.swapped ≡ x → Meets call b f s r f' s'
      by_side true e = shell-second h ef es e (law s f s' f' (lying-second h) es ef (act.second e))
      by_side false e = shell-first h ef es e (law f s f' s' (lying-first h) ef es (act.first e))

module _ {call : ℕ → Account ℕ → Result ℕ} {b : Buffer} {f s : List ℕ} {r : Reply} where
  pub meets-refused : {why : Refusal} → sound b f s ≡ true → Refuses call b f why → r ≡ reply b (Err why) → Meets call b f s r f s
  meets-refused {why} h w e = meets-still h (λ run other l. in-refused why (w.law run other l) l.held e)

  pub meets-accepted : {b' : Buffer} {a : Option ℕ} → sound b f s ≡ true → Accepts call b f b' a → r ≡ reply b' (Ok a) → Meets call b f s r f s
  meets-accepted h w e = rw e (meets-still h w.law)

-- of a verdict that is settled by its places and limits
module _ {call : ℕ → Account ℕ → Result ℕ} {b : Buffer} {f s : List ℕ} {v : Decision} where
  pub settles-unsound : sound b f s ≡ false → Turned Contradiction v → Meets call b f s (settled b v) f s
  settles-unsound h e = shell-unsound h (settled-refused e)

  pub settles-refused : {why : Refusal} → sound b f s ≡ true → Refuses call b f why → Turned why v → Meets call b f s (settled b v) f s
  settles-refused h w e = meets-refused h w (settled-refused e)

  pub settles-accepted : {b' : Buffer} {a : Option ℕ} → sound b f s ≡ true → Accepts call b f b' a → Leaves b' false a v → Meets call b f s (settled b v) f s
  settles-accepted h w e = meets-accepted h w (settled_is w.near e)

-- a call that may have to write: turned back
pub decided-turned : {call : ℕ → Account ℕ → Result ℕ} {b : Buffer} {f s : List ℕ} {why : Refusal} {v : Decision} {r : Reply} {Ask : Type 0} {Act : (run other run' other' : List ℕ) → Type 0} → Turned why v → Meets call b f s r f s → Decided call b f s r (acts_of v) Ask Act
decided-turned e m = record { still = λ k. m; asked = λ k. absurd (false≢true (sym (acts-refused e) ∙ k)); acted = λ k. absurd (false≢true (sym (acts-refused e) ∙ k)) }

-- accepted, and no act
pub decided-still : {call : ℕ → Account ℕ → Result ℕ} {b b' : Buffer} {f s : List ℕ} {a : Option ℕ} {v : Decision} {r : Reply} {Ask : Type 0} {Act : (run other run' other' : List ℕ) → Type 0} → Leaves b' false a v → Meets call b f s r f s → Decided call b f s r (acts_of v) Ask Act
decided-still w m = record { still = λ k. m; asked = λ k. absurd (false≢true (sym (acts-is w) ∙ k)); acted = λ k. absurd (false≢true (sym (acts-is w) ∙ k)) }

-- and an act, where one is asked for
pub decided-acts : {call : ℕ → Account ℕ → Result ℕ} {b b' : Buffer} {f s : List ℕ} {acts : Bool} {a : Option ℕ} {v : Decision} {r : Reply} {Ask : Type 0} {Act : (run other run' other' : List ℕ) → Type 0} → sound b f s ≡ true → Leaves b' acts a v
    → (acts ≡ true → Ask)
    → (acts ≡ false → (run other : List ℕ) → Lying b f run other → Act run other run other)
    → ((run other run' other' : List ℕ) → Lying b f run other → length run' ≡ length run → length other' ≡ length other → Act run other run' other' → MeetsIn call b run other r run' other')
    → Decided call b f s r (acts_of v) Ask Act
decided-acts h w ask none law = record {
  still = λ k. meets-still h (λ run other l. law run other run other l refl refl (none (sym (acts-is w) ∙ k) run other l));
  asked = λ k. ask (sym (acts-is w) ∙ k);
  acted = λ k ef es act. meets-sided h ef es act law;
}

module _ {call : ℕ → Account ℕ → Result ℕ} {b : Buffer} {f s : List ℕ} {v : Decision} {Ask : Type 0} {Act : (run other run' other' : List ℕ) → Type 0} where
  pub decided-unsound : sound b f s ≡ false → Turned Contradiction v → Decided call b f s (settled b v) (acts_of v) Ask Act
  decided-unsound h w = decided-turned w (settles-unsound h w)

  pub decided-refused : {why : Refusal} → sound b f s ≡ true → Refuses call b f why → Turned why v → Decided call b f s (settled b v) (acts_of v) Ask Act
  decided-refused h r w = decided-turned w (settles-refused h r w)

  pub decided-no : {why : Refusal} → sound b f s ≡ true → ((run other : List ℕ) → Lying b f run other → MeetsIn call b run other (reply b (Err why)) run other) → Turned why v → Decided call b f s (settled b v) (acts_of v) Ask Act
  decided-no h law e = decided-turned e (rw (settled-refused e) (meets-still h law))

  pub decided-accepted : {b' : Buffer} {a : Option ℕ} → sound b f s ≡ true → Accepts call b f b' a → Leaves b' false a v → Decided call b f s (settled b v) (acts_of v) Ask Act
  decided-accepted h r w = decided-still w (settles-accepted h r w)

  pub decided-does : {b' : Buffer} {acts : Bool} {a : Option ℕ} → sound b f s ≡ true → Does call b f b' acts a Act → (acts ≡ true → Ask) → Leaves b' acts a v → Decided call b f s (settled b v) (acts_of v) Ask Act
  decided-does h r ask w = rw (settled_is r.near w) (decided-acts h w ask r.none r.law)

  -- a size is needed, of which the code asked with capacity m: what is done where it is there is left to the call
  pub decided-sized : {m i o : ℕ} {t acts : Bool} → sound b f s ≡ true → Needs call b f o → (Rooms b f o → Does call b f (wrote_buffer i o b) acts None Act) → (Rooms b f o → Ask) → m ≡ capacity_of (length f) → t ≡ acts → Sized m b i o t v → Decided call b f s (settled b v) (acts_of v) Ask Act
  decided-sized {m} {i} {o} {t} {acts} h r ahead ask em et w = by-room (room_for (capacity_of (length f)) (b.out_len.0 + o) b.limits) refl (rw (em, et) at w.is)
    where
      by-room : (room : Room) → room_for (capacity_of (length f)) (b.out_len.0 + o) b.limits ≡ room → v ≡ by_size room b i o acts → Decided call b f s (settled b v) (acts_of v) Ask Act
      by-room (Ok true) k q =
          let fits : Rooms b f o = record { law = λ run other l. room_of (b.out_len.0 + o) l k } in
          decided-does h (ahead fits) (λ t. ask fits) (leaves-is (wrote_buffer i o b) q)
      by-room (Ok false) k q =
          decided-accepted h (gives_up None (λ run other l. r.law run other l ∙ room-gives-up b run other (capacity_of (length run)) (b.out_len.0 + o) _ _ (room_of (b.out_len.0 + o) l k))) (leaves-is (failed_buffer b) q)
      by-room (Err why) k q =
          decided-refused h (record { law = λ run other l. r.law run other l ∙ room-over b run other (capacity_of (length run)) (b.out_len.0 + o) _ _ (room_of (b.out_len.0 + o) l (over-as _ _ _ k)) }) (turned-as _ _ _ k q)

-- ---- a call that is another from the same state
module _ (call other-call : ℕ → Account ℕ → Result ℕ) (b : Buffer) (f s : List ℕ) (h : sound b f s ≡ true) (same : (run other : List ℕ) → Lying b f run other → call (capacity_of (length run)) (account_of b run other) ≡ other-call (capacity_of (length run)) (account_of b run other)) where
  judged-by : judged call b f s ≡ judged other-call b f s
  judged-by = by_side b.swapped refl
    where
      at : (run other : List ℕ) → Lying b f run other → account b f s ≡ account_of b run other → judged call b f s ≡ judged other-call b f s
      at run other l e =
          let n : capacity_of (length f) ≡ capacity_of (length run) = ap capacity_of (sym l.long) in
          judged-sound call b f s h ∙ (rw (e, n) (ap (outcome (account_of b run other)) (same run other l)) ∙ sym (judged-sound other-call b f s h))

      by_side : (x : Bool) → b.swapped ≡ x → judged call b f s ≡ judged other-call b f s
      by_side true e = at s f (lying-second h) (account-second b f s e)
      by_side false e = at f s (lying-first h) (account-first b f s e)

  meets-by : {r : Reply} {f' s' : List ℕ} → Meets other-call b f s r f' s' → Meets call b f s r f' s'
  meets-by m = record { is = m.is ∙ sym judged-by; alone = m.alone }

  pub decided-by : {r : Reply} {acts : Bool} {Ask : Type 0} {Act : (run other run' other' : List ℕ) → Type 0} → Decided other-call b f s r acts Ask Act → Decided call b f s r acts Ask Act
  decided-by d = record { still = λ k. meets-by (d.still k); asked = d.asked; acted = λ k lf ls act. meets-by (d.acted k lf ls act) }

-- ---- the end of an exported call, by whether it acted
module _ {call : ℕ → Account ℕ → Result ℕ} {b : Buffer} {f s : List ℕ} {r₀ r : Reply} where
  pub ends : r ≡ r₀ → Meets call b f s r₀ f s → Meets call b f s r f s
  ends e m = rw e m

  -- t: the test of it
  module _ {acts t : Bool} {Ask : Type 0} {Act : (run other run' other' : List ℕ) → Type 0} {f'' s'' : List ℕ} (e : r ≡ r₀) (d : Decided call b f s r₀ acts Ask Act) (et : t ≡ acts) where
    pub end-acted : {f' s' : List ℕ} → t ≡ true → f'' ≡ f' → s'' ≡ s' → length f' ≡ length f → length s' ≡ length s → Sided b.swapped Act f s f' s' → Meets call b f s r f'' s''
    end-acted k ef es lf ls act = rw (e, ef, es) (d.acted (sym et ∙ k) lf ls act)

    pub end-still : t ≡ false → f'' ≡ f → s'' ≡ s → Meets call b f s r f'' s''
    end-still k ef es = rw (e, ef, es) (d.still (sym et ∙ k))

-- a slice that is another's, whose length a call kept
pub kept-length : (f : List ℕ) {f' f'' : List ℕ} → f'' ≡ f' → length f' ≡ length f → length f'' ≡ length f
kept-length f e k = ap length e ∙ k

-- ---- the functions that make verdicts and replies
module _ {capacity : ℕ} {b : Buffer} {i o : ℕ} {acts : Bool} {v : Decision} {room : Room} (e : room ≡ room_for capacity (b.out_len.0 + o) b.limits) where
  by-size : (k : Room) → room ≡ k → v ≡ by_size k b i o acts → Sized capacity b i o acts v
  by-size k h q = record { is = rw (sym e ∙ h) q }

  pub sized-fits : {l : Limits} {x y : Buffer} → room ≡ fitting → l ≡ grown (b.out_len.0 + o) b.limits → x ≡ with_limits_of l b → y ≡ at_places (b.idx.0 + i) b.len.0 (b.out_len.0 + o) x → Leaves y acts None v → Sized capacity b i o acts v
  unfolding wrote_buffer
  sized-fits h el ex ey w = by-size fitting h (rw (ey, ex, el) at w.is)

  pub sized-fails : room ≡ given_up → Leaves (failed_buffer b) false None v → Sized capacity b i o acts v
  sized-fails h w = by-size given_up h w.is

  pub sized-over : Exits room v → Sized capacity b i o acts v
  sized-over w = by-size (Err w.why) w.was w.is

module _ (b : Buffer) (v : Verdict) where
  abbrev settled_apart : Bool → Buffer
  settled_apart t = record { idx = record { 0 = v.idx }; len = record { 0 = v.len }; out_len = record { 0 = v.out_len }; phase = b.phase; limits = v.limits; level = b.level; wants = b.wants; swapped = b.swapped; have_separate_output = t }

  pub settled_fields : settled_apart (b.have_separate_output || v.apart) ≡ settled_buffer b v
  unfolding settled_buffer apart_buffer with_limits_of at_places
  settled_fields = by b.have_separate_output v.apart refl
    where
      by : (x y : Bool) → b.have_separate_output ≡ x → settled_apart (x || y) ≡ cond y (apart_buffer (with_limits_of v.limits (at_places v.idx v.len v.out_len b))) (with_limits_of v.limits (at_places v.idx v.len v.out_len b))
      by true true h = refl
      by false true h = refl
      by true false h = ap settled_apart (sym h)
      by false false h = ap settled_apart (sym h)

module _ (b after : Buffer) (v : Decision) {r : Reply} where
  pub settled-acts : {t : Bool} → r ≡ reply after (Ok None) → t ≡ acts_of v → t ≡ true → r ≡ settled_as b after v
  unfolding settled_as
  settled-acts e et h = e ∙ sym (ap (λ (t : Bool). cond t (reply after (Ok None)) (settled b v)) (sym et ∙ h))

  pub settled-still : {t : Bool} → r ≡ settled b v → t ≡ acts_of v → t ≡ false → r ≡ settled_as b after v
  unfolding settled_as
  settled-still e et h = e ∙ sym (ap (λ (t : Bool). cond t (reply after (Ok None)) (settled b v)) (sym et ∙ h))

module _ (b : Buffer) {d : Decision} where
  pub settles-as : {v : Verdict} {r : Reply} → d ≡ Ok v → r ≡ settled b (Ok v) → r ≡ settled b d
  settles-as e er = er ∙ sym (ap (settled b) e)

  pub settles-no : {why : Refusal} {r : Reply} → d ≡ Err why → r ≡ reply b (Err why) → r ≡ settled b d
  unfolding settled
  settles-no e er = er ∙ sym (ap (settled b) e)

-- for the proofs of functions
pub ruleset settling = (tried, turned, ends, sided-first, sided-second, sized-fits, sized-fails, sized-over, settles-as, settles-no, settled-acts, settled-still, leaves-failed, leaves-as)

pub ruleset ending = (end-acted, end-still, kept-length)

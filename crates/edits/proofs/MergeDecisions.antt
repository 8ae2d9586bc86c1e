-- Merges by places, and what 11 and 13 come to, outcome by outcome.
use Rattle.lists.specs.inner.Held.{Test}
use Rattle.lists.proofs.Decisions.{turned}
use Rattle.lists.specs.inner.States.{Decision}
use Rattle.lists.specs.inner.Verdicts.{acts_of, Turned}
use Rattle.std.specs.Prelude.{None}
use mathlib.Core.{Path.◌≡◌, Path.refl, Path.sym, Path.ap, Path.◌∙◌, Bool.Bool, Bool.true, Bool.false, Bool.cond, Bool.◌||◌, Bool.false≢true, List.List}
use Rattle.std.proofs.Common.{ℕ, ◌-◌, ◌<◌, ◌≤◌, arith, ltb-false, le-ltb, lt-ltb, le-leb}
use native.Mathlib.Nat.{sub-zero}
use borrow.Author.Tests.{lt-leb}
use lib.{Dec.ltb, ListN.length, ListN.drop, Seq.slice}
use Rattle.records.specs.{InputPlace, Contradiction, WrongPhase, OutOfRange, Limits, Counters.costs, Ranges.clusters, View.glyphs}
use Rattle.records.proofs.View.{glyphs-same}
use Rattle.lists.specs.{declared.Buffer.Buffer}
use Rattle.lists.specs.{Account.Account, Account.read_level, Account.spoiled_phase, Account.is_spoiled, Account.refused, Account.accepted, Contract.gone_of, Contract.account_of, Contract.sound, inner.Held.Tested, inner.States.with_limits_of, inner.Verdicts.Leaves}
use Rattle.lists.proofs.{Accounts.spoiled-of, Accounts.level-of, Accounts.gone-of, SoundLaws.sound-held}
use Rattle.lists.proofs.Decisions.{near-limits, leaves-as, decided-unsound, decided-refused, decided-does}
use Rattle.lists.proofs.SoundLaws.{soundness}
use Rattle.lists.proofs.Refusing.{refusing}
use Rattle.records.proofs.Tests.{tested}
use Rattle.edits.specs.{inner.Acts.Acts, inner.Acts.Mergeful, inner.Charges.running, inner.Charges.MergesRun, Flags.interior, Flags.search_level, Flags.sought, Merging.merge, Merging.merged, Merging.merge_input, Merging.outside_input, inner.Plans.Written}
use Rattle.edits.specs.inner.MergeActs.{merge_limits, lies_apart, MergeRoom, Merges, MergesInput}
use Rattle.edits.proofs.{Chaining.acts-as, MergeLaws.merged-apart, MergeLaws.merged-within, WholeInputs.whole-gone}
use Rattle.edits.proofs.Charging.{limits-running}
use Rattle.edits.proofs.MergeCalls.{acts-paid, acts-kept, in-acts, from-gone, ready-apart, apart-is, ready-within, out-low, within-is, width, flag_is, flag-behind, outside_of, in-mergeful, neither_left}

-- ---- what a merge costs
module _ (merges : Bool) (n : ℕ) (l : Limits) where
  pub limits-paid : {r : Limits} → merges ≡ true → 2 ≤ n → r ≡ costs n l → r ≡ merge_limits merges n l
  unfolding merge_limits
  limits-paid h two e = rw (h, le-leb 2 n two) e

  pub limits-few : n < 2 → l ≡ merge_limits merges n l
  unfolding merge_limits
  limits-few few = rw (lt-leb 2 n few) (by-merges merges)
    where
      by-merges : (x : Bool) → l ≡ cond x l l
      by-merges true = refl
      by-merges false = refl

  pub limits-free : merges ≡ false → l ≡ merge_limits merges n l
  unfolding merge_limits
  limits-free h = rw h

-- ---- the four ways of a merge
module _ {b : Buffer} {run other : List ℕ} {s e : ℕ} (v : Mergeful b s e run other) (merges : Bool) where
  abbrev Merged : (run' other' : List ℕ) → Type 0
  Merged run' other' = Acts (merge merges (s - gone_of b) (e - gone_of b)) b run other (with_limits_of (merge_limits merges (e - s) b.limits) b) run' other'

  free : {run' : List ℕ} → b.limits ≡ merge_limits merges (e - s) b.limits → length run' ≡ length run → drop b.len.0 (glyphs run') ≡ drop b.len.0 (glyphs run)
      → account_of b run' other ≡ merge merges (s - gone_of b) (e - gone_of b) (account_of b run other) → Merged run' other
  free = acts-kept v.held (merge merges (s - gone_of b) (e - gone_of b))

  at_none : e - s < 2 → Merged run other
  unfolding merge
  at_none few = free (limits-few merges (e - s) b.limits few) refl refl (rw (width v, lt-ltb (e - s) 2 few))

  module _ (two : 2 ≤ e - s) where
    at-over : merges ≡ false → 255 < e - s → Merged run other
    unfolding merge
    at-over h far = free (limits-free merges (e - s) b.limits h) refl refl (rw (width v, le-ltb (e - s) 2 two, h, lt-ltb 255 (e - s) far))

    at_flag : {run' : List ℕ} → merges ≡ false → e - s ≤ 255 → length run' ≡ length run → glyphs run' ≡ interior (search_level (read_level b.level) b.wants) (sought (search_level (read_level b.level) b.wants) (slice s e (clusters (glyphs run)))) 3 s e (glyphs run) → Merged run' other
    unfolding merge
    at_flag {run'} h near lr eg = free (limits-free merges (e - s) b.limits h) lr (flag-behind v 3 run' two eg) (flag_is v 3 run' two eg ∙ rw (width v, le-ltb (e - s) 2 two, h, le-ltb 255 (e - s) near))

    way-merge : (a : Account ℕ) → merges ≡ true → merge merges (s - gone_of b) (e - gone_of b) a ≡ merged (s - gone_of b) (e - gone_of b) a
    unfolding merge
    way-merge a h = rw (width v, le-ltb (e - s) 2 two, h)

    costly : {run' other' : List ℕ} → merges ≡ true → length run' ≡ length run → length other' ≡ length other
        → drop b.len.0 (glyphs run') ≡ drop b.len.0 (glyphs run) → drop b.out_len.0 (glyphs other') ≡ drop b.out_len.0 (glyphs other)
        → account_of (with_limits_of (costs (e - s) b.limits) b) run' other' ≡ merged (s - gone_of b) (e - gone_of b) (account_of b run other) → Merged run' other'
    costly h lr lo dr d q = (acts-paid v.held (merge merges (s - gone_of b) (e - gone_of b)) (e - s) (sym (limits-paid merges (e - s) b.limits h two refl)) refl lr lo dr d (q ∙ sym (way-merge (account_of b run other) h))).0

    at-written : {run' other' : List ℕ} → merges ≡ true → length run' ≡ length run → length other' ≡ length other → Written (lies_apart b) b.idx.0 b.len.0 b.out_len.0 s e run other run' other' → Merged run' other'
    at-written {run'} {other'} h lr lo w = by (lies_apart b) refl
      where
        by : (x : Bool) → lies_apart b ≡ x → Merged run' other'
        by true a =
            let q = w.apart a in
            let m = merged-apart (ready-apart v two) (from-gone v) w.p w.p-is q.0 q.1 in
            costly h lr lo m.behind m.out-behind (apart-is v run' other' a m)
        by false a =
            let q = w.within a in
            let m = merged-within (ready-within v two) (from-gone v) (out-low v a) w.p w.p-is q.0 in
            rw q.1 (costly h lr refl m.behind refl (within-is v run' a two w.p w.p-is q.0))

-- ---- the act
module _ {apart merges : Bool} {level wants idx len out_length s e : ℕ} {run other : List ℕ} where
  pub merges-few : e - s < 2 → Merges apart merges level wants idx len out_length s e run other run other
  merges-few few = record { acts = λ b a v. at_none v merges few; apart-only = λ z. refl }

  pub merges-far : 2 ≤ e - s → merges ≡ false → 255 < e - s → Merges apart merges level wants idx len out_length s e run other run other
  merges-far two h far = record { acts = λ b a v. at-over v merges two h far; apart-only = λ z. refl }

module _ {apart merges : Bool} {level wants idx len out_length s e : ℕ} {run other run' other' : List ℕ} (two : 2 ≤ e - s) where
  pub merges-written : merges ≡ true → length run' ≡ length run → length other' ≡ length other → Written apart idx len out_length s e run other run' other' → Merges apart merges level wants idx len out_length s e run other run' other'
  merges-written h lr lo w = record { acts = λ b a v. at-written v merges two h lr lo (rw a w); apart-only = λ z. (w.within z).1 }

module _ {apart merges : Bool} {level wants idx len out_length s e : ℕ} {run other run' : List ℕ} (two : 2 ≤ e - s) where
  pub merges-flags : {search : ℕ} → search ≡ search_level (read_level level) wants → merges ≡ false → e - s ≤ 255 → length run' ≡ length run → glyphs run' ≡ interior search (sought search (slice s e (clusters (glyphs run)))) 3 s e (glyphs run) → Merges apart merges level wants idx len out_length s e run other run' other
  merges-flags es h near lr eg = record { acts = λ b a v. at_flag v merges two h near lr (rw es at eg); apart-only = λ z. refl }

-- at the places of a buffer
pub room_of : {b : Buffer} {s e : ℕ} {run other : List ℕ} → Mergeful b s e run other → MergeRoom b.len.0 b.out_len.0 s e run other
room_of {b} {s} {e} {run} {other} v = record { order = v.order; end = v.end; fits = omega (arith, v.held.len-in, v.held.all_in); out-fits = omega (arith, v.held.out-in, v.held.all_in); same = glyphs-same run other v.held.same }

-- of a whole run
pub run-merges : {merges : Bool} {level wants n s e : ℕ} {run other run' other' : List ℕ} → Merges false merges level wants 0 n 0 s e run other run' other' → MergeRoom n 0 s e run other → MergesRun merges level wants n s e run other run' other'
run-merges {merges} {level} {wants} {n} {s} {e} {run} {other} {run'} {other'} w m = record {
  is = λ l. record {
    acts = λ b v.
        let y = running level wants n l b in
        let gone : gone_of y ≡ 0 = whole-gone v in
        let u : Acts (merge merges (s - gone_of y) (e - gone_of y)) y run other (with_limits_of (merge_limits merges (e - s) l) y) run' other' = w.acts y (rw v.plain) (record { held = v.held; whole = v.clean; start = omega (arith, gone); order = m.order; end = m.end }) in
        acts-as (rw (limits-running level wants n l (merge_limits merges (e - s) l) b) at u) (ap (λ (k : ℕ). merge merges (s - k) (e - k) (account_of y run other)) gone ∙ rw (sub-zero s, sub-zero e));
  };
}

pub run-few : {merges : Bool} {level wants n s e : ℕ} {run other : List ℕ} → e - s < 2 → MergeRoom n 0 s e run other → MergesRun merges level wants n s e run other run other
run-few few m = run-merges (merges-few few) m

-- the verdict on one that goes ahead
pub leaves-paid : (b : Buffer) (merges : Bool) (n : ℕ) {x : Buffer} {l : Limits} {v : Decision} → l ≡ merge_limits merges n b.limits → x ≡ with_limits_of l b → Leaves x true None v → Leaves (with_limits_of (merge_limits merges n b.limits) b) true None v
leaves-paid b merges n el ex w = leaves-as (ex ∙ ap (λ (y : Limits). with_limits_of y b) el) w

-- ---- 11 and 13
module _ (at : ℕ → Bool) (s e : InputPlace) (a : Account ℕ) where
  input-spoiled : is_spoiled a ≡ true → merge_input at s e a ≡ refused WrongPhase
  unfolding merge_input
  input-spoiled h = simp (h, refusing)

  input-outside : is_spoiled a ≡ false → outside_input s e a ≡ true → merge_input at s e a ≡ refused OutOfRange
  unfolding merge_input
  input-outside h k = simp (h, k, refusing)

  input-merges : is_spoiled a ≡ false → outside_input s e a ≡ false → merge_input at s e a ≡ accepted (merge (at a.state.level) (s.0 - a.state.gone) (e.0 - a.state.gone) a)
  unfolding merge_input
  input-merges h k = simp (h, k, refusing)

pub outside-ordered : {b : Buffer} {f g : List ℕ} {x : Test} {t : Bool} {s e : ℕ} → Tested b f g x → t ≡ (ltb e s || (ltb b.len.0 e || ltb s (gone_of b))) → t ≡ false → s ≤ e
outside-ordered {b} {f} {g} {x} {t} {s} {e} w et h = ltb-false e s (neither_left (ltb e s) _ (sym et ∙ h))

module _ {merges : Bool} {s e : InputPlace} {b : Buffer} {f g : List ℕ} {v : Decision} where
  pub merge-unsound : sound b f g ≡ false → Turned Contradiction v → MergesInput merges s e b f g v
  merge-unsound h w = record { is = λ at em apart ea. decided-unsound h w }

  module _ (h : sound b f g ≡ true) where
    pub merge-spoiled : spoiled_phase b.phase ≡ true → Turned WrongPhase v → MergesInput merges s e b f g v
    merge-spoiled p w = record { is = λ at em apart ea. decided-refused h (record { law = λ run other l. input-spoiled at s e _ (spoiled-of b run other ∙ p) }) w }

    module _ (p : spoiled_phase b.phase ≡ false) where
      pub merge-outside : (ltb e.0 s.0 || (ltb b.len.0 e.0 || ltb s.0 (gone_of b))) ≡ true → Turned OutOfRange v → MergesInput merges s e b f g v
      merge-outside k w = record { is = λ at em apart ea. decided-refused h (record { law = λ run other l. input-outside at s e _ (spoiled-of b run other ∙ p) (outside_of l.held s e p ∙ k) }) w }

      pub merge-goes : (ltb e.0 s.0 || (ltb b.len.0 e.0 || ltb s.0 (gone_of b))) ≡ false → Leaves (with_limits_of (merge_limits merges (e.0 - s.0) b.limits) b) true None v → MergesInput merges s e b f g v
      merge-goes k w = record {
        is = λ at em apart ea. decided-does h (record {
          near = near-limits b _;
          none = λ q. absurd (false≢true (sym q));
          law = λ run other run' other' l lr lo act. in-acts (act.acts b (sym ea) (in-mergeful l.held s e p refl k))
              (input-merges at s e _ (spoiled-of b run other ∙ p) (outside_of l.held s e p ∙ k)
              ∙ (ap (λ (n : ℕ). accepted (merge (at (account_of b run other).state.level) (s.0 - n) (e.0 - n) (account_of b run other))) (gone-of b run other)
              ∙ ap (λ (y : Bool). accepted (merge y (s.0 - gone_of b) (e.0 - gone_of b) (account_of b run other))) (ap at (level-of b run other) ∙ sym em))) refl;
        }) (λ t. room_of (in-mergeful (sound-held b f g h) s e p refl k)) w;
      }

-- at the end of the calls
module _ {merges : Bool} {s e : InputPlace} {b : Buffer} {f g : List ℕ} {v : Decision} (w : MergesInput merges s e b f g v) where
  pub merge-room : acts_of v ≡ true → MergeRoom b.len.0 b.out_len.0 s.0 e.0 f g
  merge-room t = (w.is (λ level. merges) refl (lies_apart b) refl).asked t

pub merge-turned : {run other : List ℕ} {len out_length s e : ℕ} → MergeRoom len out_length s e run other → MergeRoom len out_length s e other run
merge-turned w = record { order = w.order; end = w.end; fits = omega (arith, w.fits, w.same); out-fits = omega (arith, w.out-fits, w.same); same = sym w.same }

-- for the proofs of functions
pub ruleset merge_calls = (turned, soundness, tested, outside-ordered, merge-unsound, merge-spoiled, merge-outside, merge-goes, merge-room)

pub ruleset merge_acting = (limits-paid, limits-few, limits-free, merges-few, merges-far, merges-written, merges-flags, run-merges, run-few, leaves-paid)

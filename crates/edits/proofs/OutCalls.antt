-- Merges of a buffer's output: from what the slice workers leave to the account, and what 12 and 14 come to.
use Rattle.std.specs.Prelude.{None}
use Rattle.lists.proofs.Decisions.{turned}
use Rattle.lists.specs.inner.States.{Decision}
use Rattle.lists.specs.inner.Verdicts.{acts_of, Turned}
use mathlib.Core.{Path.◌≡◌, Path.refl, Path.sym, Path.ap, Path.◌∙◌, Bool.Bool, Bool.true, Bool.false, Bool.◌&&◌, Bool.◌||◌, Bool.false≢true, List.List}
use Rattle.std.proofs.Common.{ℕ, ◌-◌, ◌<◌, ◌≤◌, arith, le-ltb, lt-ltb, ltb-true}
use lib.{Dec.ltb, ListN.length, ListN.drop}
use Rattle.records.specs.{DonePlace, Contradiction, WrongPhase, OutOfRange, Limits, Glyphs.Glyph, Counters.costs, View.glyphs}
use Rattle.records.proofs.View.{glyphs-same}
use Rattle.lists.specs.{declared.Buffer.Buffer}
use Rattle.lists.specs.{Account.Account, Account.output_phase, Account.has_output, Account.out_length, Account.with_limits, Account.refused, Account.accepted, Contract.gone_of, Contract.state_of, Contract.account_of, Contract.sound, inner.States.with_limits_of, inner.Verdicts.Leaves}
use Rattle.lists.proofs.{Accounts.output-of, Accounts.out_of, Accounts.level-of, SoundLaws.sound-held}
use Rattle.lists.proofs.Decisions.{near-limits, decided-unsound, decided-refused, decided-does}
use Rattle.lists.proofs.Outputs.{gone-output, shown-output}
use Rattle.lists.proofs.SoundLaws.{soundness}
use Rattle.lists.proofs.Refusing.{refusing}
use Rattle.records.proofs.Tests.{tested}
use Rattle.lists.proofs.Changed.{own-limits, state-own, state-paid}
use Rattle.edits.specs.{inner.Acts.Acts, inner.Acts.OutMergeful, inner.Holding.holds, Merging.merge_out, Merging.merged_out, Merging.merge_done, inner.Plans.OutWritten}
use Rattle.edits.proofs.MergeForms.{OutMergeable}
use Rattle.edits.specs.inner.MergeActs.{merge_limits, OutMergeRoom, OutMerges, MergesDone}
use Rattle.edits.proofs.MergeCalls.{account-apart, account-within, acts-paid, acts-kept, in-acts}
use Rattle.edits.proofs.MergeDecisions.{limits-paid, limits-few, limits-free}
use Rattle.edits.proofs.OutMerges.{merged-out-apart, merged-out-within}

both_is : (x y z : Bool) → x ≡ true → y ≡ z → (x && y) ≡ z
both_is x y z h k = rw h k

module _ (b : Buffer) (l : Limits) (run other : List ℕ) (o : output_phase b.phase ≡ true) where
  pub out-apart : b.have_separate_output ≡ true → account_of (with_limits_of l b) run other ≡ holds (glyphs run) (glyphs other) b.idx.0 b.idx.0 b.len.0 b.out_len.0 (with_limits l (state_of b))
  out-apart h =
      account-apart b l run other (both_is (output_phase b.phase) b.have_separate_output true o h)
      ∙ ap (λ (g : ℕ). holds (glyphs run) (glyphs other) g b.idx.0 b.len.0 b.out_len.0 (with_limits l (state_of b))) (gone-output b o)

  pub out_within : b.have_separate_output ≡ false → account_of (with_limits_of l b) run other ≡ holds (glyphs run) (glyphs run) b.idx.0 b.idx.0 b.len.0 b.out_len.0 (with_limits l (state_of b))
  out_within h =
      account-within b l run other (both_is (output_phase b.phase) b.have_separate_output false o h) (λ n. absurd (false≢true (sym n ∙ o)))
      ∙ (ap (λ (x : List (Glyph ℕ)). holds x x (gone_of b) b.idx.0 b.len.0 b.out_len.0 (with_limits l (state_of b))) (shown-output b.phase run other o)
      ∙ ap (λ (g : ℕ). holds (glyphs run) (glyphs run) g b.idx.0 b.len.0 b.out_len.0 (with_limits l (state_of b))) (gone-output b o))

-- the same under its own limits
module _ (b : Buffer) (run other : List ℕ) (o : output_phase b.phase ≡ true) where
  pub own-out-apart : b.have_separate_output ≡ true → account_of b run other ≡ holds (glyphs run) (glyphs other) b.idx.0 b.idx.0 b.len.0 b.out_len.0 (state_of b)
  own-out-apart h = rw (own-limits b, state-own b) at (out-apart b b.limits run other o h)

  pub own-out-within : b.have_separate_output ≡ false → account_of b run other ≡ holds (glyphs run) (glyphs run) b.idx.0 b.idx.0 b.len.0 b.out_len.0 (state_of b)
  own-out-within h = rw (own-limits b, state-own b) at (out_within b b.limits run other o h)

-- ---- the three ways of a merge in the output
module _ {b : Buffer} {run other : List ℕ} {s e : ℕ} (v : OutMergeful b s e run other) (merges : Bool) where
  abbrev Merged : (run' other' : List ℕ) → Type 0
  Merged run' other' = Acts (merge_out merges s e) b run other (with_limits_of (merge_limits merges (e - s) b.limits) b) run' other'

  out_none : e - s < 2 → Merged run other
  unfolding merge_out
  out_none few = acts-kept v.held (merge_out merges s e) (limits-few merges (e - s) b.limits few) refl refl (rw (lt-ltb (e - s) 2 few))

  out-leaves : merges ≡ false → Merged run other
  unfolding merge_out
  out-leaves h = by (ltb (e - s) 2) refl
    where
      by : (x : Bool) → ltb (e - s) 2 ≡ x → Merged run other
      by true k = out_none (ltb-true (e - s) 2 k)
      by false k = acts-kept v.held (merge_out merges s e) (limits-free merges (e - s) b.limits h) refl refl (rw (k, h))

  module _ (two : 2 ≤ e - s) (h : merges ≡ true) where
    out-ready : OutMergeable (glyphs run) (glyphs other) b.idx.0 b.len.0 b.out_len.0 s e
    out-ready =
        let same : length (glyphs run) ≡ length (glyphs other) = glyphs-same run other v.held.same in
        record { order = omega arith; end = v.end; out-fits = omega (arith, v.held.out-in, v.held.all_in); inside = v.held.idx-in; fits = omega (arith, v.held.len-in, v.held.all_in) }

    way_out : (a : Account ℕ) → merge_out merges s e a ≡ merged_out s e a
    unfolding merge_out
    way_out a = rw (le-ltb (e - s) 2 two, h)

    costly : {run' other' : List ℕ} → length run' ≡ length run → length other' ≡ length other → drop b.len.0 (glyphs run') ≡ drop b.len.0 (glyphs run) → drop b.out_len.0 (glyphs other') ≡ drop b.out_len.0 (glyphs other)
        → account_of (with_limits_of (costs (e - s) b.limits) b) run' other' ≡ merged_out s e (account_of b run other) → Merged run' other'
    costly lr lo dr d q = (acts-paid v.held (merge_out merges s e) (e - s) (sym (limits-paid merges (e - s) b.limits h two refl)) refl lr lo dr d (q ∙ sym (way_out (account_of b run other)))).0

    at-written : {run' other' : List ℕ} → length run' ≡ length run → length other' ≡ length other → OutWritten b.have_separate_output b.idx.0 b.len.0 b.out_len.0 s e run other run' other' → Merged run' other'
    at-written {run'} {other'} lr lo w = by b.have_separate_output refl
      where
        by : (x : Bool) → b.have_separate_output ≡ x → Merged run' other'
        by true k =
            let q = w.apart k in
            let m = merged-out-apart out-ready w.p (rw k at w.p-is) q.0 q.1 in
            costly lr lo m.behind m.out-behind (rw (out-apart b (costs (e - s) b.limits) run' other' v.output k, own-out-apart b run other v.output k, state-paid b (e - s)) (m.account (state_of b)))
        by false k =
            let q = w.within k in
            let ready : OutMergeable (glyphs run) (glyphs run) b.idx.0 b.len.0 b.out_len.0 s e = record { order = out-ready.order; end = v.end; out-fits = omega (arith, v.held.out-in, v.held.all_in); inside = v.held.idx-in; fits = out-ready.fits } in
            let m = merged-out-within ready (v.held.behind v.output k) w.p (rw k at w.p-is) q.0 in
            rw q.1 (costly lr refl m.behind refl (rw (out_within b (costs (e - s) b.limits) run' other v.output k, own-out-within b run other v.output k, state-paid b (e - s)) (m.account (state_of b))))

-- ---- the act
module _ {separate merges : Bool} {idx len out_length s e : ℕ} {run other : List ℕ} where
  pub outs-few : e - s < 2 → OutMerges separate merges idx len out_length s e run other run other
  outs-few few = record { acts = λ b a v. out_none v merges few }

  pub outs-free : merges ≡ false → OutMerges separate merges idx len out_length s e run other run other
  outs-free h = record { acts = λ b a v. out-leaves v merges h }

module _ {separate merges : Bool} {idx len out_length s e : ℕ} {run other run' other' : List ℕ} where
  pub outs-written : 2 ≤ e - s → merges ≡ true → length run' ≡ length run → length other' ≡ length other → OutWritten separate idx len out_length s e run other run' other' → OutMerges separate merges idx len out_length s e run other run' other'
  outs-written two h lr lo w = record { acts = λ b a v. at-written v merges two h lr lo (rw a w) }

pub out-turned : {idx len out_length s e : ℕ} {f g : List ℕ} → OutMergeRoom idx len out_length s e f g → OutMergeRoom idx len out_length s e g f
out-turned w = record { order = w.order; end = w.end; out-fits = omega (arith, w.out-fits, w.same); inside = w.inside; fits = omega (arith, w.fits, w.same); same = sym w.same }

-- ---- 12 and 14
module _ (at : ℕ → Bool) (s e : DonePlace) (a : Account ℕ) where
  done_none : has_output a ≡ false → merge_done at s e a ≡ refused WrongPhase
  unfolding merge_done
  done_none h = simp (h, refusing)

  done-outside : has_output a ≡ true → (ltb e.0 s.0 || ltb (out_length a) e.0) ≡ true → merge_done at s e a ≡ refused OutOfRange
  unfolding merge_done
  done-outside h k = simp (h, k, refusing)

  done-merges : has_output a ≡ true → (ltb e.0 s.0 || ltb (out_length a) e.0) ≡ false → merge_done at s e a ≡ accepted (merge_out (at a.state.level) s.0 e.0 a)
  unfolding merge_done
  done-merges h k = simp (h, k, refusing)

module _ {merges : Bool} {s e : DonePlace} {b : Buffer} {f g : List ℕ} {v : Decision} where
  pub done-unsound : sound b f g ≡ false → Turned Contradiction v → MergesDone merges s e b f g v
  done-unsound h w = record { is = λ at em. decided-unsound h w }

  module _ (h : sound b f g ≡ true) where
    pub done-phase : output_phase b.phase ≡ false → Turned WrongPhase v → MergesDone merges s e b f g v
    done-phase o w = record { is = λ at em. decided-refused h (record { law = λ run other l. done_none at s e _ (output-of b run other ∙ o) }) w }

    module _ (o : output_phase b.phase ≡ true) where
      pub done_order : e.0 < s.0 → Turned OutOfRange v → MergesDone merges s e b f g v
      done_order k w = record { is = λ at em. decided-refused h (record { law = λ run other l. done-outside at s e _ (output-of b run other ∙ o) (rw (lt-ltb e.0 s.0 k)) }) w }

      module _ (k : s.0 ≤ e.0) where
        pub done_end : b.out_len.0 < e.0 → Turned OutOfRange v → MergesDone merges s e b f g v
        done_end q w = record { is = λ at em. decided-refused h (record { law = λ run other l. done-outside at s e _ (output-of b run other ∙ o) (rw (le-ltb e.0 s.0 k, out_of b run other l.held, lt-ltb b.out_len.0 e.0 q)) }) w }

        pub done-goes : e.0 ≤ b.out_len.0 → Leaves (with_limits_of (merge_limits merges (e.0 - s.0) b.limits) b) true None v → MergesDone merges s e b f g v
        done-goes q w = record {
          is = λ at em. decided-does h (record {
            near = near-limits b _;
            none = λ z. absurd (false≢true (sym z));
            law = λ run other run' other' l lr lo act. in-acts (act.acts b refl (record { held = l.held; output = o; order = k; end = q }))
                (done-merges at s e _ (output-of b run other ∙ o) (rw (le-ltb e.0 s.0 k, out_of b run other l.held, le-ltb b.out_len.0 e.0 q))
                ∙ ap (λ (y : Bool). accepted (merge_out y s.0 e.0 (account_of b run other))) (ap at (level-of b run other) ∙ sym em)) refl;
          }) (λ t. let u = sound-held b f g h in record { order = k; end = q; out-fits = omega (arith, u.out-in, u.all_in); inside = u.idx-in; fits = omega (arith, u.len-in, u.all_in); same = glyphs-same f g u.same }) w;
        }

-- at the end of the calls
module _ {merges : Bool} {s e : DonePlace} {b : Buffer} {f g : List ℕ} {v : Decision} (w : MergesDone merges s e b f g v) where
  pub done-room : acts_of v ≡ true → OutMergeRoom b.idx.0 b.len.0 b.out_len.0 s.0 e.0 f g
  done-room t = (w.is (λ level. merges) refl).asked t

-- for the proofs of functions
pub ruleset out_merge_calls = (turned, soundness, tested, done-unsound, done-phase, done_order, done_end, done-goes, done-room)

pub ruleset out_merge_acting = (outs-few, outs-free, outs-written)

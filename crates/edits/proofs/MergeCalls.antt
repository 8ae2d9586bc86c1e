-- Merges of a buffer's lists: from what the slice workers leave to the account.
use Rattle.std.specs.Prelude.{Ok, None}
use mathlib.Core.{Path.◌≡◌, Path.refl, Path.sym, Path.ap, Path.◌∙◌, Path.subst, Bool.Bool, Bool.true, Bool.false, Bool.cond, Bool.◌&&◌, Bool.◌||◌, Bool.false≢true, List.List}
use Rattle.std.proofs.Common.{ℕ, ◌-◌, ◌<◌, ◌≤◌, arith, ltb-false, le-ltb, lt-ltb, eq-eqb, ne_eqb}
use lib.{Dec.eqb, Dec.ltb, ListN.length, ListN.take, ListN.drop, Seq.slice}
use Rattle.records.specs.{Phase, Plain, Output, Positions, Spoiled, InputPlace, Limits, Glyphs.Glyph, Counters.capacity_of, Counters.costs, Ranges.clusters, View.glyphs, View.positions_in, View.words_from}
use Rattle.records.proofs.View.{glyphs-same, beyond-glyphs}
use Rattle.lists.proofs.Changed.{account-limits, limits-limits, own-limits, state-own, state-paid, paid-size}
use Rattle.lists.proofs.Showing.{on-shown, gone-in}
use Rattle.lists.specs.{declared.Buffer.Buffer, declared.Reply.Reply}
use Rattle.lists.specs.{Account.read_level, Account.Account, Account.State, Account.output_phase, Account.spoiled_phase, Account.with_limits, Account.accepted, Account.Result, Contract.shown, Contract.gone_of, Contract.state_of, Contract.account_of, inner.Held.Held, inner.States.reply, inner.States.with_limits_of}
use Rattle.lists.proofs.Sides.{MeetsIn}
use Rattle.lists.proofs.{Accounts.len_of, Calls.in-accepted, Accounts.gone-of}
use Rattle.edits.specs.{inner.Acts.Acts, inner.Acts.Mergeful, Flags.interior, Flags.search_level, Flags.sought, Flags.flag_interior, inner.Holding.holds, inner.Holding.cut, Merging.merged, Merging.graphemes_merge, Merging.outside_input, declared.Plan.Plan, inner.Plans.merge_plan, inner.Plans.merged_range, inner.Plans.merged_tail}
use Rattle.edits.proofs.MergeForms.{Mergeable, InputRange, InputFrom, MergedApart, MergedWithin}
use Rattle.lists.proofs.Outputs.{gone_in, shown-output}
use Rattle.lists.proofs.Inner.{held-paid, limits-side}
use Rattle.edits.proofs.MergeLaws.{mergeable, merged-within}
use Rattle.edits.proofs.Searching.{searching, state-searching}
use Rattle.edits.proofs.FlagLaws.{flagged-held, flagged-within, interior-behind}
use Rattle.edits.proofs.Places.{paired-within, paired-flagged}
use Rattle.edits.proofs.Holding.{behind-further}

-- ---- the account of a buffer is that of its lists
none-taken : {A : Type 0} (n : ℕ) (x y : List A) → n ≡ 0 → take n x ≡ take n y
none-taken n x y e = ap (λ (k : ℕ). take k x) e ∙ sym (ap (λ (k : ℕ). take k y) e)

-- what `gone_of` says of a phase
gone-before : (p : Phase) (i l : ℕ) → spoiled_phase p ≡ false → gone_in p i l ≤ i
gone-before Plain i l h = omega arith
gone-before Output i l h = omega arith
gone-before Positions i l h = omega arith
gone-before Spoiled i l h = absurd (false≢true (sym h))

out-before : (p : Phase) (apart : Bool) (i l o : ℕ) → (output_phase p && apart) ≡ false → (output_phase p ≡ true → apart ≡ false → o ≤ i) → (output_phase p ≡ false → o ≡ 0) → o ≤ gone_in p i l
out-before Plain apart i l o h b n = let z : o ≡ 0 = n refl in omega arith
out-before Output true i l o h b n = absurd (false≢true (sym h))
out-before Output false i l o h b n = b refl refl
out-before Positions apart i l o h b n = let z : o ≡ 0 = n refl in omega arith
out-before Spoiled apart i l o h b n = let z : o ≡ 0 = n refl in omega arith

within-done : (p : Phase) (apart : Bool) (o : ℕ) (run other : List ℕ) → (output_phase p && apart) ≡ false → (output_phase p ≡ false → o ≡ 0)
    → take o (cond apart (glyphs other) (glyphs run)) ≡ take o (shown p run other)
within-done p apart o run other h n = by (output_phase p) apart refl h
  where
    by : (x y : Bool) → output_phase p ≡ x → (x && y) ≡ false → take o (cond y (glyphs other) (glyphs run)) ≡ take o (shown p run other)
    by true true e k = absurd (false≢true (sym k))
    by true false e k = ap (take o) (sym (shown-output p run other e))
    by false y e k = none-taken o _ _ (n e)

both_left : (x y : Bool) → (x && y) ≡ true → x ≡ true
both_left true y h = refl
both_left false y h = absurd (false≢true h)

both_right : (x y : Bool) → (x && y) ≡ true → y ≡ true
both_right true y h = h
both_right false y h = absurd (false≢true h)

module _ (b : Buffer) (l : Limits) (run other : List ℕ) where
  account-held : account_of (with_limits_of l b) run other ≡ holds (shown b.phase run other) (cond b.have_separate_output (glyphs other) (glyphs run)) (gone_of b) b.idx.0 b.len.0 b.out_len.0 (with_limits l (state_of b))
  unfolding holds
  account-held = account-limits l b run other

  pub account-apart : (output_phase b.phase && b.have_separate_output) ≡ true
      → account_of (with_limits_of l b) run other ≡ holds (glyphs run) (glyphs other) (gone_of b) b.idx.0 b.len.0 b.out_len.0 (with_limits l (state_of b))
  account-apart h =
      let o : output_phase b.phase ≡ true = both_left (output_phase b.phase) b.have_separate_output h in
      let a : b.have_separate_output ≡ true = both_right (output_phase b.phase) b.have_separate_output h in
      account-held
      ∙ (ap (λ (x : List (Glyph ℕ)). holds x (cond b.have_separate_output (glyphs other) (glyphs run)) (gone_of b) b.idx.0 b.len.0 b.out_len.0 (with_limits l (state_of b))) (shown-output b.phase run other o)
      ∙ ap (λ (x : Bool). holds (glyphs run) (cond x (glyphs other) (glyphs run)) (gone_of b) b.idx.0 b.len.0 b.out_len.0 (with_limits l (state_of b))) a)

  held-done : (r x y : List (Glyph ℕ)) → take b.out_len.0 x ≡ take b.out_len.0 y
      → holds r x (gone_of b) b.idx.0 b.len.0 b.out_len.0 (with_limits l (state_of b)) ≡ holds r y (gone_of b) b.idx.0 b.len.0 b.out_len.0 (with_limits l (state_of b))
  unfolding holds
  held-done r x y e = rw e

  pub account-within : (output_phase b.phase && b.have_separate_output) ≡ false → (output_phase b.phase ≡ false → b.out_len.0 ≡ 0)
      → account_of (with_limits_of l b) run other ≡ holds (shown b.phase run other) (shown b.phase run other) (gone_of b) b.idx.0 b.len.0 b.out_len.0 (with_limits l (state_of b))
  account-within h n = account-held ∙ held-done _ _ _ (within-done b.phase b.have_separate_output b.out_len.0 run other h n)

-- the same under its own limits
module _ (b : Buffer) (run other : List ℕ) where
  pub own-apart : (output_phase b.phase && b.have_separate_output) ≡ true → account_of b run other ≡ holds (glyphs run) (glyphs other) (gone_of b) b.idx.0 b.len.0 b.out_len.0 (state_of b)
  own-apart h = rw (own-limits b, state-own b) at (account-apart b b.limits run other h)

  pub own-within : (output_phase b.phase && b.have_separate_output) ≡ false → (output_phase b.phase ≡ false → b.out_len.0 ≡ 0)
      → account_of b run other ≡ holds (shown b.phase run other) (shown b.phase run other) (gone_of b) b.idx.0 b.len.0 b.out_len.0 (state_of b)
  own-within h n = rw (own-limits b, state-own b) at (account-within b b.limits run other h n)

-- ---- in each phase that has lists
module _ (run run' other : List ℕ) {gone idx len out_length s e : ℕ} (w : InputFrom gone idx len s) (low : out_length ≤ gone) where
  shown-merged : (phase : Phase) → spoiled_phase phase ≡ false → Mergeable (glyphs run) (glyphs run) len out_length s e
      → (p : Plan) → p ≡ merge_plan idx s e (cut len (glyphs run)) → glyphs run' ≡ merged_range p (merged_tail p out_length (glyphs run)) → MergedWithin gone idx len out_length s e (shown phase run other) (shown phase run' other)
  shown-merged phase h v p ep er = on-shown (λ x. MergedWithin gone idx len out_length s e (x run other) (x run' other)) phase h (merged-within v w low p ep er) (paired-within v (positions_in other) w low p ep er)

  shown-flagged : (p : Phase) → spoiled_phase p ≡ false → InputRange (glyphs run) (glyphs run) len out_length s e → (bits : ℕ) (k : State) (level : ℕ) → 2 ≤ e - s → searching k ≡ level
      → glyphs run' ≡ interior level (sought level (slice s e (clusters (glyphs run)))) bits s e (glyphs run)
      → holds (shown p run' other) (shown p run' other) gone idx len out_length k ≡ flag_interior bits (s - gone) (e - gone) (holds (shown p run other) (shown p run other) gone idx len out_length k)
  shown-flagged p h v bits k level two el er =
      on-shown (λ x. holds (x run' other) (x run' other) gone idx len out_length k ≡ flag_interior bits (s - gone) (e - gone) (holds (x run other) (x run other) gone idx len out_length k)) p h
      (flagged-within v w low bits k level two el er) (paired-flagged v (positions_in other) w low bits k level two el er)

-- ---- from the glyphs to what a function leaves
module _ {b : Buffer} {run other : List ℕ} (v : Held b run other) where
  -- h on the account, with a cost of n
  pub acts-paid : (h : Account ℕ → Account ℕ) (n : ℕ) {l : Limits} {r : Buffer} {run' other' : List ℕ} → l ≡ costs n b.limits → r ≡ with_limits_of l b → length run' ≡ length run → length other' ≡ length other
      → drop b.len.0 (glyphs run') ≡ drop b.len.0 (glyphs run) → drop b.out_len.0 (glyphs other') ≡ drop b.out_len.0 (glyphs other)
      → account_of (with_limits_of (costs n b.limits) b) run' other' ≡ h (account_of b run other) → (Acts h b run other r run' other') × (r ≡ with_limits_of r.limits b)
  acts-paid h n {l} {r} {run'} {other'} el er lr lo dr d e =
      let a : ℕ = b.limits.allocated in
      rw (er, el) (
        record {
          is = e;
          size = paid-size b n;
          side = limits-side (costs n b.limits) b;
          run-beyond = beyond-glyphs a run' run (behind-further b.len.0 a (glyphs run) (glyphs run') v.len-in dr);
          other-beyond = beyond-glyphs a other' other (behind-further b.out_len.0 a (glyphs other) (glyphs other') v.out-in d);
          held = held-paid b run other v n;
        },
        simp limits-limits,
      )

  -- the same without a cost
  pub acts-both : (h : Account ℕ → Account ℕ) {run' other' : List ℕ} → length run' ≡ length run → length other' ≡ length other
      → drop b.len.0 (glyphs run') ≡ drop b.len.0 (glyphs run) → drop b.out_len.0 (glyphs other') ≡ drop b.out_len.0 (glyphs other)
      → account_of b run' other' ≡ h (account_of b run other) → Acts h b run other b run' other'
  acts-both h {run'} {other'} lr lo dr d e =
      let a : ℕ = b.limits.allocated in
      record {
        is = e;
        size = refl;
        side = refl;
        run-beyond = beyond-glyphs a run' run (behind-further b.len.0 a (glyphs run) (glyphs run') v.len-in dr);
        other-beyond = beyond-glyphs a other' other (behind-further b.out_len.0 a (glyphs other) (glyphs other') v.out-in d);
        held = v;
      }

  pub acts-kept : (h : Account ℕ → Account ℕ) {l : Limits} {run' : List ℕ} → b.limits ≡ l → length run' ≡ length run → drop b.len.0 (glyphs run') ≡ drop b.len.0 (glyphs run)
      → account_of b run' other ≡ h (account_of b run other) → Acts h b run other (with_limits_of l b) run' other
  acts-kept h el lr dr e = rw (← el, own-limits b) (acts-both h lr refl dr refl e)

  pub acts-free : (h : Account ℕ → Account ℕ) {run' : List ℕ} → length run' ≡ length run → drop b.len.0 (glyphs run') ≡ drop b.len.0 (glyphs run)
      → account_of b run' other ≡ h (account_of b run other) → (Acts h b run other b run' other) × (b ≡ with_limits_of b.limits b)
  acts-free h lr dr e = (acts-both h lr refl dr refl e, sym (own-limits b))

-- a call that was accepted leaves what was done
pub in-acts : {call : ℕ → Account ℕ → Result ℕ} {h : Account ℕ → Account ℕ} {b f : Buffer} {run other run' other' : List ℕ} {r : Reply} → Acts h b run other f run' other'
    → call (capacity_of (length run)) (account_of b run other) ≡ accepted (h (account_of b run other)) → r ≡ reply f (Ok None) → MeetsIn call b run other r run' other'
in-acts {call} {h} {b} {f} {run} {other} {run'} {other'} u e er =
    in-accepted f u.side
    (subst (λ (n : ℕ). words_from n run' ≡ words_from n run) (sym u.size) u.run-beyond)
    (subst (λ (n : ℕ). words_from n other' ≡ words_from n other) (sym u.size) u.other-beyond)
    u.held (e ∙ ap accepted (sym u.is)) er

-- ---- what the workers ask for, and what they leave
module _ {b : Buffer} {run other : List ℕ} {s e : ℕ} (v : Mergeful b s e run other) where
  pub from-gone : InputFrom (gone_of b) b.idx.0 b.len.0 s
  from-gone = record { cursor = rw (gone-in b) (gone-before b.phase b.idx.0 b.len.0 v.whole); inside = v.held.idx-in; start = v.start }

  pub range-apart : InputRange (glyphs run) (glyphs other) b.len.0 b.out_len.0 s e
  range-apart =
      let same : length (glyphs run) ≡ length (glyphs other) = glyphs-same run other v.held.same in
      record { order = v.order; end = v.end; fits = omega (arith, v.held.len-in, v.held.all_in); out-fits = omega (arith, v.held.out-in, v.held.all_in) }

  pub range-within : InputRange (glyphs run) (glyphs run) b.len.0 b.out_len.0 s e
  range-within = record { order = v.order; end = v.end; fits = omega (arith, v.held.len-in, v.held.all_in); out-fits = omega (arith, v.held.out-in, v.held.all_in) }

  pub ready-apart : 2 ≤ e - s → Mergeable (glyphs run) (glyphs other) b.len.0 b.out_len.0 s e
  ready-apart two = mergeable range-apart (omega arith)

  pub ready-within : 2 ≤ e - s → Mergeable (glyphs run) (glyphs run) b.len.0 b.out_len.0 s e
  ready-within two = mergeable range-within (omega arith)

  pub out-low : (output_phase b.phase && b.have_separate_output) ≡ false → b.out_len.0 ≤ gone_of b
  out-low h = rw (gone-in b) (out-before b.phase b.have_separate_output b.idx.0 b.len.0 b.out_len.0 h v.held.behind v.held.none)

  module _ (run' : List ℕ) where
    pub apart-is : (other' : List ℕ) → (output_phase b.phase && b.have_separate_output) ≡ true → MergedApart (gone_of b) b.idx.0 b.len.0 b.out_len.0 s e (glyphs run) (glyphs other) (glyphs run') (glyphs other')
        → account_of (with_limits_of (costs (e - s) b.limits) b) run' other' ≡ merged (s - gone_of b) (e - gone_of b) (account_of b run other)
    apart-is other' h m = rw (account-apart b (costs (e - s) b.limits) run' other' h, own-apart b run other h, state-paid b (e - s)) (m.account (state_of b))

    module _ (h : (output_phase b.phase && b.have_separate_output) ≡ false) (two : 2 ≤ e - s) (p : Plan) (ep : p ≡ merge_plan b.idx.0 s e (cut b.len.0 (glyphs run))) (eg : glyphs run' ≡ merged_range p (merged_tail p b.out_len.0 (glyphs run))) where
      pub within-is : account_of (with_limits_of (costs (e - s) b.limits) b) run' other ≡ merged (s - gone_of b) (e - gone_of b) (account_of b run other)
      within-is =
          let m : MergedWithin (gone_of b) b.idx.0 b.len.0 b.out_len.0 s e (shown b.phase run other) (shown b.phase run' other) =
          shown-merged run run' other from-gone (out-low h) b.phase v.whole (ready-within two) p ep eg in
          rw (account-within b (costs (e - s) b.limits) run' other h v.held.none, own-within b run other h v.held.none, state-paid b (e - s)) (m.account (state_of b))

  pub width : e - gone_of b - (s - gone_of b) ≡ e - s
  width = omega (arith, v.start, v.order)

  pub flag-room : 2 ≤ e - s → (s < e) × (e ≤ length (glyphs run))
  flag-room two = (omega arith, omega (arith, v.end, v.held.len-in, v.held.all_in))

  module _ (bits : ℕ) (run' : List ℕ) (two : 2 ≤ e - s) (eg : glyphs run' ≡ interior (search_level (read_level b.level) b.wants) (sought (search_level (read_level b.level) b.wants) (slice s e (clusters (glyphs run)))) bits s e (glyphs run)) where
    pub flag_is : account_of b run' other ≡ flag_interior bits (s - gone_of b) (e - gone_of b) (account_of b run other)
    flag_is = by_place (output_phase b.phase && b.have_separate_output) refl
      where
        by_place : (x : Bool) → (output_phase b.phase && b.have_separate_output) ≡ x → account_of b run' other ≡ flag_interior bits (s - gone_of b) (e - gone_of b) (account_of b run other)
        by_place true h =
            own-apart b run' other h
            ∙ (flagged-held range-apart from-gone bits (state_of b) (search_level (read_level b.level) b.wants) (glyphs other) two (state-searching b) eg refl ∙ ap (flag_interior bits (s - gone_of b) (e - gone_of b)) (sym (own-apart b run other h)))
        by_place false h =
            own-within b run' other h v.held.none
            ∙ (shown-flagged run run' other from-gone (out-low h) b.phase v.whole range-within bits (state_of b) (search_level (read_level b.level) b.wants) two (state-searching b) eg
            ∙ ap (flag_interior bits (s - gone_of b) (e - gone_of b)) (sym (own-within b run other h v.held.none)))

    pub flag-behind : drop b.len.0 (glyphs run') ≡ drop b.len.0 (glyphs run)
    flag-behind = rw eg (interior-behind (search_level (read_level b.level) b.wants) (sought (search_level (read_level b.level) b.wants) (slice s e (clusters (glyphs run)))) bits b.len.0 s e (glyphs run) v.order (flag-room two).1 v.end)

-- ---- the tests of a call
module _ (b : Buffer) where
  module _ (s e : ℕ) where
    pub outside-order : e < s → ltb e s ≡ (ltb e s || (ltb b.len.0 e || ltb s (gone_of b)))
    outside-order h = rw (lt-ltb e s h)

    pub outside-end : s ≤ e → b.len.0 < e → ltb b.len.0 e ≡ (ltb e s || (ltb b.len.0 e || ltb s (gone_of b)))
    outside-end o h = rw (le-ltb e s o, lt-ltb b.len.0 e h)

    pub outside-start : {g : ℕ} → s ≤ e → e ≤ b.len.0 → g ≡ gone_of b → ltb s g ≡ (ltb e s || (ltb b.len.0 e || ltb s (gone_of b)))
    outside-start {g} o h k = rw (le-ltb e s o, le-ltb b.len.0 e h) (ap (ltb s) k)

module _ {level k : ℕ} (e : level ≡ k) where
  pub level-none : level ≡ 0 → eqb level 0 ≡ graphemes_merge k
  level-none h = rw (← e, eq-eqb level 0 h)

  pub level-some : (level ≡ 0 → ⊥) → eqb level 3 ≡ graphemes_merge k
  level-some h = rw (← e, ne_eqb level 0 h)

pub neither_left : (x y : Bool) → (x || y) ≡ false → x ≡ false
neither_left true y h = h
neither_left false y h = refl

pub neither_right : (x y : Bool) → (x || y) ≡ false → y ≡ false
neither_right true y h = absurd (false≢true (sym h))
neither_right false y h = h

module _ {b : Buffer} {run other : List ℕ} (v : Held b run other) (s e : InputPlace) where
  abbrev pub outside : Bool
  outside = ltb e.0 s.0 || (ltb b.len.0 e.0 || ltb s.0 (gone_of b))

  module _ (h : spoiled_phase b.phase ≡ false) where
    pub outside_of : outside_input s e (account_of b run other) ≡ outside
    unfolding outside_input
    outside_of = rw (len_of b run other v h, gone-of b run other)

    pub in-mergeful : {t : Bool} → t ≡ outside → t ≡ false → Mergeful b s.0 e.0 run other
    in-mergeful {t} et k =
        let none : outside ≡ false = sym et ∙ k in
        let more : (ltb b.len.0 e.0 || ltb s.0 (gone_of b)) ≡ false = neither_right (ltb e.0 s.0) _ none in
        record {
          held = v;
          whole = h;
          start = ltb-false s.0 (gone_of b) (neither_right (ltb b.len.0 e.0) (ltb s.0 (gone_of b)) more);
          order = ltb-false e.0 s.0 (neither_left (ltb e.0 s.0) _ none);
          end = ltb-false b.len.0 e.0 (neither_left (ltb b.len.0 e.0) (ltb s.0 (gone_of b)) more);
        }

-- for the proofs of functions
pub ruleset merge_tests = (outside-order, outside-end, outside-start, level-none, level-some)

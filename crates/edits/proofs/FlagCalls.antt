-- The plain flag forms: from what the slice workers leave to the account, and the calls.
use Rattle.lists.proofs.Decisions.{turned}
use Rattle.lists.specs.inner.States.{Decision}
use Rattle.lists.specs.inner.Verdicts.{acts_of, Turned, leaving, settled, Sided, Decided}
use Rattle.std.specs.Prelude.{None, Err}
use mathlib.Core.{Path.◌≡◌, Path.refl, Path.sym, Path.ap, Path.◌∙◌, Path.subst, Bool.Bool, Bool.true, Bool.false, Bool.cond, Bool.not, Bool.◌&&◌, Bool.◌||◌, Bool.false≢true, List.List}
use Rattle.std.specs.Prelude.{Option}
use Rattle.std.proofs.Common.{ℕ, ◌-◌, ◌≤◌, arith, ltb-false}
use lib.{Dec.ltb, ListN.length, ListN.drop, Seq.slice}
use Rattle.records.specs.{Phase, InputPlace, Contradiction, WrongPhase, OutOfRange, Glyphs.flagged, Ranges.clusters, Ranges.edit, View.glyphs, View.positions_in}
use Rattle.records.proofs.View.{glyphs-same}
use Rattle.lists.specs.{declared.Buffer.Buffer}
use Rattle.lists.specs.{Account.read_level, Account.Account, Account.State, Account.output_phase, Account.spoiled_phase, Account.is_spoiled, Account.len, Account.refused, Account.accepted, Contract.shown, Contract.gone_of, Contract.state_of, Contract.account_of, Contract.sound, Contract.Meets, declared.Reply.Reply, inner.Held.Held, inner.Verdicts.Leaves}
use Rattle.lists.proofs.{Accounts.spoiled-of, Accounts.len_of, Accounts.gone-of, Accounts.wants-of, SoundLaws.sound-held, Decisions.near_same, Decisions.accepts, Decisions.decided-unsound, Decisions.decided-refused, Decisions.decided-accepted, Decisions.decided-does}
use Rattle.lists.proofs.SoundLaws.{soundness}
use Rattle.lists.proofs.Refusing.{refusing}
use Rattle.records.proofs.Tests.{tested}
use Rattle.lists.proofs.Showing.{on-shown, account-same}
use Rattle.records.proofs.Edited.{edit-drop-behind}
use Rattle.edits.specs.{inner.Acts.Acts, inner.Acts.Mergeful, inner.BoundNumbers.input_number, Flags.interior, Flags.search_level, Flags.sought, Flags.flag_interior, Flags.flag_all, Flags.place_number, Flags.too_far, Flags.start_of, Flags.end_of, Flags.plain_form, Flags.wants_concat, Flags.wants_tatweel, inner.Holding.holds, inner.Marks.flagged_run, inner.Marks.Flaggable, inner.Marks.Flagged, inner.Marks.flag_verdict, inner.Marks.FlagVerdict, inner.Marks.PlainMeets}
use Rattle.edits.proofs.MergeForms.{InputRange, InputFrom}
use Rattle.edits.proofs.BoundLaws.{end-most}
use Rattle.edits.proofs.MarkLaws.{sided-as}
use Rattle.edits.proofs.FlagLaws.{flagged-all, flagged-all-within}
use Rattle.edits.proofs.Places.{paired-flagged-all}
use Rattle.edits.proofs.MergeCalls.{own-apart, own-within, acts-free, from-gone, range-apart, range-within, out-low, width, flag_is, flag-behind, neither_left, neither_right, in-acts}

-- what a plain form does
abbrev flag_plain : Bool → ℕ → ℕ → ℕ → Account ℕ → Account ℕ
flag_plain interiorly bits i j a = cond interiorly (flag_interior bits i j a) (flag_all bits i j a)

-- ---- in each phase that has lists
shown-all : (run run' other : List ℕ) {gone idx len out_length s e : ℕ} → InputFrom gone idx len s → out_length ≤ gone → (p : Phase) → spoiled_phase p ≡ false → InputRange (glyphs run) (glyphs run) len out_length s e → (bits : ℕ) (k : State)
    → glyphs run' ≡ edit s e (flagged bits) (glyphs run)
    → holds (shown p run' other) (shown p run' other) gone idx len out_length k ≡ flag_all bits (s - gone) (e - gone) (holds (shown p run other) (shown p run other) gone idx len out_length k)
shown-all run run' other {gone} {idx} {len} {out_length} {s} {e} w low p h v bits k er =
    on-shown (λ x. holds (x run' other) (x run' other) gone idx len out_length k ≡ flag_all bits (s - gone) (e - gone) (holds (x run other) (x run other) gone idx len out_length k)) p h
    (flagged-all-within v w low bits k er) (paired-flagged-all v (positions_in other) w low bits k er)

-- ---- from the glyphs to the account
module _ {b : Buffer} {run other : List ℕ} {s e : ℕ} (v : Mergeful b s e run other) (bits : ℕ) (run' : List ℕ) where
  all-is : glyphs run' ≡ edit s e (flagged bits) (glyphs run) → account_of b run' other ≡ flag_all bits (s - gone_of b) (e - gone_of b) (account_of b run other)
  all-is eg = by_place (output_phase b.phase && b.have_separate_output) refl
    where
      by_place : (x : Bool) → (output_phase b.phase && b.have_separate_output) ≡ x → account_of b run' other ≡ flag_all bits (s - gone_of b) (e - gone_of b) (account_of b run other)
      by_place true h =
          own-apart b run' other h
          ∙ (flagged-all (range-apart v) (from-gone v) bits (state_of b) (glyphs other) eg refl ∙ ap (flag_all bits (s - gone_of b) (e - gone_of b)) (sym (own-apart b run other h)))
      by_place false h =
          own-within b run' other h v.held.none
          ∙ (shown-all run run' other (from-gone v) (out-low v h) b.phase v.whole (range-within v) bits (state_of b) eg
          ∙ ap (flag_all bits (s - gone_of b) (e - gone_of b)) (sym (own-within b run other h v.held.none)))

  short-is : ltb (e - s) 2 ≡ true → glyphs run' ≡ glyphs run → account_of b run' other ≡ flag_interior bits (s - gone_of b) (e - gone_of b) (account_of b run other)
  unfolding flag_interior
  short-is h eg = account-same b run run' other eg ∙ rw (width v, h)

  plain-acts : (interiorly : Bool) → length run' ≡ length run → glyphs run' ≡ flagged_run interiorly (search_level (read_level b.level) b.wants) bits s e (glyphs run)
      → Acts (flag_plain interiorly bits (s - gone_of b) (e - gone_of b)) b run other b run' other
  unfolding flagged_run
  plain-acts true lr eg = by_width (ltb (e - s) 2) refl
    where
      by_width : (x : Bool) → ltb (e - s) 2 ≡ x → Acts (flag_plain true bits (s - gone_of b) (e - gone_of b)) b run other b run' other
      by_width true h =
          let same : glyphs run' ≡ glyphs run = eg ∙ rw h in
          (acts-free v.held (flag_interior bits (s - gone_of b) (e - gone_of b)) lr (ap (drop b.len.0) same) (short-is h same)).0
      by_width false h =
          let two : 2 ≤ e - s = ltb-false (e - s) 2 h in
          let marked : glyphs run' ≡ interior (search_level (read_level b.level) b.wants) (sought (search_level (read_level b.level) b.wants) (slice s e (clusters (glyphs run)))) bits s e (glyphs run) = eg ∙ rw h in
          (acts-free v.held (flag_interior bits (s - gone_of b) (e - gone_of b)) lr (flag-behind v bits run' two marked) (flag_is v bits run' two marked)).0
  plain-acts false lr eg =
      (acts-free v.held (flag_all bits (s - gone_of b) (e - gone_of b)) lr (rw eg (edit-drop-behind (flagged bits) s e b.len.0 (glyphs run) v.order v.end)) (all-is eg)).0

-- ---- the tests of the calls
module _ (interiorly wanted : Bool) (bits : ℕ) (s e : Option InputPlace) (a : Account ℕ) where
  abbrev s' : Option ℕ
  s' = place_number (λ p. p.0) s

  abbrev e' : Option ℕ
  e' = place_number (λ p. p.0) e

  plain-in-spoiled : is_spoiled a ≡ true → plain_form interiorly wanted bits s e a ≡ refused WrongPhase
  unfolding plain_form
  plain-in-spoiled h = simp (h, refusing)

  module _ (h : is_spoiled a ≡ false) where
    plain-in-idle : (not wanted || too_far s' e') ≡ true → plain_form interiorly wanted bits s e a ≡ accepted a
    unfolding plain_form
    plain-in-idle k = simp (h, k, refusing)

    module _ (k : (not wanted || too_far s' e') ≡ false) {i j g : ℕ} (ei : i ≡ start_of s') (ej : j ≡ end_of e' (len a)) (eg : g ≡ a.state.gone) where
      plain-in-outside : (ltb j i || ltb i g) ≡ true → plain_form interiorly wanted bits s e a ≡ refused OutOfRange
      unfolding plain_form
      plain-in-outside o = simp (h, k, ← ei, ← ej, ← eg, o, refusing)

      plain-in-flags : (ltb j i || ltb i g) ≡ false → plain_form interiorly wanted bits s e a ≡ accepted (flag_plain interiorly bits (i - g) (j - g) a)
      unfolding plain_form
      plain-in-flags o = simp (h, k, ← ei, ← ej, ← eg, o, refusing)

-- ---- what the code tested, as the account says it
pub idle-of : (b : Buffer) (run other : List ℕ) (always x : Bool) {idle : Bool} → idle ≡ (not (always || wants_concat b.wants) || x) → (not (always || wants_concat (account_of b run other).state.wants) || x) ≡ idle
idle-of b run other always x ei = rw (wants-of b run other) (sym ei)

pub end-of : {b : Buffer} {run other : List ℕ} {j : ℕ} (end : Option InputPlace) → Held b run other → spoiled_phase b.phase ≡ false → j ≡ end_of (input_number end) b.len.0 → j ≡ end_of (input_number end) (len (account_of b run other))
end-of {b} {run} {other} end v p ee = ee ∙ ap (end_of (input_number end)) (sym (len_of b run other v p))

-- the places of a plain form, and what the worker asks for
mergeful : {b : Buffer} {run other : List ℕ} {i j : ℕ} (end : Option InputPlace) → Held b run other → spoiled_phase b.phase ≡ false → j ≡ end_of (input_number end) b.len.0 → (ltb j i || ltb i (gone_of b)) ≡ false → Mergeful b i j run other
mergeful {b} {run} {other} {i} {j} end v p ee n = record {
  held = v;
  whole = p;
  start = ltb-false i (gone_of b) (neither_right (ltb j i) (ltb i (gone_of b)) n);
  order = ltb-false j i (neither_left (ltb j i) (ltb i (gone_of b)) n);
  end = subst (λ (x : ℕ). x ≤ b.len.0) (sym ee) (end-most (input_number end) b.len.0);
}

flags-range : {b : Buffer} {run other : List ℕ} {s e : ℕ} → Mergeful b s e run other → Flaggable s e run other
flags-range {b} {run} {other} v = record { order = v.order; same = glyphs-same run other v.held.same; fits = omega (arith, v.end, v.held.len-in, v.held.all_in) }

-- ---- the decision of a form, by its tests
module _ {b : Buffer} {f s : List ℕ} {wrong idle out : Bool} {v : Decision} where
  pub flag-unsound : sound b f s ≡ false → Turned Contradiction v → FlagVerdict b f s wrong idle out v
  unfolding flag_verdict
  flag-unsound h w = record { is = rw h w.is }

  module _ (h : sound b f s ≡ true) where
    pub flag-wrong : wrong ≡ true → Turned WrongPhase v → FlagVerdict b f s wrong idle out v
    unfolding flag_verdict
    flag-wrong k w = record { is = rw (h, k) w.is }

    pub flag-idle : wrong ≡ false → idle ≡ true → Leaves b false None v → FlagVerdict b f s wrong idle out v
    unfolding flag_verdict
    flag-idle k n w = record { is = rw (h, k, n) w.is }

    pub flag-outside : wrong ≡ false → idle ≡ false → out ≡ true → Turned OutOfRange v → FlagVerdict b f s wrong idle out v
    unfolding flag_verdict
    flag-outside k n o w = record { is = rw (h, k, n, o) w.is }

    pub flag-ahead : wrong ≡ false → idle ≡ false → out ≡ false → Leaves b true None v → FlagVerdict b f s wrong idle out v
    unfolding flag_verdict
    flag-ahead k n o w = record { is = rw (h, k, n, o) w.is }

  pub by-tests : {P : Type 0} → FlagVerdict b f s wrong idle out v → (sound b f s ≡ false → Turned Contradiction v → P) → (sound b f s ≡ true → wrong ≡ true → Turned WrongPhase v → P)
      → (sound b f s ≡ true → wrong ≡ false → idle ≡ true → Leaves b false None v → P)
      → (sound b f s ≡ true → wrong ≡ false → idle ≡ false → out ≡ true → Turned OutOfRange v → P)
      → (sound b f s ≡ true → wrong ≡ false → idle ≡ false → out ≡ false → Leaves b true None v → P) → P
  unfolding flag_verdict
  by-tests {P} w unsound in-wrong in-idle outside ahead = by (sound b f s) wrong idle out refl refl refl refl w.is
    where
      by : (x y z t : Bool) → sound b f s ≡ x → wrong ≡ y → idle ≡ z → out ≡ t
          → v ≡ cond x (cond y (Err WrongPhase) (cond z (leaving b false None) (cond t (Err OutOfRange) (leaving b true None)))) (Err Contradiction) → P
      by false y z t h k n o e = unsound h (record { is = e })
      by true true z t h k n o e = in-wrong h k (record { is = e })
      by true false true t h k n o e = in-idle h k n (record { is = e })
      by true false false true h k n o e = outside h k n o (record { is = e })
      by true false false false h k n o e = ahead h k n o (record { is = e })

-- ---- what the calls come to, by their tests: whatever a form marks with, wanted always or as wants says
pub record FlagsInput (always : Bool) (start end : Option InputPlace) (b : Buffer) (f s : List ℕ) (d : Decision) : Type 0 where
  pub is : (interiorly : Bool) (bits : ℕ → ℕ) {i j : ℕ} → i ≡ start_of (input_number start) → j ≡ end_of (input_number end) b.len.0
      → Decided (λ capacity a. plain_form interiorly (always || wants_concat a.state.wants) (bits a.state.wants) start end a) b f s (settled b d) (acts_of d)
      (Flaggable i j f s) (Flagged interiorly (search_level (read_level b.level) b.wants) (bits b.wants) i j)

module _ {always : Bool} {start end : Option InputPlace} {b : Buffer} {f s : List ℕ} {v : Decision} where
  plain-unsound : sound b f s ≡ false → Turned Contradiction v → FlagsInput always start end b f s v
  plain-unsound h w = record { is = λ interiorly bits es' ee'. decided-unsound h w }

  module _ (h : sound b f s ≡ true) where
    plain-spoiled : spoiled_phase b.phase ≡ true → Turned WrongPhase v → FlagsInput always start end b f s v
    plain-spoiled k w = record { is = λ interiorly bits es' ee'. decided-refused h (record { law = λ run other l. plain-in-spoiled interiorly _ _ start end _ (spoiled-of b run other ∙ k) }) w }

    module _ {idle : Bool} (p : spoiled_phase b.phase ≡ false) (ei : idle ≡ (not (always || wants_concat b.wants) || too_far (input_number start) (input_number end))) where
      plain-idle : idle ≡ true → Leaves b false None v → FlagsInput always start end b f s v
      plain-idle k w = record {
        is = λ interiorly bits es' ee'. decided-accepted h (accepts None (near_same b) (λ run other l.
            (plain-in-idle interiorly _ _ start end _ (spoiled-of b run other ∙ p) (idle-of b run other always _ ei ∙ k), l.held))) w;
      }

      module _ {i j : ℕ} {out : Bool} (n : idle ≡ false) (es : i ≡ start_of (input_number start)) (ee : j ≡ end_of (input_number end) b.len.0) (eo : out ≡ (ltb j i || ltb i (gone_of b))) where
        plain-outside : out ≡ true → Turned OutOfRange v → FlagsInput always start end b f s v
        plain-outside y w = record {
          is = λ interiorly bits es' ee'. decided-refused h (record {
            law = λ run other l.
                plain-in-outside interiorly _ _ start end _ (spoiled-of b run other ∙ p) (idle-of b run other always _ ei ∙ n) es (end-of end l.held p ee) (sym (gone-of b run other)) (sym eo ∙ y);
          }) w;
        }

        plain-ahead : out ≡ false → Leaves b true None v → FlagsInput always start end b f s v
        plain-ahead y w = record {
          is = λ interiorly bits es' ee'. rw (es' ∙ sym es, ee' ∙ sym ee) (decided-does h (record {
            near = near_same b;
            none = λ c. absurd (false≢true (sym c));
            law = λ run other run' other' l lr lo act.
                rw act.other-is (in-acts (plain-acts (mergeful end l.held p ee (sym eo ∙ y)) (bits b.wants) run' interiorly lr act.run_is)
                (plain-in-flags interiorly _ _ start end _ (spoiled-of b run other ∙ p) (idle-of b run other always _ ei ∙ n) es (end-of end l.held p ee) (sym (gone-of b run other)) (sym eo ∙ y)
                ∙ ap (λ (x : ℕ). accepted (flag_plain interiorly (bits x) (i - gone_of b) (j - gone_of b) (account_of b run other))) (wants-of b run other)) refl);
          }) (λ c. flags-range (mergeful end (sound-held b f s h) p ee (sym eo ∙ y))) w);
        }

module _ {always : Bool} {start end : Option InputPlace} {b : Buffer} {f s : List ℕ} {v : Decision} where
  pub flags-input : {wrong idle out : Bool} {i j : ℕ} → wrong ≡ spoiled_phase b.phase → idle ≡ (not (always || wants_concat b.wants) || too_far (input_number start) (input_number end)) → i ≡ start_of (input_number start) → j ≡ end_of (input_number end) b.len.0
      → out ≡ (ltb j i || ltb i (gone_of b)) → FlagVerdict b f s wrong idle out v → FlagsInput always start end b f s v
  flags-input ew ei es ee eo w =
      by-tests w plain-unsound (λ h k. plain-spoiled h (sym ew ∙ k)) (λ h k. plain-idle h (sym ew ∙ k) ei) (λ h k n. plain-outside h (sym ew ∙ k) ei n es ee eo) (λ h k n. plain-ahead h (sym ew ∙ k) ei n es ee eo)

-- the bits are a number, whatever wants has
pub plain_meets : {interiorly : Bool} {bits : ℕ} {start end : Option InputPlace} {b : Buffer} {f s : List ℕ} {r : Reply} {f' s' : List ℕ} → PlainMeets interiorly bits start end b f s r f' s'
    → Meets (λ capacity a. plain_form interiorly (interiorly || wants_concat a.state.wants) bits start end a) b f s r f' s'
plain_meets {bits = bits} w = w.is (λ n. bits) refl

-- or what wants says of the tatweel
pub tatweel_meets : {bits : ℕ} {start end : Option InputPlace} {b : Buffer} {f s : List ℕ} {r : Reply} {f' s' : List ℕ} → PlainMeets true bits start end b f s r f' s' → bits ≡ cond (wants_tatweel b.wants) 4 3
    → Meets (λ capacity a. plain_form true true (cond (wants_tatweel a.state.wants) 4 3) start end a) b f s r f' s'
tatweel_meets w e = w.is (λ n. cond (wants_tatweel n) 4 3) e

-- an act, by the numbers that the code has for its bits and places
pub flagged-at : {y interiorly : Bool} {level level' x x' i i' j j' : ℕ} {f s f' s' : List ℕ} → Sided y (Flagged interiorly level x i j) f s f' s' → level ≡ level' → x ≡ x' → i ≡ i' → j ≡ j' → Sided y (Flagged interiorly level' x' i' j') f s f' s'
flagged-at w el ex ei ej = rw (← el, ← ex, ← ei, ← ej) w

-- every glyph is marked alike at all levels
pub all-at : {y : Bool} {level level' x i i' j j' : ℕ} {f s f' s' : List ℕ} → Sided y (Flagged false level x i j) f s f' s' → i ≡ i' → j ≡ j' → Sided y (Flagged false level' x i' j') f s f' s'
unfolding flagged_run
all-at w ei ej = rw (← ei, ← ej) (sided-as (λ run other run' other' d. record { run_is = d.run_is; other-is = d.other-is }) w)

-- for the proofs of functions
pub ruleset flag_verdicts = (turned, soundness, tested, flag-unsound, flag-wrong, flag-idle, flag-outside, flag-ahead)

pub flaggable-turned : {i j : ℕ} {f s : List ℕ} → Flaggable i j f s → Flaggable i j s f
flaggable-turned w = record { order = w.order; same = sym w.same; fits = omega (arith, w.same, w.fits) }

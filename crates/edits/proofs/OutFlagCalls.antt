-- The outbuffer flag forms: from what the slice workers leave to the account, and the calls.
use Rattle.lists.specs.inner.States.{Decision}
use Rattle.lists.specs.inner.Verdicts.{acts_of, Turned, settled, Decided}
use Rattle.std.specs.Prelude.{None}
use mathlib.Core.{Path.◌≡◌, Path.refl, Path.sym, Path.ap, Path.◌∙◌, Path.subst, Bool.Bool, Bool.true, Bool.false, Bool.cond, Bool.not, Bool.◌||◌, Bool.false≢true, List.List}
use Rattle.std.specs.Prelude.{Option}
use Rattle.std.proofs.Common.{ℕ, ◌-◌, ◌≤◌, arith, ltb-false}
use lib.{Dec.ltb, ListN.length, ListN.drop}
use Rattle.records.specs.{DonePlace, InputPlace, Contradiction, WrongPhase, OutOfRange, Glyphs.Glyph, View.glyphs}
use Rattle.records.proofs.View.{glyphs-same}
use Rattle.lists.specs.{declared.Buffer.Buffer, declared.Lists.Lists}
use Rattle.lists.specs.{Account.read_level, Account.Account, Account.output_phase, Account.has_output, Account.len, Account.idx, Account.out_length, Account.refused, Account.accepted, Contract.account_of, Contract.state_of, Contract.sound, Contract.Meets, declared.Reply.Reply, inner.Held.Held, inner.Verdicts.Leaves}
use Rattle.lists.proofs.{Accounts.output-of, Accounts.out_of, Accounts.idx-of, Accounts.wants-of, Accounts.output-clean, SoundLaws.sound-held, Decisions.near_same, Decisions.accepts, Decisions.decided-unsound, Decisions.decided-refused, Decisions.decided-accepted, Decisions.decided-does}
use Rattle.lists.proofs.Refusing.{refusing}
use Rattle.lists.specs.inner.States.{lists_of}
use Rattle.edits.specs.{inner.Acts.Acts, inner.BoundNumbers.input_number, inner.BoundNumbers.done_number, Flags.place_number, Flags.search_level, Flags.too_far, Flags.start_of, Flags.end_of, Flags.outbuffer_form, Flags.wants_concat, inner.Marks.flagged_part, inner.Marks.marked_part, inner.Marks.sought_out, inner.Marks.flag_out, inner.Marks.OutFlaggable, inner.Marks.OutFlagged, inner.Marks.FlagVerdict, inner.Marks.OutMeets}
use Rattle.edits.proofs.MergeForms.{OutRange}
use Rattle.edits.proofs.BoundLaws.{end-most}
use Rattle.edits.proofs.FlagCalls.{by-tests, idle-of, end-of}
use Rattle.edits.proofs.Searching.{state-searching}
use Rattle.edits.proofs.OutFlags.{part-behind, middle-fits, out-flagged-apart, out-flagged-within}
use Rattle.edits.proofs.MergeCalls.{acts-both, in-acts, neither_left, neither_right}
use Rattle.edits.proofs.MarkLaws.{part-sought}
use Rattle.edits.proofs.OutCalls.{own-out-apart, own-out-within}

-- ---- the account: s..e are places of the output and of the run
record Placed (b : Buffer) (s e : ℕ) (run other : List ℕ) : Type 0 where
  pub held : Held b run other
  pub output : output_phase b.phase ≡ true
  pub order : s ≤ b.out_len.0
  pub start : b.idx.0 ≤ e
  pub end : e ≤ b.len.0

module _ {b : Buffer} {s e : ℕ} {run other : List ℕ} (v : Placed b s e run other) where
  flags-apart : OutRange (glyphs run) (glyphs other) b.idx.0 b.len.0 b.out_len.0 s e
  flags-apart =
      let same : length (glyphs run) ≡ length (glyphs other) = glyphs-same run other v.held.same in
      record { order = v.order; out-fits = omega (arith, v.held.out-in, v.held.all_in); start = v.start; end = v.end; fits = omega (arith, v.held.len-in, v.held.all_in) }

  flags-within : OutRange (glyphs run) (glyphs run) b.idx.0 b.len.0 b.out_len.0 s e
  flags-within = record { order = v.order; out-fits = omega (arith, v.held.out-in, v.held.all_in); start = v.start; end = v.end; fits = omega (arith, v.held.len-in, v.held.all_in) }

  end_fits : e ≤ length (glyphs run)
  end_fits = omega (arith, v.end, v.held.len-in, v.held.all_in)

  out-flaggable : OutFlaggable (lists_of b) s e run other
  out-flaggable = record { order = v.order; start = v.start; same = glyphs-same run other v.held.same; out-fits = flags-within.out-fits; fits = end_fits }

  out-acts : (interiorly : Bool) (bits : ℕ) {run' other' : List ℕ} → length run' ≡ length run → length other' ≡ length other
      → OutFlagged interiorly (search_level (read_level b.level) b.wants) bits (lists_of b) s e run other run' other' → Acts (flag_out interiorly bits s (e - b.idx.0)) b run other b run' other'
  out-acts interiorly bits {run'} {other'} lr lo w = by_place b.have_separate_output refl
    where
      m : ℕ
      m = sought_out (search_level (read_level b.level) b.wants) s b.out_len.0 b.idx.0 e (glyphs run) (cond b.have_separate_output (glyphs other) (glyphs run))

      m-is : (x : Bool) → b.have_separate_output ≡ x → interiorly ≡ true → m ≡ sought_out (search_level (read_level b.level) b.wants) s b.out_len.0 b.idx.0 e (glyphs run) (cond x (glyphs other) (glyphs run))
      m-is x h y = ap (λ (y : Bool). sought_out (search_level (read_level b.level) b.wants) s b.out_len.0 b.idx.0 e (glyphs run) (cond y (glyphs other) (glyphs run))) h

      part : (i j : ℕ) (l : List (Glyph ℕ)) → marked_part w.m (search_level (read_level b.level) b.wants) bits i j l ≡ flagged_part interiorly (search_level (read_level b.level) b.wants) m bits i j l
      part i j l = part-sought interiorly (search_level (read_level b.level) b.wants) m bits i j l w.m-is

      by_place : (x : Bool) → b.have_separate_output ≡ x → Acts (flag_out interiorly bits s (e - b.idx.0)) b run other b run' other'
      by_place true h =
          let q = w.apart h in
          let in-run = q.0 ∙ part b.idx.0 e (glyphs run) in
          let in-output = q.1 ∙ part s b.out_len.0 (glyphs other) in
          acts-both v.held (flag_out interiorly bits s (e - b.idx.0)) lr lo
          (rw in-run (part-behind interiorly (search_level (read_level b.level) b.wants) m bits b.len.0 b.idx.0 e (glyphs run) v.start end_fits v.end))
          (rw in-output (part-behind interiorly (search_level (read_level b.level) b.wants) m bits b.out_len.0 s b.out_len.0 (glyphs other) v.order flags-apart.out-fits (omega arith)))
          (own-out-apart b run' other' v.output h
          ∙ (out-flagged-apart flags-apart interiorly bits (state_of b) (search_level (read_level b.level) b.wants) (state-searching b) (m-is true h) in-run in-output ∙ ap (flag_out interiorly bits s (e - b.idx.0)) (sym (own-out-apart b run other v.output h))))
      by_place false h =
          let q = w.within h in
          let in-run = q.0 ∙ (ap (marked_part w.m (search_level (read_level b.level) b.wants) bits b.idx.0 e) (part s b.out_len.0 (glyphs run)) ∙ part b.idx.0 e _) in
          let low : b.out_len.0 ≤ b.idx.0 = v.held.behind v.output h in
          let mid : List (Glyph ℕ) = flagged_part interiorly (search_level (read_level b.level) b.wants) m bits s b.out_len.0 (glyphs run) in
          acts-both v.held (flag_out interiorly bits s (e - b.idx.0)) lr lo
          (rw in-run (part-behind interiorly (search_level (read_level b.level) b.wants) m bits b.len.0 b.idx.0 e mid v.start (omega (arith, v.end, middle-fits flags-within low interiorly (search_level (read_level b.level) b.wants) m bits)) v.end
          ∙ part-behind interiorly (search_level (read_level b.level) b.wants) m bits b.len.0 s b.out_len.0 (glyphs run) v.order flags-within.out-fits (omega (arith, v.held.idx-in))))
          (ap (λ (x : List ℕ). drop b.out_len.0 (glyphs x)) q.1)
          (own-out-within b run' other' v.output h
          ∙ (out-flagged-within flags-within low interiorly (search_level (read_level b.level) b.wants) m bits (state_of b) (state-searching b) (m-is false h) in-run ∙ ap (flag_out interiorly bits s (e - b.idx.0)) (sym (own-out-within b run other v.output h))))

placed : {b : Buffer} {run other : List ℕ} {i j : ℕ} (end : Option InputPlace) → Held b run other → output_phase b.phase ≡ true → j ≡ end_of (input_number end) b.len.0 → (ltb b.out_len.0 i || ltb j b.idx.0) ≡ false → Placed b i j run other
placed {b} {run} {other} {i} {j} end v p ee n = record {
  held = v;
  output = p;
  order = ltb-false b.out_len.0 i (neither_left (ltb b.out_len.0 i) (ltb j b.idx.0) n);
  start = ltb-false j b.idx.0 (neither_right (ltb b.out_len.0 i) (ltb j b.idx.0) n);
  end = subst (λ (x : ℕ). x ≤ b.len.0) (sym ee) (end-most (input_number end) b.len.0);
}

-- ---- the tests of the calls
module _ (interiorly wanted : Bool) (bits : ℕ) (s : Option DonePlace) (e : Option InputPlace) (a : Account ℕ) where
  abbrev s' : Option ℕ
  s' = place_number (λ p. p.0) s

  abbrev e' : Option ℕ
  e' = place_number (λ p. p.0) e

  out-in-none : has_output a ≡ false → outbuffer_form interiorly wanted bits s e a ≡ refused WrongPhase
  unfolding outbuffer_form
  out-in-none h = simp (h, refusing)

  module _ (h : has_output a ≡ true) where
    out-in-idle : (not wanted || too_far s' e') ≡ true → outbuffer_form interiorly wanted bits s e a ≡ accepted a
    unfolding outbuffer_form
    out-in-idle k = simp (h, k, refusing)

    module _ (k : (not wanted || too_far s' e') ≡ false) {i j x n : ℕ} (ei : i ≡ start_of s') (ej : j ≡ end_of e' (len a)) (ex : x ≡ idx a) (en : n ≡ out_length a) where
      out-in-outside : (ltb n i || ltb j x) ≡ true → outbuffer_form interiorly wanted bits s e a ≡ refused OutOfRange
      unfolding outbuffer_form
      out-in-outside o = simp (h, k, ← ei, ← ej, ← ex, ← en, o, refusing)

      out-in-flags : (ltb n i || ltb j x) ≡ false → outbuffer_form interiorly wanted bits s e a ≡ accepted (flag_out interiorly bits i (j - x) a)
      unfolding outbuffer_form flag_out
      out-in-flags o = simp (h, k, ← ei, ← ej, ← ex, ← en, o, refusing)

-- ---- what the calls come to, by their tests
pub record FlagsOut (always : Bool) (start : Option DonePlace) (end : Option InputPlace) (b : Buffer) (f s : List ℕ) (d : Decision) : Type 0 where
  pub is : (interiorly : Bool) (bits : ℕ → ℕ) {i j : ℕ} → i ≡ start_of (done_number start) → j ≡ end_of (input_number end) b.len.0
      → Decided (λ capacity a. outbuffer_form interiorly (always || wants_concat a.state.wants) (bits a.state.wants) start end a) b f s (settled b d) (acts_of d)
      (OutFlaggable (lists_of b) i j f s) (OutFlagged interiorly (search_level (read_level b.level) b.wants) (bits b.wants) (lists_of b) i j)

module _ {always : Bool} {start : Option DonePlace} {end : Option InputPlace} {b : Buffer} {f s : List ℕ} {v : Decision} where
  out-unsound : sound b f s ≡ false → Turned Contradiction v → FlagsOut always start end b f s v
  out-unsound h w = record { is = λ interiorly bits es' ee'. decided-unsound h w }

  module _ (h : sound b f s ≡ true) where
    out_none : output_phase b.phase ≡ false → Turned WrongPhase v → FlagsOut always start end b f s v
    out_none k w = record { is = λ interiorly bits es' ee'. decided-refused h (record { law = λ run other l. out-in-none interiorly _ _ start end _ (output-of b run other ∙ k) }) w }

    module _ {idle : Bool} (p : output_phase b.phase ≡ true) (ei : idle ≡ (not (always || wants_concat b.wants) || too_far (done_number start) (input_number end))) where
      out-idle : idle ≡ true → Leaves b false None v → FlagsOut always start end b f s v
      out-idle k w = record {
        is = λ interiorly bits es' ee'. decided-accepted h (accepts None (near_same b) (λ run other l.
            (out-in-idle interiorly _ _ start end _ (output-of b run other ∙ p) (idle-of b run other always _ ei ∙ k), l.held))) w;
      }

      module _ {i j : ℕ} {out : Bool} (n : idle ≡ false) (es : i ≡ start_of (done_number start)) (ee : j ≡ end_of (input_number end) b.len.0) (eo : out ≡ (ltb b.out_len.0 i || ltb j b.idx.0)) where
        out-outside : out ≡ true → Turned OutOfRange v → FlagsOut always start end b f s v
        out-outside y w = record {
          is = λ interiorly bits es' ee'. decided-refused h (record {
            law = λ run other l.
                out-in-outside interiorly _ _ start end _ (output-of b run other ∙ p) (idle-of b run other always _ ei ∙ n) es (end-of end l.held (output-clean b.phase p) ee) (sym (idx-of b run other l.held (output-clean b.phase p))) (sym (out_of b run other l.held)) (sym eo ∙ y);
          }) w;
        }

        out-ahead : out ≡ false → Leaves b true None v → FlagsOut always start end b f s v
        out-ahead y w = record {
          is = λ interiorly bits es' ee'. rw (es' ∙ sym es, ee' ∙ sym ee) (decided-does h (record {
            near = near_same b;
            none = λ c. absurd (false≢true (sym c));
            law = λ run other run' other' l lr lo act.
                in-acts (out-acts (placed end l.held p ee (sym eo ∙ y)) interiorly (bits b.wants) lr lo act)
                (out-in-flags interiorly _ _ start end _ (output-of b run other ∙ p) (idle-of b run other always _ ei ∙ n) es (end-of end l.held (output-clean b.phase p) ee) (sym (idx-of b run other l.held (output-clean b.phase p))) (sym (out_of b run other l.held)) (sym eo ∙ y)
                ∙ ap (λ (x : ℕ). accepted (flag_out interiorly (bits x) i (j - b.idx.0) (account_of b run other))) (wants-of b run other)) refl;
          }) (λ c. out-flaggable (placed end (sound-held b f s h) p ee (sym eo ∙ y))) w);
        }

none_of : {p : Bool} (x : Bool) {y : Bool} → x ≡ p → not x ≡ y → p ≡ not y
none_of true eh e = sym eh ∙ ap not e
none_of false eh e = sym eh ∙ ap not e

module _ {always : Bool} {start : Option DonePlace} {end : Option InputPlace} {b : Buffer} {f s : List ℕ} {v : Decision} where
  pub flags-out : {has idle out : Bool} {i j : ℕ} → has ≡ output_phase b.phase → idle ≡ (not (always || wants_concat b.wants) || too_far (done_number start) (input_number end)) → i ≡ start_of (done_number start) → j ≡ end_of (input_number end) b.len.0
      → out ≡ (ltb b.out_len.0 i || ltb j b.idx.0) → FlagVerdict b f s (not has) idle out v → FlagsOut always start end b f s v
  flags-out {has} eh ei es ee eo w =
      by-tests w out-unsound (λ h k. out_none h (none_of has eh k)) (λ h k. out-idle h (none_of has eh k) ei) (λ h k n. out-outside h (none_of has eh k) ei n es ee eo) (λ h k n. out-ahead h (none_of has eh k) ei n es ee eo)

-- ---- the exported calls
pub out_meets : {interiorly : Bool} {bits : ℕ} {start : Option DonePlace} {end : Option InputPlace} {b : Buffer} {f s : List ℕ} {r : Reply} {f' s' : List ℕ} → OutMeets interiorly bits start end b f s r f' s'
    → Meets (λ capacity a. outbuffer_form interiorly (interiorly || wants_concat a.state.wants) bits start end a) b f s r f' s'
out_meets {bits = bits} w = w.is (λ n. bits) refl

pub out-turned : {at : Lists} {i j : ℕ} {f s : List ℕ} → OutFlaggable at i j f s → OutFlaggable at i j s f
out-turned w = record { order = w.order; start = w.start; same = sym w.same; out-fits = omega (arith, w.same, w.out-fits); fits = omega (arith, w.same, w.fits) }

pub out-lies : {interiorly : Bool} {level bits i j : ℕ} {run other run' other' : List ℕ} {at at' : Lists} → at ≡ at' → OutFlagged interiorly level bits at i j run other run' other' → OutFlagged interiorly level bits at' i j run other run' other'
out-lies {interiorly} {level} {bits} {i} {j} {run} {other} {run'} {other'} e w = subst (λ (x : Lists). OutFlagged interiorly level bits x i j run other run' other') e w

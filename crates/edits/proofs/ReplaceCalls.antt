-- Calls that replace glyphs, decided: 0D and 0E, outcome by outcome.
use Rattle.lists.specs.declared.Verdict.{Verdict}
use Rattle.lists.specs.inner.Verdicts.{amended, limiting_verdict}
use Rattle.lists.proofs.CursorCalls.{sound-idx, idx-small}
use Rattle.lists.proofs.Tries.{Exits}
use Rattle.lists.specs.inner.Held.{Test}
use Rattle.std.specs.Prelude.{Ok, None, Some}
use Rattle.lists.proofs.Decisions.{turned}
use Rattle.lists.specs.inner.States.{Decision}
use Rattle.lists.specs.inner.Verdicts.{Turned}
use Rattle.lists.specs.inner.Held.{fitting}
use mathlib.Core.{Path.◌≡◌, Path.refl, Path.sym, Path.ap, Path.◌∙◌, Path.subst, Bool.Bool, Bool.true, Bool.false, Bool.cond, Bool.◌&&◌, Bool.false≢true, List.List, List.[], List.◌∷◌}
use Rattle.std.proofs.Common.{ℕ, ◌+◌, ◌-◌, ◌^◌, ◌<◌, ◌≤◌, max, arith, le-ltb, lt-ltb}
use lib.{ListN.length}
use Rattle.records.specs.{Contradiction, WrongPhase, OutOfRange, BadOperand, Limits, Counters.capacity_of, Counters.grown, Glyphs.Info, Ranges.copies, View.words_from}
use Rattle.lists.specs.{declared.Buffer.Buffer}
use Rattle.lists.specs.{Account.Account, Account.read_level, Account.output_phase, Account.out_length, Account.sized, Account.limiting, Cursor.dropping, Contract.account_of, Contract.gone_of, Contract.sound, inner.Held.Tested, inner.Held.Held, inner.Held.room_for, inner.States.reply, inner.States.with_limits_of, inner.Verdicts.Sized, inner.Verdicts.wrote_buffer}
use Rattle.lists.proofs.Sides.{MeetsIn, SyncOutput}
use Rattle.lists.proofs.{Accounts.output-of, SoundLaws.sound-held, Calls.in-call, SoundLaws.tests-sound, Lying.Lying, Decisions.near-placed, Decisions.decided-unsound, Decisions.decided-refused, Decisions.decided-sized, Inner.sized_of}
use Rattle.lists.proofs.SoundLaws.{soundness}
use Rattle.records.proofs.Tests.{tested}
use Rattle.lists.proofs.Changed.{other-limits}
use Rattle.records.proofs.Edited.{length-copies}
use Rattle.lists.specs.inner.States.{lists_of}
use Rattle.edits.specs.{inner.Acts.Acts, inner.Acts.replacing, inner.MergeActs.merge_limits, Merging.merge, Merging.clusters_merge, inner.Puts.overtakes, inner.Puts.costing, inner.Puts.Writes, inner.Puts.Replaces, inner.Puts.OutputDecided, inner.Puts.ReplaceDecided, inner.Replaces.replaced, Writing.written, Writing.model, Writing.writing, Writing.replace_glyphs}
use Rattle.edits.proofs.WriteForms.{put_buffer, writes_replaced}
use Rattle.edits.proofs.PutLaws.{stays-behind, wrote-acts}
use Rattle.edits.proofs.Replacements.{merge-places, inputs-mergeful, merged-roomy, merged-replaced, few, enough, replace-none, replace-outside, replace-short, replace-writes}
use Rattle.edits.proofs.WriteCalls.{grown_buffer, putting, put_meets, decided-writes, model_of, model_is, synced, room-puttable, room-outputable}
use Rattle.edits.proofs.Writings.{writing-room, writing-done, grown-roomy, out-size, rest-short, rest-long}

-- ---- 0D: one glyph for one merges nothing, and does not overtake the cursor
module _ {b : Buffer} {run other : List ℕ} (v : Held b run other) (o : output_phase b.phase ≡ true) (k : b.idx.0 < b.len.0) (number : ℕ) where
  one_writes : replace_glyphs (capacity_of (length run)) 1 1 (number ∷ []) (account_of b run other) ≡ writing (capacity_of (length run)) 1 (putting 1 1 (copies (model_of b run other).info (number ∷ [])) (account_of b run other)) (account_of b run other)
  unfolding writes_replaced replaced replacing merge model sized limiting copies
  one_writes =
      let a : Account ℕ = account_of b run other in
      replace-writes (capacity_of (length run)) 1 1 (number ∷ []) a (output-of b run other ∙ o) (rest-long v o k) refl
      ∙ ap (λ (i : Info). writing (capacity_of (length run)) 1 (dropping 1 (written (copies i (number ∷ [])) (sized (out_length a + 1) a))) a) (model_is v o (omega arith))

  one-behind : b.have_separate_output ≡ false → false ≡ false → b.out_len.0 + 1 ≤ b.idx.0 + 1
  one-behind h e = let w : b.out_len.0 ≤ b.idx.0 = v.behind o h in omega arith

module _ {x : Bool} {number : ℕ} {b : Buffer} {f s : List ℕ} {v : Decision} (h : sound b f s ≡ true) where
  pub one-spoils : output_phase b.phase ≡ false → Turned WrongPhase v → OutputDecided (λ capacity a. replace_glyphs capacity 1 1 (number ∷ []) a) (Some number) x b f s v
  one-spoils k q = record { is = decided-refused h (record { law = λ run other l. replace-none _ 1 1 (number ∷ []) _ (output-of b run other ∙ k) }) q }

  module _ (o : output_phase b.phase ≡ true) where
    pub one-past : b.len.0 ≤ b.idx.0 → Turned OutOfRange v → OutputDecided (λ capacity a. replace_glyphs capacity 1 1 (number ∷ []) a) (Some number) x b f s v
    one-past k q = record { is = decided-refused h (record { law = λ run other l. replace-outside _ 1 1 (number ∷ []) _ (output-of b run other ∙ o) (rest-short l.held o k) }) q }

pub one-decided : {number m : ℕ} {b : Buffer} {f s : List ℕ} {v : Decision} → sound b f s ≡ true → output_phase b.phase ≡ true → b.idx.0 < b.len.0 → m ≡ capacity_of (length f) → Sized m b 1 1 true v → OutputDecided (λ capacity a. replace_glyphs capacity 1 1 (number ∷ []) a) (Some number) false b f s v
unfolding wrote_buffer put_buffer copies
one-decided {number} {m} {b} h o k em q = record {
  is = decided-sized {i = 1} {acts = true} h
      (record { then = _; law = λ run other l. one_writes l.held o k number ∙ writing-room (synced o l) 1 (putting 1 1 (copies (model_of b run other).info (number ∷ []))) })
      (λ fits. record {
        near = near-placed b _ _ _ _;
        none = λ t. absurd (false≢true (sym t));
        law = λ run other run' other' l lr lo act. in-call (one_writes l.held o k number) (simp other-limits at (put_meets 1 1 (copies (model_of b run other).info (number ∷ [])) (synced o l) (fits.law run other l) (omega arith) (omega arith) lr lo false (one-behind l.held o k number) act.is));
      })
      (room-outputable h (omega arith)) em refl q;
}

-- ---- what the merge of the inputs costs
module _ (d : Decision) (t : Bool) (n : ℕ) where
  pub paying-acts : {v : Verdict} {l : Limits} → d ≡ Ok v → v.acts ≡ true → l ≡ merge_limits t n v.limits → ◌≡◌ {A = Decision} (Ok (limiting_verdict l v)) (amended (costing (merge_limits t n)) d)
  paying-acts {v} q h el = ap (λ (l : Limits). Ok (limiting_verdict l v)) el ∙ (sym (ap (λ (y : Bool). Ok (limiting_verdict (cond y (merge_limits t n v.limits) v.limits) v)) h) ∙ sym (ap (amended (costing (merge_limits t n))) q))

  pub paying-still : {v : Verdict} → d ≡ Ok v → v.acts ≡ false → ◌≡◌ {A = Decision} (Ok v) (amended (costing (merge_limits t n)) d)
  paying-still {v} q h = sym (ap (λ (y : Bool). Ok (limiting_verdict (cond y (merge_limits t n v.limits) v.limits) v)) h) ∙ sym (ap (amended (costing (merge_limits t n))) q)

  pub paying-over : {r : Decision} → Exits d r → r ≡ amended (costing (merge_limits t n)) d
  paying-over x = x.is ∙ sym (ap (amended (costing (merge_limits t n))) x.was)

-- ---- 0E: the inputs merge, and copies of the first take their place
abbrev merging : Buffer → Bool
merging b = clusters_merge (read_level b.level)

abbrev spent : Buffer → ℕ → ℕ → Limits
spent b m n = merge_limits (merging b) m (grown (b.out_len.0 + n) b.limits)

module _ {b : Buffer} {run other run' other' : List ℕ} (m n : ℕ) (gs : List ℕ) (v : SyncOutput b run other) (fit : room_for (capacity_of (length run)) (b.out_len.0 + n) b.limits ≡ fitting) (in_len : b.idx.0 + m ≤ b.len.0) (some : b.idx.0 < b.len.0) (many : n ≤ length gs) (lr : length run' ≡ length run) (lo : length other' ≡ length other) where
  module _ (w : Replaces (lists_of b) (overtakes b m n) (merging b) b.level b.wants m n gs run other run' other') where
    inputs-merge : Acts (merge (merging b) (b.idx.0 - gone_of (grown_buffer n b)) (b.idx.0 + m - gone_of (grown_buffer n b))) (grown_buffer n b) run other (with_limits_of (spent b m n) (grown_buffer n b)) w.run₁ w.other₁
    unfolding with_limits_of
    inputs-merge =
        let e : b.idx.0 + m - b.idx.0 ≡ m = omega arith in
        rw e at ((w.merged.first refl).acts (grown_buffer n b) (ap (λ (t : Bool). t && b.have_separate_output) v.output) (inputs-mergeful (grown-roomy v m n fit in_len)))

    replace-acts : Acts (replaced m n gs) (grown_buffer n b) run other (put_buffer (overtakes b m n) m n (with_limits_of (spent b m n) (grown_buffer n b))) run' other'
    unfolding with_limits_of
    replace-acts =
        let r = grown-roomy v m n fit in_len in
        let q = merged-roomy r (spent b m n) inputs-merge w.run_long w.other-long in
        merged-replaced r (spent b m n) inputs-merge w.run_long w.other-long some (merge-places (grown_buffer n b) run other v.output m) gs w.first-is
        (wrote-acts q (overtakes b m n) (stays-behind b m n) (omega (arith, many, length-copies w.first.info gs)) w.wrote (lr ∙ sym w.run_long) (lo ∙ sym w.other-long))

    replace_meets : MeetsIn (λ capacity a. writes_replaced m n gs capacity a) b run other (reply (put_buffer (overtakes b m n) m n (with_limits_of (spent b m n) b)) (Ok None)) run' other'
    unfolding writes_replaced with_limits_of
    replace_meets =
        let u = replace-acts in
        let e : account_of (put_buffer (overtakes b m n) m n (with_limits_of (spent b m n) b)) run' other' ≡ replaced m n gs (sized (out_length (account_of b run other) + n) (account_of b run other)) =
        u.is ∙ ap (replaced m n gs) (sized_of b run other (b.out_len.0 + n) ∙ sym (out-size v (account_of b run other) refl n)) in
        writing-done v n (λ a. replaced m n gs (sized (out_length a + n) a)) fit u.side (subst (λ (k : ℕ). words_from k run' ≡ words_from k run) (sym u.size) u.run-beyond) (subst (λ (k : ℕ). words_from k other' ≡ words_from k other) (sym u.size) u.other-beyond) u.held e refl

module _ {m n : ℕ} {gs : List ℕ} {b : Buffer} {f s : List ℕ} {v : Decision} where
  pub replace-unsound : sound b f s ≡ false → Turned Contradiction v → ReplaceDecided m n gs b f s v
  replace-unsound h q = record { is = decided-unsound h q }

  module _ (h : sound b f s ≡ true) where
    pub replace-spoils : output_phase b.phase ≡ false → Turned WrongPhase v → ReplaceDecided m n gs b f s v
    replace-spoils k q = record { is = decided-refused h (record { law = λ run other l. replace-none _ m n gs _ (output-of b run other ∙ k) }) q }

    module _ (o : output_phase b.phase ≡ true) where
      far : b.len.0 - b.idx.0 < max m 1 → Turned OutOfRange v → ReplaceDecided m n gs b f s v
      far k q = record { is = decided-refused h (record { law = λ run other l. replace-outside _ m n gs _ (output-of b run other ∙ o) (few l.held m o k) }) q }

      pub replace-empty : b.len.0 - b.idx.0 < 1 → Turned OutOfRange v → ReplaceDecided m n gs b f s v
      replace-empty k q = far (omega arith) q

      pub replace-few : b.len.0 - b.idx.0 < m → Turned OutOfRange v → ReplaceDecided m n gs b f s v
      replace-few k q = far (omega arith) q

      module _ (k : 1 ≤ b.len.0 - b.idx.0) (j : m ≤ b.len.0 - b.idx.0) {x : ℕ} (ex : x ≡ length gs) where
        pub replace-lacks : x < n → Turned BadOperand v → ReplaceDecided m n gs b f s v
        replace-lacks i q = record { is = decided-refused h (record { law = λ run other l. replace-short _ m n gs _ (output-of b run other ∙ o) (enough l.held m o k j) (lt-ltb (length gs) n (omega arith)) }) q }

        pub replace-decided : {c : ℕ} {t : Bool} {w : Decision} → n ≤ x → c ≡ capacity_of (length f) → Writes c b m n true w → t ≡ clusters_merge (read_level b.level) → v ≡ amended (costing (merge_limits t m)) w → ReplaceDecided m n gs b f s v
        unfolding writes_replaced
        replace-decided {c} {t} {w} i ec q et ev =
            let held = sound-held b f s h in
            let in_len : b.idx.0 + m ≤ b.len.0 = omega (arith, held.idx-in) in
            let some : b.idx.0 < b.len.0 = omega arith in
            let many : n ≤ length gs = omega arith in
            record {
              is = decided-writes _ b f s v m n _ (λ y. Replaces (lists_of b) y (clusters_merge (read_level b.level)) b.level b.wants m n gs) (merge_limits (clusters_merge (read_level b.level)) m) h
                  (record { then = _; law = λ run other l. writes l ∙ writing-room (synced o l) n (λ a. replaced m n gs (sized (out_length a + n) a)) })
                  (λ fits. record { law = λ run other run' other' l lr lo act. in-call (writes l) (replace_meets m n gs (synced o l) (fits.law run other l) in_len some many lr lo act) })
                  (λ fits. let p = room-puttable h fits in record { same = p.same; len-in = omega arith; fits = p.fits; some = some; in_len = in_len; enough = many })
                  (ev ∙ (ap (λ (y : Bool). amended (costing (merge_limits y m)) w) et ∙ ap (amended (costing (merge_limits (clusters_merge (read_level b.level)) m))) (rw ec at q.is)));
            }
          where
            writes : {run other : List ℕ} → Lying b f run other → replace_glyphs (capacity_of (length run)) m n gs (account_of b run other) ≡ writes_replaced m n gs (capacity_of (length run)) (account_of b run other)
            writes {run} {other} l = replace-writes _ m n gs _ (output-of b run other ∙ o) (enough l.held m o k j) (le-ltb (length gs) n (omega arith))

-- the output and the numbers asked for stay small
pub given-small : {b : Buffer} {f s : List ℕ} {t : Test} {y : Unit {0}} {n x : ℕ} → Tested b f s t → t ≡ Ok y → x ≤ 2 ^ 62 → n ≤ x → b.out_len.0 + n < 2 ^ 64
given-small {b} {f} {s} w h ex k = let v = sound-held b f s (tests-sound w h) in omega arith

-- for the proofs of functions
pub ruleset replace_calls = (turned, soundness, sound-idx, idx-small, tested, one-spoils, one-past, one-decided, paying-acts, paying-still, paying-over, replace-unsound, replace-spoils, replace-empty, replace-few, replace-lacks, replace-decided, given-small)

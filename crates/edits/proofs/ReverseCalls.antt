-- Reversals of a buffer's run: from what the slice functions leave to the account.
use Rattle.lists.specs.inner.States.{Decision}
use Rattle.lists.specs.inner.Verdicts.{acts_of, Turned}
use Rattle.std.specs.Prelude.{None}
use mathlib.Core.{Path.◌≡◌, Path.refl, Path.sym, Path.ap, Path.◌∙◌, Bool.Bool, Bool.true, Bool.false, Bool.cond, Bool.◌||◌, Bool.false≢true, List.List, List.reverse}
use Rattle.std.proofs.Common.{ℕ, ◌≤◌, zero-le, le_refl, arith}
use lib.{Dec.ltb, ListN.length, ListN.take, ListN.drop, Seq.length-take-le}
use Rattle.records.specs.{Phase, InputPlace, Contradiction, WrongPhase, OutOfRange, Glyphs.Glyph, Ranges.infos, View.glyphs, View.positions_in}
use Rattle.records.proofs.View.{glyphs-same, positions-glyphs, length-paired}
use Rattle.lists.specs.{declared.Buffer.Buffer}
use Rattle.lists.specs.{Account.Account, Account.positions_phase, Account.spoiled_phase, Account.with_rest, Account.refused, Account.accepted, Contract.shown, Contract.gone_of, Contract.account_of, Contract.sound, inner.Turned.turned, inner.Verdicts.Leaves, inner.Verdicts.settled, inner.Verdicts.Decided}
use Rattle.lists.proofs.Decisions.{near_same, decided-unsound, decided-refused, decided-does}
use Rattle.lists.proofs.SoundLaws.{soundness}
use Rattle.lists.proofs.Refusing.{refusing}
use Rattle.records.proofs.Tests.{tested}
use Rattle.lists.proofs.PairTurns.{paired-turned}
use Rattle.lists.proofs.Showing.{on-shown, shown-glyphs, shown-positions}
use Rattle.lists.proofs.TurnParts.{turned-take, turned-drop, turned-all}
use Rattle.edits.specs.{inner.Acts.Acts, WholeRun.not_whole, WholeRun.reverse_run, WholeRun.reverse_range, Merging.outside_input, Groups.group_sizes, Groups.same_cluster, Groups.regrouped, Groups.reverse_clusters, inner.Wholes.WholeInput, inner.Wholes.RunOf, inner.Wholes.TakesWhole, inner.Reversals.Turns, inner.Reversals.Rearranges, inner.Reversals.ReversesRange}
use Rattle.edits.proofs.MergeCalls.{outside_of, in-mergeful, in-acts}
use Rattle.edits.proofs.WholeInputs.{whole_test, not-not-whole, whole-rest, whole-acts}
use Rattle.edits.proofs.WholeCalls.{OnWhole, OnRun, whole-refuses, lying-whole, sound-whole, whole_run, run-shorter, places-fit, takes-decided}

-- ---- what is shown of a run has its length
shown-room : (p : Phase) {n : ℕ} (run other : List ℕ) → spoiled_phase p ≡ false → n ≤ length (glyphs run) → n ≤ length (shown p run other)
shown-room p {n} run other h k = on-shown (λ x. n ≤ length (x run other)) p h k (rw (length-paired (glyphs run) (positions_in other)) k)

module _ {phase : Phase} {n : ℕ} {run other : List ℕ} (w : RunOf phase n run other) where
  places_same : length (glyphs run) ≡ length (positions_in other)
  places_same = glyphs-same run other w.room.same ∙ sym (positions-glyphs other)

  shown-fits : n ≤ length (shown phase run other)
  shown-fits = shown-room phase run other w.clean w.room.fits

  pub shown-length : length (take n (shown phase run other)) ≡ n
  shown-length = length-take-le n (shown phase run other) shown-fits

-- ---- a range turned round, in each phase
module _ (run other run' other' : List ℕ) (s e : ℕ) (er : glyphs run' ≡ turned s e (glyphs run)) where
  shown-plain : (p : Phase) → positions_phase p ≡ false → spoiled_phase p ≡ false → shown p run' other' ≡ turned s e (shown p run other)
  shown-plain p h k = rw (shown-glyphs p run' other' h k, shown-glyphs p run other h k) er

  shown-paired : (p : Phase) → positions_phase p ≡ true → positions_in other' ≡ turned s e (positions_in other) → length (glyphs run) ≡ length (positions_in other) → s ≤ e → e ≤ length (glyphs run)
      → shown p run' other' ≡ turned s e (shown p run other)
  shown-paired p h eo n o f = rw (shown-positions p run' other' h, shown-positions p run other h, er, eo) (paired-turned s e (glyphs run) (positions_in other) n o f)

module _ {phase : Phase} {s e : ℕ} {run other run' : List ℕ} where
  pub turns-plain : positions_phase phase ≡ false → glyphs run' ≡ turned s e (glyphs run) → Turns phase s e run other run' other
  turns-plain h er = record { run_is = er; other-is = rw h }

  pub turns-positions : {other' : List ℕ} → positions_phase phase ≡ true → glyphs run' ≡ turned s e (glyphs run) → positions_in other' ≡ turned s e (positions_in other) → Turns phase s e run other run' other'
  turns-positions h er eo = record { run_is = er; other-is = rw h eo }

pub turns-rearrange : {phase : Phase} {n s e : ℕ} {run other run' other' : List ℕ} → RunOf phase n run other → s ≤ e → e ≤ n → Turns phase s e run other run' other' → Rearranges (turned s e) phase n run other run' other'
turns-rearrange {phase} {n} {s} {e} {run} {other} {run'} {other'} w o f t = by (positions_phase phase) refl t.other-is
  where
    kept : drop n (glyphs run') ≡ drop n (glyphs run)
    kept = ap (drop n) t.run_is ∙ turned-drop s e n (glyphs run) o f w.room.fits

    by : (x : Bool) → positions_phase phase ≡ x → positions_in other' ≡ cond x (turned s e (positions_in other)) (positions_in other) → Rearranges (turned s e) phase n run other run' other'
    by true h eo = record {
      is = ap (take n) (shown-paired run other run' other' s e t.run_is phase h eo (places_same w) o (omega (arith, f, w.room.fits))) ∙ turned-take s e n (shown phase run other) o f (shown-fits w);
      run-behind = kept;
      other-behind = ap (drop n) eo ∙ turned-drop s e n (positions_in other) o f (places-fit w);
    }
    by false h eo = record {
      is = ap (take n) (shown-plain run other run' other' s e t.run_is phase h w.clean) ∙ turned-take s e n (shown phase run other) o f (shown-fits w);
      run-behind = kept;
      other-behind = ap (drop n) eo;
    }

-- ---- the calls, by their tests
module _ (a : Account ℕ) where
  run-accepted : not_whole a ≡ false → reverse_run a ≡ accepted (with_rest (reverse a.rest) a)
  unfolding reverse_run
  run-accepted h = simp (h, refusing)

  clusters-accepted : not_whole a ≡ false → reverse_clusters a ≡ accepted (with_rest (regrouped (group_sizes same_cluster (infos a.rest)) a.rest) a)
  unfolding reverse_clusters
  clusters-accepted h = simp (h, refusing)

  module _ (s e : InputPlace) where
    range-outside : not_whole a ≡ false → outside_input s e a ≡ true → reverse_range s e a ≡ refused OutOfRange
    unfolding reverse_range
    range-outside h k = simp (h, k, refusing)

    range-accepted : not_whole a ≡ false → outside_input s e a ≡ false → reverse_range s e a ≡ accepted (with_rest (turned s.0 e.0 a.rest) a)
    unfolding reverse_range turned
    range-accepted h k = simp (h, k, refusing)

-- ---- what a call leaves
pub rearranged : {b : Buffer} {run other : List ℕ} → WholeInput b run other → {h : List (Glyph ℕ) → List (Glyph ℕ)} {run' other' : List ℕ} → length run' ≡ length run → length other' ≡ length other → Rearranges h b.phase b.len.0 run other run' other'
    → Acts (λ a. with_rest (h a.rest) a) b run other b run' other'
rearranged w {h} lr lo v = whole-acts w lr lo v.run-behind v.other-behind h v.is

-- ---- 1B and 1D
module _ (b : Buffer) where
  on-run-reverse : OnRun (λ capacity a. reverse_run a) b (Turns b.phase 0 b.len.0)
  unfolding reverse_run
  on-run-reverse = record {
    whole = record { refuses = λ capacity a h. simp (h, refusing) };
    done = λ run other run' other' w lr lo act.
        in-acts (rearranged w lr lo (turns-rearrange (whole_run w) zero-le (le_refl b.len.0) act))
        (run-accepted (account_of b run other) (not-not-whole w)
        ∙ ap (λ (l : List (Glyph ℕ)). accepted (with_rest l (account_of b run other))) (sym (turned-all b.len.0 (account_of b run other).rest (whole-rest w)))) refl;
  }

  on-run-clusters : OnRun (λ capacity a. reverse_clusters a) b (Rearranges (λ l. regrouped (group_sizes same_cluster (infos l)) l) b.phase b.len.0)
  unfolding reverse_clusters
  on-run-clusters = record {
    whole = record { refuses = λ capacity a h. simp (h, refusing) };
    done = λ run other run' other' w lr lo act. in-acts (rearranged w lr lo act) (clusters-accepted (account_of b run other) (not-not-whole w)) refl;
  }

module _ {b : Buffer} {f s : List ℕ} {v : Decision} where
  pub reverse-decided : TakesWhole b f s v → Decided (λ capacity a. reverse_run a) b f s (settled b v) (acts_of v) (RunOf b.phase b.len.0 f s) (Turns b.phase 0 b.len.0)
  reverse-decided w = takes-decided (on-run-reverse b) w

  pub clusters-decided : TakesWhole b f s v → Decided (λ capacity a. reverse_clusters a) b f s (settled b v) (acts_of v) (RunOf b.phase b.len.0 f s) (Rearranges (λ l. regrouped (group_sizes same_cluster (infos l)) l) b.phase b.len.0)
  clusters-decided w = takes-decided (on-run-clusters b) w

-- ---- 1C
on-whole-range : (s e : InputPlace) → OnWhole (λ capacity a. reverse_range s e a)
unfolding reverse_range
on-whole-range s e = record { refuses = λ capacity a h. simp (h, refusing) }

outside-is : (s e : InputPlace) {b : Buffer} {run other : List ℕ} {x y : Bool} → WholeInput b run other → x ≡ (ltb e.0 s.0 || (ltb b.len.0 e.0 || ltb s.0 (gone_of b))) → x ≡ y → outside_input s e (account_of b run other) ≡ y
outside-is s e w ex p = outside_of w.held s e w.clean ∙ (sym ex ∙ p)

module _ {start stop : InputPlace} {b : Buffer} {f s : List ℕ} {v : Decision} where
  pub range-unsound : sound b f s ≡ false → Turned Contradiction v → ReversesRange start stop b f s v
  range-unsound h w = record { is = decided-unsound h w }

  module _ {t : Bool} (h : sound b f s ≡ true) (et : t ≡ whole_test b) where
    pub range-not-whole : t ≡ true → Turned WrongPhase v → ReversesRange start stop b f s v
    range-not-whole k w = record { is = decided-refused h (whole-refuses (on-whole-range start stop) et k) w }

    module _ {x : Bool} (k : t ≡ false) (ex : x ≡ (ltb stop.0 start.0 || (ltb b.len.0 stop.0 || ltb start.0 (gone_of b)))) where
      pub range-over : x ≡ true → Turned OutOfRange v → ReversesRange start stop b f s v
      range-over p w = record { is = decided-refused h (record { law = λ run other l. let u = lying-whole et k l in range-outside (account_of b run other) start stop (not-not-whole u) (outside-is start stop u ex p) }) w }

      pub range-ahead : x ≡ false → Leaves b true None v → ReversesRange start stop b f s v
      range-ahead p w =
          let u = sound-whole h et k in
          let m = in-mergeful u.held start stop u.clean ex p in
          record {
            is = decided-does h (record {
              near = near_same b;
              none = λ c. absurd (false≢true (sym c));
              law = λ run other run' other' l lr lo act.
                  let q = lying-whole et k l in
                  in-acts (rearranged q lr lo (turns-rearrange (whole_run q) m.order m.end act)) (range-accepted (account_of b run other) start stop (not-not-whole q) (outside-is start stop q ex p)) refl;
            }) (λ c. (m.order, run-shorter (whole_run u) m.end)) w;
          }

  module _ (w : ReversesRange start stop b f s v) (t : acts_of v ≡ true) where
    pub range-order : start.0 ≤ stop.0
    range-order = (w.is.asked t).0

    pub range-run : RunOf b.phase stop.0 f s
    range-run = (w.is.asked t).1

-- for the proofs of functions
pub ruleset reverse_calls = (turned, soundness, tested, places-fit, turns-plain, turns-positions, reverse-decided, clusters-decided, range-unsound, range-not-whole, range-over, range-ahead, range-order, range-run)

-- Refusal 1: as the code tests it, and the facts that it leaves.
use Rattle.std.specs.Result.{result_from_control_flow, IsErr, IsErrAnd}
use Rattle.std.proofs.Common.{Break}
use Rattle.lists.proofs.Tries.{tried, goes-out, given-back}
use mathlib.Core.{Path.◌≡◌, Path.refl, Path.sym, Path.ap, Path.subst, Path.◌∙◌, Bool.Bool, Bool.true, Bool.false, Bool.cond, Bool.◌&&◌, Bool.◌||◌, Bool.and-eq-true_iff, List.List}
use Prim.Native.Nat.{ℕ, ◌≤◌, ◌<◌}
use native.Mathlib.Decide.{dec_le}
use native.Mathlib.Omega.{arith}
use borrow.Author.Tests.{le-leb, lt-leb, leb-true, eqb-true, eq-eqb, ne_eqb}
use lib.{Dec.eqb, Dec.leb, ListN.length}
use Rattle.std.specs.Prelude.{Ok, Err}
use Rattle.records.specs.{Refusal, Contradiction, WrongPhase, Counters.capacity_of, Counters.rightly_lent, View.glyphs}
use Rattle.records.proofs.View.{length-glyphs, glyphs-same, lent_same, lent-whole, lent-most, whole_same}
use Rattle.lists.specs.declared.Buffer.{Buffer}
use Rattle.lists.specs.Account.{output_phase, spoiled_phase}
use Rattle.lists.specs.{Contract.in_order, Contract.sound, inner.Held.Soundness, inner.Held.Test, inner.Held.Tested, inner.Held.Unspoiled, inner.Held.Held}
use Rattle.lists.specs.inner.Verdicts.{Turned}
use Rattle.lists.specs.inner.States.{Decision, most_output}

OkCode : Test → Type 0
OkCode r = elim r [ Ok x ↦ Unit {0} | Err why ↦ ⊥ ]

ErrCode : Test → Type 0
ErrCode r = elim r [ Ok x ↦ ⊥ | Err why ↦ Unit {0} ]

why-of : Test → Refusal
why-of r = elim r [ Ok x ↦ Contradiction | Err why ↦ why ]

-- ---- refusal 1, as the code tests it
and_none : (x : Bool) → x && false ≡ false
and_none true = refl
and_none false = refl

and-all : (x : Bool) → x && true ≡ x
and-all true = refl
and-all false = refl

and-implied : (x y : Bool) → (y ≡ true → x ≡ true) → x && y ≡ y
and-implied true y h = refl
and-implied false true h = h refl
and-implied false false h = refl

module _ (b : Buffer) (capacity : ℕ) where
  pub order-idx : b.len.0 < b.idx.0 → false ≡ in_order b capacity
  unfolding in_order
  order-idx h = rw (lt-leb _ _ h)

  module _ (i : b.idx.0 ≤ b.len.0) where
    pub order-len : b.limits.allocated < b.len.0 → false ≡ in_order b capacity
    unfolding in_order
    order-len h = rw (le-leb _ _ i, lt-leb _ _ h)

    module _ (l : b.len.0 ≤ b.limits.allocated) where
      pub order-all : capacity < b.limits.allocated → false ≡ in_order b capacity
      unfolding in_order
      order-all h = rw (le-leb _ _ i, le-leb _ _ l, lt-leb _ _ h) (sym (and_none (leb b.out_len.0 b.limits.allocated)))

      -- how much output there can be
      pub order-most : {most : ℕ} → most ≡ most_output b → b.limits.allocated ≤ capacity → leb b.out_len.0 most ≡ in_order b capacity
      unfolding in_order most_output
      order-most e a = rw (e, le-leb _ _ i, le-leb _ _ l, le-leb _ _ a) (by-phase (output_phase b.phase) b.have_separate_output)
        where
          by-phase : (p k : Bool) → leb b.out_len.0 (cond p (cond k b.limits.allocated b.idx.0) 0) ≡ leb b.out_len.0 b.limits.allocated && cond p (k || leb b.out_len.0 b.idx.0) (eqb b.out_len.0 0)
          by-phase true true = sym (and-all (leb b.out_len.0 b.limits.allocated))
          by-phase true false = sym (and-implied (leb b.out_len.0 b.limits.allocated) (leb b.out_len.0 b.idx.0) (λ h. let q : b.out_len.0 ≤ b.idx.0 = leb-true b.out_len.0 b.idx.0 h in le-leb b.out_len.0 b.limits.allocated (omega arith)))
          by-phase false k = at_none (dec_le b.out_len.0 0)
            where
              at_none : Dec (b.out_len.0 ≤ 0) → leb b.out_len.0 0 ≡ leb b.out_len.0 b.limits.allocated && eqb b.out_len.0 0
              at_none (yes h) = rw (le-leb _ _ h, eq-eqb b.out_len.0 0 (omega arith), le-leb b.out_len.0 b.limits.allocated (omega arith))
              at_none (no h) = rw (lt-leb b.out_len.0 0 (omega arith), ne_eqb b.out_len.0 0 (λ e. h (omega arith))) (sym (and_none (leb b.out_len.0 b.limits.allocated)))

module _ (b : Buffer) (f s : List ℕ) {lent : Bool} (e : lent ≡ rightly_lent (length f) (length s)) where
  pub tested-whole : {n : ℕ} {t : Bool} → lent ≡ true → n ≡ capacity_of (length f) → t ≡ in_order b n → Soundness b f s t
  unfolding sound
  tested-whole h en et = record { is = rw (sym e ∙ h, ← en) et }

  pub tested-lent : lent ≡ false → Soundness b f s false
  unfolding sound
  tested-lent h = record { is = rw (sym e ∙ h) }

-- ---- refusal 1, as facts
parts : (a b c d e f : Bool) → a && (b && (c && (d && (e && f)))) ≡ true → (a ≡ true) × (b ≡ true) × (c ≡ true) × (d ≡ true) × (e ≡ true) × (f ≡ true)
parts a b c d e f h =
    let p = (and-eq-true_iff a (b && (c && (d && (e && f))))).0 h in
    let q = (and-eq-true_iff b (c && (d && (e && f)))).0 p.1 in
    let r = (and-eq-true_iff c (d && (e && f))).0 q.1 in
    let s = (and-eq-true_iff d (e && f)).0 r.1 in
    let t = (and-eq-true_iff e f).0 s.1 in
    (p.0, q.0, r.0, s.0, t.0, t.1)

all_true : (a b c d e f : Bool) → a ≡ true → b ≡ true → c ≡ true → d ≡ true → e ≡ true → f ≡ true → a && (b && (c && (d && (e && f)))) ≡ true
all_true a b c d e f p q r s t u = rw (p, q, r, s, t, u)

apart-test : Buffer → Bool
apart-test b = cond (output_phase b.phase) (b.have_separate_output || leb b.out_len.0 b.idx.0) (eqb b.out_len.0 0)

module _ (b : Buffer) (f s : List ℕ) where
  sound-parts : sound b f s ≡ true → (rightly_lent (length f) (length s) ≡ true) × (leb b.idx.0 b.len.0 ≡ true) × (leb b.len.0 b.limits.allocated ≡ true) × (leb b.out_len.0 b.limits.allocated ≡ true) × (leb b.limits.allocated (capacity_of (length f)) ≡ true) × (apart-test b ≡ true)
  unfolding sound in_order apart-test
  sound-parts h = parts _ _ _ _ _ _ h

  pub sound-lent : sound b f s ≡ true → rightly_lent (length f) (length s) ≡ true
  sound-lent h = (sound-parts h).0

  pub sound-held : sound b f s ≡ true → Held b f s
  unfolding apart-test
  sound-held h =
      let p = sound-parts h in
      let all : b.limits.allocated ≤ capacity_of (length f) = leb-true _ _ p.4 in
      let most : capacity_of (length f) ≤ 1048576 = lent-most f s p.0 in
      record {
        idx-in = leb-true _ _ p.1;
        len-in = leb-true _ _ p.2;
        out-in = leb-true _ _ p.3;
        all_in = rw (length-glyphs f) all;
        most = rw (length-glyphs f) most;
        same = lent_same f s p.0;
        whole = lent-whole f s p.0;
        behind = λ o k. leb-true _ _ (simp (o, k) at p.5);
        none = λ o. eqb-true _ _ (simp o at p.5);
      }

  -- a buffer is sound by its counters and the lengths of slices that were rightly lent
  pub held-sound : rightly_lent (length f) (length s) ≡ true → Held b f s → sound b f s ≡ true
  unfolding sound in_order
  held-sound h v =
      let all : b.limits.allocated ≤ capacity_of (length f) = rw (length-glyphs f) at v.all_in in
      all_true _ _ _ _ _ _ h (le-leb _ _ v.idx-in) (le-leb _ _ v.len-in) (le-leb _ _ v.out-in) (le-leb _ _ all) (tested (output_phase b.phase) b.have_separate_output v.behind v.none)
    where
      tested : (o k : Bool) → (o ≡ true → k ≡ false → b.out_len.0 ≤ b.idx.0) → (o ≡ false → b.out_len.0 ≡ 0) → cond o (k || leb b.out_len.0 b.idx.0) (eqb b.out_len.0 0) ≡ true
      tested true true p q = refl
      tested true false p q = le-leb _ _ (p refl refl)
      tested false k p q = eq-eqb _ _ (q refl)

pub held-turned : (b : Buffer) (run other : List ℕ) → Held b run other → Held b other run
held-turned b run other v =
    let e : length (glyphs run) ≡ length (glyphs other) = glyphs-same run other v.same in
    record {
      idx-in = v.idx-in;
      len-in = v.len-in;
      out-in = v.out-in;
      all_in = omega arith;
      most = omega arith;
      same = sym v.same;
      whole = whole_same run other v.same v.whole;
      behind = v.behind;
      none = v.none;
    }

-- the output lies in one of the slices
pub out-fits : {b : Buffer} {run other : List ℕ} → Held b run other → (s : Bool) → b.out_len.0 ≤ length (cond s (glyphs other) (glyphs run))
out-fits {b} {run} {other} v true = let same : length (glyphs run) ≡ length (glyphs other) = glyphs-same run other v.same in omega (arith, v.out-in, v.all_in)
out-fits v false = omega (arith, v.out-in, v.all_in)

-- lengths are all that it goes by
pub held-lengths : (b : Buffer) (run other run' other' : List ℕ) → length run' ≡ length run → length other' ≡ length other → Held b run other → Held b run' other'
held-lengths b run other run' other' er eo v =
    let e : length (glyphs run') ≡ length (glyphs run) = glyphs-same run' run er in
    record {
      idx-in = v.idx-in;
      len-in = v.len-in;
      out-in = v.out-in;
      all_in = omega arith;
      most = omega arith;
      same = er ∙ (v.same ∙ sym eo);
      whole = whole_same run run' (sym er) v.whole;
      behind = v.behind;
      none = v.none;
    }

-- ---- the same of a test that was made
module _ {b : Buffer} {f s : List ℕ} {t : Bool} (w : Soundness b f s t) where
  pub is-sound : t ≡ true → sound b f s ≡ true
  is-sound h = sym w.is ∙ h

  pub is-unsound : t ≡ false → sound b f s ≡ false
  is-unsound h = sym w.is ∙ h

  pub held_first : t ≡ true → Held b f s
  held_first h = sound-held b f s (is-sound h)

  pub held-second : t ≡ true → Held b s f
  held-second h = held-turned b f s (held_first h)

-- refusal 1 as the code answers it
abbrev TestedAs : Bool → Test → Type 0
TestedAs x u = elim u [ Ok y ↦ x ≡ true | Err why ↦ (x ≡ false) × (why ≡ Contradiction) ]

tested-by : (x : Bool) {t : Test} → t ≡ cond x (Ok tt) (Err Contradiction) → (u : Test) → t ≡ u → TestedAs x u
unfolding OkCode ErrCode why-of
tested-by true e (Ok y) h = refl
tested-by true e (Err why) h = absurd (subst OkCode (sym e ∙ h) tt)
tested-by false e (Ok y) h = absurd (subst ErrCode (sym e ∙ h) tt)
tested-by false e (Err why) h = (refl, ap why-of (sym h ∙ e))

module _ {b : Buffer} {f s : List ℕ} {t : Test} (w : Tested b f s t) where
  pub tests-sound : {y : Unit {0}} → t ≡ Ok y → sound b f s ≡ true
  tests-sound {y} h = tested-by (sound b f s) w.is (Ok y) h

  tests-out : {why : Refusal} → t ≡ Err why → (sound b f s ≡ false) × (why ≡ Contradiction)
  tests-out {why} h = tested-by (sound b f s) w.is (Err why) h

  module _ {p : _} (out : t ≡ result_from_control_flow p) {z : _} (e : p ≡ Break z) where
    pub tests-unsound : sound b f s ≡ false
    tests-unsound = (tests-out (goes-out out e)).0

    pub tests-err : (v : Decision) → IsErr v × IsErrAnd v (λ (y : Refusal). y ≡ z.0) → Turned Contradiction v
    tests-err v h = record { is = given-back v h ∙ ap Err (tests-out (goes-out out e)).1 }

-- refusal 2 as the code answers it
abbrev UnspoiledAs : Bool → Test → Type 0
UnspoiledAs x u = elim u [ Ok y ↦ x ≡ false | Err why ↦ (x ≡ true) × (why ≡ WrongPhase) ]

unspoiled-by : (x : Bool) {t : Test} → t ≡ cond x (Err WrongPhase) (Ok tt) → (u : Test) → t ≡ u → UnspoiledAs x u
unfolding OkCode ErrCode why-of
unspoiled-by false e (Ok y) h = refl
unspoiled-by false e (Err why) h = absurd (subst OkCode (sym e ∙ h) tt)
unspoiled-by true e (Ok y) h = absurd (subst ErrCode (sym e ∙ h) tt)
unspoiled-by true e (Err why) h = (refl, ap why-of (sym h ∙ e))

module _ {b : Buffer} {t : Test} (w : Unspoiled b t) where
  pub tests-unspoiled : {y : Unit {0}} → t ≡ Ok y → spoiled_phase b.phase ≡ false
  tests-unspoiled {y} h = unspoiled-by (spoiled_phase b.phase) w.is (Ok y) h

  spoiled-out : {why : Refusal} → t ≡ Err why → (spoiled_phase b.phase ≡ true) × (why ≡ WrongPhase)
  spoiled-out {why} h = unspoiled-by (spoiled_phase b.phase) w.is (Err why) h

  module _ {p : _} (out : t ≡ result_from_control_flow p) {z : _} (e : p ≡ Break z) where
    pub tests-spoiled : spoiled_phase b.phase ≡ true
    tests-spoiled = (spoiled-out (goes-out out e)).0

    pub spoiled-err : (v : Decision) → IsErr v × IsErrAnd v (λ (y : Refusal). y ≡ z.0) → Turned WrongPhase v
    spoiled-err v h = record { is = given-back v h ∙ ap Err (spoiled-out (goes-out out e)).1 }

pub tests-as : {b : Buffer} {f s : List ℕ} {x : Bool} {t : Test} → Soundness b f s x → t ≡ cond x (Ok tt) (Err Contradiction) → Tested b f s t
tests-as w e = record { is = rw (← w.is) e }

-- for the proofs of functions
pub ruleset soundness = (is-sound, is-unsound, held_first, held-second, tests-sound, tests-unsound, tests-err, tests-unspoiled, tests-spoiled, spoiled-err, tried)

pub ruleset ordering = (order-idx, order-len, order-all, order-most, tested-whole, tested-lent)

-- an output that lies in the run does not overtake the cursor, in any phase
pub not-overtaken : {b : Buffer} {run other : List ℕ} → Held b run other → b.have_separate_output ≡ false → b.out_len.0 ≤ b.idx.0
not-overtaken {b} v h = by-test (output_phase b.phase) refl
  where
    by-test : (t : Bool) → output_phase b.phase ≡ t → b.out_len.0 ≤ b.idx.0
    by-test true e = v.behind e h
    by-test false e = omega (arith, v.none e)

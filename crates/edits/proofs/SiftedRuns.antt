-- Call 21: the loop over the glyphs, the run that it leaves, and the call.
use Rattle.lists.specs.inner.Verdicts.{amended}
use Rattle.lists.specs.inner.States.{Decision}
use Rattle.std.specs.Prelude.{Ok, None}
use mathlib.Core.{Path.◌≡◌, Path.refl, Path.sym, Path.ap, Path.◌∙◌, Path.subst, Bool.Bool, Bool.true, Bool.false, Bool.false≢true, List.List}
use Rattle.std.proofs.Common.{ℕ, suc, ◌+◌, ◌-◌, ◌<◌, ◌≤◌, arith}
use native.Mathlib.Nat.{sub-zero}
use lib.{Dec.ltb, ListN.length, ListN.take, ListN.get_or}
use Rattle.records.specs.{Phase, Plain, Output, Positions, Spoiled, WrongPhase, BadOperand, Limits, Glyphs.key, View.glyphs, View.positions_in, View.words_from, inner.Stores.zero_glyph}
use Rattle.records.proofs.View.{glyphs-same}
use Rattle.lists.proofs.Showing.{shown-glyphs, shown-positions}
use Rattle.lists.specs.{declared.Buffer.Buffer}
use Rattle.lists.specs.{Account.read_level, Account.Account, Account.output_phase, Account.positions_phase, Account.spoiled_phase, Account.with_gone, Account.refused, Account.accepted, Contract.shown, Contract.state_of, Contract.account_of, inner.Held.Held, inner.States.reply, inner.Verdicts.leaving, inner.Verdicts.settled}
use Rattle.lists.proofs.SoundLaws.{held-lengths}
use Rattle.lists.proofs.Refusing.{refusing}
use Rattle.lists.proofs.Changed.{settled_at, placed-is}
use Rattle.edits.specs.declared.Kept.{Kept}
use Rattle.edits.specs.{inner.Acts.Acts, inner.Charges.DecidedBy, inner.Charges.running, inner.Charges.TakesKeyed, Deleting.deleted_each, Deleting.kept_run, Deleting.delete_glyphs_inplace, inner.MergeActs.merge_limits, WholeRun.not_whole, inner.Wholes.WholeInput, inner.Wholes.RunRoom}
use Rattle.edits.specs.inner.Deletes.{DeleteRoom, Deletes, MoveRoom, MovesGlyph, Sifts, kept_with}
use Rattle.edits.proofs.Holding.{same-account}
use Rattle.edits.proofs.MergeCalls.{in-acts}
use Rattle.edits.proofs.{Charging.OnKeyed, Charging.running-is, Charging.keyed-decided, WholeCalls.room-lengths}
use Rattle.edits.proofs.WholeInputs.{not-not-whole, whole-gone, account-whole, whole-rest}
use Rattle.edits.proofs.Pairings.{pairing}
use Rattle.edits.proofs.Siftings.{amid, phase_of, underway, sifted, Onward, Next, one-deleted, one_kept, keep-room}

-- ---- what is left to do from i on comes to what there was to do
pub record Sifting (slot mask value : ℕ) (t : Bool) (level wants n : ℕ) (l₀ : Limits) (run₀ other₀ : List ℕ) (l : Limits) (run other : List ℕ) (i o : ℕ) (b : Buffer) : Type 0 where
  pub held : Held (amid level wants n b l i o) run other
  pub is : deleted_each slot mask value (n - i) (underway t (amid level wants n b l i o) run other) ≡ deleted_each slot mask value n (underway t (amid level wants n b l₀ 0 0) run₀ other₀)
  pub size : l.allocated ≡ l₀.allocated
  pub run-beyond : words_from l₀.allocated run ≡ words_from l₀.allocated run₀
  pub other-beyond : words_from l₀.allocated other ≡ words_from l₀.allocated other₀

-- on every buffer whose run lies here
pub record SiftingOf (slot mask value : ℕ) (t : Bool) (level wants n : ℕ) (l₀ : Limits) (run₀ other₀ : List ℕ) (l : Limits) (run other : List ℕ) (i o : ℕ) : Type 0 where
  pub room : RunRoom n run other
  pub same-run : length run ≡ length run₀
  pub same-other : length other ≡ length other₀
  pub low : o ≤ i
  pub high : i ≤ n
  pub each : (b : Buffer) → WholeInput (running level wants n l₀ b) run₀ other₀ → Sifting slot mask value t level wants n l₀ run₀ other₀ l run other i o b

module _ {slot mask value : ℕ} {t : Bool} {level wants n : ℕ} {l₀ : Limits} {run₀ other₀ : List ℕ} where
  begun : (b : Buffer) → WholeInput (running level wants n l₀ b) run₀ other₀ → Sifting slot mask value t level wants n l₀ run₀ other₀ l₀ run₀ other₀ 0 0 b
  begun b w = record {
    held = record {
      idx-in = omega arith;
      len-in = w.held.len-in;
      out-in = omega arith;
      all_in = w.held.all_in;
      most = w.held.most;
      same = w.held.same;
      whole = w.held.whole;
      behind = λ p s. omega arith;
      none = λ p. refl;
    };
    is = ap (λ (m : ℕ). deleted_each slot mask value m (underway t (amid level wants n b l₀ 0 0) run₀ other₀)) (sub-zero n);
    size = refl;
    run-beyond = refl;
    other-beyond = refl;
  }

  pub sifting-none : RunRoom n run₀ other₀ → SiftingOf slot mask value t level wants n l₀ run₀ other₀ l₀ run₀ other₀ 0 0
  sifting-none r = record { room = r; same-run = refl; same-other = refl; low = omega arith; high = omega arith; each = begun }

  -- one step further
  one-more : {l l' : Limits} {run other run' other' : List ℕ} {i o o' : ℕ} {b : Buffer} → Sifting slot mask value t level wants n l₀ run₀ other₀ l run other i o b → i < n → length run' ≡ length run → length other' ≡ length other
      → Onward (sifted slot mask value) t (amid level wants n b l i o) run other (amid level wants n b l' (i + 1) o') run' other' → Sifting slot mask value t level wants n l₀ run₀ other₀ l' run' other' (i + 1) o' b
  unfolding deleted_each sifted
  one-more {l} {l'} {run} {other} {run'} {other'} {i} {o} {o'} {b} w some lr lo u =
      let m : n - i ≡ suc (n - (i + 1)) = omega arith in
      record {
        held = held-lengths (amid level wants n b l' (i + 1) o') run other run' other' lr lo u.held;
        is = ap (deleted_each slot mask value (n - (i + 1))) u.is ∙ (sym (ap (λ (k : ℕ). deleted_each slot mask value k (underway t (amid level wants n b l i o) run other)) m) ∙ w.is);
        size = u.size ∙ w.size;
        run-beyond = subst (λ (k : ℕ). words_from k run' ≡ words_from k run) w.size u.run-beyond ∙ w.run-beyond;
        other-beyond = subst (λ (k : ℕ). words_from k other' ≡ words_from k other) w.size u.other-beyond ∙ w.other-beyond;
      }

  module _ {l : Limits} {run other : List ℕ} {i o : ℕ} (v : SiftingOf slot mask value t level wants n l₀ run₀ other₀ l run other i o) where
    module _ (some : i < n) where
      pub sifting-key : i < length (glyphs run)
      sifting-key = omega (arith, v.room.fits)

      pub sifting-delete : DeleteRoom i n o run other
      sifting-delete = record { some = some; fits = v.room.fits; out-fits = omega (arith, v.room.fits, v.low); same = glyphs-same run other v.room.same }

      pub sifting-keep : MoveRoom i o run other
      sifting-keep = keep-room v.room v.low some

      next : (b : Buffer) → WholeInput (running level wants n l₀ b) run₀ other₀ → Next level wants n l i o b run other
      next b w = record { room = v.room; low = v.low; some = some; held = (v.each b w).held }

      -- of each, as the loop goes on
      further : {l' : Limits} {run' other' : List ℕ} {o' : ℕ} → length run' ≡ length run → length other' ≡ length other → o' ≤ i + 1
          → ((b : Buffer) → WholeInput (running level wants n l₀ b) run₀ other₀ → Onward (sifted slot mask value) t (amid level wants n b l i o) run other (amid level wants n b l' (i + 1) o') run' other')
          → SiftingOf slot mask value t level wants n l₀ run₀ other₀ l' run' other' (i + 1) o'
      further lr lo below u = record {
        room = room-lengths v.room lr lo;
        same-run = lr ∙ v.same-run;
        same-other = lo ∙ v.same-other;
        low = below;
        high = omega (arith, some);
        each = λ b w. one-more (v.each b w) some lr lo (u b w);
      }

      module _ {k : ℕ} (ek : k ≡ key slot mask (get_or (glyphs run) i zero_glyph).info) {run₁ other₁ run' other' : List ℕ} {l' : Limits} {o' : ℕ} where
        pub sifting-deleted : {l₁ : Limits} {merged : Bool} → Deletes false level wants i n o merged run other run₁ other₁ → k ≡ value → l₁ ≡ merge_limits merged 2 l → length run₁ ≡ length run → length other₁ ≡ length other
            → run' ≡ run₁ → other' ≡ other₁ → l' ≡ l₁ → o' ≡ o → SiftingOf slot mask value t level wants n l₀ run₀ other₀ l' run' other' (i + 1) o'
        sifting-deleted d h el lr lo er eo e eq = rw (er, eo, e ∙ el, eq) (further lr lo (omega (arith, v.low)) (λ b w. one-deleted t slot mask value (next b w) ek h d))

        pub sifting-kept : MovesGlyph t i o run other run₁ other₁ → (k ≡ value → ⊥) → length run₁ ≡ length run → length other₁ ≡ length other
            → run' ≡ run₁ → other' ≡ other₁ → l' ≡ l → o' ≡ o + 1 → SiftingOf slot mask value t level wants n l₀ run₀ other₀ l' run' other' (i + 1) o'
        sifting-kept u h lr lo er eo e eq = rw (er, eo, e, eq) (further lr lo (omega (arith, v.low)) (λ b w. one_kept t slot mask value (next b w) ek h u lr lo))

-- ---- the whole run
phase-known : (p : Phase) → output_phase p ≡ false → spoiled_phase p ≡ false → phase_of (positions_phase p) ≡ p
phase-known Plain o s = refl
phase-known Output o s = absurd (false≢true (sym o))
phase-known Positions o s = refl
phase-known Spoiled o s = absurd (false≢true (sym s))

shown-known : (p : Phase) (run other : List ℕ) → spoiled_phase p ≡ false → pairing (positions_phase p) (glyphs run) (positions_in other) ≡ shown p run other
unfolding pairing
shown-known p run other s = by (positions_phase p) refl
  where
    by : (x : Bool) → positions_phase p ≡ x → pairing x (glyphs run) (positions_in other) ≡ shown p run other
    by true h = sym (shown-positions p run other h)
    by false h = sym (shown-glyphs p run other h s)

module _ {slot mask value level wants n i o : ℕ} {t : Bool} {l₀ l : Limits} {run₀ other₀ run other : List ℕ} {b : Buffer} (w : WholeInput (running level wants n l₀ b) run₀ other₀) (et : t ≡ positions_phase b.phase)
    (v : Sifting slot mask value t level wants n l₀ run₀ other₀ l run other i o b) (lr : length run ≡ length run₀) (lo : length other ≡ length other₀) (end : n ≤ i) where
  phase-is : phase_of t ≡ b.phase
  phase-is = ap phase_of et ∙ phase-known b.phase w.plain w.clean

  shown-is : (r s : List ℕ) → pairing t (glyphs r) (positions_in s) ≡ shown b.phase r s
  shown-is r s = ap (λ (x : Bool). pairing x (glyphs r) (positions_in s)) et ∙ shown-known b.phase r s w.clean

  begun-is : underway t (amid level wants n b l₀ 0 0) run₀ other₀ ≡ account_of (running level wants n l₀ b) run₀ other₀
  unfolding underway state_of
  begun-is = same-account refl refl (ap (take n) (shown-is run₀ other₀)) (λ x. record { phase = phase-is x; gone = sym (whole-gone w) x; limits = l₀; level = read_level level; wants = wants }) ∙ sym (account-whole w)

  left-whole : WholeInput (running level wants o l b) run other
  left-whole = record {
    held = record {
      idx-in = omega arith;
      len-in = v.held.out-in;
      out-in = omega arith;
      all_in = v.held.all_in;
      most = v.held.most;
      same = v.held.same;
      whole = v.held.whole;
      behind = λ p s. omega arith;
      none = λ p. refl;
    };
    plain = w.plain;
    clean = w.clean;
    start = refl;
  }

  left_is : account_of (running level wants o l b) run other ≡ kept_run (underway t (amid level wants n b l i o) run other)
  unfolding kept_run underway with_gone state_of
  left_is = account-whole left-whole ∙ same-account refl refl (ap (take o) (sym (shown-is run other))) (λ x. record { phase = sym phase-is x; gone = whole-gone left-whole x; limits = l; level = read_level level; wants = wants })

  all-sifted : underway t (amid level wants n b l i o) run other ≡ deleted_each slot mask value (length (account_of (running level wants n l₀ b) run₀ other₀).rest) (account_of (running level wants n l₀ b) run₀ other₀)
  unfolding deleted_each
  all-sifted =
      let z : n - i ≡ 0 = omega arith in
      sym (ap (λ (k : ℕ). deleted_each slot mask value k (underway t (amid level wants n b l i o) run other)) z)
      ∙ (v.is
      ∙ (λ x. deleted_each slot mask value (sym (whole-rest w) x) (begun-is x)))

  all_done : Acts (λ a. kept_run (deleted_each slot mask value (length a.rest) a)) (running level wants n l₀ b) run₀ other₀ (running level wants o l b) run other
  all_done = record {
    is = left_is ∙ ap (λ (a : Account ℕ). kept_run a) all-sifted;
    size = v.size;
    side = refl;
    run-beyond = v.run-beyond;
    other-beyond = v.other-beyond;
    held = held-lengths (running level wants o l b) run other run₀ other₀ (sym lr) (sym lo) left-whole.held;
  }

pub sifting-done : {slot mask value : ℕ} {t : Bool} {level wants n : ℕ} {l₀ l : Limits} {run₀ other₀ run other : List ℕ} {i o : ℕ} {k : Kept} → SiftingOf slot mask value t level wants n l₀ run₀ other₀ l run other i o → n ≤ i
    → k ≡ record { len = o; limits = l } → Sifts slot mask value t level wants n l₀ k run₀ other₀ run other
sifting-done v end ek = record { acts = λ b w et. rw ek (all_done w et (v.each b w) v.same-run v.same-other end) }

-- ---- the call
module _ (slot mask value : ℕ) (a : Account ℕ) where
  inplace-not-whole : not_whole a ≡ true → delete_glyphs_inplace slot mask value a ≡ refused WrongPhase
  unfolding delete_glyphs_inplace
  inplace-not-whole h = simp (h, refusing)

  inplace-slot : not_whole a ≡ false → ltb 1 slot ≡ true → delete_glyphs_inplace slot mask value a ≡ refused BadOperand
  unfolding delete_glyphs_inplace
  inplace-slot h k = simp (h, k, refusing)

  inplace-accepts : not_whole a ≡ false → ltb 1 slot ≡ false → delete_glyphs_inplace slot mask value a ≡ accepted (kept_run (deleted_each slot mask value (length a.rest) a))
  unfolding delete_glyphs_inplace
  inplace-accepts h k = simp (h, k, refusing)

-- the state that it leaves
abbrev left : Kept → Buffer → Buffer
left k x = record { idx = x.idx; len = record { 0 = k.len }; out_len = x.out_len; limits = k.limits; wants = x.wants; phase = x.phase; swapped = x.swapped; have_separate_output = x.have_separate_output; level = x.level }

settles-kept : (b : Buffer) (k : Kept) → settled b (amended (kept_with k) (leaving b true None)) ≡ reply (left k b) (Ok None)
settles-kept b k = settled_at b (record { idx = b.idx.0; len = k.len; out_len = b.out_len.0; limits = k.limits; apart = false; acts = true; value = None }) ∙ ap (λ (x : Buffer). reply x (Ok None)) (placed-is k.limits b b.idx.0 k.len b.out_len.0)

module _ {slot : ℕ} (mask value : ℕ) {b : Buffer} where
  module _ {t : Bool} (et : t ≡ positions_phase b.phase) where
    sifts-acts : {k : Kept} {run other run' other' : List ℕ} → WholeInput b run other → Sifts slot mask value t b.level b.wants b.len.0 b.limits k run other run' other'
        → Acts (λ a. kept_run (deleted_each slot mask value (length a.rest) a)) b run other (left k b) run' other'
    sifts-acts {k} {run} {other} {run'} {other'} w u =
        subst (λ (x : Buffer). Acts (λ a. kept_run (deleted_each slot mask value (length a.rest) a)) x run other (left k x) run' other') (running-is b w)
        (u.acts b (subst (λ (x : Buffer). WholeInput x run other) (sym (running-is b w)) w) et)

    inplace-on : OnKeyed Kept kept_with (λ capacity a. delete_glyphs_inplace slot mask value a) slot b (Sifts slot mask value t b.level b.wants b.len.0 b.limits)
    inplace-on = record {
      whole = record { refuses = λ capacity a h. inplace-not-whole slot mask value a h };
      refuses = λ capacity a h k. inplace-slot slot mask value a h k;
      done = λ k run other run' other' w h lr lo c. in-acts (sifts-acts w c) (inplace-accepts slot mask value _ (not-not-whole w) h) (settles-kept b k);
    }

    pub inplace-decided : {f s : List ℕ} {v : Decision} → TakesKeyed slot b f s v
        → DecidedBy Kept kept_with (λ capacity a. delete_glyphs_inplace slot mask value a) b f s v (RunRoom b.len.0 f s) (Sifts slot mask value t b.level b.wants b.len.0 b.limits)
    inplace-decided w = keyed-decided inplace-on w

-- for the proofs of functions
pub ruleset sifting = (sifting-none, sifting-key, sifting-delete, sifting-keep, sifting-deleted, sifting-kept, sifting-done)

-- Call 21 under way: the glyphs kept so far lie at the front of the run, as an output, and the cursor is at the next. What becomes of that one.
use mathlib.Core.{Path.◌≡◌, Path.refl, Path.sym, Path.ap, Path.◌∙◌, Bool.Bool, Bool.true, Bool.false, Bool.cond, Bool.false≢true, List.List, List.[], List.◌∷◌, List.◌++◌}
use Rattle.std.proofs.Common.{ℕ, suc, ◌+◌, ◌-◌, ◌<◌, ◌≤◌, arith, eq-eqb, ne_eqb}
use lib.{ListN.length, ListN.take, ListN.drop, ListN.get_or, ListN.set, Seq.slice, Seq.slice-cons, Seq.set-get_or, Seq.drop-drop}
use Rattle.records.specs.{Phase, Plain, Output, Positions, Position, Limits, Glyphs.Glyph, Glyphs.blank, Glyphs.key, Glyphs.zero_position, Ranges.infos, Ranges.is, View.glyphs, View.positions_in, inner.Stores.zero_glyph, View.words_from}
use Rattle.records.proofs.View.{glyphs-same, positions-glyphs, beyond-glyphs, beyond-positions}
use Rattle.records.proofs.Pairs.{key-alone}
use Rattle.lists.specs.declared.Buffer.{Buffer}
use Rattle.lists.specs.{Account.read_level, Account.Account, Account.in_phase, Account.with_gone, inner.Copied.copied, inner.Held.Held}
use Rattle.lists.proofs.{Copying.copied_none, Copying.copied_more, Copying.take-copied, Copying.drop-copied, Copying.take_range, Copying.range_same}
use Rattle.lists.proofs.Outputs.{output, output-account}
use Rattle.lists.proofs.Changed.{placed-is}
use Rattle.edits.specs.{inner.Acts.Acts, inner.Deletes.Deletes, inner.Deletes.MoveRoom, inner.Deletes.MovesGlyph, Deleting.current, Deleting.deleted, Deleting.kept, inner.MergeActs.merge_limits, inner.Wholes.RunRoom}
use Rattle.edits.proofs.Holding.{same-account}
use Rattle.edits.proofs.Pairings.{pairing, pairing-take, pairing-slice, pairing-first, pairing-set, length-pairing, beside, deleted-beside}

-- ---- one element in the place of another, at or before it
module _ {A : Type 0} (z : A) (l : List A) (i k : ℕ) (hi : i < length l) (o : k ≤ i) where
  set-copied : set l k (get_or l i z) ≡ copied l k l i 1
  set-copied =
      let ek : k + 0 ≡ k = omega arith in
      let ei : i + 0 ≡ i = omega arith in
      ap (λ (d : List A). set d k (get_or l i z)) (copied_none l l k i) ∙ ((λ x. set (copied l k l i 0) (sym ek x) (get_or l (sym ei x) z)) ∙ copied_more z l l k i 0 (omega arith) (omega arith))

  set-done : (e : ℕ) → i < e → take (k + 1) (set l k (get_or l i z)) ≡ take k l ++ take 1 (slice i e l)
  set-done e h = rw set-copied (take-copied l l k i 1 (omega arith) (omega arith) ∙ ap (λ (x : List A). take k l ++ x) (sym (take_range l i e 1 (omega arith))))

  set_rest : (e : ℕ) → slice (i + 1) e (set l k (get_or l i z)) ≡ drop 1 (slice i e l)
  set_rest e = rw set-copied (range_same (copied l k l i 1) l (i + 1) e (drop-copied l l k i 1 (i + 1) (omega arith) (omega arith) (omega arith)) ∙ sym (drop-drop 1 i (take e l)))

  set_beyond : (m : ℕ) → k < m → drop m (set l k (get_or l i z)) ≡ drop m l
  set_beyond m h = rw set-copied (drop-copied l l k i 1 m (omega arith) (omega arith) (omega arith))

-- ---- a buffer under way, at i of n glyphs, of which o are kept
abbrev pub amid : (level wants n : ℕ) → Buffer → Limits → (i o : ℕ) → Buffer
amid level wants n b l i o = record { idx = record { 0 = i }; len = record { 0 = n }; out_len = record { 0 = o }; limits = l; wants = wants; phase = Output; swapped = b.swapped; have_separate_output = false; level = level }

abbrev pub phase_of : Bool → Phase
phase_of t = cond t Positions Plain

-- the account of the call: its phase is that of the run, and the glyphs deleted are gone
unfoldable pub underway : Bool → Buffer → (run other : List ℕ) → Account ℕ
underway positions b run other = record {
  done = take b.out_len.0 (pairing positions (glyphs run) (positions_in other));
  passed = [];
  rest = slice b.idx.0 b.len.0 (pairing positions (glyphs run) (positions_in other));
  state = record { phase = phase_of positions; gone = b.idx.0 - b.out_len.0; limits = b.limits; level = read_level b.level; wants = b.wants };
}

underway-beside : (t : Bool) (b : Buffer) (run other : List ℕ)
    → underway t b run other ≡ beside t (phase_of t) (b.idx.0 - b.out_len.0) (take b.out_len.0 (positions_in other)) (slice b.idx.0 b.len.0 (positions_in other)) (output b b.idx.0 (take b.out_len.0 (glyphs run)) (slice b.idx.0 b.len.0 (glyphs run)))
unfolding underway beside in_phase with_gone
underway-beside t b run other =
    same-account (pairing-take t (glyphs run) (positions_in other) b.out_len.0) refl (pairing-slice t (glyphs run) (positions_in other) b.idx.0 b.len.0) refl

-- what becomes of the glyph at the cursor
unfoldable pub sifted : ℕ → ℕ → ℕ → Account ℕ → Account ℕ
sifted slot mask v a = cond (is v (key slot mask (current a))) (deleted a) (kept a)

-- h on the account of the call, nothing beyond the allocated size
pub record Onward (h : Account ℕ → Account ℕ) (t : Bool) (b : Buffer) (run other : List ℕ) (r : Buffer) (run' other' : List ℕ) : Type 0 where
  pub is : underway t r run' other' ≡ h (underway t b run other)
  pub size : r.limits.allocated ≡ b.limits.allocated
  pub run-beyond : words_from b.limits.allocated run' ≡ words_from b.limits.allocated run
  pub other-beyond : words_from b.limits.allocated other' ≡ words_from b.limits.allocated other
  pub held : Held r run other

-- h and h' that do the same
onward-as : {h h' : Account ℕ → Account ℕ} {t : Bool} {b r : Buffer} {run other run' other' : List ℕ} → Onward h t b run other r run' other' → h (underway t b run other) ≡ h' (underway t b run other) → Onward h' t b run other r run' other'
onward-as u e = record { is = u.is ∙ e; size = u.size; run-beyond = u.run-beyond; other-beyond = u.other-beyond; held = u.held }

-- ---- the glyph at the cursor is deleted
module _ (t : Bool) {level wants n i o : ℕ} {l l' : Limits} (b : Buffer) {run other run' other' : List ℕ} (low : o ≤ i) (u : Acts (λ a. deleted a) (amid level wants n b l i o) run other (amid level wants n b l' (i + 1) o) run' other') (k : other' ≡ other) where
  delete-is : underway t (amid level wants n b l' (i + 1) o) run' other' ≡ deleted (underway t (amid level wants n b l i o) run other)
  delete-is =
      let x : Buffer = amid level wants n b l i o in
      let r : Buffer = amid level wants n b l' (i + 1) o in
      let ps : List Position = positions_in other in
      let gone : i + 1 - o ≡ i - o + 1 = omega (arith, low) in
      let done : take o (positions_in other') ≡ take o ps = ap (λ (q : List ℕ). take o (positions_in q)) k in
      let rest : slice (i + 1) n (positions_in other') ≡ drop 1 (slice i n ps) = ap (λ (q : List ℕ). slice (i + 1) n (positions_in q)) k ∙ sym (drop-drop 1 i (take n ps)) in
      let here : output r (i + 1) (take o (glyphs run')) (slice (i + 1) n (glyphs run')) ≡ deleted (output x i (take o (glyphs run)) (slice i n (glyphs run))) =
      sym (output-account r run' other' refl) ∙ (u.is ∙ ap (λ (a : Account ℕ). deleted a) (output-account x run other refl)) in
      underway-beside t r run' other'
      ∙ ((λ z. beside t (phase_of t) (gone z) (done z) (rest z) (here z))
      ∙ (sym (deleted-beside t (phase_of t) (take o ps) (slice i n ps) (i - o) (take o (glyphs run)) (slice i n (glyphs run)) _) ∙ ap (λ (a : Account ℕ). deleted a) (sym (underway-beside t x run other))))

  delete-onward : Onward (λ a. deleted a) t (amid level wants n b l i o) run other (amid level wants n b l' (i + 1) o) run' other'
  delete-onward = record { is = delete-is; size = u.size; run-beyond = u.run-beyond; other-beyond = u.other-beyond; held = u.held }

-- ---- the glyph at the cursor is kept
module _ (t : Bool) (ps : List Position) (i k : ℕ) where
  pub position-moved : {qs : List Position} {p : Position} → t ≡ true → p ≡ get_or ps i zero_position → qs ≡ set ps k p → qs ≡ cond t (set ps k (get_or ps i zero_position)) ps
  position-moved h ep e = rw h (e ∙ ap (set ps k) ep)

  pub position-none : t ≡ false → ps ≡ cond t (set ps k (get_or ps i zero_position)) ps
  position-none h = rw h

  -- to the place where it is
  position-same : i ≡ k → ps ≡ cond t (set ps k (get_or ps i zero_position)) ps
  position-same e = rw e (pick t)
    where
      pick : (x : Bool) → ps ≡ cond x (set ps k (get_or ps k zero_position)) ps
      pick true = sym (set-get_or ps k zero_position)
      pick false = refl

module _ {t : Bool} {i k : ℕ} {run other : List ℕ} where
  pub glyph-same : i ≡ k → MovesGlyph t i k run other run other
  glyph-same e = record { run_is = rw e (sym (set-get_or (glyphs run) k zero_glyph)); other-is = position-same t (positions_in other) i k e }

  pub glyph-moved : {run' other' : List ℕ} (g : Glyph ℕ) → g ≡ get_or (glyphs run) i zero_glyph → glyphs run' ≡ set (glyphs run) k g → positions_in other' ≡ cond t (set (positions_in other) k (get_or (positions_in other) i zero_position)) (positions_in other) → MovesGlyph t i k run other run' other'
  glyph-moved g eg e eo = record { run_is = e ∙ ap (set (glyphs run) k) eg; other-is = eo }

-- room for it
module _ {n i o : ℕ} {run other : List ℕ} (w : RunRoom n run other) (low : o ≤ i) (some : i < n) where
  pub keep-room : MoveRoom i o run other
  keep-room =
      let same : length (glyphs run) ≡ length (glyphs other) = glyphs-same run other w.same in
      let many : length (positions_in other) ≡ length (glyphs other) = positions-glyphs other in
      record { from = omega (arith, w.fits); to = omega (arith, w.fits); from_place = omega (arith, w.fits); to-place = omega (arith, w.fits) }

-- a glyph at the cursor
pub record Next (level wants n : ℕ) (l : Limits) (i o : ℕ) (b : Buffer) (run other : List ℕ) : Type 0 where
  pub room : RunRoom n run other
  pub low : o ≤ i
  pub some : i < n
  pub held : Held (amid level wants n b l i o) run other

module _ (t : Bool) {level wants n i o : ℕ} {l : Limits} {b : Buffer} {run other run' other' : List ℕ} (v : Next level wants n l i o b run other) (u : MovesGlyph t i o run other run' other') (lr : length run' ≡ length run) (lo : length other' ≡ length other) where
  inside : MoveRoom i o run other
  inside = keep-room v.room v.low v.some

  keep-is : underway t (amid level wants n b l (i + 1) (o + 1)) run' other' ≡ kept (underway t (amid level wants n b l i o) run other)
  unfolding underway kept
  keep-is =
      let m : List (Glyph ℕ) = pairing t (glyphs run) (positions_in other) in
      let here : pairing t (glyphs run') (positions_in other') ≡ set m o (get_or m i zero_glyph) =
      (λ x. pairing t (u.run_is x) (u.other-is x)) ∙ pairing-set t (glyphs run) (positions_in other) i o inside.from inside.from_place inside.to inside.to-place in
      let within : i < length m = rw (length-pairing t (glyphs run) (positions_in other)) inside.from in
      let gone : i + 1 - (o + 1) ≡ i - o = omega arith in
      let done : take (o + 1) (pairing t (glyphs run') (positions_in other')) ≡ take o m ++ take 1 (slice i n m) = ap (take (o + 1)) here ∙ set-done zero_glyph m i o within v.low n v.some in
      let rest : slice (i + 1) n (pairing t (glyphs run') (positions_in other')) ≡ drop 1 (slice i n m) = ap (slice (i + 1) n) here ∙ set_rest zero_glyph m i o within v.low n in
      same-account done refl rest (λ x. record { phase = phase_of t; gone = gone x; limits = l; level = read_level level; wants = wants })

  kept-run : drop l.allocated (glyphs run') ≡ drop l.allocated (glyphs run)
  kept-run = ap (drop l.allocated) u.run_is ∙ set_beyond zero_glyph (glyphs run) i o inside.from v.low l.allocated (omega (arith, v.low, v.some, v.held.len-in))

  kept-other : drop l.allocated (positions_in other') ≡ drop l.allocated (positions_in other)
  kept-other = ap (drop l.allocated) u.other-is ∙ pick t
    where
      pick : (x : Bool) → drop l.allocated (cond x (set (positions_in other) o (get_or (positions_in other) i zero_position)) (positions_in other)) ≡ drop l.allocated (positions_in other)
      pick true = set_beyond zero_position (positions_in other) i o inside.from_place v.low l.allocated (omega (arith, v.low, v.some, v.held.len-in))
      pick false = refl

  keep-held : Held (amid level wants n b l (i + 1) (o + 1)) run other
  keep-held = record {
    idx-in = omega (arith, v.some);
    len-in = v.held.len-in;
    out-in = omega (arith, v.low, v.some, v.held.len-in);
    all_in = v.held.all_in;
    most = v.held.most;
    same = v.held.same;
    whole = v.held.whole;
    behind = λ p s. omega (arith, v.low);
    none = λ p. absurd (false≢true (sym p));
  }

  keep-onward : Onward (λ a. kept a) t (amid level wants n b l i o) run other (amid level wants n b l (i + 1) (o + 1)) run' other'
  keep-onward = record {
    is = keep-is;
    size = refl;
    run-beyond = beyond-glyphs l.allocated run' run kept-run;
    other-beyond = beyond-positions l.allocated other' other kept-other;
    held = keep-held;
  }

-- ---- one or the other
module _ (t : Bool) (slot mask value : ℕ) {level wants n i o : ℕ} {l : Limits} {b : Buffer} {run other : List ℕ} (v : Next level wants n l i o b run other) where
  key_here : key slot mask (current (underway t (amid level wants n b l i o) run other)) ≡ key slot mask (get_or (glyphs run) i zero_glyph).info
  unfolding current underway infos
  key_here =
      let m : List (Glyph ℕ) = glyphs run in
      let one : slice i n m ≡ get_or m i zero_glyph ∷ slice (suc i) n m = slice-cons i n m zero_glyph v.some (omega (arith, v.some, v.room.fits)) in
      ap (λ (x : List (Glyph ℕ)). key slot mask (get_or (infos x) 0 (blank 0))) (pairing-slice t m (positions_in other) i n)
      ∙ (pairing-first t (slice i n m) (slice i n (positions_in other)) (key slot mask) (key-alone slot mask)
      ∙ ap (λ (x : List (Glyph ℕ)). key slot mask (get_or (infos x) 0 (blank 0))) one)

  module _ {k : ℕ} (ek : k ≡ key slot mask (get_or (glyphs run) i zero_glyph).info) where
    pub one-deleted : {merged : Bool} {run' other' : List ℕ} → k ≡ value → Deletes false level wants i n o merged run other run' other' → Onward (sifted slot mask value) t (amid level wants n b l i o) run other (amid level wants n b (merge_limits merged 2 l) (i + 1) o) run' other'
    unfolding sifted
    one-deleted {merged} h d =
        onward-as (delete-onward t b v.low (rw (placed-is (merge_limits merged 2 l) (amid level wants n b l i o) (i + 1) n o) at (d.acts (amid level wants n b l i o) (record { held = v.held; output = refl; some = v.some }))) (d.own refl))
        (rw (eq-eqb (key slot mask (current (underway t (amid level wants n b l i o) run other))) value (key_here ∙ (sym ek ∙ h))))

    pub one_kept : {run' other' : List ℕ} → (k ≡ value → ⊥) → MovesGlyph t i o run other run' other' → length run' ≡ length run → length other' ≡ length other → Onward (sifted slot mask value) t (amid level wants n b l i o) run other (amid level wants n b l (i + 1) (o + 1)) run' other'
    unfolding sifted
    one_kept h u lr lo = onward-as (keep-onward t v u lr lo) (rw (ne_eqb (key slot mask (current (underway t (amid level wants n b l i o) run other))) value (λ q. h (ek ∙ (sym key_here ∙ q)))))

-- for the proofs of functions
pub ruleset moving_down = (position-moved, position-none, glyph-same, glyph-moved)

-- Positions, all zero, for the glyphs of a run: what that is on the account.
use mathlib.Core.{Path.◌≡◌, Path.refl, Path.sym, Path.ap, Path.◌∙◌, Bool.false, Bool.cond, Bool.false≢true, List.List, List.[], List.◌++◌, List.map}
use Prim.Native.Nat.{ℕ, ◌+◌, ◌-◌, ◌≤◌}
use native.Mathlib.Omega.{arith}
use lib.ListN.{length, take, drop, replicate, length-replicate}
use lib.Seq.{slice, drop-drop, take-take, drop-append-add}
use Rattle.records.specs.{Phase, Plain, Output, Positions, Spoiled, Position, Glyphs.Glyph, Glyphs.change, Glyphs.with_position, Glyphs.zero_position, View.glyphs, View.positions_in, View.paired}
use Rattle.records.proofs.View.{beyond-positions, paired-zero, paired-plain}
use Rattle.records.proofs.Renaming.{take-map, drop-map}
use Rattle.lists.specs.declared.Buffer.{Buffer}
use Rattle.lists.specs.Account.{output_phase, spoiled_phase, in_phase, read_level}
use Rattle.lists.proofs.Sides.{Moves}
use Rattle.lists.specs.Cursor.{positioned, without_positions}
use Rattle.lists.specs.{Contract.shown, Contract.gone_of, Contract.state_of, Contract.account_of, inner.Held.Held}
use Rattle.lists.specs.inner.States.{positioned_buffer}
use Rattle.lists.proofs.Outputs.{gone_in, gone-plain}

-- a buffer without output, and not spoiled
pub record Placeable (b : Buffer) (run other : List ℕ) : Type 0 where
  pub held : Held b run other
  pub plain : output_phase b.phase ≡ false
  pub clean : spoiled_phase b.phase ≡ false

-- ---- positions, all zero, for the glyphs of the run
plain : List (Glyph ℕ) → List (Glyph ℕ)
plain l = map (change (with_position zero_position)) l

slice-plain : (f t : ℕ) (l : List (Glyph ℕ)) → slice f t (plain l) ≡ without_positions (slice f t l)
unfolding plain without_positions
slice-plain f t l =
    ap (drop f) (take-map (change (with_position zero_position)) t l) ∙ drop-map (change (with_position zero_position)) f (take t l)

-- a range of the first n, of which each gets the position zero
slice-zero : (f t n : ℕ) (l : List (Glyph ℕ)) (ps : List Position) → t ≤ n → slice f t (paired l (replicate n zero_position ++ ps)) ≡ slice f t (plain l)
unfolding plain
slice-zero f t n l ps h =
    ap (drop f) (sym (take-take t n (paired l (replicate n zero_position ++ ps)) h) ∙ ap (take t) (paired-zero n l ps) ∙ take-take t n (plain l) h)

shown-plain : (p : Phase) (run other : List ℕ) → output_phase p ≡ false → spoiled_phase p ≡ false → plain (shown p run other) ≡ plain (glyphs run)
unfolding shown plain
shown-plain Plain run other h k = refl
shown-plain Output run other h k = absurd (false≢true (sym h))
shown-plain Positions run other h k = paired-plain (glyphs run) (positions_in other)
shown-plain Spoiled run other h k = absurd (false≢true (sym k))

drop-zero : (n m : ℕ) (ps : List Position) → n ≤ m → drop m (replicate n zero_position ++ drop n ps) ≡ drop m ps
drop-zero n m ps h =
    let r : List Position = replicate n zero_position in
    let l : length r ≡ n = length-replicate n zero_position in
    let e : m ≡ length r + (m - n) = omega arith in
    let e' : n + (m - n) ≡ m = omega arith in
    ap (λ (k : ℕ). drop k (r ++ drop n ps)) e ∙ drop-append-add r (drop n ps) (m - n) ∙ drop-drop (m - n) n ps ∙ ap (λ (k : ℕ). drop k ps) e'

module _ (b : Buffer) (run other : List ℕ) (v : Placeable b run other) where
  place-held : Held (positioned_buffer b) run other
  unfolding positioned_buffer
  place-held = record {
    idx-in = v.held.idx-in;
    len-in = v.held.len-in;
    out-in = omega arith;
    all_in = v.held.all_in;
    most = v.held.most;
    same = v.held.same;
    whole = v.held.whole;
    behind = λ p s. absurd (false≢true p);
    none = λ p. refl;
  }

  module _ (other' : List ℕ) (eo : positions_in other' ≡ replicate b.len.0 zero_position ++ drop b.len.0 (positions_in other)) where
    place-range : (f t : ℕ) → t ≤ b.len.0 → slice f t (shown Positions run other') ≡ without_positions (slice f t (shown b.phase run other))
    unfolding shown
    place-range f t h =
        ap (λ (ps : List Position). slice f t (paired (glyphs run) ps)) eo
        ∙ slice-zero f t b.len.0 (glyphs run) (drop b.len.0 (positions_in other)) h
        ∙ ap (slice f t) (sym (shown-plain b.phase run other v.plain v.clean))
        ∙ slice-plain f t (shown b.phase run other)

    place_is : account_of (positioned_buffer b) run other' ≡ positioned (account_of b run other)
    unfolding account_of positioned_buffer positioned in_phase state_of gone_of
    place_is =
        let i : ℕ = b.idx.0 in
        let l : ℕ = b.len.0 in
        let out : List (Glyph ℕ) = cond b.have_separate_output (glyphs other) (glyphs run) in
        let none : b.out_len.0 ≡ 0 = v.held.none v.plain in
        let g : gone_in b.phase i l ≡ 0 = gone-plain b.phase i l v.plain v.clean in
        let done : [] ≡ take b.out_len.0 out = sym (ap (λ (k : ℕ). take k out) none) in
        let passed : slice 0 i (shown Positions run other') ≡ without_positions (slice (gone_in b.phase i l) i (shown b.phase run other)) =
        place-range 0 i v.held.idx-in ∙ ap (λ (k : ℕ). without_positions (slice k i (shown b.phase run other))) (sym g) in
        let rest : slice i l (shown Positions run other') ≡ without_positions (slice i l (shown b.phase run other)) = place-range i l (omega arith) in
        let gone : 0 ≡ gone_in b.phase i l = sym g in
        λ k. record {
          done = done k;
          passed = passed k;
          rest = rest k;
          state = record { phase = Positions; gone = gone k; limits = b.limits; level = read_level b.level; wants = b.wants };
        }

    pub place-moves : {r : Buffer} → length other' ≡ length other → r ≡ positioned_buffer b → Moves positioned b run other r run other'
    unfolding positioned_buffer
    place-moves {r} lo e =
        let m : ℕ = b.limits.allocated in
        let behind-other : drop m (positions_in other') ≡ drop m (positions_in other) =
        ap (drop m) eo ∙ drop-zero b.len.0 m (positions_in other) v.held.len-in in
        record {
          is = rw e place_is;
          limits = ap (λ (x : Buffer). x.limits) e;
          side = ap (λ (x : Buffer). x.swapped) e;
          run-beyond = refl;
          other-beyond = beyond-positions m other' other behind-other;
          held = rw e place-held;
        }

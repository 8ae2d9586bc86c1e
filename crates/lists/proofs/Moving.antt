-- Moves of glyphs between the input and the output: what they are on the account.
use mathlib.Core.{Path.◌≡◌, Path.refl, Path.sym, Path.ap, Path.◌∙◌, Bool.Bool, Bool.true, Bool.cond, Bool.false≢true, List.List, List.◌++◌}
use Prim.Native.Nat.{ℕ, ◌+◌, ◌-◌, ◌≤◌}
use native.Mathlib.Omega.{arith}
use lib.ListN.{length, take, drop}
use lib.Seq.{slice, take-take, drop_at, length-take-le}
use Rattle.records.specs.{Glyphs.Glyph, View.glyphs, View.words_from}
use Rattle.records.proofs.View.{glyphs-same, beyond-glyphs}
use Rattle.lists.specs.declared.Buffer.{Buffer}
use Rattle.lists.specs.Account.{output_phase, with_gone}
use Rattle.lists.proofs.Sides.{Moves}
use Rattle.lists.specs.inner.Copied.{copied}
use Rattle.lists.specs.Cursor.{moved, growing, back}
use Rattle.lists.specs.{Contract.account_of, inner.Held.Held}
use Rattle.lists.specs.inner.States.{at_places}
use Rattle.lists.proofs.SoundLaws.{out-fits}
use Rattle.lists.proofs.Outputs.{output-cong, output-places, output-account}
use Rattle.lists.proofs.Copying.{take-copied, drop-copied, drop-take, take_range}
use Rattle.lists.proofs.Carrying.{take-before, slice-copied, gone-done, gone-rest, gone-run, gone-other, kept-done}

-- n glyphs can go from the input to the output
pub record Forwardable (b : Buffer) (n : ℕ) (run other : List ℕ) : Type 0 where
  pub held : Held b run other
  pub output : output_phase b.phase ≡ true
  pub in_len : b.idx.0 + n ≤ b.len.0
  pub in_size : b.out_len.0 + n ≤ b.limits.allocated

-- the input can go up by n
pub record Shiftable (b : Buffer) (n : ℕ) (run other : List ℕ) : Type 0 where
  pub held : Held b run other
  pub output : output_phase b.phase ≡ true
  pub in_size : b.len.0 + n ≤ b.limits.allocated

-- n glyphs can go from the output back before the cursor
pub record Returnable (b : Buffer) (n : ℕ) (run other : List ℕ) : Type 0 where
  pub held : Held b run other
  pub output : output_phase b.phase ≡ true
  pub in-idx : n ≤ b.idx.0
  pub in-out : n ≤ b.out_len.0

-- ---- n glyphs of the input become output
module _ (b : Buffer) (n : ℕ) (run other : List ℕ) (v : Forwardable b n run other) where
  pub forward-room : (b.idx.0 + n ≤ length (glyphs run)) × (b.out_len.0 + n ≤ length (glyphs run)) × (b.out_len.0 + n ≤ length (glyphs other))
  forward-room =
      let same : length (glyphs run) ≡ length (glyphs other) = glyphs-same run other v.held.same in
      (omega arith, omega arith, omega arith)

  forward-held : Held (at_places (b.idx.0 + n) b.len.0 (b.out_len.0 + n) b) run other
  unfolding at_places
  forward-held = record {
    idx-in = v.in_len;
    len-in = v.held.len-in;
    out-in = v.in_size;
    all_in = v.held.all_in;
    most = v.held.most;
    same = v.held.same;
    whole = v.held.whole;
    behind = λ p s. let h : b.out_len.0 ≤ b.idx.0 = v.held.behind p s in omega arith;
    none = λ p. absurd (false≢true (sym p ∙ v.output));
  }

  module _ (run' other' : List ℕ)
      (er : glyphs run' ≡ cond b.have_separate_output (glyphs run) (copied (glyphs run) b.out_len.0 (glyphs run) b.idx.0 n))
      (eo : glyphs other' ≡ cond b.have_separate_output (copied (glyphs other) b.out_len.0 (glyphs run) b.idx.0 n) (glyphs other)) where
    forward-is : account_of (at_places (b.idx.0 + n) b.len.0 (b.out_len.0 + n) b) run' other' ≡ moved n (account_of b run other)
    unfolding moved with_gone
    forward-is =
        let i : ℕ = b.idx.0 in
        let o : ℕ = b.out_len.0 in
        let l : ℕ = b.len.0 in
        let s : Bool = b.have_separate_output in
        let g : List (Glyph ℕ) = glyphs run in
        let t : List (Glyph ℕ) = glyphs other in
        let done : take (o + n) (cond s (glyphs other') (glyphs run')) ≡ take o (cond s t g) ++ take n (slice i l g) =
        gone-done g t i o n forward-room.0 forward-room.1 forward-room.2 s (glyphs run') (glyphs other') er eo
        ∙ ap (λ (x : List (Glyph ℕ)). take o (cond s t g) ++ x) (sym (take_range g i l n v.in_len)) in
        let rest : slice (i + n) l (glyphs run') ≡ drop n (slice i l g) =
        gone-rest g t i o n forward-room.0 forward-room.1 forward-room.2 s (glyphs run') l er (v.held.behind v.output) in
        output-places b (i + n) l (o + n) run' other' v.output
        ∙ output-cong b refl done rest
        ∙ ap (moved n) (sym (output-account b run other v.output))

    pub forward-moves : {r : Buffer} → length run' ≡ length run → length other' ≡ length other → r ≡ at_places (b.idx.0 + n) b.len.0 (b.out_len.0 + n) b
        → Moves (moved n) b run other r run' other'
    unfolding at_places
    forward-moves {r} lr lo e =
        let i : ℕ = b.idx.0 in
        let o : ℕ = b.out_len.0 in
        let m : ℕ = b.limits.allocated in
        let s : Bool = b.have_separate_output in
        let behind-run : drop m (glyphs run') ≡ drop m (glyphs run) =
        gone-run (glyphs run) (glyphs other) i o n forward-room.0 forward-room.1 forward-room.2 s (glyphs run') m v.in_size er in
        let behind-other : drop m (glyphs other') ≡ drop m (glyphs other) =
        gone-other (glyphs run) (glyphs other) i o n forward-room.0 forward-room.1 forward-room.2 s (glyphs other') m v.in_size eo in
        record {
          is = rw e forward-is;
          limits = ap (λ (x : Buffer). x.limits) e;
          side = ap (λ (x : Buffer). x.swapped) e;
          run-beyond = beyond-glyphs m run' run behind-run;
          other-beyond = beyond-glyphs m other' other behind-other;
          held = rw e forward-held;
        }

-- ---- the rest of the input goes up by n
module _ (b : Buffer) (n : ℕ) (run other : List ℕ) (v : Shiftable b n run other) where
  pub shift-room : (b.idx.0 + (b.len.0 - b.idx.0) ≤ length (glyphs run)) × (b.idx.0 + n + (b.len.0 - b.idx.0) ≤ length (glyphs run))
  shift-room = (omega arith, omega arith)

  shift-held : Held (at_places (b.idx.0 + n) (b.len.0 + n) b.out_len.0 b) run other
  unfolding at_places
  shift-held = record {
    idx-in = omega arith;
    len-in = v.in_size;
    out-in = v.held.out-in;
    all_in = v.held.all_in;
    most = v.held.most;
    same = v.held.same;
    whole = v.held.whole;
    behind = λ p s. let h : b.out_len.0 ≤ b.idx.0 = v.held.behind p s in omega arith;
    none = v.held.none;
  }

  module _ (run' : List ℕ) (er : glyphs run' ≡ copied (glyphs run) (b.idx.0 + n) (glyphs run) b.idx.0 (b.len.0 - b.idx.0)) where
    shift_is : account_of (at_places (b.idx.0 + n) (b.len.0 + n) b.out_len.0 b) run' other ≡ growing n (account_of b run other)
    unfolding growing with_gone
    shift_is =
        let i : ℕ = b.idx.0 in
        let o : ℕ = b.out_len.0 in
        let l : ℕ = b.len.0 in
        let s : Bool = b.have_separate_output in
        let g : List (Glyph ℕ) = glyphs run in
        let done : take o (cond s (glyphs other) (glyphs run')) ≡ take o (cond s (glyphs other) g) =
        kept-done g (glyphs run') (glyphs other) s o (λ q. let h : o ≤ i = v.held.behind v.output q in ap (take o) er ∙ take-before g g (i + n) i (l - i) o (omega arith) (omega arith)) in
        let e : l + n ≡ i + n + (l - i) = omega arith in
        let rest : slice (i + n) (l + n) (glyphs run') ≡ slice i l g =
        ap (λ (k : ℕ). slice (i + n) k (glyphs run')) e
        ∙ ap (slice (i + n) (i + n + (l - i))) er
        ∙ ap (drop (i + n)) (take-copied g g (i + n) i (l - i) (omega arith) shift-room.0)
        ∙ drop_at (take (i + n) g) (take (l - i) (drop i g)) (i + n) (length-take-le (i + n) g (omega arith))
        ∙ sym (drop-take i l g) in
        output-places b (i + n) (l + n) o run' other v.output
        ∙ output-cong b refl done rest
        ∙ ap (growing n) (sym (output-account b run other v.output))

    pub shift-moves : {r : Buffer} → length run' ≡ length run → r ≡ at_places (b.idx.0 + n) (b.len.0 + n) b.out_len.0 b → Moves (growing n) b run other r run' other
    unfolding at_places
    shift-moves {r} lr e =
        let i : ℕ = b.idx.0 in
        let m : ℕ = b.limits.allocated in
        let behind-run : drop m (glyphs run') ≡ drop m (glyphs run) =
        ap (drop m) er ∙ drop-copied (glyphs run) (glyphs run) (i + n) i (b.len.0 - i) m (omega arith) (omega arith) shift-room.0 in
        record {
          is = rw e shift_is;
          limits = ap (λ (x : Buffer). x.limits) e;
          side = ap (λ (x : Buffer). x.swapped) e;
          run-beyond = beyond-glyphs m run' run behind-run;
          other-beyond = refl;
          held = rw e shift-held;
        }

-- ---- the last n glyphs of the output become input again
module _ (b : Buffer) (n : ℕ) (run other : List ℕ) (v : Returnable b n run other) where
  return_held : Held (at_places (b.idx.0 - n) b.len.0 (b.out_len.0 - n) b) run other
  unfolding at_places
  return_held = record {
    idx-in = omega arith;
    len-in = v.held.len-in;
    out-in = omega arith;
    all_in = v.held.all_in;
    most = v.held.most;
    same = v.held.same;
    whole = v.held.whole;
    behind = λ p s. let h : b.out_len.0 ≤ b.idx.0 = v.held.behind p s in omega arith;
    none = λ p. absurd (false≢true (sym p ∙ v.output));
  }

  module _ (run' : List ℕ) (er : glyphs run' ≡ copied (glyphs run) (b.idx.0 - n) (cond b.have_separate_output (glyphs other) (glyphs run)) (b.out_len.0 - n) n) where
    return-is : account_of (at_places (b.idx.0 - n) b.len.0 (b.out_len.0 - n) b) run' other ≡ back n (account_of b run other)
    unfolding back with_gone
    return-is =
        let i : ℕ = b.idx.0 in
        let o : ℕ = b.out_len.0 in
        let l : ℕ = b.len.0 in
        let s : Bool = b.have_separate_output in
        let g : List (Glyph ℕ) = glyphs run in
        let t : List (Glyph ℕ) = cond s (glyphs other) g in
        let fits : o ≤ length t = out-fits v.held s in
        let k : length (take o t) - n ≡ o - n = ap (λ (j : ℕ). j - n) (length-take-le o t fits) in
        let done : take (o - n) (cond s (glyphs other) (glyphs run')) ≡ take (length (take o t) - n) (take o t) =
        kept-done g (glyphs run') (glyphs other) s (o - n) (λ q. let h : o ≤ i = v.held.behind v.output q in ap (take (o - n)) er ∙ take-before g t (i - n) (o - n) n (o - n) (omega arith) (omega arith))
        ∙ sym (ap (λ (j : ℕ). take j (take o t)) k ∙ take-take (o - n) o t (omega arith)) in
        let en : o - (o - n) ≡ n = omega arith in
        let ei : i - n + n ≡ i = omega arith in
        let last : take n (drop (o - n) t) ≡ drop (length (take o t) - n) (take o t) =
        sym (ap (λ (j : ℕ). drop j (take o t)) k ∙ drop-take (o - n) o t ∙ ap (λ (j : ℕ). take j (drop (o - n) t)) en) in
        let rest : slice (i - n) l (glyphs run') ≡ drop (length (take o t) - n) (take o t) ++ slice i l g =
        ap (slice (i - n) l) er
        ∙ slice-copied g t (i - n) (o - n) n l (omega arith) (omega arith) (omega arith)
        ∙ ap (λ (j : ℕ). take n (drop (o - n) t) ++ slice j l g) ei
        ∙ ap (λ (x : List (Glyph ℕ)). x ++ slice i l g) last in
        output-places b (i - n) l (o - n) run' other v.output
        ∙ output-cong b refl done rest
        ∙ ap (back n) (sym (output-account b run other v.output))

    pub return-moves : {r : Buffer} {other' : List ℕ} → other' ≡ other → length run' ≡ length run → r ≡ at_places (b.idx.0 - n) b.len.0 (b.out_len.0 - n) b
        → Moves (back n) b run other r run' other'
    unfolding at_places
    return-moves {r} {other'} eo lr e =
        let i : ℕ = b.idx.0 in
        let o : ℕ = b.out_len.0 in
        let m : ℕ = b.limits.allocated in
        let out : List (Glyph ℕ) = cond b.have_separate_output (glyphs other) (glyphs run) in
        let fits : o ≤ length out = out-fits v.held b.have_separate_output in
        let behind-run : drop m (glyphs run') ≡ drop m (glyphs run) =
        ap (drop m) er ∙ drop-copied (glyphs run) out (i - n) (o - n) n m (omega arith) (omega arith) (omega arith) in
        record {
          is = rw (e, eo) return-is;
          limits = ap (λ (x : Buffer). x.limits) e;
          side = ap (λ (x : Buffer). x.swapped) e;
          run-beyond = beyond-glyphs m run' run behind-run;
          other-beyond = ap (words_from m) eo;
          held = rw e return_held;
        }

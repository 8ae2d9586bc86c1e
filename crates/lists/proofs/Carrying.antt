-- Moves of glyphs between the slices: what they leave there, and the parts of a list that something was copied into.
use mathlib.Core.{Path.◌≡◌, Path.refl, Path.sym, Path.ap, Path.◌∙◌, Bool.Bool, Bool.true, Bool.false, Bool.cond, List.List, List.◌++◌, List.append_assoc}
use Prim.Native.Nat.{ℕ, ◌+◌, ◌-◌, ◌≤◌}
use native.Mathlib.Omega.{arith}
use lib.ListN.{length, take, drop}
use lib.Seq.{slice, drop-drop, take-take, take-add, take-append-le, drop_at, length-take-le}
use Rattle.records.specs.{Glyphs.zero_position, View.glyphs, View.positions_in}
use Rattle.lists.specs.inner.Copied.{copied}
use Rattle.lists.specs.inner.Filled.{filled}
use Rattle.lists.specs.inner.Moving.{Passable, Carried, Movable, Zeroed}
use Rattle.lists.proofs.Filling.{filled-front}
use Rattle.lists.proofs.Copying.{take-copied, drop-copied, copied-self, drop-take, range_same}

-- ---- carrying n glyphs, to the other slice or within the run
module _ {separate : Bool} {from to n : ℕ} {run other : List ℕ} where
  pub carried-apart : {other' : List ℕ} → separate ≡ true → glyphs other' ≡ copied (glyphs other) to (glyphs run) from n → Carried separate from to n run other run other'
  carried-apart h e = record { run_is = rw h; other-is = rw h e }

  pub carried_none : separate ≡ false → from ≡ to → Carried separate from to n run other run other
  carried_none h e = record { run_is = rw (h, e) (sym (copied-self (glyphs run) to n)); other-is = rw h }

  pub carried-within : {run' : List ℕ} → separate ≡ false → glyphs run' ≡ copied (glyphs run) to (glyphs run) from n → Carried separate from to n run other run' other
  carried-within h e = record { run_is = rw h e; other-is = rw h }

-- what the second slice asks for, where it holds the run
pub passable-turned : {separate : Bool} {from to n : ℕ} {f s : List ℕ} → Passable separate from to n f s → Passable separate from to n s f
passable-turned w = let v = w.fits in record { fits = record { same = sym v.same; leaving = omega (arith, v.same, v.leaving); arriving = omega (arith, v.same, v.arriving) }; behind = w.behind }

pub movable-turned : {separate : Bool} {i l o l' o' : ℕ} {f s : List ℕ} → Movable separate i l o l' o' f s → Movable separate i l o l' o' s f
movable-turned w = record {
  same = sym w.same;
  idx-in = w.idx-in;
  grows = w.grows;
  len-in = omega (arith, w.same, w.len-in);
  out-in = omega (arith, w.same, w.out-in);
  out-after-in = omega (arith, w.same, w.out-after-in);
  ahead = w.ahead;
  behind = w.behind;
  no-overtaking = w.no-overtaking;
}

-- and back
module _ {A : Type 0} (run other : List A) (separate : Bool) (from to n : ℕ) where
  pub returned-apart : {run' : List A} → separate ≡ true → run' ≡ copied run to other from n → run' ≡ copied run to (cond separate other run) from n
  returned-apart h e = rw h e

  pub returned-within : {run' : List A} → separate ≡ false → run' ≡ copied run to run from n → run' ≡ copied run to (cond separate other run) from n
  returned-within h e = rw h e

-- where they lie there already
pub copied_none : {A : Type 0} (l : List A) (from to n : ℕ) → to ≤ from → from ≤ to → l ≡ copied l to l from n
copied_none l from to n h k = let e : from ≡ to = omega arith in rw e (sym (copied-self l to n))

-- positions, all zero, in the slice that does not hold the run
pub zeroed : {n : ℕ} {run other other' : List ℕ} → positions_in other' ≡ filled zero_position 0 n (positions_in other) → Zeroed n run other run other'
zeroed {n} e = record { run_is = refl; other-is = e ∙ filled-front zero_position n _ }

module _ {A : Type 0} where
  -- ---- parts of a list that something was copied into
  -- before it
  pub take-before : (d s : List A) (to from n k : ℕ) → k ≤ to → to ≤ length d → take k (copied d to s from n) ≡ take k d
  take-before d s to from n k h hd =
      let l : length (take to d) ≡ to = length-take-le to d hd in
      rw append_assoc (take-append-le k (take to d) (take n (drop from s) ++ drop (to + n) d) (omega arith) ∙ take-take k to d h)

  -- from its start to an end that is not before its own
  pub slice-copied : (d s : List A) (to from n e : ℕ) → to + n ≤ e → to ≤ length d → from + n ≤ length s → slice to e (copied d to s from n) ≡ take n (drop from s) ++ slice (to + n) e d
  slice-copied d s to from n e h hd hs =
      let c : List A = copied d to s from n in
      let m : ℕ = e - (to + n) in
      let l : length (take to d) ≡ to = length-take-le to d hd in
      let ee : e ≡ to + n + m = omega arith in
      let parts : take (to + n + m) c ≡ take to d ++ (take n (drop from s) ++ take m (drop (to + n) d)) =
      take-add (to + n) m c
      ∙ ap (λ (x : List A). x ++ take m (drop (to + n) c)) (take-copied d s to from n hd hs)
      ∙ ap (λ (x : List A). take to d ++ take n (drop from s) ++ take m x) (drop-copied d s to from n (to + n) (omega arith) hd hs)
      ∙ append_assoc (take to d) (take n (drop from s)) (take m (drop (to + n) d)) in
      ap (λ (k : ℕ). drop to (take k c)) ee
      ∙ ap (drop to) parts
      ∙ drop_at (take to d) (take n (drop from s) ++ take m (drop (to + n) d)) to l
      ∙ ap (λ (x : List A). take n (drop from s) ++ x) (sym (drop-take (to + n) e d))

  -- ---- n elements from place i of the run went to place o of the output, which lies apart (s) or in the run, not behind i
  module _ (run other : List A) (i o n : ℕ) (in-run : i + n ≤ length run) (out-run : o + n ≤ length run) (out-other : o + n ≤ length other) where
    pub gone-done : (s : Bool) (run' other' : List A) → run' ≡ cond s run (copied run o run i n) → other' ≡ cond s (copied other o run i n) other
        → take (o + n) (cond s other' run') ≡ take o (cond s other run) ++ take n (drop i run)
    gone-done true run' other' er eo = ap (take (o + n)) eo ∙ take-copied other run o i n (omega arith) in-run
    gone-done false run' other' er eo = ap (take (o + n)) er ∙ take-copied run run o i n (omega arith) in-run

    pub gone-rest : (s : Bool) (run' : List A) (e : ℕ) → run' ≡ cond s run (copied run o run i n) → (s ≡ false → o ≤ i) → slice (i + n) e run' ≡ drop n (slice i e run)
    gone-rest true run' e er q = ap (slice (i + n) e) er ∙ sym (drop-drop n i (take e run))
    gone-rest false run' e er q =
        let h : o ≤ i = q refl in
        ap (slice (i + n) e) er
        ∙ range_same (copied run o run i n) run (i + n) e (drop-copied run run o i n (i + n) (omega arith) (omega arith) in-run)
        ∙ sym (drop-drop n i (take e run))

    pub gone-run : (s : Bool) (run' : List A) (m : ℕ) → o + n ≤ m → run' ≡ cond s run (copied run o run i n) → drop m run' ≡ drop m run
    gone-run true run' m h er = ap (drop m) er
    gone-run false run' m h er = ap (drop m) er ∙ drop-copied run run o i n m h (omega arith) in-run

    pub gone-other : (s : Bool) (other' : List A) (m : ℕ) → o + n ≤ m → other' ≡ cond s (copied other o run i n) other → drop m other' ≡ drop m other
    gone-other true other' m h eo = ap (drop m) eo ∙ drop-copied other run o i n m h (omega arith) in-run
    gone-other false other' m h eo = ap (drop m) eo

  -- a list that changed behind its first o only, or is not the one that holds them
  pub kept-done : (run run' other : List A) (s : Bool) (o : ℕ) → (s ≡ false → take o run' ≡ take o run) → take o (cond s other run') ≡ take o (cond s other run)
  kept-done run run' other true o h = refl
  kept-done run run' other false o h = h refl

-- for the proofs of functions
pub ruleset carrying = (carried-apart, carried-within, returned-apart, returned-within, zeroed)

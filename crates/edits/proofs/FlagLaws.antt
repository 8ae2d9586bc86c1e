-- The interior form of a flag: from what its loops say, and to the account.
use mathlib.Core.{Path.◌≡◌, Path.refl, Path.ap, Path.sym, Path.◌∙◌, Bool.Bool, Bool.true, Bool.false, Bool.cond, Bool.◌&&◌, Bool.◌||◌, List.List, List.[]}
use Rattle.std.proofs.Common.{ℕ, ◌+◌, ◌-◌, ◌<◌, ◌≤◌, min, ltb, length, get_or, take, drop, add-zero, arith, le-ltb, eq-eqb, ne_eqb}
use native.Mathlib.Nat.{sub-zero}
use lib.Seq.{slice, slice_empty, length-slice}
use Rattle.records.specs.{Glyphs.Glyph, Glyphs.flagged, Glyphs.flagged_unless, Ranges.edit, Ranges.is, Ranges.isnt, Ranges.least, Ranges.first_cluster, Ranges.last_cluster, Ranges.heads, Ranges.tails, Ranges.clusters}
use Rattle.records.proofs.View.{length-clusters}
use Rattle.records.proofs.Edited.{clusters-take, clusters-drop, edit-take-before, edit-drop-behind}
use Rattle.lists.specs.Account.{Account, State, input, with_input}
use Rattle.lists.proofs.{Runs.heads-le, Runs.tails-le, Editing.edit-empty, Editing.edit-length}
use Rattle.edits.specs.Flags.{interior, sought, seeks_all, flag_interior, flag_all}
use Rattle.edits.specs.inner.Holding.{holds, cut}
use Rattle.edits.proofs.Searching.{searching, searching-held}
use Rattle.edits.proofs.MergeForms.{InputRange, InputFrom}
use Rattle.edits.proofs.MergePlans.{first-slice, last-slice}
use Rattle.edits.proofs.Holding.{slice-take, slice-shift}
use Rattle.edits.proofs.Bridge.{input-is, holds-input, input-edit}

-- ---- the interior form, from what its code tests and does: f and e are the clusters at the ends of a range i..j of l
module _ (level m bits i j : ℕ) (l : List (Glyph ℕ)) {f e : ℕ} {t : Bool} (v : (i < j) × (j ≤ length l)) (ef : f ≡ get_or (clusters l) i 4294967295) (ee : e ≡ get_or (clusters l) (j - 1) 4294967295) (et : t ≡ (seeks_all level || (isnt m f && isnt m e))) where
  f-is : first_cluster (slice i j (clusters l)) ≡ f
  f-is = first-slice i j (clusters l) v.0 (rw (length-clusters l) v.1) ∙ sym ef

  e-is : last_cluster (slice i j (clusters l)) ≡ e
  e-is = last-slice i j (clusters l) v.0 (rw (length-clusters l) v.1) ∙ sym ee

  pub interior-all : {l' : List (Glyph ℕ)} → t ≡ true → l' ≡ edit i j (flagged_unless m bits) l → l' ≡ interior level m bits i j l
  unfolding interior
  interior-all yt el = rw (f-is, e-is, ← et, yt) el

  pub interior-first : {from : ℕ} {l' : List (Glyph ℕ)} → t ≡ false → f ≡ m → from ≡ j - tails (isnt m) (slice i j (clusters l)) → l' ≡ edit from j (flagged bits) l → l' ≡ interior level m bits i j l
  unfolding interior
  interior-first nt k ea el = rw (f-is, e-is, ← et, nt, eq-eqb f m k) (rw ea at el)

  pub interior-last : {to : ℕ} {l' : List (Glyph ℕ)} → t ≡ false → (f ≡ m → ⊥) → to ≡ i + heads (isnt m) (slice i j (clusters l)) → l' ≡ edit i to (flagged bits) l → l' ≡ interior level m bits i j l
  unfolding interior
  interior-last nt k eo el = rw (f-is, e-is, ← et, nt, ne_eqb f m k) (rw eo at el)

-- that part of the range
pub part-start : (x j : ℕ) {from : ℕ} → from ≡ j - x → from ≤ j
part-start x j e = omega arith

pub part_end : (p : ℕ → Bool) (l : List (Glyph ℕ)) (i j : ℕ) {to : ℕ} → to ≡ i + heads p (slice i j (clusters l)) → (i ≤ j) × (j ≤ length l) → to ≤ j
part_end p l i j e v =
    let n : length (slice i j (clusters l)) ≡ j - i = length-slice i j (clusters l) (rw (length-clusters l) v.1) in
    omega (arith, heads-le p (slice i j (clusters l)), v.0)

-- ---- what a flag form seeks, and whether it marks all that is not of it
module _ (level m f e : ℕ) {t : Bool} (et : t ≡ seeks_all level) where
  pub marks-seeks : t ≡ true → true ≡ (seeks_all level || (isnt m f && isnt m e))
  marks-seeks h = rw (sym et ∙ h)

  pub marks-first : t ≡ false → f ≡ m → false ≡ (seeks_all level || (isnt m f && isnt m e))
  marks-first h k = rw (sym et ∙ h, eq-eqb f m k)

  pub marks-last : t ≡ false → (f ≡ m → ⊥) → isnt m e ≡ (seeks_all level || (isnt m f && isnt m e))
  marks-last h k = rw (sym et ∙ h, ne_eqb f m k)

module _ (level s e : ℕ) (l : List (Glyph ℕ)) {t : Bool} (et : t ≡ seeks_all level) where
  pub sought-least : {m : ℕ} → t ≡ true → m ≡ least (slice s e (clusters l)) → m ≡ sought level (slice s e (clusters l))
  unfolding sought
  sought-least h em = rw (sym et ∙ h) em

  pub sought-ends : {m a c : ℕ} → t ≡ false → (s < e) × (e ≤ length l) → a ≡ get_or (clusters l) s 4294967295 → c ≡ get_or (clusters l) (e - 1) 4294967295 → m ≡ min a c → m ≡ sought level (slice s e (clusters l))
  unfolding sought
  sought-ends h v ea ec em =
      let b : e ≤ length (clusters l) = rw (length-clusters l) v.1 in
      rw (sym et ∙ h, first-slice s e (clusters l) v.0 b, last-slice s e (clusters l) v.0 b, ← ea, ← ec) em

pub interior-of : (level bits i j : ℕ) (l : List (Glyph ℕ)) {m n : ℕ} {l' : List (Glyph ℕ)} → m ≡ n → l' ≡ interior level m bits i j l → l' ≡ interior level n bits i j l
interior-of level bits i j l e el = el ∙ ap (λ (x : ℕ). interior level x bits i j l) e

-- ---- flags in the input, seen from the input
module _ (level m bits gone len i j : ℕ) (run : List (Glyph ℕ)) (oi : gone ≤ i) (oj : i ≤ j) (ol : j ≤ len) (of : len ≤ length run) where
  range-in : slice (i - gone) (j - gone) (clusters (slice gone len run)) ≡ slice i j (clusters run)
  range-in = rw (clusters-drop gone (take len run), clusters-take len run)
      (sym (slice-shift gone i j (cut len run) oi (omega arith)) ∙ slice-take i j len (clusters run) ol)

  pub interior-in : slice gone len (interior level m bits i j run) ≡ interior level m bits (i - gone) (j - gone) (slice gone len run)
  unfolding interior
  interior-in =
      let r : List ℕ = slice i j (clusters run) in
      let n : length r ≡ j - i = length-slice i j (clusters run) (rw (length-clusters run) (omega arith)) in
      let t : tails (isnt m) r ≤ j - i = omega (arith, tails-le (isnt m) r) in
      let h : heads (isnt m) r ≤ j - i = omega (arith, heads-le (isnt m) r) in
      rw range-in (pick (is 2 level || (isnt m (first_cluster r) && isnt m (last_cluster r))) (is m (first_cluster r)) (tails (isnt m) r) (heads (isnt m) r) t h)
    where
      back : (t : ℕ) → t ≤ j - i → j - t - gone ≡ j - gone - t
      back t o = omega arith

      on : (t : ℕ) → i + t - gone ≡ i - gone + t
      on t = omega arith

      pick : (b c : Bool) (t h : ℕ) → t ≤ j - i → h ≤ j - i
          → slice gone len (cond b (edit i j (flagged_unless m bits) run) (cond c (edit (j - t) j (flagged bits) run) (edit i (i + h) (flagged bits) run)))
          ≡ cond b (edit (i - gone) (j - gone) (flagged_unless m bits) (slice gone len run)) (cond c (edit (j - gone - t) (j - gone) (flagged bits) (slice gone len run)) (edit (i - gone) (i - gone + h) (flagged bits) (slice gone len run)))
      pick true c t h ot oh = input-edit (flagged_unless m bits) gone len i j run oi oj ol
      pick false true t h ot oh = input-edit (flagged bits) gone len (j - t) j run (omega arith) (omega arith) ol ∙ rw (back t ot)
      pick false false t h ot oh = input-edit (flagged bits) gone len i (i + h) run oi (omega arith) (omega arith) ∙ rw (on h)

pub interior-length : (level m bits i j : ℕ) (run : List (Glyph ℕ)) → i ≤ j → length (interior level m bits i j run) ≡ length run
unfolding interior
interior-length level m bits i j run o =
    let r : List ℕ = slice i j (clusters run) in
    pick (is 2 level || (isnt m (first_cluster r) && isnt m (last_cluster r))) (is m (first_cluster r)) (tails (isnt m) r) (heads (isnt m) r)
  where
    pick : (b c : Bool) (t h : ℕ) → length (cond b (edit i j (flagged_unless m bits) run) (cond c (edit (j - t) j (flagged bits) run) (edit i (i + h) (flagged bits) run))) ≡ length run
    pick true c t h = edit-length (flagged_unless m bits) i j run o
    pick false true t h = edit-length (flagged bits) (j - t) j run (omega arith)
    pick false false t h = edit-length (flagged bits) i (i + h) run (omega arith)

-- nothing outside the range is reached
module _ (level m bits n i j : ℕ) (run : List (Glyph ℕ)) (o : i ≤ j) (b : j ≤ length run) where
  pub interior-behind : j ≤ n → drop n (interior level m bits i j run) ≡ drop n run
  unfolding interior
  interior-behind f =
      let r : List ℕ = slice i j (clusters run) in
      let w : length r ≡ j - i = length-slice i j (clusters run) (rw (length-clusters run) b) in
      pick (is 2 level || (isnt m (first_cluster r) && isnt m (last_cluster r))) (is m (first_cluster r)) (tails (isnt m) r) (heads (isnt m) r) (omega (arith, heads-le (isnt m) r))
    where
      pick : (b c : Bool) (t h : ℕ) → h ≤ j - i → drop n (cond b (edit i j (flagged_unless m bits) run) (cond c (edit (j - t) j (flagged bits) run) (edit i (i + h) (flagged bits) run))) ≡ drop n run
      pick true c t h oh = edit-drop-behind (flagged_unless m bits) i j n run o f
      pick false true t h oh = edit-drop-behind (flagged bits) (j - t) j n run (omega arith) f
      pick false false t h oh = edit-drop-behind (flagged bits) i (i + h) n run (omega arith) (omega arith)

  pub interior-before : n ≤ i → take n (interior level m bits i j run) ≡ take n run
  unfolding interior
  interior-before a =
      let r : List ℕ = slice i j (clusters run) in
      let t : tails (isnt m) r ≤ j - i = omega (arith, tails-le (isnt m) r, length-slice i j (clusters run) (rw (length-clusters run) b)) in
      pick (is 2 level || (isnt m (first_cluster r) && isnt m (last_cluster r))) (is m (first_cluster r)) (tails (isnt m) r) (heads (isnt m) r) t
    where
      pick : (b c : Bool) (t h : ℕ) → t ≤ j - i → take n (cond b (edit i j (flagged_unless m bits) run) (cond c (edit (j - t) j (flagged bits) run) (edit i (i + h) (flagged bits) run))) ≡ take n run
      pick true c t h ot = edit-take-before (flagged_unless m bits) i j n run a o
      pick false true t h ot = edit-take-before (flagged bits) (j - t) j n run (omega arith) (omega arith)
      pick false false t h ot = edit-take-before (flagged bits) i (i + h) n run a (omega arith)

-- ---- the account after a plain form. Of any two lists
width : (g s e : ℕ) → g ≤ s → s ≤ e → e - g - (s - g) ≡ e - s
width g s e o p = omega arith

module _ {run out : List (Glyph ℕ)} {gone idx len out_length s e : ℕ} (v : InputRange run out len out_length s e) (w : InputFrom gone idx len s) (bits : ℕ) (k : State) where
  pub flagged-held : (level : ℕ) {run' : List (Glyph ℕ)} (out' : List (Glyph ℕ)) → 2 ≤ e - s → searching k ≡ level → run' ≡ interior level (sought level (slice s e (clusters run))) bits s e run → take out_length out' ≡ take out_length out
      → holds run' out' gone idx len out_length k ≡ flag_interior bits (s - gone) (e - gone) (holds run out gone idx len out_length k)
  unfolding flag_interior
  flagged-held level {run'} out' two el er eo =
      let order : s ≤ e = v.order in
      let a : Account ℕ = holds run out gone idx len out_length k in
      let in_is : input a ≡ slice gone len run = input-is run out gone idx len out_length k w.cursor w.inside v.fits in
      let lv : searching a.state ≡ level = searching-held run out gone idx len out_length k ∙ el in
      let wide : ltb (e - gone - (s - gone)) 2 ≡ false = le-ltb (e - gone - (s - gone)) 2 (rw (width gone s e w.start order) two) in
      let R : List ℕ = slice s e (clusters run) in
      let I : List (Glyph ℕ) = slice gone len run in
      let L : List (Glyph ℕ) = interior level (sought level R) bits (s - gone) (e - gone) I in
      rw (wide, in_is, range-in level 0 bits gone len s e run w.start order v.end v.fits)
      (holds-input run out gone idx len out_length k w.cursor w.inside v.fits run' out' L (rw er (interior-in level (sought level R) bits gone len s e run w.start order v.end v.fits)) eo
      ∙ ap (λ (x : ℕ). with_input (interior x (sought x R) bits (s - gone) (e - gone) I) a) (sym lv))

  -- every glyph of the range
  pub flagged-all : {run' : List (Glyph ℕ)} (out' : List (Glyph ℕ)) → run' ≡ edit s e (flagged bits) run → take out_length out' ≡ take out_length out
      → holds run' out' gone idx len out_length k ≡ flag_all bits (s - gone) (e - gone) (holds run out gone idx len out_length k)
  unfolding flag_all
  flagged-all {run'} out' er eo =
      let order : s ≤ e = v.order in
      let a : Account ℕ = holds run out gone idx len out_length k in
      let in_is : input a ≡ slice gone len run = input-is run out gone idx len out_length k w.cursor w.inside v.fits in
      holds-input run out gone idx len out_length k w.cursor w.inside v.fits run' out' _ (rw (er, in_is) (input-edit (flagged bits) gone len s e run w.start order v.end)) eo

-- the output in the run itself: the same, as it is not reached
module _ {run : List (Glyph ℕ)} {gone idx len out_length s e : ℕ} (v : InputRange run run len out_length s e) (w : InputFrom gone idx len s) (low : out_length ≤ gone) (bits : ℕ) (k : State) where
  pub flagged-within : (level : ℕ) {run' : List (Glyph ℕ)} → 2 ≤ e - s → searching k ≡ level → run' ≡ interior level (sought level (slice s e (clusters run))) bits s e run
      → holds run' run' gone idx len out_length k ≡ flag_interior bits (s - gone) (e - gone) (holds run run gone idx len out_length k)
  flagged-within level {run'} two el er =
      let order : s ≤ e = v.order in
      let start : gone ≤ s = w.start in
      flagged-held v w bits k level run' two el er
      (rw er (interior-before level (sought level (slice s e (clusters run))) bits out_length s e run (omega arith) (omega (arith, v.end, v.fits)) (omega arith)))

  pub flagged-all-within : {run' : List (Glyph ℕ)} → run' ≡ edit s e (flagged bits) run → holds run' run' gone idx len out_length k ≡ flag_all bits (s - gone) (e - gone) (holds run run gone idx len out_length k)
  flagged-all-within {run'} er =
      let order : s ≤ e = v.order in
      let start : gone ≤ s = w.start in
      flagged-all v w bits k run' er (rw er (edit-take-before (flagged bits) s e out_length run (omega arith) (omega arith)))

-- ---- an empty range
pub interior-empty : (level m bits i : ℕ) (l : List (Glyph ℕ)) → interior level m bits i i l ≡ l
unfolding interior heads tails
interior-empty level m bits i l =
    let none : slice i i (clusters l) ≡ [] = slice_empty i (clusters l) in
    rw (none, add-zero i, sub-zero i, edit-empty (flagged_unless m bits) i l, edit-empty (flagged bits) i l) (same (is 2 level || (isnt m (first_cluster []) && isnt m (last_cluster []))) (is m (first_cluster [])))
  where
    same : (b c : Bool) → cond b l (cond c l l) ≡ l
    same true c = refl
    same false true = refl
    same false false = refl

pub sought-empty : (level i : ℕ) (cs : List ℕ) → sought level (slice i i cs) ≡ 4294967295
unfolding sought least first_cluster last_cluster
sought-empty level i cs = rw (slice_empty i cs) (same (is 2 level))
  where
    same : (b : Bool) → cond b 4294967295 (min 4294967295 4294967295) ≡ 4294967295
    same true = refl
    same false = refl

-- for the proofs of functions
pub ruleset flag_laws = (interior-all, interior-first, interior-last, part-start, part_end, marks-seeks, marks-first, marks-last, sought-least, sought-ends, interior-of)

-- Copies of a range: the laws of `copied`, and how the loops that copy go on by one glyph.
use mathlib.Core.{Path.◌≡◌, Path.refl, Path.sym, Path.ap, Path.◌∙◌, List.List, List.[], List.◌∷◌, List.◌++◌, List.append_assoc}
use Prim.Native.Nat.{ℕ, zero, suc, ◌+◌, ◌-◌, ◌≤◌, ◌<◌}
use native.Mathlib.Nat.{suc-sub-suc, zero-sub, sub-zero}
use native.Mathlib.Numerals.{add-one}
use native.Mathlib.Omega.{arith}
use lib.ListN.{length, take, drop, set, get_or, length-drop, take-append-drop, get_or-append}
use lib.Seq.{paste-zero, paste-suc, take-paste, drop-paste, drop-drop, take-take, take-add, take-nil, take-suc, drop-cons, set_at, get_or-drop, get_or-take, get_or-append-add, length_paste_head, length-take-le}
use Rattle.records.specs.Glyphs.{Glyph}
use Rattle.records.specs.{View.glyphs, inner.Stores.zero_glyph}
use Rattle.records.proofs.View.{glyphs-same}
use Rattle.lists.specs.inner.Copied.{copied}

module _ {A : Type 0} where
  room_in : (s : List A) (from n : ℕ) → from + n ≤ length s → n ≤ length (drop from s)
  room_in s from n h = simp length-drop (omega arith)

  pub copied_none : (d s : List A) (to from : ℕ) → d ≡ copied d to s from 0
  copied_none d s to from = paste-zero d to (drop from s)

  -- the part up to the end of what was copied
  pub take-copied : (d s : List A) (to from n : ℕ) → to ≤ length d → from + n ≤ length s → take (to + n) (copied d to s from n) ≡ take to d ++ take n (drop from s)
  take-copied d s to from n hd hs = take-paste d to (drop from s) n hd (room_in s from n hs)

  -- the part from a place behind it
  pub drop-copied : (d s : List A) (to from n k : ℕ) → to + n ≤ k → to ≤ length d → from + n ≤ length s → drop k (copied d to s from n) ≡ drop k d
  drop-copied d s to from n k h hd hs =
      let e : k ≡ to + n + (k - (to + n)) = omega arith in
      let step : (l : List A) → drop k l ≡ drop (k - (to + n)) (drop (to + n) l) =
      λ l. ap (λ (j : ℕ). drop j l) e ∙ sym (drop-drop (k - (to + n)) (to + n) l) in
      step (copied d to s from n) ∙ ap (drop (k - (to + n))) (drop-paste d to (drop from s) n hd (room_in s from n hs)) ∙ sym (step d)

  -- a copy onto itself changes nothing
  pub copied-self : (d : List A) (at n : ℕ) → copied d at d at n ≡ d
  copied-self d at n = ap (λ (l : List A). l ++ drop (at + n) d) (sym (take-add at n d)) ∙ take-append-drop (at + n) d

  -- nor does a copy of nothing
  pub copied-nothing : (d s : List A) (to from : ℕ) → copied d to s from 0 ≡ d
  copied-nothing d s to from = copied-self d to 0

  pub drop-take : (k m : ℕ) (l : List A) → drop k (take m l) ≡ take (m - k) (drop k l)
  drop-take zero m l = rw (sub-zero m)
  drop-take (suc k) zero l = rw (zero-sub (suc k))
  drop-take (suc k) (suc m) [] = sym (take-nil (suc m - suc k))
  drop-take (suc k) (suc m) (x ∷ l) = rw (suc-sub-suc m k) (drop-take k m l)

  -- the first of a range
  pub take_range : (l : List A) (from to n : ℕ) → from + n ≤ to → take n (drop from (take to l)) ≡ take n (drop from l)
  take_range l from to n h = ap (take n) (drop-take from to l) ∙ take-take n (to - from) (drop from l) (omega arith)

  -- a range goes by what stands behind its start
  pub range_same : (l m : List A) (from to : ℕ) → drop from l ≡ drop from m → drop from (take to l) ≡ drop from (take to m)
  range_same l m from to e = drop-take from to l ∙ ap (take (to - from)) e ∙ sym (drop-take from to m)

  -- ---- element by element; z stands for one past the end
  module _ (z : A) where
    pub copied_more : (d s : List A) (to from i : ℕ) → to + i < length d → from + i < length s → set (copied d to s from i) (to + i) (get_or s (from + i) z) ≡ copied d to s from (i + 1)
    copied_more d s to from i hd hs =
        let h : i < length (drop from s) = simp length-drop (omega arith) in
        rw (add-one, ← get_or-drop from s i z) (paste-suc d to (drop from s) i z hd h)

    -- behind the places written so far nothing has changed
    pub copied-after : (d s : List A) (to from i k : ℕ) → to + i ≤ k → to + i ≤ length d → from + i ≤ length s → get_or (copied d to s from i) k z ≡ get_or d k z
    copied-after d s to from i k h hd hs =
        let p : List A = take to d ++ take i (drop from s) in
        let lp : length p ≡ to + i = length_paste_head d to (drop from s) i (omega arith) (room_in s from i hs) in
        let e : k ≡ length p + (k - (to + i)) = omega arith in
        let e' : to + i + (k - (to + i)) ≡ k = omega arith in
        ap (λ (j : ℕ). get_or (p ++ drop (to + i) d) j z) e
        ∙ get_or-append-add p (drop (to + i) d) (k - (to + i)) z
        ∙ get_or-drop (to + i) d (k - (to + i)) z
        ∙ ap (λ (j : ℕ). get_or d j z) e'

    -- nor before them
    pub copied-before : (d s : List A) (to from n k : ℕ) → k < to → to ≤ length d → get_or (copied d to s from n) k z ≡ get_or d k z
    copied-before d s to from n k h hd =
        let l : length (take to d) ≡ to = length-take-le to d hd in
        rw append_assoc (get_or-append (take to d) _ z k (omega arith) ∙ get_or-take to d k z h)

    -- a copy that grows at its front
    pub copied-front : (d s : List A) (to to' from from' m m' : ℕ) → to' ≡ suc to → from' ≡ suc from → m' ≡ suc m → to < length d → from < length s
        → set (copied d to' s from' m) to (get_or s from z) ≡ copied d to s from m'
    copied-front d s to to' from from' m m' et ef em hd hs =
        let x : A = get_or d to z in
        let g : A = get_or s from z in
        let T : List A = take m (drop (suc from) s) in
        let D : List A = drop (suc to + m) d in
        let ed : to + suc m ≡ suc to + m = omega arith in
        let left : take (suc to) d ++ T ++ D ≡ take to d ++ (x ∷ (T ++ D)) = rw (take-suc d to z) (simp append_assoc) in
        let right : take to d ++ take (suc m) (drop from s) ++ drop (to + suc m) d ≡ take to d ++ (g ∷ (T ++ D)) =
        rw (drop-cons s from z, ed) (simp append_assoc) in
        rw (et, ef, em, left, right) (set_at (take to d) x (T ++ D) g to (length-take-le to d (omega arith)))

-- ---- the first i of n glyphs are copied
pub record Copying (src dst₀ : List ℕ) (from to n : ℕ) (dst : List ℕ) (i : ℕ) : Type 0 where
  pub in_src : from + n ≤ length (glyphs src)
  pub in_dst : to + n ≤ length (glyphs dst)
  pub most : i ≤ n
  pub is : glyphs dst ≡ copied (glyphs dst₀) to (glyphs src) from i
  pub len : length dst ≡ length dst₀

pub copying-none : {src dst : List ℕ} {from to n : ℕ} → from + n ≤ length (glyphs src) → to + n ≤ length (glyphs dst) → Copying src dst from to n dst 0
copying-none {src} {dst} {from} {to} hs hd =
    record { in_src = hs; in_dst = hd; most = omega arith; is = copied_none (glyphs dst) (glyphs src) to from; len = refl }

-- within one slice
pub copying-within : {ws : List ℕ} {from to n : ℕ} → to ≤ from → from + n ≤ length (glyphs ws) → Copying ws ws from to n ws 0
copying-within o h = copying-none h (omega arith)

pub copying-more : {src dst₀ : List ℕ} {from to n : ℕ} {dst dst' : List ℕ} {i : ℕ} {g : Glyph ℕ} → Copying src dst₀ from to n dst i → i < n
    → g ≡ get_or (glyphs src) (from + i) zero_glyph → glyphs dst' ≡ set (glyphs dst) (to + i) g → length dst' ≡ length dst → Copying src dst₀ from to n dst' (i + 1)
copying-more {src} {dst₀} {from} {to} {n} {dst} {dst'} {i} {g} v h eg ep el =
    let same : length (glyphs dst) ≡ length (glyphs dst₀) = glyphs-same dst dst₀ v.len in
    let same' : length (glyphs dst') ≡ length (glyphs dst) = glyphs-same dst' dst el in
    record {
      in_src = v.in_src;
      in_dst = omega arith;
      most = omega arith;
      is = ep ∙ rw (eg, v.is) (copied_more zero_glyph (glyphs dst₀) (glyphs src) to from i (omega arith) (omega arith));
      len = el ∙ v.len;
    }

-- within one slice, towards the front: what is read has not been written
pub copying_down : {ws₀ : List ℕ} {from to n : ℕ} {ws ws' : List ℕ} {i : ℕ} {g : Glyph ℕ} → Copying ws₀ ws₀ from to n ws i → to ≤ from → i < n
    → g ≡ get_or (glyphs ws) (from + i) zero_glyph → glyphs ws' ≡ set (glyphs ws) (to + i) g → length ws' ≡ length ws → Copying ws₀ ws₀ from to n ws' (i + 1)
copying_down {ws₀} {from} {to} {n} {ws} {ws'} {i} {g} v o h eg ep el =
    copying-more v h (eg ∙ rw v.is (copied-after zero_glyph (glyphs ws₀) (glyphs ws₀) to from i (from + i) (omega arith) (omega arith) (omega arith))) ep el

pub copying-room : {ws₀ : List ℕ} {from to n : ℕ} {ws : List ℕ} {i : ℕ} → Copying ws₀ ws₀ from to n ws i → i < n → from + i < length (glyphs ws)
copying-room {ws₀} {from} {to} {n} {ws} v h = omega (arith, v.in_src, glyphs-same ws ws₀ v.len)

pub copying-done : {src dst₀ : List ℕ} {from to n : ℕ} {dst : List ℕ} {i : ℕ} → Copying src dst₀ from to n dst i → n ≤ i → glyphs dst ≡ copied (glyphs dst₀) to (glyphs src) from n
copying-done {src} {dst₀} {from} {to} {n} {dst} {i} v h =
    let e : i ≡ n = omega arith in
    rw e at v.is

-- ---- within one slice, towards the end: the last n - i of n glyphs are copied
pub record Rising (ws₀ : List ℕ) (from to n : ℕ) (ws : List ℕ) (i : ℕ) : Type 0 where
  pub order : from ≤ to
  pub inside : to + n ≤ length (glyphs ws)
  pub most : i ≤ n
  pub is : glyphs ws ≡ copied (glyphs ws₀) (to + i) (glyphs ws₀) (from + i) (n - i)
  pub len : length ws ≡ length ws₀

pub rising_none : {ws : List ℕ} {from to n : ℕ} → from ≤ to → to + n ≤ length (glyphs ws) → Rising ws from to n ws n
rising_none {ws} {from} {to} {n} o h =
    let e : n - n ≡ 0 = omega arith in
    record { order = o; inside = h; most = omega arith; is = rw e (copied_none (glyphs ws) (glyphs ws) (to + n) (from + n)); len = refl }

pub rising-more : {ws₀ : List ℕ} {from to n : ℕ} {ws ws' : List ℕ} {i : ℕ} {g : Glyph ℕ} → Rising ws₀ from to n ws i → 0 < i
    → g ≡ get_or (glyphs ws) (from + (i - 1)) zero_glyph → glyphs ws' ≡ set (glyphs ws) (to + (i - 1)) g → length ws' ≡ length ws → Rising ws₀ from to n ws' (i - 1)
rising-more {ws₀} {from} {to} {n} {ws} {ws'} {i} {g} v h eg ep el =
    let l : List (Glyph ℕ) = glyphs ws₀ in
    let same : length (glyphs ws) ≡ length l = glyphs-same ws ws₀ v.len in
    let same' : length (glyphs ws') ≡ length (glyphs ws) = glyphs-same ws' ws el in
    let read : get_or (glyphs ws) (from + (i - 1)) zero_glyph ≡ get_or l (from + (i - 1)) zero_glyph =
    rw v.is (copied-before zero_glyph l l (to + i) (from + i) (n - i) (from + (i - 1)) (omega arith) (omega arith)) in
    record {
      order = v.order;
      inside = omega arith;
      most = omega arith;
      is = ep ∙ rw (eg, read, v.is) (copied-front zero_glyph l l (to + (i - 1)) (to + i) (from + (i - 1)) (from + i) (n - i) (n - (i - 1)) (omega arith) (omega arith) (omega arith) (omega arith) (omega arith));
      len = el ∙ v.len;
    }

pub rising-done : {ws₀ : List ℕ} {from to n : ℕ} {ws : List ℕ} {i : ℕ} → Rising ws₀ from to n ws i → i ≤ 0 → glyphs ws ≡ copied (glyphs ws₀) to (glyphs ws₀) from n
rising-done {ws₀} {from} {to} {n} {ws} {i} v h =
    let et : to + i ≡ to = omega arith in
    let ef : from + i ≡ from = omega arith in
    let en : n - i ≡ n = omega arith in
    rw (et, ef, en) at v.is

-- for the proofs of functions
pub ruleset copying = (copying-none, copying-within, copying-more, copying-room, copying-done, rising_none, rising-more, rising-done)

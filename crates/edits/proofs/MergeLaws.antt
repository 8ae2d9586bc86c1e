-- A merge in the input: from edits of whole slices to the account that they hold.
use mathlib.Core.{Path.◌≡◌, Path.refl, Path.ap, Path.sym, Path.◌∙◌, Bool.Bool, Bool.true, Bool.false, Bool.cond, Bool.not, Bool.◌&&◌, List.List}
use Rattle.std.proofs.Common.{ℕ, ◌+◌, ◌-◌, ◌<◌, ◌≤◌, eqb, length, take, drop, le_refl, arith, length-drop, length-take-le, drop-drop, eq-eqb, ne_eqb, eqb-true}
use lib.Seq.{slice, length-slice}
use borrow.Author.Tests.{eqb-false}
use Rattle.records.specs.{Glyphs.Glyph, Glyphs.Info, Glyphs.set_cluster, Ranges.edit, Ranges.is, Ranges.least, Ranges.first_cluster, Ranges.last_cluster, Ranges.heads, Ranges.tails, Ranges.clusters}
use Rattle.records.specs.View.{glyphs}
use Rattle.records.proofs.View.{length-clusters, glyphs-same}
use Rattle.std.specs.Prelude.{Option, None, Some}
use Rattle.std.specs.Bool.{then_some}
use Rattle.records.proofs.Edited.{edit-take, edit-take-before, edit-drop-behind}
use Rattle.lists.specs.inner.Verdicts.{Sided}
use Rattle.lists.specs.Account.{Account, State, input}
use Rattle.lists.proofs.Editing.{edit-empty}
use Rattle.lists.proofs.Runs.{heads-le, tails-le}
use Rattle.edits.specs.declared.Plan.{Plan}
use Rattle.edits.specs.Merging.{merge_start, merge_end, merge_tail, merged}
use Rattle.edits.specs.inner.Holding.{holds, paid, cut}
use Rattle.edits.specs.inner.Plans.{Written, Tailed, merge_plan, tail_start, merged_range, merged_tail}
use Rattle.edits.specs.inner.MergeActs.{MergeRoom}
use Rattle.edits.proofs.MergeForms.{Mergeable, InputRange, InputFrom, MergedApart, MergedWithin}
use Rattle.edits.proofs.Holding.{slice-shift, length-slice-le}
use Rattle.edits.proofs.Bridge.{input-is, input-clusters, done-is, done-clusters, holds-paying, input-edit, input-kept}

-- ---- the places of a merge, counted in the run and counted in the input
pub start-shift : (g idx s e : ℕ) (cs : List ℕ) → g ≤ idx → g ≤ s → s < e → merge_start idx s e cs ≡ g + merge_start (idx - g) (s - g) (e - g) (drop g cs)
unfolding merge_start
start-shift g idx s e cs oi os oe =
    let r : List ℕ = slice (s - g) (e - g) (drop g cs) in
    let q : List ℕ = slice (idx - g) (s - g) (drop g cs) in
    let b : tails (is (first_cluster r)) q ≤ s - g = omega (arith, tails-le (is (first_cluster r)) q, length-slice-le (idx - g) (s - g) (drop g cs)) in
    rw (slice-shift g s e cs os (omega arith), slice-shift g idx s cs oi os) (pick (eqb (first_cluster r) (least r)) (tails (is (first_cluster r)) q) b)
  where
    pick : (b : Bool) (t : ℕ) → t ≤ s - g → cond b s (s - t) ≡ g + cond b (s - g) (s - g - t)
    pick true t o = omega arith
    pick false t o = omega arith

pub end-shift : (g s e : ℕ) (cs : List ℕ) → g ≤ s → s < e → merge_end s e cs ≡ g + merge_end (s - g) (e - g) (drop g cs)
unfolding merge_end
end-shift g s e cs os oe =
    let r : List ℕ = slice (s - g) (e - g) (drop g cs) in
    let k : g + (e - g) ≡ e = omega arith in
    let d : drop (e - g) (drop g cs) ≡ drop e cs = drop-drop (e - g) g cs ∙ ap (λ (n : ℕ). drop n cs) k in
    rw (slice-shift g s e cs os (omega arith), d) (pick (eqb (last_cluster r) (least r)) (heads (is (last_cluster r)) (drop e cs)))
  where
    pick : (b : Bool) (t : ℕ) → cond b e (e + t) ≡ g + cond b (e - g) (e - g + t)
    pick true t = omega arith
    pick false t = omega arith

pub start-most : (idx s e : ℕ) (cs : List ℕ) → merge_start idx s e cs ≤ s
unfolding merge_start
start-most idx s e cs =
    let r : List ℕ = slice s e cs in
    pick (eqb (first_cluster r) (least r)) (tails (is (first_cluster r)) (slice idx s cs))
  where
    pick : (b : Bool) (t : ℕ) → cond b s (s - t) ≤ s
    pick true t = omega arith
    pick false t = omega arith

pub end-least : (s e : ℕ) (cs : List ℕ) → e ≤ merge_end s e cs
unfolding merge_end
end-least s e cs =
    let r : List ℕ = slice s e cs in
    pick (eqb (last_cluster r) (least r)) (heads (is (last_cluster r)) (drop e cs))
  where
    pick : (b : Bool) (t : ℕ) → e ≤ cond b e (e + t)
    pick true t = omega arith
    pick false t = omega arith

pub merge-order : (idx s e : ℕ) (cs : List ℕ) → s ≤ e → merge_start idx s e cs ≤ merge_end s e cs
merge-order idx s e cs o = omega (arith, o, start-most idx s e cs, end-least s e cs)

pub end-most : (s e : ℕ) (cs : List ℕ) → e ≤ length cs → merge_end s e cs ≤ length cs
unfolding merge_end
end-most s e cs o =
    let r : List ℕ = slice s e cs in
    pick (eqb (last_cluster r) (least r)) (heads (is (last_cluster r)) (drop e cs)) (rw (length-drop e cs) at (heads-le (is (last_cluster r)) (drop e cs)))
  where
    pick : (b : Bool) (t : ℕ) → t ≤ length cs - e → cond b e (e + t) ≤ length cs
    pick true t h = omega arith
    pick false t h = omega arith

pub tail-most : (c : Option ℕ) (n : ℕ) (ds : List ℕ) → tail_start c ds n ≤ n
unfolding tail_start
tail-most None n ds = omega arith
tail-most (Some c) n ds = omega arith

-- a test of two places, counted from another
eqb-shift : (g a b : ℕ) → g ≤ b → eqb (g + a) b ≡ eqb a (b - g)
eqb-shift g a b o = pick (eqb a (b - g)) refl
  where
    pick : (t : Bool) → eqb a (b - g) ≡ t → eqb (g + a) b ≡ t
    pick true h = eq-eqb (g + a) b (omega (arith, eqb-true a (b - g) h))
    pick false h = ne_eqb (g + a) b (λ (q : g + a ≡ b). eqb-false a (b - g) h (omega arith))

-- arithmetic that `omega` does with few hypotheses in reach only
cost-shift : (g s e : ℕ) → g ≤ s → s < e → e - g - (s - g) ≡ e - s
cost-shift g s e o p = omega arith

sub_of : (g a b : ℕ) → a ≡ g + b → a - g ≡ b
sub_of g a b h = omega arith

pub mergeable : {run out : List (Glyph ℕ)} {len out_length s e : ℕ} → InputRange run out len out_length s e → s < e → Mergeable run out len out_length s e
mergeable v o = record { order = o; end = v.end; fits = v.fits; out-fits = v.out-fits }

-- the places of a merge lie in their lists
module _ {run out : List (Glyph ℕ)} {len out_length s e : ℕ} (v : Mergeable run out len out_length s e) (idx : ℕ) (p : Plan) (ep : p ≡ merge_plan idx s e (cut len run)) where
  pub plan-order : (p.from ≤ p.to) × (p.to ≤ len)
  unfolding merge_plan
  plan-order =
      let X : List ℕ = cut len run in
      let n : length X ≡ len = length-take-le len (clusters run) (rw (length-clusters run) v.fits) in
      let ef : p.from ≡ merge_start idx s e X = ap (λ (q : Plan). q.from) ep in
      let et : p.to ≡ merge_end s e X = ap (λ (q : Plan). q.to) ep in
      let o : s < e = v.order in
      let l : e ≤ len = v.end in
      (omega (arith, start-most idx s e X, end-least s e X), omega (arith, end-most s e X (omega arith)))

  pub plan-from : (gone : ℕ) → InputFrom gone idx len s → gone ≤ p.from
  unfolding merge_plan
  plan-from gone w =
      let X : List ℕ = cut len run in
      let ef : p.from ≡ merge_start idx s e X = ap (λ (q : Plan). q.from) ep in
      omega (arith, start-shift gone idx s e X w.cursor w.start v.order)

module _ {run out : List (Glyph ℕ)} {gone idx len out_length s e : ℕ} (v : Mergeable run out len out_length s e) (w : InputFrom gone idx len s) where
  cursor-is : (k : State) → length (holds run out gone idx len out_length k).passed ≡ idx - gone
  unfolding holds
  cursor-is k = let o : idx ≤ len = w.inside in let f : len ≤ length run = v.fits in length-slice gone idx run (omega arith)

  -- by the test of the plan
  tail-by : (t : Bool) (c n : ℕ) (ds : List ℕ) → tail_start (then_some t c) ds n ≡ cond t (n - tails (is c) ds) n
  unfolding tail_start
  tail-by true c n ds = refl
  tail-by false c n ds = refl

  -- what is held after a merge, from the part of the run that is input and from the output
  merged-holds : (run' out' : List (Glyph ℕ)) (p : Plan) → p ≡ merge_plan idx s e (cut len run)
      → slice gone len run' ≡ edit (p.from - gone) (p.to - gone) (set_cluster p.lowest 0) (slice gone len run)
      → take out_length out' ≡ edit (tail_start p.along (cut out_length out) out_length) out_length (set_cluster p.lowest 0) (take out_length out)
      → (k : State) → holds run' out' gone idx len out_length (paid (e - s) k) ≡ merged (s - gone) (e - gone) (holds run out gone idx len out_length k)
  unfolding merge_plan merge_tail merged
  merged-holds run' out' p ep er eo k =
      let cursor : gone ≤ idx = w.cursor in
      let inside : idx ≤ len = w.inside in
      let fits : len ≤ length run = v.fits in
      let start : gone ≤ s = w.start in
      let order : s < e = v.order in
      let X : List ℕ = cut len run in
      let Y : List ℕ = drop gone X in
      let a : Account ℕ = holds run out gone idx len out_length k in
      let in_is : input a ≡ slice gone len run = input-is run out gone idx len out_length k cursor inside fits in
      let cs-is : clusters (input a) ≡ Y = input-clusters run out gone idx len out_length k cursor inside fits in
      let d-is : a.done ≡ take out_length out = done-is run out gone idx len out_length k cursor inside fits in
      let ds-is : clusters a.done ≡ cut out_length out = done-clusters run out gone idx len out_length k cursor inside fits in
      let k-is : length a.passed ≡ idx - gone = cursor-is k in
      let n-is : length (take out_length out) ≡ out_length = length-take-le out_length out v.out-fits in
      let dn-is : length (cut out_length out) ≡ out_length = length-take-le out_length (clusters out) (rw (length-clusters out) v.out-fits) in
      let S-is : merge_start idx s e X ≡ gone + merge_start (idx - gone) (s - gone) (e - gone) Y = start-shift gone idx s e X cursor start order in
      let E-is : merge_end s e X ≡ gone + merge_end (s - gone) (e - gone) Y = end-shift gone s e X start order in
      let r-is : slice s e X ≡ slice (s - gone) (e - gone) Y = slice-shift gone s e X start (omega arith) in
      let S-sub : merge_start idx s e X - gone ≡ merge_start (idx - gone) (s - gone) (e - gone) Y = sub_of gone _ _ S-is in
      let E-sub : merge_end s e X - gone ≡ merge_end (s - gone) (e - gone) Y = sub_of gone _ _ E-is in
      let test : eqb (merge_start idx s e X) idx ≡ eqb (merge_start (idx - gone) (s - gone) (e - gone) Y) (idx - gone) =
      ap (λ (n : ℕ). eqb n idx) S-is ∙ eqb-shift gone _ idx cursor in
      let r : List ℕ = slice s e X in
      let tail-is : tail_start p.along (cut out_length out) out_length ≡ cond (eqb (merge_start idx s e X) idx && not (eqb (first_cluster r) (least r))) (out_length - tails (is (first_cluster r)) (cut out_length out)) out_length =
      ap (λ (q : Plan). tail_start q.along (cut out_length out) out_length) ep ∙ tail-by _ _ _ _ in
      let cost : e - gone - (s - gone) ≡ e - s = cost-shift gone s e start order in
      rw cost
      (holds-paying run out gone idx len out_length k cursor inside fits (e - s) run' out' _ _
      (er ∙ rw (ep, S-sub, E-sub, r-is, cs-is, in_is, k-is))
      (eo ∙ rw (tail-is, ep, ds-is, cs-is, d-is, k-is, n-is, dn-is, r-is, test)))

  planned-apart : {run' out' : List (Glyph ℕ)} (p : Plan) → p ≡ merge_plan idx s e (cut len run) → (at : ℕ) → at ≡ tail_start p.along (cut out_length out) out_length
      → out' ≡ edit at out_length (set_cluster p.lowest 0) out → run' ≡ edit p.from p.to (set_cluster p.lowest 0) run → MergedApart gone idx len out_length s e run out run' out'
  planned-apart {run'} {out'} p ep at ea eo er =
      let h : Info → Info = set_cluster p.lowest 0 in
      let o = plan-order v idx p ep in
      let above : gone ≤ p.from = plan-from v idx p ep gone w in
      let t : at ≤ out_length = rw ea (tail-most p.along out_length (cut out_length out)) in
      record {
        account =
            merged-holds run' out' p ep
            (rw er (input-edit h gone len p.from p.to run above o.0 o.1))
            (rw (eo, ← ea) (edit-take h at out_length out_length out t (le_refl out_length)));
        before = rw er (edit-take-before h p.from p.to gone run above o.0);
        behind = rw er (edit-drop-behind h p.from p.to len run o.0 o.1);
        out-behind = rw eo (edit-drop-behind h at out_length out_length out t (le_refl out_length));
      }

  -- THE LAW of a merge with the output apart: of any two lists
  pub merged-apart : {run' out' : List (Glyph ℕ)} (p : Plan) → p ≡ merge_plan idx s e (cut len run) → run' ≡ merged_range p run → out' ≡ merged_tail p out_length out → MergedApart gone idx len out_length s e run out run' out'
  unfolding merged_range merged_tail
  merged-apart p ep er eo = planned-apart p ep _ refl eo er

module _ {run : List (Glyph ℕ)} {gone idx len out_length s e : ℕ} (v : Mergeable run run len out_length s e) (w : InputFrom gone idx len s) (low : out_length ≤ gone) where
  planned-within : {mid run' : List (Glyph ℕ)} (p : Plan) → p ≡ merge_plan idx s e (cut len run) → (at : ℕ) → at ≡ tail_start p.along (cut out_length run) out_length
      → mid ≡ edit at out_length (set_cluster p.lowest 0) run → run' ≡ edit p.from p.to (set_cluster p.lowest 0) mid → MergedWithin gone idx len out_length s e run run'
  planned-within {mid} {run'} p ep at ea em er =
      let h : Info → Info = set_cluster p.lowest 0 in
      let o = plan-order v idx p ep in
      let above : gone ≤ p.from = plan-from v idx p ep gone w in
      let t : at ≤ out_length = rw ea (tail-most p.along out_length (cut out_length run)) in
      let from : p.from ≤ p.to = o.0 in
      let to : p.to ≤ len = o.1 in
      let in_len : gone ≤ len = omega (arith, w.cursor, w.inside) in
      -- the input is that of the run as it was, and the output that of the run after the tail
      let kept : slice gone len mid ≡ slice gone len run = rw em (input-kept h gone len at out_length run t low in_len) in
      let done : take out_length run' ≡ edit at out_length h (take out_length run) =
      rw er (edit-take-before h p.from p.to out_length mid (omega arith) from ∙ rw em (edit-take h at out_length out_length run t (le_refl out_length))) in
      record {
        account =
            merged-holds v w run' run' p ep
            (rw er (input-edit h gone len p.from p.to mid above from to ∙ rw kept))
            (rw (← ea) done);
        between = rw er (ap (drop out_length) (edit-take-before h p.from p.to gone mid above from)
            ∙ rw em (ap (drop out_length) (edit-take h at out_length gone run t low) ∙ edit-drop-behind h at out_length out_length (take gone run) t (le_refl out_length)));
        behind = rw er (edit-drop-behind h p.from p.to len mid from to ∙ rw em (edit-drop-behind h at out_length len run t (omega arith)));
      }

  -- THE LAW of a merge with the output in the run, or without: of any list
  pub merged-within : {run' : List (Glyph ℕ)} (p : Plan) → p ≡ merge_plan idx s e (cut len run) → run' ≡ merged_range p (merged_tail p out_length run) → MergedWithin gone idx len out_length s e run run'
  unfolding merged_range merged_tail
  merged-within p ep er = planned-within p ep _ refl refl er

-- ---- what the functions write
module _ (p : Plan) (n : ℕ) where
  pub tail-some : {c : ℕ} (out : List (Glyph ℕ)) {out' : List (Glyph ℕ)} → p.along ≡ Some c → out' ≡ edit (n - tails (is c) (cut n out)) n (set_cluster p.lowest 0) out → out' ≡ merged_tail p n out
  unfolding merged_tail tail_start
  tail-some out h eo = rw h eo

  tail_none : (out : List (Glyph ℕ)) → p.along ≡ None → out ≡ merged_tail p n out
  unfolding merged_tail tail_start
  tail_none out h = rw h (sym (edit-empty (set_cluster p.lowest 0) n out))

  pub tail-left : (separate : Bool) (run other : List ℕ) → p.along ≡ None → Sided separate (Tailed p n) run other run other
  tail-left separate run other h = record { first = λ k. record { is = tail_none (glyphs run) h; rest-is = refl }; second = λ k. record { is = tail_none (glyphs other) h; rest-is = refl } }

module _ {run other : List ℕ} {len out_length s e : ℕ} (idx : ℕ) {p : Plan} (w : (s < e) × MergeRoom len out_length s e run other) (ep : p ≡ merge_plan idx s e (cut len (glyphs run))) where
  ready : Mergeable (glyphs run) (glyphs run) len out_length s e
  ready = let v = w.1 in record { order = w.0; end = v.end; fits = v.fits; out-fits = v.out-fits }

  pub run_room : (run' : List ℕ) → length run' ≡ length run → (p.from ≤ p.to) × (p.to ≤ length (glyphs run'))
  run_room run' same = let o = plan-order ready idx p ep in (o.0, omega (arith, o.1, ready.fits, glyphs-same run' run same))

pub written : {separate : Bool} {idx len out_length s e : ℕ} {run other run₁ run' other' : List ℕ} {p : Plan} → p ≡ merge_plan idx s e (cut len (glyphs run)) → Sided separate (Tailed p out_length) run other run₁ other'
    → glyphs run' ≡ edit p.from p.to (set_cluster p.lowest 0) (glyphs run₁) → Written separate idx len out_length s e run other run' other'
unfolding merged_range
written {p = p} ep w er = record {
  p = p;
  p-is = ep;
  apart = λ k. let q = w.second k in (rw (← q.rest-is) er, q.is);
  within = λ k. let q = w.first k in (er ∙ ap (edit p.from p.to (set_cluster p.lowest 0)) q.is, q.rest-is);
}

-- for the proofs of functions
pub ruleset merging = (tail-left)

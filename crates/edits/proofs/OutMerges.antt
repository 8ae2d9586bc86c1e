-- A merge in the output, from what its loops say, to the account.
use mathlib.Core.{Path.◌≡◌, Path.refl, Path.ap, Path.sym, Path.◌∙◌, Bool.Bool, Bool.true, Bool.false, Bool.cond, Bool.false≢true, List.List}
use Rattle.std.proofs.Common.{ℕ, ◌+◌, ◌-◌, ◌<◌, ◌≤◌, eqb, length, get_or, take, drop, le_refl, arith, length-drop, length-take-le, take-take}
use lib.Seq.{slice, length-slice}
use Rattle.records.specs.{Glyphs.Glyph, Glyphs.Info, Glyphs.set_cluster, Ranges.edit, Ranges.is, Ranges.least, Ranges.first_cluster, Ranges.last_cluster, Ranges.heads, Ranges.tails, Ranges.clusters}
use Rattle.records.specs.View.{glyphs}
use Rattle.records.proofs.View.{length-clusters, glyphs-same}
use Rattle.std.specs.Prelude.{Option, None, Some}
use Rattle.std.specs.Bool.{then_some}
use Rattle.records.proofs.Edited.{edit-take, edit-take-before, edit-drop-behind}
use Rattle.lists.specs.Account.{Account, State, input}
use Rattle.lists.proofs.Runs.{heads-le}
use Rattle.edits.specs.declared.Plan.{Plan}
use Rattle.edits.specs.Merging.{out_start, out_end, out_head, merged_out}
use Rattle.edits.specs.inner.Holding.{holds, paid, cut}
use Rattle.edits.specs.inner.Plans.{OutWritten, out_plan, head_end, merged_range, merged_head}
use Rattle.edits.proofs.MergeForms.{OutMergeable, MergedOutApart, MergedOutWithin}
use Rattle.lists.proofs.Editing.{edit-empty}
use Rattle.edits.proofs.MergePlans.{first-slice, last-slice}
use Rattle.edits.proofs.Holding.{slice-take}
use Rattle.edits.proofs.Bridge.{input-is, input-clusters, done-is, done-clusters, holds-paying, input-edit, input-kept}

-- ---- the plan
module _ (l : List (Glyph ℕ)) (n s e : ℕ) (o : s < e) (b : e ≤ n) (f : n ≤ length l) where
  pub out-planned : {m c d from to : ℕ} {a : Option ℕ} → m ≡ least (slice s e (clusters l)) → c ≡ get_or (clusters l) s 4294967295 → d ≡ get_or (clusters l) (e - 1) 4294967295
      → from ≡ s - tails (is c) (slice 0 s (clusters l)) → to ≡ e + heads (is d) (slice e n (clusters l))
      → a ≡ then_some (eqb to n) d → ◌≡◌ {A = Plan} (record { lowest = m; from = from; to = to; along = a }) (out_plan s e (cut n l))
  unfolding out_plan out_start out_end
  out-planned {m} {c} {d} {from} {to} {a} em ec ed ef et ea =
      let cs : List ℕ = clusters l in
      let w : e ≤ length cs = rw (length-clusters l) (omega arith) in
      let r : slice s e (cut n l) ≡ slice s e cs = slice-take s e n cs b in
      let t : take s (cut n l) ≡ take s cs = take-take s n cs (omega arith) in
      let z : length (cut n l) ≡ n = length-take-le n cs (rw (length-clusters l) f) in
      let fi : first_cluster (slice s e cs) ≡ c = first-slice s e cs o w ∙ sym ec in
      let la : last_cluster (slice s e cs) ≡ d = last-slice s e cs o w ∙ sym ed in
      rw (r, t, z, fi, la, ← em, ← ef, ← et, ← ea)

-- by the test of the plan
head-by : (t : Bool) (c idx : ℕ) (cs : List ℕ) → head_end (then_some t c) idx cs ≡ idx + cond t (heads (is c) cs) 0
unfolding head_end
head-by true c idx cs = refl
head-by false c idx cs = omega arith

module _ {run out : List (Glyph ℕ)} {idx len out_length s e : ℕ} (v : OutMergeable run out idx len out_length s e) (p : Plan) (ep : p ≡ out_plan s e (cut out_length out)) where
  pub out-order : (p.from ≤ p.to) × (p.to ≤ out_length)
  unfolding out_plan out_start out_end
  out-order =
      let X : List ℕ = cut out_length out in
      let r : List ℕ = slice s e X in
      let n : length X ≡ out_length = length-take-le out_length (clusters out) (rw (length-clusters out) v.out-fits) in
      let ef : p.from ≡ s - tails (is (first_cluster r)) (take s X) = ap (λ (q : Plan). q.from) ep in
      let et : p.to ≡ e + heads (is (last_cluster r)) (drop e X) = ap (λ (q : Plan). q.to) ep in
      let h : heads (is (last_cluster r)) (drop e X) ≤ length X - e = rw (length-drop e X) at (heads-le (is (last_cluster r)) (drop e X)) in
      let o : s < e = v.order in
      let b : e ≤ out_length = v.end in
      (omega arith, omega arith)

  out-holds : (run' out' : List (Glyph ℕ)) (at : ℕ) → at ≡ head_end p.along idx (slice idx len (clusters run))
      → slice idx len run' ≡ edit 0 (at - idx) (set_cluster p.lowest 0) (slice idx len run)
      → take out_length out' ≡ edit p.from p.to (set_cluster p.lowest 0) (take out_length out)
      → (k : State) → holds run' out' idx idx len out_length (paid (e - s) k) ≡ merged_out s e (holds run out idx idx len out_length k)
  unfolding out_plan out_head merged_out head_end
  out-holds run' out' at ea el ed k =
      let a : Account ℕ = holds run out idx idx len out_length k in
      let in_is : input a ≡ slice idx len run = input-is run out idx idx len out_length k (le_refl idx) v.inside v.fits in
      let cs-is : clusters (input a) ≡ drop idx (cut len run) = input-clusters run out idx idx len out_length k (le_refl idx) v.inside v.fits in
      let d-is : a.done ≡ take out_length out = done-is run out idx idx len out_length k (le_refl idx) v.inside v.fits in
      let ds-is : clusters a.done ≡ cut out_length out = done-clusters run out idx idx len out_length k (le_refl idx) v.inside v.fits in
      let r : List ℕ = slice s e (cut out_length out) in
      let head : ℕ = cond (eqb (out_end s e (cut out_length out)) (length (cut out_length out))) (heads (is (last_cluster r)) (slice idx len (clusters run))) 0 in
      let h : at ≡ idx + head = ea ∙ (ap (λ (q : Plan). head_end q.along idx (slice idx len (clusters run))) ep ∙ head-by _ _ idx _) in
      let at-is : at - idx ≡ head = omega arith in
      holds-paying run out idx idx len out_length k (le_refl idx) v.inside v.fits (e - s) run' out' _ _
      (el ∙ rw (at-is, ep, cs-is, in_is, ds-is))
      (ed ∙ rw (ep, ds-is, d-is))

-- the head of the input ends in the input
head-order : (run : List (Glyph ℕ)) {idx len at : ℕ} (c : Option ℕ) → idx ≤ len → len ≤ length run → at ≡ head_end c idx (slice idx len (clusters run)) → (idx ≤ at) × (at ≤ len)
unfolding head_end
head-order run None o f ea = (omega arith, omega arith)
head-order run {idx} {len} {at} (Some c) o f ea =
    let cs : List ℕ = clusters run in
    let n : length (slice idx len cs) ≡ len - idx = length-slice idx len cs (rw (length-clusters run) f) in
    (omega arith, omega (arith, heads-le (is c) (slice idx len cs)))

zero_of : (n : ℕ) → n - n ≡ 0
zero_of n = omega arith

module _ {run out : List (Glyph ℕ)} {idx len out_length s e : ℕ} (v : OutMergeable run out idx len out_length s e) where
  planned-out-apart : {run' out' : List (Glyph ℕ)} (p : Plan) → p ≡ out_plan s e (cut out_length out)
      → (at : ℕ) → at ≡ head_end p.along idx (slice idx len (clusters run))
      → run' ≡ edit idx at (set_cluster p.lowest 0) run → out' ≡ edit p.from p.to (set_cluster p.lowest 0) out → MergedOutApart idx len out_length s e run out run' out'
  planned-out-apart {run'} {out'} p ep at ea er eo =
      let h : Info → Info = set_cluster p.lowest 0 in
      let o = out-order v p ep in
      let q = head-order run p.along v.inside v.fits ea in
      record {
        account = out-holds v p ep run' out' at ea
            (rw er (input-edit h idx len idx at run (le_refl idx) q.0 q.1 ∙ rw (zero_of idx)))
            (rw eo (edit-take h p.from p.to out_length out o.0 o.1));
        before = rw er (edit-take-before h idx at idx run (le_refl idx) q.0);
        behind = rw er (edit-drop-behind h idx at len run q.0 q.1);
        out-behind = rw eo (edit-drop-behind h p.from p.to out_length out o.0 o.1);
      }

  -- THE LAW of a merge in an output that is held apart: of any two lists
  pub merged-out-apart : {run' out' : List (Glyph ℕ)} (p : Plan) → p ≡ out_plan s e (cut out_length out) → run' ≡ merged_head p idx len run → out' ≡ merged_range p out → MergedOutApart idx len out_length s e run out run' out'
  unfolding merged_head merged_range
  merged-out-apart p ep er eo = planned-out-apart p ep _ refl er eo

module _ {run : List (Glyph ℕ)} {idx len out_length s e : ℕ} (v : OutMergeable run run idx len out_length s e) (low : out_length ≤ idx) where
  planned-out-within : {mid run' : List (Glyph ℕ)} (p : Plan) → p ≡ out_plan s e (cut out_length run)
      → (at : ℕ) → at ≡ head_end p.along idx (slice idx len (clusters run))
      → mid ≡ edit idx at (set_cluster p.lowest 0) run → run' ≡ edit p.from p.to (set_cluster p.lowest 0) mid → MergedOutWithin idx len out_length s e run run'
  planned-out-within {mid} {run'} p ep at ea em er =
      let h : Info → Info = set_cluster p.lowest 0 in
      let o = out-order v p ep in
      let q = head-order run p.along v.inside v.fits ea in
      let inside : idx ≤ len = v.inside in
      let until : p.to ≤ out_length = o.1 in
      record {
        account = out-holds v p ep run' run' at ea
            (rw er (input-kept h idx len p.from p.to mid o.0 (omega arith) inside ∙ rw em (input-edit h idx len idx at run (le_refl idx) q.0 q.1 ∙ rw (zero_of idx))))
            (rw er (edit-take h p.from p.to out_length mid o.0 o.1 ∙ rw em (rw (edit-take-before h idx at out_length run low q.0))));
        between = rw er (ap (drop out_length) (edit-take h p.from p.to idx mid o.0 (omega arith)) ∙ (edit-drop-behind h p.from p.to out_length (take idx mid) o.0 o.1
            ∙ rw em (ap (drop out_length) (edit-take-before h idx at idx run (le_refl idx) q.0))));
        behind = rw er (edit-drop-behind h p.from p.to len mid o.0 (omega arith) ∙ rw em (edit-drop-behind h idx at len run q.0 q.1));
      }

  -- THE LAW of a merge in an output that is held in the run: of any list
  pub merged-out-within : {run' : List (Glyph ℕ)} (p : Plan) → p ≡ out_plan s e (cut out_length run) → run' ≡ merged_range p (merged_head p idx len run) → MergedOutWithin idx len out_length s e run run'
  unfolding merged_head merged_range
  merged-out-within p ep er = planned-out-within p ep _ refl refl er

-- ---- what the functions write
module _ (p : Plan) (idx len : ℕ) (run : List (Glyph ℕ)) where
  pub head-some : {at c : ℕ} {run' : List (Glyph ℕ)} → p.along ≡ Some c → at ≡ idx + heads (is c) (slice idx len (clusters run)) → run' ≡ edit idx at (set_cluster p.lowest 0) run → run' ≡ merged_head p idx len run
  unfolding merged_head head_end
  head-some h ea er = rw (h, ← ea) er

  pub head-none : p.along ≡ None → run ≡ merged_head p idx len run
  unfolding merged_head head_end
  head-none h = rw h (sym (edit-empty (set_cluster p.lowest 0) idx run))

module _ (run : List (Glyph ℕ)) {idx len at : ℕ} (c : ℕ) (w : (idx ≤ len) × (len ≤ length run)) (ea : at ≡ idx + heads (is c) (slice idx len (clusters run))) where
  pub head-room : (idx ≤ at) × (at ≤ length run)
  unfolding head_end
  head-room = let q = head-order run (Some c) w.0 w.1 ea in (q.0, omega (arith, w.1, q.1))

pub out-room : (out out' : List ℕ) {n s e : ℕ} {p : Plan} → s < e → e ≤ n → n ≤ length (glyphs out) → length out' ≡ length out → p ≡ out_plan s e (cut n (glyphs out)) → (p.from ≤ p.to) × (p.to ≤ length (glyphs out'))
out-room out out' {n} {p = p} order end fits same ep =
    let o = out-order {run = glyphs out} (record { order = order; end = end; out-fits = fits; inside = le_refl n; fits = fits }) p ep in
    (o.0, omega (arith, o.1, fits, glyphs-same out' out same))

module _ {separate : Bool} {idx len out_length s e : ℕ} {run other run' : List ℕ} {p : Plan} where
  pub written-apart : {other' : List ℕ} → separate ≡ true → p ≡ out_plan s e (cut out_length (glyphs other)) → glyphs run' ≡ merged_head p idx len (glyphs run) → glyphs other' ≡ edit p.from p.to (set_cluster p.lowest 0) (glyphs other) → OutWritten separate idx len out_length s e run other run' other'
  unfolding merged_range
  written-apart k ep er eo = record { p = p; p-is = rw k ep; apart = λ z. (er, eo); within = λ z. absurd (false≢true (sym z ∙ k)) }

  pub written-within : (run₁ : List ℕ) → separate ≡ false → p ≡ out_plan s e (cut out_length (glyphs run)) → glyphs run₁ ≡ merged_head p idx len (glyphs run) → glyphs run' ≡ edit p.from p.to (set_cluster p.lowest 0) (glyphs run₁) → OutWritten separate idx len out_length s e run other run' other
  unfolding merged_range
  written-within run₁ k ep eh er = record { p = p; p-is = rw k ep; apart = λ z. absurd (false≢true (sym k ∙ z)); within = λ z. (er ∙ ap (edit p.from p.to (set_cluster p.lowest 0)) eh, refl) }

-- for the proofs of functions
pub ruleset out_merging = (out-planned, head-some, head-none, head-room)

-- What a merge finds in the clusters of a run, from what its loops say.
use mathlib.Core.{Path.◌≡◌, Path.ap, Path.sym, Path.◌∙◌, Bool.false, Bool.not, Bool.◌&&◌, List.List, List.[], List.◌∷◌, List.◌++◌, List.reverse-append}
use Rattle.std.proofs.Common.{ℕ, suc, ◌+◌, ◌-◌, ◌<◌, ◌≤◌, eqb, length, get_or, take, arith, eq-eqb, ne_eqb}
use lib.Seq.{slice, slice-cons}
use Rattle.records.specs.{Glyphs.Glyph, Ranges.is, Ranges.least, Ranges.first_cluster, Ranges.last_cluster, Ranges.heads, Ranges.tails, Ranges.clusters}
use Rattle.records.proofs.View.{length-clusters}
use Rattle.lists.proofs.Runs.{slice-last}
use Rattle.std.specs.Prelude.{Option}
use Rattle.std.specs.Bool.{then_some}
use Rattle.edits.specs.declared.Plan.{Plan}
use Rattle.edits.specs.Merging.{merge_start, merge_end}
use Rattle.edits.specs.inner.Plans.{MergeRange, merge_plan}
use Rattle.edits.proofs.Holding.{slice-take}

-- ---- the ends of a range
pub first-slice : (s e : ℕ) (cs : List ℕ) → s < e → e ≤ length cs → first_cluster (slice s e cs) ≡ get_or cs s 4294967295
unfolding first_cluster
first-slice s e cs o b = rw (slice-cons s e cs 4294967295 o b)

pub last-slice : (s e : ℕ) (cs : List ℕ) → s < e → e ≤ length cs → last_cluster (slice s e cs) ≡ get_or cs (e - 1) 4294967295
unfolding last_cluster
last-slice s e cs o b =
    let k : e ≡ suc (e - 1) = omega arith in
    let w : slice s e cs ≡ slice s (e - 1) cs ++ (get_or cs (e - 1) 4294967295 ∷ []) =
    ap (λ (n : ℕ). slice s n cs) k ∙ slice-last (is 0) s (e - 1) cs (omega arith) (omega arith) in
    rw (w, reverse-append (slice s (e - 1) cs) (get_or cs (e - 1) 4294967295 ∷ []))

module _ {l : List (Glyph ℕ)} {len s e m : ℕ} (v : MergeRange l len s e m) where
  range-is : slice s e (take len (clusters l)) ≡ slice s e (clusters l)
  range-is = slice-take s e len (clusters l) v.inside

  bound : e ≤ length (clusters l)
  bound = rw (length-clusters l) (omega (arith, v.inside, v.fits))

  first-is : first_cluster (slice s e (clusters l)) ≡ get_or (clusters l) s 4294967295
  first-is = first-slice s e (clusters l) v.order bound

  last-is : last_cluster (slice s e (clusters l)) ≡ get_or (clusters l) (e - 1) 4294967295
  last-is = last-slice s e (clusters l) v.order bound

  pub end_same : {c : ℕ} → c ≡ get_or (clusters l) (e - 1) 4294967295 → c ≡ m → e ≡ merge_end s e (take len (clusters l))
  unfolding merge_end
  end_same {c} ec em = rw (range-is, last-is, ← v.lowest, eq-eqb (get_or (clusters l) (e - 1) 4294967295) m (sym ec ∙ em))

  pub end_more : {c r : ℕ} → c ≡ get_or (clusters l) (e - 1) 4294967295 → (c ≡ m → ⊥) → r ≡ e + heads (is c) (slice e len (clusters l)) → r ≡ merge_end s e (take len (clusters l))
  unfolding merge_end
  end_more {c} {r} ec nm er =
      let t : eqb (get_or (clusters l) (e - 1) 4294967295) m ≡ false = ne_eqb _ _ (λ q. nm (ec ∙ q)) in
      rw (range-is, last-is, ← v.lowest, t, ← ec) er

  pub start-same : (idx : ℕ) {c : ℕ} → c ≡ get_or (clusters l) s 4294967295 → c ≡ m → s ≡ merge_start idx s e (take len (clusters l))
  unfolding merge_start
  start-same idx {c} ec em = rw (range-is, first-is, ← v.lowest, eq-eqb (get_or (clusters l) s 4294967295) m (sym ec ∙ em))

  pub start-more : (idx : ℕ) {c r : ℕ} → c ≡ get_or (clusters l) s 4294967295 → (c ≡ m → ⊥) → r ≡ s - tails (is c) (slice idx s (clusters l)) → r ≡ merge_start idx s e (take len (clusters l))
  unfolding merge_start
  start-more idx {c} {r} ec nm er =
      let t : eqb (get_or (clusters l) s 4294967295) m ≡ false = ne_eqb _ _ (λ q. nm (ec ∙ q)) in
      let o : s < e = v.order in
      let n : e ≤ len = v.inside in
      rw (slice-take idx s len (clusters l) (omega arith), range-is, first-is, ← v.lowest, t, ← ec) er

module _ (l : List (Glyph ℕ)) {len s e : ℕ} (order : s < e) (inside : e ≤ len) (fits : len ≤ length l) where
  planned : (idx : ℕ) {c m from to : ℕ} {a : Option ℕ} → m ≡ least (slice s e (clusters l)) → c ≡ get_or (clusters l) s 4294967295 → from ≡ merge_start idx s e (take len (clusters l)) → to ≡ merge_end s e (take len (clusters l))
      → a ≡ then_some (eqb from idx && not (eqb c m)) c → ◌≡◌ {A = Plan} (record { lowest = m; from = from; to = to; along = a }) (merge_plan idx s e (take len (clusters l)))
  unfolding merge_plan
  planned idx {c} {m} {from} {to} {a} em ec ef et ea =
      let v : MergeRange l len s e m = record { order = order; inside = inside; fits = fits; lowest = em } in
      rw (range-is v, first-is v, ← em, ← ec, ← ef, ← et, ← ea)

  -- by the first of the two tests
  module _ (idx : ℕ) {c m from to : ℕ} {a : Option ℕ} (em : m ≡ least (slice s e (clusters l))) (ec : c ≡ get_or (clusters l) s 4294967295) (ef : from ≡ merge_start idx s e (take len (clusters l))) (et : to ≡ merge_end s e (take len (clusters l))) where
    pub planned-at : from ≡ idx → a ≡ then_some (not (eqb c m)) c → ◌≡◌ {A = Plan} (record { lowest = m; from = from; to = to; along = a }) (merge_plan idx s e (take len (clusters l)))
    planned-at h ea = planned idx em ec ef et (rw (eq-eqb from idx h) ea)

    pub planned-past : (from ≡ idx → ⊥) → a ≡ then_some (eqb from idx) c → ◌≡◌ {A = Plan} (record { lowest = m; from = from; to = to; along = a }) (merge_plan idx s e (take len (clusters l)))
    planned-past h ea = planned idx em ec ef et (rw (ne_eqb from idx h) (rw (ne_eqb from idx h) at ea))

-- for the proofs of functions
pub ruleset planning = (end_same, end_more, start-same, start-more, planned-at, planned-past)

-- Glyphs with and without positions: a deletion does the same to both, in whatever phase.
use mathlib.Core.{Path.◌≡◌, Path.refl, Path.sym, Path.ap, Path.◌∙◌, Bool.Bool, Bool.true, Bool.false, Bool.cond, Bool.◌&&◌, List.List, List.[], List.◌∷◌}
use Rattle.std.proofs.Common.{ℕ, ◌+◌, ◌-◌, ◌<◌, ◌≤◌, zero-le, arith}
use lib.{Dec.ltb, ListN.length, ListN.take, ListN.drop, ListN.get_or, ListN.set, Seq.slice}
use Rattle.records.specs.{Phase, Position, Counters.costs, Glyphs.Glyph, Glyphs.Info, Glyphs.blank, Glyphs.change, Glyphs.with_position, Glyphs.zero_position, Glyphs.set_cluster, Ranges.clusters, Ranges.infos, Ranges.edit, Ranges.is, Ranges.isnt, Ranges.least, Ranges.first_cluster, Ranges.last_cluster, Ranges.tails, View.paired, inner.Stores.zero_glyph}
use Rattle.records.proofs.{View.length-paired, View.length-clusters, Pairs.paired-take, Pairs.paired-drop, Pairs.paired-set, Pairs.paired_at}
use Rattle.lists.specs.{Account.Account, Account.State, Account.in_phase, Account.with_gone, Account.with_limits, Account.input, Account.limiting, Account.paying, Account.with_input, Account.with_done, Cursor.dropping}
use Rattle.edits.specs.{Deleting.current, Deleting.survives, Deleting.inherited, Deleting.merged_forward, Deleting.deleted, Flags.interior, Flags.sought, Flags.flag_interior, Merging.merge_end, Merging.merge_start, Merging.merge_tail, Merging.merged, Merging.merge, Merging.clusters_merge}
use Rattle.records.proofs.Pairs.{cluster-alone, mask-alone}
use Rattle.records.proofs.Apart.{Apart, set_apart, clusters-paired, paired-edit}
use Rattle.edits.proofs.Holding.{same-account}
use Rattle.edits.proofs.MergeLaws.{merge-order}
use Rattle.edits.proofs.Places.{paired-interior}
use Rattle.edits.proofs.Searching.{searching}

-- the glyphs, each with its position where there are positions
unfoldable pub pairing : Bool → List (Glyph ℕ) → List Position → List (Glyph ℕ)
pairing positions l ps = cond positions (paired l ps) l

module _ (t : Bool) (l : List (Glyph ℕ)) (ps : List Position) where
  pub pairing-take : (n : ℕ) → take n (pairing t l ps) ≡ pairing t (take n l) (take n ps)
  unfolding pairing
  pairing-take n = pick t
    where
      pick : (x : Bool) → take n (cond x (paired l ps) l) ≡ cond x (paired (take n l) (take n ps)) (take n l)
      pick true = paired-take n l ps
      pick false = refl

  pub pairing-drop : (n : ℕ) → drop n (pairing t l ps) ≡ pairing t (drop n l) (drop n ps)
  unfolding pairing
  pairing-drop n = pick t
    where
      pick : (x : Bool) → drop n (cond x (paired l ps) l) ≡ cond x (paired (drop n l) (drop n ps)) (drop n l)
      pick true = paired-drop n l ps
      pick false = refl

  pub length-pairing : length (pairing t l ps) ≡ length l
  unfolding pairing
  length-pairing = pick t
    where
      pick : (x : Bool) → length (cond x (paired l ps) l) ≡ length l
      pick true = length-paired l ps
      pick false = refl

  clusters-pairing : clusters (pairing t l ps) ≡ clusters l
  unfolding pairing
  clusters-pairing = pick t
    where
      pick : (x : Bool) → clusters (cond x (paired l ps) l) ≡ clusters l
      pick true = clusters-paired l ps
      pick false = refl

  pairing-edit : (h : Info → Info) → Apart h → (i j : ℕ) → i ≤ j → edit i j h (pairing t l ps) ≡ pairing t (edit i j h l) ps
  unfolding pairing
  pairing-edit h a i j o = pick t
    where
      pick : (x : Bool) → edit i j h (cond x (paired l ps) l) ≡ cond x (paired (edit i j h l) ps) (edit i j h l)
      pick true = sym (paired-edit h a i j l ps o)
      pick false = refl

  pairing-interior : (level m bits i j : ℕ) → i ≤ j → interior level m bits i j (pairing t l ps) ≡ pairing t (interior level m bits i j l) ps
  unfolding pairing
  pairing-interior level m bits i j o = pick t
    where
      pick : (x : Bool) → interior level m bits i j (cond x (paired l ps) l) ≡ cond x (paired (interior level m bits i j l) ps) (interior level m bits i j l)
      pick true = sym (paired-interior level m bits i j l ps o)
      pick false = refl

  -- what does not read the position, of the first glyph
  pub pairing-first : {A : Type 0} (f : Info → A) → ((p : Position) (i : Info) → f (with_position p i) ≡ f i) → f (get_or (infos (pairing t l ps)) 0 (blank 0)) ≡ f (get_or (infos l) 0 (blank 0))
  unfolding pairing infos paired change
  pairing-first {A} f h = pick t l ps
    where
      pick : (x : Bool) (m : List (Glyph ℕ)) (qs : List Position) → f (get_or (infos (cond x (paired m qs) m)) 0 (blank 0)) ≡ f (get_or (infos m) 0 (blank 0))
      pick false m qs = refl
      pick true [] qs = refl
      pick true (g ∷ m) [] = refl
      pick true (g ∷ m) (p ∷ qs) = h p g.info

  -- one glyph in the place of another, with its position
  pub pairing-set : (i k : ℕ) → i < length l → i < length ps → k < length l → k < length ps
      → pairing t (set l k (get_or l i zero_glyph)) (cond t (set ps k (get_or ps i zero_position)) ps) ≡ set (pairing t l ps) k (get_or (pairing t l ps) i zero_glyph)
  unfolding pairing
  pairing-set i k hl hp kl kp = pick t
    where
      pick : (x : Bool) → cond x (paired (set l k (get_or l i zero_glyph)) (cond x (set ps k (get_or ps i zero_position)) ps)) (set l k (get_or l i zero_glyph)) ≡ set (cond x (paired l ps) l) k (get_or (cond x (paired l ps) l) i zero_glyph)
      pick true = paired-set k l ps (get_or l i zero_glyph) (get_or ps i zero_position) kl kp ∙ ap (set (paired l ps) k) (sym (paired_at i l ps hl hp))
      pick false = refl

pub pairing-slice : (t : Bool) (l : List (Glyph ℕ)) (ps : List Position) (i j : ℕ) → slice i j (pairing t l ps) ≡ pairing t (slice i j l) (slice i j ps)
pairing-slice t l ps i j = ap (drop i) (pairing-take t l ps j) ∙ pairing-drop t (take j l) (take j ps) i

-- ---- ranges of a merge
tail-end : (s e : ℕ) (cs ds : List ℕ) → merge_tail 0 s e cs ds ≤ length ds
unfolding merge_tail
tail-end s e cs ds =
    let r : List ℕ = slice s e cs in
    pick (is 0 (merge_start 0 s e cs) && isnt (least r) (first_cluster r)) (tails (is (first_cluster r)) ds)
  where
    pick : (x : Bool) (n : ℕ) → cond x (length ds - n) (length ds) ≤ length ds
    pick true n = omega arith
    pick false n = omega arith

-- ---- the same account with positions, in another phase
unfoldable pub beside : Bool → Phase → ℕ → (ds rs : List Position) → Account ℕ → Account ℕ
beside t p g ds rs a = record { done = pairing t a.done ds; passed = a.passed; rest = pairing t a.rest rs; state = in_phase p (with_gone g a.state) }

-- an account without *passed*
abbrev pub lone : (done rest : List (Glyph ℕ)) → State → Account ℕ
lone d r k = record { done = d; passed = []; rest = r; state = k }

module _ (t : Bool) (p : Phase) (ds rs : List Position) (g : ℕ) where
  cond-beside : (x : Bool) (a b : Account ℕ) → cond x (beside t p g ds rs a) (beside t p g ds rs b) ≡ beside t p g ds rs (cond x a b)
  cond-beside true a b = refl
  cond-beside false a b = refl

  dropping-beside : (a : Account ℕ) → dropping 1 (beside t p g ds rs a) ≡ beside t p (g + 1) ds (drop 1 rs) (dropping 1 a)
  unfolding beside dropping in_phase with_gone
  dropping-beside a = same-account refl refl (pairing-drop t a.rest rs 1) refl

  module _ (d r : List (Glyph ℕ)) (k : State) where
    inherited-beside : (c m : ℕ) → inherited c m (beside t p g ds rs (lone d r k)) ≡ beside t p g ds rs (inherited c m (lone d r k))
    unfolding inherited beside with_done
    inherited-beside c m = rw (clusters-pairing t d ds) (pick (ltb c (last_cluster (clusters d))))
      where
        pick : (x : Bool) → cond x (with_done (edit (length (clusters d) - tails (is (last_cluster (clusters d))) (clusters d)) (length (clusters d)) (set_cluster c m) (pairing t d ds)) (beside t p g ds rs (lone d r k))) (beside t p g ds rs (lone d r k))
            ≡ beside t p g ds rs (cond x (with_done (edit (length (clusters d) - tails (is (last_cluster (clusters d))) (clusters d)) (length (clusters d)) (set_cluster c m) d) (lone d r k)) (lone d r k))
        pick true = same-account (pairing-edit t d ds (set_cluster c m) (set_apart c m) (length (clusters d) - tails (is (last_cluster (clusters d))) (clusters d)) (length (clusters d)) (omega arith)) refl refl refl
        pick false = refl

    merged-beside : (s e : ℕ) → s ≤ e → merged s e (beside t p g ds rs (lone d r k)) ≡ beside t p g ds rs (merged s e (lone d r k))
    unfolding merged beside paying limiting with_done with_input with_limits input in_phase with_gone
    merged-beside s e o =
        let cs : List ℕ = clusters r in
        let h : Info → Info = set_cluster (least (slice s e cs)) 0 in
        let a : Apart h = set_apart (least (slice s e cs)) 0 in
        rw (clusters-pairing t d ds, clusters-pairing t r rs, length-pairing t d ds)
        (same-account {k = with_limits (costs (e - s) k.limits) (in_phase p (with_gone g k))}
        (pairing-edit t d ds h a (merge_tail 0 s e cs (clusters d)) (length d) (omega (arith, tail-end s e cs (clusters d), length-clusters d)))
        refl
        (pairing-edit t r rs h a (merge_start 0 s e cs) (merge_end s e cs) (merge-order 0 s e cs o))
        refl)

    flagged-beside : (bits s e : ℕ) → s ≤ e → flag_interior bits s e (beside t p g ds rs (lone d r k)) ≡ beside t p g ds rs (flag_interior bits s e (lone d r k))
    unfolding flag_interior beside with_input input in_phase with_gone
    flagged-beside bits s e o = rw (clusters-pairing t r rs) (pick (ltb (e - s) 2))
      where
        pick : (x : Bool) → cond x (beside t p g ds rs (lone d r k)) (with_input (interior (searching k) (sought (searching k) (slice s e (clusters r))) bits s e (pairing t r rs)) (beside t p g ds rs (lone d r k)))
            ≡ beside t p g ds rs (cond x (lone d r k) (with_input (interior (searching k) (sought (searching k) (slice s e (clusters r))) bits s e r) (lone d r k)))
        pick true = refl
        pick false = same-account refl refl (pairing-interior t r rs (searching k) (sought (searching k) (slice s e (clusters r))) bits s e o) refl

    merge-beside : (merges : Bool) (s e : ℕ) → s ≤ e → merge merges s e (beside t p g ds rs (lone d r k)) ≡ beside t p g ds rs (merge merges s e (lone d r k))
    unfolding merge
    merge-beside merges s e o = pick (ltb (e - s) 2) merges (ltb 255 (e - s))
      where
        pick : (x y z : Bool) → cond x (beside t p g ds rs (lone d r k)) (cond y (merged s e (beside t p g ds rs (lone d r k))) (cond z (beside t p g ds rs (lone d r k)) (flag_interior 3 s e (beside t p g ds rs (lone d r k)))))
            ≡ beside t p g ds rs (cond x (lone d r k) (cond y (merged s e (lone d r k)) (cond z (lone d r k) (flag_interior 3 s e (lone d r k)))))
        pick true y z = refl
        pick false true z = merged-beside s e o
        pick false false true = refl
        pick false false false = flagged-beside 3 s e o

    forward-beside : merged_forward (beside t p g ds rs (lone d r k)) ≡ beside t p g ds rs (merged_forward (lone d r k))
    unfolding merged_forward beside in_phase with_gone
    forward-beside = rw (length-pairing t r rs) (pick (ltb 1 (length r)))
      where
        pick : (x : Bool) → cond x (merge (clusters_merge k.level) 0 2 (beside t p g ds rs (lone d r k))) (beside t p g ds rs (lone d r k))
            ≡ beside t p g ds rs (cond x (merge (clusters_merge k.level) 0 2 (lone d r k)) (lone d r k))
        pick true = merge-beside (clusters_merge k.level) 0 2 zero-le
        pick false = refl

    -- THE LAW of a deletion
    pub deleted-beside : deleted (beside t p g ds rs (lone d r k)) ≡ beside t p (g + 1) ds (drop 1 rs) (deleted (lone d r k))
    unfolding deleted current beside
    deleted-beside =
        let a : Account ℕ = lone d r k in
        let b : Account ℕ = beside t p g ds rs a in
        let s : Bool = survives (clusters r) (clusters d) in
        let z : Bool = ltb 0 (length d) in
        let c : ℕ = (current a).cluster in
        let m : ℕ = (current a).mask in
        same_tests
        ∙ (ap (dropping 1)
        (ap (λ (x : Account ℕ). cond s b (cond z x (merged_forward b))) (inherited-beside c m)
        ∙ (ap (λ (x : Account ℕ). cond s b (cond z (beside t p g ds rs (inherited c m a)) x)) forward-beside
        ∙ (ap (λ (x : Account ℕ). cond s b x) (cond-beside z (inherited c m a) (merged_forward a))
        ∙ cond-beside s a (cond z (inherited c m a) (merged_forward a)))))
        ∙ dropping-beside (cond s a (cond z (inherited c m a) (merged_forward a))))
      where
        same_tests : deleted (beside t p g ds rs (lone d r k))
            ≡ dropping 1 (cond (survives (clusters r) (clusters d)) (beside t p g ds rs (lone d r k))
            (cond (ltb 0 (length d)) (inherited (current (lone d r k)).cluster (current (lone d r k)).mask (beside t p g ds rs (lone d r k))) (merged_forward (beside t p g ds rs (lone d r k)))))
        same_tests = rw (clusters-pairing t d ds, clusters-pairing t r rs, length-pairing t d ds, pairing-first t r rs (λ i. i.cluster) cluster-alone, pairing-first t r rs (λ i. i.mask) mask-alone)

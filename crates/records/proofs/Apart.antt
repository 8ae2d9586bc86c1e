-- Changes of the words that keep the position, those that keep a key, and those that keep the origin.
use mathlib.Core.{Path.◌≡◌, Path.refl, Path.ap, Bool.Bool, Bool.true, Bool.false, Bool.cond, List.List, List.[], List.◌∷◌, List.map}
use Rattle.std.proofs.Common.{ℕ, zero, suc, ◌+◌, ◌*◌, ◌/◌, ◌%◌, ◌≤◌, zero-le, le_of_suc-le-suc, not-suc-le-zero}
use lib.{Dec.eqb, ListN.replicate}
use Rattle.records.specs.{declared.Position.Position}
use Rattle.records.specs.Glyphs.{Glyph, Info, change, with_position, with_mask, with_cluster, set_cluster, flagged, flagged_unless, key, blank, zero_position}
use Rattle.records.specs.Ranges.{edit, clusters, infos}
use Rattle.records.specs.View.{paired}

-- a change of the words that neither reads nor writes the position
unfoldable pub Apart : (Info → Info) → Type 0
Apart h = (p : Position) (i : Info) → h (with_position p i) ≡ with_position p (h i)

pub set_apart : (c m : ℕ) → Apart (set_cluster c m)
unfolding Apart set_cluster with_position with_mask with_cluster
set_apart c m p i = pick (eqb i.cluster c)
  where
    pick : (b : Bool) → cond b (with_position p i) (with_cluster c (with_mask (i.mask / 8 * 8 + m % 8) (with_position p i))) ≡ with_position p (cond b i (with_cluster c (with_mask (i.mask / 8 * 8 + m % 8) i)))
    pick true = refl
    pick false = refl

pub mark-apart : (bits : ℕ) → Apart (flagged bits)
unfolding Apart flagged with_mask with_position
mark-apart bits p i = refl

pub unless-apart : (c bits : ℕ) → Apart (flagged_unless c bits)
unfolding Apart flagged_unless flagged with_mask with_position
unless-apart c bits p i = pick (eqb i.cluster c)
  where
    pick : (b : Bool) → cond b (with_position p i) (flagged bits (with_position p i)) ≡ with_position p (cond b i (flagged bits i))
    pick true = refl
    pick false = refl

pub clusters-paired : (l : List (Glyph ℕ)) (ps : List Position) → clusters (paired l ps) ≡ clusters l
unfolding clusters paired change with_position
clusters-paired [] ps = refl
clusters-paired (g ∷ l) [] = ap {B = List ℕ} (λ r. g.info.cluster ∷ r) (clusters-paired l [])
clusters-paired (g ∷ l) (p ∷ ps) = ap {B = List ℕ} (λ r. g.info.cluster ∷ r) (clusters-paired l ps)

module _ (h : Info → Info) (a : Apart h) where
  pub paired-edit : (i j : ℕ) (l : List (Glyph ℕ)) (ps : List Position) → i ≤ j → paired (edit i j h l) ps ≡ edit i j h (paired l ps)
  unfolding edit paired change Apart
  paired-edit zero zero l ps o = refl
  paired-edit zero (suc j) [] ps o = refl
  paired-edit zero (suc j) (g ∷ l) [] o = ap {B = List (Glyph ℕ)} (λ r. change h g ∷ r) (paired-edit zero j l [] zero-le)
  paired-edit zero (suc j) (g ∷ l) (p ∷ ps) o = rw (← a p g.info) (ap {B = List (Glyph ℕ)} (λ r. change h (change (with_position p) g) ∷ r) (paired-edit zero j l ps zero-le))
  paired-edit (suc i) zero l ps o = absurd (not-suc-le-zero o)
  paired-edit (suc i) (suc j) [] ps o = refl
  paired-edit (suc i) (suc j) (g ∷ l) [] o = ap {B = List (Glyph ℕ)} (λ r. g ∷ r) (paired-edit i j l [] (le_of_suc-le-suc o))
  paired-edit (suc i) (suc j) (g ∷ l) (p ∷ ps) o = ap {B = List (Glyph ℕ)} (λ r. change (with_position p) g ∷ r) (paired-edit i j l ps (le_of_suc-le-suc o))

pub mask-apart : (m : ℕ) → Apart (with_mask m)
unfolding Apart with_mask with_position
mask-apart m p i = refl

pub mask-cluster : (m : ℕ) (i : Info) → (with_mask m i).cluster ≡ i.cluster
unfolding with_mask
mask-cluster m i = refl

-- zero glyphs have the position zero already
pub paired-zeros : (n : ℕ) → paired (replicate n (record { glyph = 0; info = blank 0 })) (replicate n zero_position) ≡ replicate n (record { glyph = 0; info = blank 0 })
unfolding paired change with_position blank
paired-zeros zero = refl
paired-zeros (suc n) = ap {B = List (Glyph ℕ)} (λ r. record { glyph = 0; info = blank 0 } ∷ r) (paired-zeros n)

module _ (f : Info → ℕ) (bare : (p : Position) (i : Info) → f (with_position p i) ≡ f i) where
  pub words-paired : (l : List (Glyph ℕ)) (ps : List Position) → map f (infos (paired l ps)) ≡ map f (infos l)
  unfolding infos paired change
  words-paired [] ps = refl
  words-paired (g ∷ l) [] = ap {B = List ℕ} (λ r. f g.info ∷ r) (words-paired l [])
  words-paired (g ∷ l) (p ∷ ps) = rw (bare p g.info) (ap {B = List ℕ} (λ r. f g.info ∷ r) (words-paired l ps))

-- ---- the changes that leave a key alone
module _ (slot mask : ℕ) where
  pub key_set : (c m : ℕ) (i : Info) → key slot mask (set_cluster c m i) ≡ key slot mask i
  unfolding key set_cluster with_cluster with_mask
  key_set c m i = pick (eqb i.cluster c)
    where
      pick : (b : Bool) → key slot mask (cond b i (with_cluster c (with_mask (i.mask / 8 * 8 + m % 8) i))) ≡ key slot mask i
      pick true = refl
      pick false = refl

  pub key-flagged : (bits : ℕ) (i : Info) → key slot mask (flagged bits i) ≡ key slot mask i
  unfolding key flagged with_mask
  key-flagged bits i = refl

  pub key-unless : (c bits : ℕ) (i : Info) → key slot mask (flagged_unless c bits i) ≡ key slot mask i
  unfolding key flagged_unless flagged with_mask
  key-unless c bits i = pick (eqb i.cluster c)
    where
      pick : (b : Bool) → key slot mask (cond b i (flagged bits i)) ≡ key slot mask i
      pick true = refl
      pick false = refl

-- ---- the changes that leave the origin alone
module _ (i : Info) where
  pub origin-cond : (b : Bool) (x y : Info) → x.origin ≡ i.origin → y.origin ≡ i.origin → (cond b x y).origin ≡ i.origin
  origin-cond true x y p q = p
  origin-cond false x y p q = q

  pub origin-mask : (m : ℕ) → (with_mask m i).origin ≡ i.origin
  unfolding with_mask
  origin-mask m = refl

  pub origin-cluster : (c : ℕ) → (with_cluster c i).origin ≡ i.origin
  unfolding with_cluster
  origin-cluster c = refl

  pub origin-set : (c m : ℕ) → (set_cluster c m i).origin ≡ i.origin
  unfolding set_cluster with_cluster with_mask
  origin-set c m = search origin-cond

  pub origin-flagged : (bits : ℕ) → (flagged bits i).origin ≡ i.origin
  unfolding flagged with_mask
  origin-flagged bits = refl

  pub origin-unless : (c bits : ℕ) → (flagged_unless c bits i).origin ≡ i.origin
  unfolding flagged_unless flagged with_mask
  origin-unless c bits = search origin-cond

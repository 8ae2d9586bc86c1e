-- Groups of neighbours: where each ends, and that they go by one word of each glyph.
use mathlib.Core.{Path.◌≡◌, Path.refl, Path.ap, Path.ap₂, Path.sym, Path.◌∙◌, Bool.Bool, Bool.true, Bool.false, Bool.cond, List.List, List.[], List.◌∷◌, List.map}
use Rattle.std.proofs.Common.{ℕ, suc, ◌+◌, ◌-◌, ◌<◌, ◌≤◌, add-one, arith, eqb-true}
use lib.{ListN.take, ListN.drop, ListN.length, ListN.get_or, ListN.length-map, ListN.length-drop, ListN.drop_of_length-le, ListN.get_or-map, Seq.slice, Seq.drop-cons, Seq.drop-drop, Seq.get_or-take, Seq.length-take-le}
use Rattle.records.specs.{Phase, Position, Glyphs.Info, Glyphs.with_position, Glyphs.blank, Glyphs.key, Ranges.infos, Ranges.clusters, Ranges.heads, Ranges.is, Ranges.isnt, View.glyphs, View.positions_in}
use Rattle.lists.specs.{Account.spoiled_phase, Contract.shown}
use Rattle.lists.proofs.{Runs.heads-le, Infos.map-drop, Infos.words_take, Infos.clusters-infos, Accounts.length-shown}
use Rattle.edits.specs.{Groups.joins, Groups.group_sizes, Groups.same_cluster, Groups.continues, inner.Reversals.Group, inner.Reversals.EndsGroup}
use Rattle.records.proofs.Pairs.{key-alone, cluster-alone}
use Rattle.lists.proofs.Showing.{on-shown}
use Rattle.records.proofs.Apart.{words-paired}

-- ---- the first group. In it, p goes by q of f of the glyph that follows
module _ (p : Info → Info → Bool) (f : Info → ℕ) (q : ℕ → Bool) (goes : (x y : Info) → q (f x) ≡ true → p x y ≡ q (f y)) where
  first_group : (x : Info) (l : List Info) → ((y : Info) → p x y ≡ q (f y)) → group_sizes p (x ∷ l) ≡ suc (heads q (map f l)) ∷ group_sizes p (drop (heads q (map f l)) l)
  unfolding group_sizes joins heads
  first_group x [] e = refl
  first_group x (y ∷ l) e = rw (e y) (by (q (f y)) (λ h. first_group y l (λ z. goes y z h)))
    where
      by : (b : Bool) → (b ≡ true → group_sizes p (y ∷ l) ≡ suc (heads q (map f l)) ∷ group_sizes p (drop (heads q (map f l)) l))
          → joins b (group_sizes p (y ∷ l)) ≡ suc (cond b (suc (heads q (map f l))) 0) ∷ group_sizes p (drop (cond b (suc (heads q (map f l))) 0) (y ∷ l))
      by true ih = rw (ih refl)
      by false ih = refl

  -- the group that starts at s
  group_at : (l : List Info) (s e : ℕ) (d : Info) → s < length l → ((y : Info) → p (get_or l s d) y ≡ q (f y)) → e ≡ s + 1 + heads q (map f (drop (suc s) l))
      → (s < e) × (e ≤ length l) × (group_sizes p (drop s l) ≡ (e - s) ∷ group_sizes p (drop e l))
  group_at l s e d o first ee =
      let h : ℕ = heads q (map f (drop (suc s) l)) in
      let most : h ≤ length l - suc s = rw (length-map (drop (suc s) l) f, length-drop (suc s) l) at (heads-le q (map f (drop (suc s) l))) in
      let wide : suc h ≡ e - s = omega (arith, ee) in
      let end : suc s + h ≡ e = omega (arith, ee) in (
        omega (arith, ee),
        omega (arith, ee, most),
        ap (group_sizes p) (drop-cons l s d o)
            ∙ (first_group (get_or l s d) (drop (suc s) l) first
            ∙ ap₂ {C = List ℕ} (λ (n : ℕ) (r : List Info). n ∷ group_sizes p r) wide (drop-drop h (suc s) l ∙ ap (λ (n : ℕ). drop n l) end)),
      )

-- ---- what a view of the run does not change
module _ (f : Info → ℕ) (bare : (p : Position) (i : Info) → f (with_position p i) ≡ f i) where
  pub words-shown : (p : Phase) (run other : List ℕ) → spoiled_phase p ≡ false → map f (infos (shown p run other)) ≡ map f (infos (glyphs run))
  words-shown p run other h = on-shown (λ x. map f (infos (x run other)) ≡ map f (infos (glyphs run))) p h refl (words-paired f bare (glyphs run) (positions_in other))

module _ (phase : Phase) (run other : List ℕ) {len : ℕ} (clean : spoiled_phase phase ≡ false) (fits : len ≤ length (glyphs run)) where
  length_seen : length (infos (take len (shown phase run other))) ≡ len
  unfolding infos
  length_seen = length-map (take len (shown phase run other)) (λ g. g.info) ∙ length-take-le len (shown phase run other) (rw (length-shown phase run other clean) fits)

  -- none from the end on
  pub no-group : (p : Info → Info → Bool) → group_sizes p (drop len (infos (take len (shown phase run other)))) ≡ []
  unfolding group_sizes
  no-group p =
      let b : length (infos (take len (shown phase run other))) ≤ len = omega (arith, length_seen) in
      rw (drop_of_length-le (infos (take len (shown phase run other))) b)

  module _ (f : Info → ℕ) (bare : (p : Position) (i : Info) → f (with_position p i) ≡ f i) where
    pub seen-words : map f (infos (take len (shown phase run other))) ≡ take len (map f (infos (glyphs run)))
    seen-words = words_take f len (shown phase run other) ∙ ap (take len) (words-shown f bare phase run other clean)

    seen-from : (n : ℕ) → map f (drop n (infos (take len (shown phase run other)))) ≡ slice n len (map f (infos (glyphs run)))
    seen-from n = map-drop f n (infos (take len (shown phase run other))) ∙ ap (drop n) seen-words

    group-seen : (p : Info → Info → Bool) (q : ℕ → Bool) → ((x y : Info) → q (f x) ≡ true → p x y ≡ q (f y)) → {s e : ℕ} (d : Info) → s < len
        → ((y : Info) → p (get_or (infos (take len (shown phase run other))) s d) y ≡ q (f y)) → e ≡ s + 1 + heads q (slice (s + 1) len (map f (infos (glyphs run)))) → Group p (shown phase run other) len s e
    group-seen p q goes {s} {e} d o first ee =
        let l : List Info = infos (take len (shown phase run other)) in
        let ks : slice (s + 1) len (map f (infos (glyphs run))) ≡ map f (drop (suc s) l) = rw add-one (sym (seen-from (suc s))) in
        let g : (s < e) × (e ≤ length l) × (group_sizes p (drop s l) ≡ (e - s) ∷ group_sizes p (drop e l)) =
        group_at p f q goes l s e d (rw length_seen o) first (ee ∙ ap (λ (r : List ℕ). s + 1 + heads q r) ks) in
        record { after = g.0; inside = rw length_seen at g.1; is = g.2 }

  -- THE LAWS of the two groupings
  pub grapheme-group : (slot mask : ℕ) {s e : ℕ} → s < len → e ≡ s + 1 + heads (isnt 0) (slice (s + 1) len (map (key slot mask) (infos (glyphs run)))) → Group (continues slot mask) (shown phase run other) len s e
  grapheme-group slot mask o ee = group-seen (key slot mask) (key-alone slot mask) (continues slot mask) (isnt 0) (λ x y h. refl) (blank 0) o (λ y. refl) ee

  pub cluster-group : {s e : ℕ} → s < len → e ≡ s + 1 + heads (is (get_or (clusters (glyphs run)) s 4294967295)) (slice (s + 1) len (clusters (glyphs run))) → Group same_cluster (shown phase run other) len s e
  unfolding blank
  cluster-group {s} {e} o ee =
      group-seen (λ i. i.cluster) cluster-alone same_cluster (is c) goes (blank 4294967295) o (λ y. ap (λ (n : ℕ). is n y.cluster) first)
      (ee ∙ ap (λ (r : List ℕ). s + 1 + heads (is c) (slice (s + 1) len r)) (clusters-infos (glyphs run)))
    where
      c : ℕ
      c = get_or (clusters (glyphs run)) s 4294967295

      goes : (x y : Info) → is c x.cluster ≡ true → same_cluster x y ≡ is c y.cluster
      goes x y h = ap (λ (n : ℕ). is n y.cluster) (eqb-true x.cluster c h)

      first : (get_or (infos (take len (shown phase run other))) s (blank 4294967295)).cluster ≡ c
      first = sym (get_or-map (λ i. i.cluster) (infos (take len (shown phase run other))) s (blank 4294967295))
          ∙ (ap (λ (r : List ℕ). get_or r s 4294967295) (seen-words (λ i. i.cluster) cluster-alone)
          ∙ (get_or-take len (map (λ i. i.cluster) (infos (glyphs run))) s 4294967295 o
          ∙ ap (λ (r : List ℕ). get_or r s 4294967295) (sym (clusters-infos (glyphs run)))))

-- where the group at place s ends, whatever shows the run
module _ {run : List ℕ} {len s e : ℕ} (w : (s < len) × (len ≤ length (glyphs run))) where
  pub ends-grapheme : (slot mask : ℕ) → e ≡ s + 1 + heads (isnt 0) (slice (s + 1) len (map (key slot mask) (infos (glyphs run)))) → EndsGroup (continues slot mask) run s len e
  ends-grapheme slot mask ee = record { is = λ phase other clean. grapheme-group phase run other clean w.1 slot mask w.0 ee }

  pub ends-cluster : e ≡ s + 1 + heads (is (get_or (clusters (glyphs run)) s 4294967295)) (slice (s + 1) len (clusters (glyphs run))) → EndsGroup same_cluster run s len e
  ends-cluster ee = record { is = λ phase other clean. cluster-group phase run other clean w.1 w.0 ee }

-- ---- groups go by f alone
-- the same of numbers
counted : (ℕ → ℕ → Bool) → List ℕ → List ℕ
counted r [] = []
counted r (x ∷ []) = 1 ∷ []
counted r (x ∷ (y ∷ ys)) = joins (r x y) (counted r (y ∷ ys))

module _ (r : ℕ → ℕ → Bool) (f : Info → ℕ) where
  sizes-counted : (l : List Info) → group_sizes (λ x y. r (f x) (f y)) l ≡ counted r (map f l)
  unfolding group_sizes counted
  sizes-counted [] = refl
  sizes-counted (x ∷ []) = refl
  sizes-counted (x ∷ (y ∷ l)) = ap (joins (r (f x) (f y))) (sizes-counted (y ∷ l))

  sizes-same : (n : ℕ) (l m : List Info) → map f l ≡ map f m → group_sizes (λ x y. r (f x) (f y)) (drop n l) ≡ group_sizes (λ x y. r (f x) (f y)) (drop n m)
  sizes-same n l m e =
      sizes-counted (drop n l)
      ∙ (ap (counted r) (map-drop f n l ∙ (ap (drop n) e ∙ sym (map-drop f n m)))
      ∙ sym (sizes-counted (drop n m)))

pub graphemes-same : (slot mask n : ℕ) (l m : List Info) → map (key slot mask) l ≡ map (key slot mask) m → group_sizes (continues slot mask) (drop n l) ≡ group_sizes (continues slot mask) (drop n m)
graphemes-same slot mask n l m e = sizes-same (λ x y. isnt 0 y) (key slot mask) n l m e

pub clusters-same : (n : ℕ) (l m : List Info) → map (λ i. i.cluster) l ≡ map (λ i. i.cluster) m → group_sizes same_cluster (drop n l) ≡ group_sizes same_cluster (drop n m)
clusters-same n l m e = sizes-same (λ x y. is x y) (λ i. i.cluster) n l m e

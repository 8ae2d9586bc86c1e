-- One word of each glyph, or a number made of its words: f of the infos of a list.
use mathlib.Core.{Path.◌≡◌, Path.refl, Path.ap, Path.sym, Path.◌∙◌, List.List, List.[], List.◌∷◌, List.map}
use Prim.Native.Nat.{ℕ, zero, suc, ◌≤◌, ◌<◌, zero-le}
use native.Mathlib.Nat.{le_of_suc-le-suc, not-suc-le-zero}
use lib.{ListN.take, ListN.drop, ListN.length, ListN.get_or}
use Rattle.records.specs.{Glyphs.Glyph, Glyphs.Info, Glyphs.change, Ranges.infos, Ranges.clusters, Ranges.edit, inner.Stores.zero_glyph}
use Rattle.records.proofs.Renaming.{take-map, drop-map}

module _ {A B : Type 0} (f : A → B) where
  pub map-take : (n : ℕ) (l : List A) → map f (take n l) ≡ take n (map f l)
  map-take n l = sym (take-map f n l)

  pub map-drop : (n : ℕ) (l : List A) → map f (drop n l) ≡ drop n (map f l)
  map-drop n l = sym (drop-map f n l)

module _ {G : Type 0} where
  pub infos-take : (n : ℕ) (l : List (Glyph G)) → infos (take n l) ≡ take n (infos l)
  unfolding infos
  infos-take n l = map-take (λ (g : Glyph G). g.info) n l

  pub infos-drop : (n : ℕ) (l : List (Glyph G)) → infos (drop n l) ≡ drop n (infos l)
  unfolding infos
  infos-drop n l = map-drop (λ (g : Glyph G). g.info) n l

  pub clusters-infos : (l : List (Glyph G)) → clusters l ≡ map (λ i. i.cluster) (infos l)
  unfolding clusters infos
  clusters-infos [] = refl
  clusters-infos (x ∷ l) = ap {B = List ℕ} (λ r. x.info.cluster ∷ r) (clusters-infos l)

  module _ (f : Info → ℕ) where
    pub length-words : (l : List (Glyph G)) → length (map f (infos l)) ≡ length l
    unfolding infos
    length-words [] = refl
    length-words (x ∷ l) = ap suc (length-words l)

    pub words_take : (n : ℕ) (l : List (Glyph G)) → map f (infos (take n l)) ≡ take n (map f (infos l))
    words_take n l = ap (map f) (infos-take n l) ∙ map-take f n (infos l)

    pub words-drop : (n : ℕ) (l : List (Glyph G)) → map f (infos (drop n l)) ≡ drop n (map f (infos l))
    words-drop n l = ap (map f) (infos-drop n l) ∙ map-drop f n (infos l)

    -- an edit that leaves f alone
    pub words-edit : (h : Info → Info) → ((x : Info) → f (h x) ≡ f x) → (i j : ℕ) (l : List (Glyph G)) → i ≤ j → map f (infos (edit i j h l)) ≡ map f (infos l)
    unfolding infos edit change
    words-edit h e zero zero l o = refl
    words-edit h e zero (suc j) [] o = refl
    words-edit h e zero (suc j) (x ∷ l) o = rw (e x.info) (ap {B = List ℕ} (λ r. f x.info ∷ r) (words-edit h e zero j l zero-le))
    words-edit h e (suc i) zero l o = absurd (not-suc-le-zero o)
    words-edit h e (suc i) (suc j) [] o = refl
    words-edit h e (suc i) (suc j) (x ∷ l) o = ap {B = List ℕ} (λ r. f x.info ∷ r) (words-edit h e i j l (le_of_suc-le-suc o))

-- whatever stands past the end
pub word_of : (f : Info → ℕ) (l : List (Glyph ℕ)) (i d : ℕ) → i < length l → f (get_or l i zero_glyph).info ≡ get_or (map f (infos l)) i d
unfolding infos
word_of f [] i d o = absurd (not-suc-le-zero o)
word_of f (x ∷ l) zero d o = refl
word_of f (x ∷ l) (suc i) d o = word_of f l i d (le_of_suc-le-suc o)

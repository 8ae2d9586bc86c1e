-- What lies in a slice of glyphs, as structs and as they are seen: zeros, and the other way round.
use mathlib.Core.{Path.◌≡◌, Path.refl, Path.sym, Path.ap, Path.◌∙◌, List.List, List.[], List.◌++◌, List.map, List.reverse}
use Prim.Native.Nat.{ℕ, ◌-◌, ◌≤◌}
use lib.ListN.{length, take, drop, replicate, length-map}
use lib.Seq.{slice}
use Rattle.records.specs.Glyphs.{blank}
use Rattle.records.specs.View.{glyphs, seen, stored, glyph_of}
use Rattle.records.specs.inner.Stores.{blank_info}
use Rattle.records.proofs.Renaming.{take-map, drop-map, append-map, reverse-map, replicate-map}
use Rattle.records.proofs.StoredLaws.{glyphs-seen}
use Rattle.lists.specs.inner.Filled.{filled}
use Rattle.lists.specs.inner.Turned.{turned}

module _ {A B : Type 0} (f : A → B) where
  filled-map : (v : A) (s e : ℕ) (l : List A) → filled (f v) s e (map f l) ≡ map f (filled v s e l)
  unfolding filled
  filled-map v s e l = rw (take-map f s l, drop-map f e l, replicate-map f (e - s) v, append-map f (replicate (e - s) v) (drop e l), append-map f (take s l) (replicate (e - s) v ++ drop e l)) refl

  slice-map : (s e : ℕ) (l : List A) → slice s e (map f l) ≡ map f (slice s e l)
  slice-map s e l = rw (take-map f e l) (drop-map f s (take e l))

  flipped : (k : List A) → reverse (map f k) ≡ map f (reverse k)
  flipped k = reverse-map f k []

  turned-map : (s e : ℕ) (l : List A) → turned s e (map f l) ≡ map f (turned s e l)
  unfolding turned
  turned-map s e l = rw (take-map f s l, slice-map s e l, flipped (slice s e l), drop-map f e l, append-map f (reverse (slice s e l)) (drop e l), append-map f (take s l) (reverse (slice s e l) ++ drop e l)) refl

-- the structs of a slice of glyphs are as many as the glyphs
pub structs-fit : (ws : List ℕ) {e : ℕ} → e ≤ length (glyphs ws) → e ≤ length (map stored (glyphs ws))
structs-fit ws h = rw (length-map (glyphs ws) stored) h

seen-zero : seen blank_info ≡ record { glyph = 0; info = blank 0 }
unfolding seen blank_info glyph_of blank
seen-zero = refl

module _ (ws ws' : List ℕ) (s e : ℕ) where
  pub zeros-seen : map stored (glyphs ws') ≡ filled blank_info s e (map stored (glyphs ws)) → glyphs ws' ≡ filled (record { glyph = 0; info = blank 0 }) s e (glyphs ws)
  zeros-seen h =
      sym (glyphs-seen ws') ∙ (ap (map seen) h ∙ (sym (filled-map seen blank_info s e (map stored (glyphs ws))) ∙ rw (seen-zero, glyphs-seen ws) refl))

  pub turned-seen : map stored (glyphs ws') ≡ turned s e (map stored (glyphs ws)) → glyphs ws' ≡ turned s e (glyphs ws)
  turned-seen h = sym (glyphs-seen ws') ∙ (ap (map seen) h ∙ (sym (turned-map seen s e (map stored (glyphs ws))) ∙ ap (turned s e) (glyphs-seen ws)))

-- for the proofs of functions
pub ruleset storing = (structs-fit, zeros-seen, turned-seen)

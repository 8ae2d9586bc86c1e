-- A loop that goes down and joins the low bits of masks.
use mathlib.Core.{Path.◌≡◌, Path.ap, Path.ap₂, Path.sym, Path.◌∙◌, List.List, List.[], List.◌∷◌, List.map}
use Prim.Native.Nat.{ℕ, suc, ◌-◌, ◌%◌, ◌≤◌, ◌<◌}
use native.Mathlib.Omega.{arith}
use lib.{Bits.bit_or, Bits.or_lt, ListN.length, ListN.get_or, Seq.slice, Seq.slice_empty, Seq.slice-cons}
use Rattle.records.specs.{Glyphs.Glyph, Glyphs.Info, Ranges.infos, inner.Stores.zero_glyph}
use Rattle.lists.specs.inner.Masks.{joined_low}
use Rattle.lists.proofs.Infos.{length-words, word_of}

joined-lt : (ms : List ℕ) → joined_low ms < 8
unfolding joined_low
joined-lt [] = omega arith
joined-lt (m ∷ ms) = or_lt 3 (m % 8) (joined_low ms) (omega arith) (joined-lt ms)

pub joined-below : {x : ℕ} (ms : List ℕ) → x ≡ joined_low ms → x < 8
joined-below ms e = rw e (joined-lt ms)

abbrev masks : List (Glyph ℕ) → List ℕ
masks l = map (λ (j : Info). j.mask) (infos l)

-- x is what those from i on come to
pub record Joining (l : List (Glyph ℕ)) (s e x i : ℕ) : Type 0 where
  pub low : s ≤ i
  pub high : i ≤ e
  pub fits : e ≤ length l
  pub is : x ≡ joined_low (slice i e (masks l))

module _ {l : List (Glyph ℕ)} {s e : ℕ} where
  pub joining-none : s ≤ e → e ≤ length l → Joining l s e 0 e
  unfolding joined_low
  joining-none o b = record { low = o; high = omega arith; fits = b; is = rw (slice_empty e (masks l)) }

  pub joining-more : {x i m : ℕ} → Joining l s e x i → s < i → m ≡ (get_or l (i - 1) zero_glyph).info.mask → Joining l s e (bit_or (m % 8) x) (i - 1)
  unfolding joined_low
  joining-more {x} {i} {m} v o em =
      let ms : List ℕ = masks l in
      let k : suc (i - 1) ≡ i = omega arith in
      let high : i ≤ e = v.high in
      let fits : e ≤ length l = v.fits in
      let b : e ≤ length ms = rw (length-words (λ (j : Info). j.mask) l) fits in
      let read : m ≡ get_or ms (i - 1) 0 = em ∙ word_of (λ (j : Info). j.mask) l (i - 1) 0 (omega arith) in
      let first : slice (i - 1) e ms ≡ get_or ms (i - 1) 0 ∷ slice (suc (i - 1)) e ms = slice-cons (i - 1) e ms 0 (omega arith) b in
      let rest : joined_low (slice (i - 1) e ms) ≡ bit_or (get_or ms (i - 1) 0 % 8) (joined_low (slice i e ms)) =
      ap joined_low first ∙ ap (λ (n : ℕ). bit_or (get_or ms (i - 1) 0 % 8) (joined_low (slice n e ms))) k in
      record { low = omega arith; high = omega arith; fits = fits; is = ap₂ (λ (c y : ℕ). bit_or (c % 8) y) read v.is ∙ sym rest }

  pub joining-done : {x i : ℕ} → Joining l s e x i → i ≤ s → x ≡ joined_low (slice s e (masks l))
  joining-done {x} {i} v o =
      let k : i ≡ s = omega arith in
      rw k at v.is

-- for the proofs of functions
pub ruleset joining = (joining-none, joining-more, joining-done)

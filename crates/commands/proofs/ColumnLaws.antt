-- The glyph column of a line, found and taken out.
use mathlib.Core.{Path.◌≡◌, Path.refl, Path.ap, Path.sym, Path.◌∙◌, Bool.Bool, Bool.true, Bool.false, Bool.cond, Bool.not, List.List, List.[], List.◌∷◌}
use Prim.Native.Nat.{ℕ, suc, ◌+◌, ◌-◌, ◌<◌, ◌≤◌}
use native.Mathlib.Omega.{arith}
use lib.{ListN.length, ListN.get_or, ListN.set, ListN.take, ListN.drop, ListN.length-set, ListN.length-drop, Seq.take_all, Seq.drop-cons, Seq.drop-drop, Seq.drop-set-lt, Seq.get_or-set_same}
use borrow.Author.Tests.{ltb-false}
use Rattle.std.specs.Prelude.{◌==◌, nat_lt, Option, Some, None, position}
use Rattle.std.specs.{List.position_or_len, Option.unwrap_or}
use Rattle.commands.specs.Totals.{is_glyph_kind}
use Rattle.commands.specs.{Texts.from_space, Texts.without_glyph, inner.TextParts.Spaced, inner.TextParts.Cut}
use Rattle.commands.proofs.Readings.{next}

-- ---- the next space
abbrev spaces : List ℕ → ℕ
spaces l = position_or_len (λ x. x == 32) l

space-at : (l : List ℕ) → (drop (spaces l) l ≡ from_space l) × (spaces l ≤ length l)
unfolding from_space
space-at [] = (refl, omega arith)
space-at (c ∷ l) = by (c == 32) (space-at l)
  where
    by : (t : Bool) → (drop (spaces l) l ≡ from_space l) × (spaces l ≤ length l) → (drop (cond (not t) (1 + spaces l) 0) (c ∷ l) ≡ cond t (c ∷ l) (from_space l)) × (cond (not t) (1 + spaces l) 0 ≤ suc (length l))
    by true r = (refl, omega arith)
    by false r = (let e : 1 + spaces l ≡ suc (spaces l) = omega arith in rw e r.0, omega arith)

first-space : (l : List ℕ) → unwrap_or (position (λ x. x == 32) l) (length l) ≡ spaces l
first-space l = by (nat_lt (spaces l) (length l)) refl
  where
    by : (t : Bool) → nat_lt (spaces l) (length l) ≡ t → unwrap_or (cond t (Some (spaces l)) None) (length l) ≡ spaces l
    by true e = refl
    by false e = let past : length l ≤ spaces l = ltb-false _ _ e in omega (arith, (space-at l).1)

pub spaced : {l : List ℕ} {from : ℕ} {r : Option ℕ} {k : ℕ} → from ≤ length l → r ≡ position (λ x. x == 32) (take (length l - from) (drop from l))
    → k ≡ unwrap_or r (length (take (length l - from) (drop from l))) → Spaced l from (from + k)
spaced {l} {from} {r} {k} h er ek =
    let all : take (length l - from) (drop from l) ≡ drop from l = take_all (length l - from) (drop from l) (rw (length-drop from l) (omega arith)) in
    let is : k ≡ spaces (drop from l) = ek ∙ rw (er, all) (first-space (drop from l)) in
    let at = space-at (drop from l) in
    let fits : spaces (drop from l) ≤ length l - from = rw (length-drop from l) at at.1 in
    record { is = rw (is, ← drop-drop) at.0; low = omega arith; high = omega (arith, is) }

-- ---- the column taken out
-- a byte put right before a place
cut_at : (l : List ℕ) (p x : ℕ) → 2 ≤ p → p ≤ length l → drop (p - 1) (set l (p - 1) x) ≡ x ∷ drop p l
cut_at l p x low high =
    let i : ℕ = p - 1 in
    let e : suc i ≡ p = omega arith in
    let in-l : i < length l = omega arith in
    let in-set : i < length (set l i x) = rw (length-set) in-l in
    drop-cons (set l i x) i 0 in-set ∙ rw (get_or-set_same l i x 0 in-l, drop-set-lt (suc i) l i x (omega arith), e)

one_byte : (x : ℕ) (t : Bool) → x ∷ cond t (from_space []) [] ≡ x ∷ []
unfolding from_space
one_byte x true = refl
one_byte x false = refl

few_bytes : (l : List ℕ) → length l < 2 → l ≡ without_glyph l
unfolding without_glyph
few_bytes [] k = refl
few_bytes (x ∷ []) k = sym (one_byte x (is_glyph_kind x))
few_bytes (x ∷ (y ∷ l)) k = absurd (omega arith)

pub cut_short : {l : List ℕ} → length l < 2 → Cut without_glyph l 0 l
cut_short {l} h = record { is = few_bytes l h; inside = omega arith }

module _ {l : List ℕ} (long : 2 ≤ length l) {t : Bool} (e : t ≡ is_glyph_kind (get_or l 0 0)) where
  parts : l ≡ get_or l 0 0 ∷ drop 1 l
  parts = next l 0 1 (omega arith) refl

  pub cut-plain : t ≡ false → Cut without_glyph l 0 l
  unfolding without_glyph
  cut-plain f = record { is = sym (ap without_glyph parts ∙ rw (← e, f) (sym parts)); inside = omega arith }

  pub cut-glyph : {p : ℕ} → t ≡ true → Spaced l 2 p → Cut without_glyph l (p - 1) (set l (p - 1) (get_or l 0 0))
  unfolding without_glyph
  cut-glyph {p} f v =
      let here : drop (p - 1) (set l (p - 1) (get_or l 0 0)) ≡ get_or l 0 0 ∷ drop p l = cut_at l p (get_or l 0 0) v.low v.high in
      let column : without_glyph l ≡ get_or l 0 0 ∷ from_space (drop 1 (drop 1 l)) = ap without_glyph parts ∙ rw (← e, f) in
      record {
        is = here ∙ (ap (λ (k : List ℕ). get_or l 0 0 ∷ k) (v.is ∙ ap from_space (sym (drop-drop 1 1 l))) ∙ sym column);
        inside = omega (arith, v.high);
      }

pub ruleset cuts = (cut_short, cut-plain, cut-glyph)

-- What harfrust has of a line: its first fields, found by their spaces.
use mathlib.Core.{Path.◌≡◌, Path.refl, Path.sym, Path.ap, Path.◌∙◌, Bool.Bool, Bool.cond, Bool.true, Bool.false, List.List, List.[], List.◌∷◌, List.◌++◌}
use Rattle.std.proofs.Common.{ℕ, zero, suc, ◌+◌, ◌-◌, ◌<◌, ◌≤◌, add-one, arith, le-ltb, lt-ltb, eq-eqb, ne_eqb}
use Rattle.std.specs.List.{starts_with, enumerate_from, filter, slice_get}
use Rattle.std.specs.Prelude.{Option, Some, None}
use Rattle.std.specs.Option.{option_map}
use Rattle.std.proofs.lemmas.{Bool.Decides.Decides-eqb, Slice.Eq.starts_is}
use lib.{Dec.eqb, Dec.ltb, ListN.length, ListN.get_or, ListN.take, ListN.drop, ListN.set, Seq.take-suc-set}
use Rattle.commands.specs.Texts.{Prints}
use Rattle.replay.proofs.Bytes.{printed}
use Rattle.replay.specs.Lines.{space_at, first_fields, known, theirs, Checked}
use Rattle.replay.specs.declared.Tally.{Tally}

-- ---- spaces
-- the spaces of a line, each with its place, whose first byte stands at k
abbrev pub is-space : ℕ × ℕ → Bool
is-space p = eqb p.1 32

abbrev pub spaces : ℕ → List ℕ → List (ℕ × ℕ)
spaces k line = filter is-space (enumerate_from k line)

-- the one that was sought, or none
abbrev pub Sought : (k n : ℕ) → List ℕ → Option (ℕ × ℕ) → Type 0
Sought k n line None = length line ≡ space_at n line
Sought k n line (Some p) = p.0 ≡ k + space_at n line

passed : (k m n c : ℕ) (l : List ℕ) (r : Option (ℕ × ℕ)) → space_at n (c ∷ l) ≡ suc (space_at m l) → Sought (k + 1) m l r → Sought k n (c ∷ l) r
passed k m n c l None e s = omega (arith, e, s)
passed k m n c l (Some p) e s = omega (arith, e, s)

-- the line's first byte, and those behind it
after : (k c : ℕ) (l : List ℕ) → ((m : ℕ) → Sought (k + 1) m l (slice_get (spaces (k + 1) l) m))
    → (x : Bool) → eqb c 32 ≡ x → (n : ℕ) → Sought k n (c ∷ l) (slice_get (cond x ((k, c) ∷ spaces (k + 1) l) (spaces (k + 1) l)) n)
unfolding space_at
after k c l behind true e zero = rw e (omega arith)
after k c l behind true e (suc m) = passed k m (suc m) c l _ (rw e refl) (behind m)
after k c l behind false e zero = passed k zero zero c l _ (rw e refl) (behind zero)
after k c l behind false e (suc m) = passed k (suc m) (suc m) c l _ (rw e refl) (behind (suc m))

pub sought : (k n : ℕ) (l : List ℕ) → Sought k n l (slice_get (spaces k l) n)
unfolding space_at
sought k n [] = refl
sought k n (c ∷ l) = after k c l (λ m. sought (k + 1) m l) (eqb c 32) refl n

module _ {A : Type 0} (v : A → ℕ × ℕ) (line : List ℕ) (n : ℕ) (r : Option A) (e : option_map v r ≡ slice_get (spaces 0 line) n) where
  pub found_none : r ≡ None → length line ≡ space_at n line
  found_none h = let s : Sought 0 n line (slice_get (spaces 0 line) n) = sought 0 n line in rw (← e, h) at s

  pub found_at : {x : A} → r ≡ Some x → (v x).0 ≡ space_at n line
  found_at {x} h = let s : Sought 0 n line (option_map v (Some x)) = rw (← e, h) at (sought 0 n line) in omega (arith, s)

-- ---- fields
some-fields : (line : List ℕ) (n : ℕ) → (n ≡ 0 → ⊥) → let at = space_at (n - 1) line in first_fields n line ≡ cond (ltb at (length line)) (take at line ++ (10 ∷ [])) line
unfolding first_fields
some-fields line zero h = absurd (h refl)
some-fields line (suc n) h = let back : suc n - 1 ≡ n = omega arith in rw back refl

module _ (line : List ℕ) (n : ℕ) where
  pub cut_none : n ≡ 0 → [] ≡ first_fields n line
  unfolding first_fields
  cut_none e = rw e refl

  module _ {at : ℕ} (some : n ≡ 0 → ⊥) (e : at ≡ space_at (n - 1) line) where
    cut-is : first_fields n line ≡ cond (ltb at (length line)) (take at line ++ (10 ∷ [])) line
    cut-is = rw e (some-fields line n some)

    pub cut_short : at < length line → take (at + 1) (set line at 10) ≡ first_fields n line
    cut_short h = rw (cut-is, lt-ltb _ _ h, add-one) (take-suc-set line at 10 h)

    pub cut_whole : length line ≤ at → line ≡ first_fields n line
    cut_whole h = rw (cut-is, le-ltb _ _ h) refl

-- all that is known of it
pub cut_theirs : (line : List ℕ) {n : ℕ} {r : List ℕ} → n ≡ known line → r ≡ first_fields n line → r ≡ theirs line
unfolding theirs
cut_theirs line e is = rw (← e) is

-- ---- the first byte of `sum`
not-s : (line : List ℕ) → false ≡ starts_with eqb line (115 ∷ []) → get_or line 0 0 ≡ 115 → ⊥
not-s [] h e = omega (arith, e)
not-s (c ∷ l) h e = let yes : false ≡ true = (starts_is Decides-eqb (c ∷ l) (115 ∷ []) false h).1 l (ap (λ (x : ℕ). x ∷ l) e) in cc

module _ (line : List ℕ) where
  pub known_sum : {r : Bool} → r ≡ starts_with eqb line (115 ∷ []) → r ≡ true → 0 ≡ known line
  unfolding known
  known_sum {r} h e =
      let begins : line ≡ (115 ∷ []) ++ drop 1 line = (starts_is Decides-eqb line (115 ∷ []) r h).0 e in
      let first : get_or line 0 0 ≡ 115 = ap (λ (l : List ℕ). get_or l 0 0) begins in
      rw (eq-eqb _ _ first) refl

  pub known_other : {r : Bool} → r ≡ starts_with eqb line (115 ∷ []) → r ≡ false → 6 ≡ known line
  unfolding known
  known_other h e = rw (ne_eqb _ _ (not-s line (sym e ∙ h))) refl

-- ---- comparing
checked-after : (line text : List ℕ) (t u r : Tally) → u.lines ≡ t.lines → u.differences ≡ t.differences → u.at ≡ t.at → Checked line text u r → Checked line text t r
checked-after [] text t u r l d a c = (c.0 ∙ l, c.1 ∙ d, c.2 ∙ a)
checked-after (x ∷ line) text t u r l d a c = rw (← l, ← d, ← a) (record { counted = c.counted; same = c.same; other = c.other })

-- a line that was printed and then checked; what else was counted in between changes nothing
pub checked_printed : {line before after : List ℕ} {n : ℕ} (text : List ℕ) (t u r : Tally) → Prints line before 0 n after → 81 ≤ length before
    → u.lines ≡ t.lines → u.differences ≡ t.differences → u.at ≡ t.at → Checked (theirs (take n after)) text u r → Checked (theirs line) text t r
checked_printed {line} text t u r p room l d a c = checked-after (theirs line) text t u r l d a (rw (printed p room) at c)

-- Groups in reverse order, as a loop makes them: each group the other way round from the left, then the whole.
use mathlib.Core.{Path.◌≡◌, Path.ap, Path.sym, Path.◌∙◌, Bool.Bool, List.List, List.[], List.◌∷◌, List.◌++◌, List.append_assoc, List.append-nil, List.reverse, List.reverse-append, List.reverse-reverse}
use Rattle.std.proofs.Common.{ℕ, ◌-◌, ◌≤◌, length, take, drop, arith, drop_of_length-le, take_all, drop-drop}
use lib.Seq.{slice}
use Rattle.records.specs.{Glyphs.Glyph, Glyphs.Info, Ranges.infos}
use Rattle.lists.proofs.TurnParts.{turned-length, turned-drop, turned-front, turned-all}
use Rattle.lists.specs.inner.Turned.{turned}
use Rattle.lists.proofs.Infos.{infos-drop}
use Rattle.edits.specs.Groups.{group_sizes, regrouped}
use Rattle.lists.proofs.Copying.{drop-take}
use Rattle.edits.proofs.Holding.{behind-further, there_and_back}

module _ {G : Type 0} where
  infos-same : (n : ℕ) (l m : List (Glyph G)) → drop n l ≡ drop n m → drop n (infos l) ≡ drop n (infos m)
  infos-same n l m e = sym (infos-drop n l) ∙ (ap infos e ∙ infos-drop n m)

  -- the groups up to i are the other way round, and the rest is as it was
  pub record Regrouping (p : Info → Info → Bool) (l₀ l : List (Glyph G)) (i : ℕ) : Type 0 where
    pub len : length l ≡ length l₀
    pub rest : drop i l ≡ drop i l₀
    pub is : regrouped (group_sizes p (drop i (infos l₀))) (drop i l₀) ++ reverse (take i l) ≡ regrouped (group_sizes p (infos l₀)) l₀

  module _ {p : Info → Info → Bool} {l₀ l : List (Glyph G)} where
    pub regrouping-none : l ≡ l₀ → Regrouping p l₀ l 0
    regrouping-none e = record { len = ap length e; rest = e; is = append-nil _ }

    -- one more group, from i to e
    pub regrouping-more : {l' : List (Glyph G)} {i e : ℕ} → Regrouping p l₀ l i → i ≤ e → e ≤ length l₀ → group_sizes p (drop i (infos l)) ≡ (e - i) ∷ group_sizes p (drop e (infos l)) → l' ≡ turned i e l → Regrouping p l₀ l' e
    unfolding regrouped
    regrouping-more {l'} {i} {e} v o b es et =
        let len : length l ≡ length l₀ = v.len in
        let fits : e ≤ length l = omega arith in
        let rest : drop e l ≡ drop e l₀ = behind-further i e l₀ l o v.rest in
        let group : slice i e l ≡ take (e - i) (drop i l₀) = drop-take i e l ∙ ap (take (e - i)) v.rest in
        let left : drop (e - i) (drop i l₀) ≡ drop e l₀ = drop-drop (e - i) i l₀ ∙ ap (λ (n : ℕ). drop n l₀) (there_and_back i e o) in
        let ns : group_sizes p (drop i (infos l₀)) ≡ (e - i) ∷ group_sizes p (drop e (infos l₀)) =
        ap (group_sizes p) (sym (infos-same i l l₀ v.rest)) ∙ (es ∙ ap (λ (r : List Info). (e - i) ∷ group_sizes p r) (infos-same e l l₀ rest)) in
        let front : reverse (take e l') ≡ take (e - i) (drop i l₀) ++ reverse (take i l) =
        ap (λ (r : List (Glyph G)). reverse (take e r)) et
        ∙ (ap reverse (turned-front i e l o fits)
        ∙ (reverse-append (take i l) (reverse (slice i e l)) ∙ ap (λ (r : List (Glyph G)). r ++ reverse (take i l)) (reverse-reverse (slice i e l) ∙ group))) in
        let was : (regrouped (group_sizes p (drop e (infos l₀))) (drop e l₀) ++ take (e - i) (drop i l₀)) ++ reverse (take i l) ≡ regrouped (group_sizes p (infos l₀)) l₀ =
        ap (λ (r : List (Glyph G)). (regrouped (group_sizes p (drop e (infos l₀))) r ++ take (e - i) (drop i l₀)) ++ reverse (take i l)) (sym left)
        ∙ (ap (λ (n : List ℕ). regrouped n (drop i l₀) ++ reverse (take i l)) (sym ns) ∙ v.is) in
        record {
          len = ap length et ∙ (turned-length i e l o fits ∙ len);
          rest = ap (drop e) et ∙ (turned-drop i e e l o (omega arith) fits ∙ rest);
          is = ap (λ (r : List (Glyph G)). regrouped (group_sizes p (drop e (infos l₀))) (drop e l₀) ++ r) front
              ∙ (sym (append_assoc (regrouped (group_sizes p (drop e (infos l₀))) (drop e l₀)) (take (e - i) (drop i l₀)) (reverse (take i l))) ∙ was);
        }

    pub regrouping-done : {l' : List (Glyph G)} {i n : ℕ} → Regrouping p l₀ l i → length l₀ ≤ i → length l₀ ≡ n → l' ≡ turned 0 n l → l' ≡ regrouped (group_sizes p (infos l₀)) l₀
    unfolding regrouped group_sizes infos
    regrouping-done {l'} {i} {n} v o en et =
        let none : drop i l₀ ≡ [] = drop_of_length-le l₀ o in
        let no-infos : drop i (infos l₀) ≡ [] = sym (infos-drop i l₀) ∙ ap infos none in
        let all : take i l ≡ l = take_all i l (omega (arith, v.len)) in
        et ∙ (turned-all n l (v.len ∙ en) ∙ (rw (no-infos, none, all) at v.is))

-- A turn of the loop that lays glyphs over a slice.
use Rattle.std.proofs.Common.{◌≡◌, ℕ, ◌+◌, ◌<◌, ◌≤◌, List, length, drop, map, slice_set, slice_index_or, refl, ap, sym, add-one, drop-cons}
use Rattle.std.proofs.lemmas.List.{drop_all}
use Rattle.driving.specs.Glyphs.{laid}

pub laid_more : {A B : Type 0} (f : A → B) (gs : List A) (l : List B) (i : ℕ) (d : A) → i < length gs → laid i (map f (drop i gs)) l ≡ laid (i + 1) (map f (drop (i + 1) gs)) (slice_set l i (f (slice_index_or gs i d)))
unfolding laid
laid_more f gs l i d h = rw (drop-cons gs i d h) (ap (λ (n : ℕ). laid (i + 1) (map f (drop n gs)) (slice_set l i (f (slice_index_or gs i d)))) (sym (add-one i)))

pub laid_all : {A B : Type 0} (f : A → B) (gs : List A) (l : List B) (i : ℕ) → length gs ≤ i → laid i (map f (drop i gs)) l ≡ l
unfolding laid
laid_all f gs l i h = rw (drop_all i gs h) refl

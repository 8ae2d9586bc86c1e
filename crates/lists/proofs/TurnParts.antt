-- Parts of a list with a range turned round.
use mathlib.Core.{Path.◌≡◌, Path.ap, Path.sym, Path.◌∙◌, List.List, List.◌++◌, List.append_assoc, List.append-nil, List.reverse}
use Prim.Native.Nat.{ℕ, ◌-◌, ◌≤◌}
use native.Mathlib.Omega.{arith}
use lib.ListN.{take, drop, length, length-append, length-drop, length-reverse, take-append-drop}
use lib.Seq.{slice, take_at, drop_at, take-length, drop-length, take-append-le, drop-append-le, length-take-le, length-slice}
use Rattle.lists.specs.inner.Turned.{turned}

module _ {A : Type 0} where
  pub turned-length : (s e : ℕ) (l : List A) → s ≤ e → e ≤ length l → length (turned s e l) ≡ length l
  unfolding turned
  turned-length s e l o b =
      let n : length (take s l) ≡ s = length-take-le s l (omega arith) in
      let m : length (reverse (slice s e l)) ≡ e - s = length-reverse (slice s e l) ∙ length-slice s e l b in
      rw (length-append (take s l) (reverse (slice s e l) ++ drop e l), length-append (reverse (slice s e l)) (drop e l), n, m, length-drop e l) (omega arith)

  turned-append : (s e : ℕ) (l q : List A) → s ≤ e → e ≤ length l → turned s e (l ++ q) ≡ turned s e l ++ q
  unfolding turned
  turned-append s e l q o b = rw (take-append-le s l q (omega arith), take-append-le e l q b, drop-append-le e l q b) (simp append_assoc)

  -- the range lies in the first n
  module _ (s e n : ℕ) (l : List A) (o : s ≤ e) (p : e ≤ n) (b : n ≤ length l) where
    first_of : length (take n l) ≡ n
    first_of = length-take-le n l b

    turned-split : turned s e l ≡ turned s e (take n l) ++ drop n l
    turned-split = ap (turned s e) (sym (take-append-drop n l)) ∙ turned-append s e (take n l) (drop n l) o (omega (arith, first_of))

    split-length : length (turned s e (take n l)) ≡ n
    split-length = turned-length s e (take n l) o (omega (arith, first_of)) ∙ first_of

    pub turned-take : take n (turned s e l) ≡ turned s e (take n l)
    turned-take = ap (take n) turned-split ∙ take_at (turned s e (take n l)) (drop n l) n split-length

    pub turned-drop : drop n (turned s e l) ≡ drop n l
    turned-drop = ap (drop n) turned-split ∙ drop_at (turned s e (take n l)) (drop n l) n split-length

  -- up to the end of the range
  pub turned-front : (s e : ℕ) (l : List A) → s ≤ e → e ≤ length l → take e (turned s e l) ≡ take s l ++ reverse (slice s e l)
  unfolding turned
  turned-front s e l o b =
      let n : length (take s l) ≡ s = length-take-le s l (omega arith) in
      let m : length (reverse (slice s e l)) ≡ e - s = length-reverse (slice s e l) ∙ length-slice s e l b in
      let k : length (take s l ++ reverse (slice s e l)) ≡ e = length-append (take s l) (reverse (slice s e l)) ∙ omega arith in
      ap (take e) (sym (append_assoc (take s l) (reverse (slice s e l)) (drop e l))) ∙ take_at (take s l ++ reverse (slice s e l)) (drop e l) e k

  pub turned-all : (n : ℕ) (l : List A) → length l ≡ n → turned 0 n l ≡ reverse l
  unfolding turned
  turned-all n l e = rw (← e, take-length l, drop-length l) (append-nil (reverse l))

-- Phase positions: glyphs and positions turned round alike are their pairs turned round.
use mathlib.Core.{Path.◌≡◌, Path.ap, Path.ap₂, Path.sym, Path.◌∙◌, List.List, List.◌++◌, List.reverse}
use Prim.Native.Nat.{ℕ, ◌-◌, ◌≤◌}
use native.Mathlib.Omega.{arith}
use lib.ListN.{take, drop, length, length-reverse}
use lib.Seq.{slice, length-take-le, length-slice}
use Rattle.records.specs.{Position, Glyphs.Glyph, View.paired}
use Rattle.records.proofs.Pairs.{paired-take, paired-drop, paired-append, paired-reverse}
use Rattle.lists.specs.inner.Turned.{turned}

pub paired-turned : (s e : ℕ) (l : List (Glyph ℕ)) (ps : List Position) → length l ≡ length ps → s ≤ e → e ≤ length l → paired (turned s e l) (turned s e ps) ≡ turned s e (paired l ps)
unfolding turned
paired-turned s e l ps n o b =
    let nl : length (take s l) ≡ s = length-take-le s l (omega arith) in
    let np : length (take s ps) ≡ s = length-take-le s ps (omega arith) in
    let ml : length (slice s e l) ≡ e - s = length-slice s e l b in
    let mp : length (slice s e ps) ≡ e - s = length-slice s e ps (omega arith) in
    let m : length (reverse (slice s e l)) ≡ length (reverse (slice s e ps)) = length-reverse (slice s e l) ∙ (ml ∙ (sym mp ∙ sym (length-reverse (slice s e ps)))) in
    let range : paired (slice s e l) (slice s e ps) ≡ slice s e (paired l ps) = sym (ap (drop s) (paired-take e l ps) ∙ paired-drop s (take e l) (take e ps)) in
    paired-append (take s l) (reverse (slice s e l) ++ drop e l) (take s ps) (reverse (slice s e ps) ++ drop e ps) (nl ∙ sym np)
    ∙ ap₂ (λ (x y : List (Glyph ℕ)). x ++ y) (sym (paired-take s l ps))
    (paired-append (reverse (slice s e l)) (drop e l) (reverse (slice s e ps)) (drop e ps) m
    ∙ ap₂ (λ (x y : List (Glyph ℕ)). x ++ y) (paired-reverse (slice s e l) (slice s e ps) (ml ∙ sym mp) ∙ ap reverse range) (sym (paired-drop e l ps)))

-- The account of a buffer with output: two lists, and the input before the cursor gone.
use mathlib.Core.{Path.◌≡◌, Path.refl, Path.sym, Path.ap, Path.◌∙◌, Bool.true, Bool.false, Bool.cond, Bool.false≢true, List.List, List.[]}
use Prim.Native.Nat.{ℕ}
use lib.{ListN.take, Seq.slice, Seq.slice_empty}
use Rattle.records.specs.{Phase, Plain, Output, Positions, Spoiled, Glyphs.Glyph, View.glyphs}
use Rattle.lists.specs.declared.Buffer.{Buffer}
use Rattle.lists.specs.Account.{Account, output_phase, spoiled_phase, read_level}
use Rattle.lists.specs.Contract.{shown, gone_of, state_of, account_of}
use Rattle.lists.specs.inner.States.{at_places}

abbrev pub output : Buffer → ℕ → (done rest : List (Glyph ℕ)) → Account ℕ
output b i D R = record { done = D; passed = []; rest = R; state = record { phase = b.phase; gone = i; limits = b.limits; level = read_level b.level; wants = b.wants } }

pub output-cong : (b : Buffer) {i j : ℕ} {D E R S : List (Glyph ℕ)} → i ≡ j → D ≡ E → R ≡ S → output b i D R ≡ output b j E S
output-cong b ei ed er = λ k. output b (ei k) (ed k) (er k)

pub shown-output : (p : Phase) (run other : List ℕ) → output_phase p ≡ true → shown p run other ≡ glyphs run
unfolding shown
shown-output Plain run other h = absurd (false≢true h)
shown-output Output run other h = refl
shown-output Positions run other h = absurd (false≢true h)
shown-output Spoiled run other h = absurd (false≢true h)

-- what `gone_of` says at other places
abbrev pub gone_in : Phase → ℕ → ℕ → ℕ
gone_in p i l = elim p [ Plain ↦ 0 | Output ↦ i | Positions ↦ 0 | Spoiled ↦ l ]

pub gone-out : (p : Phase) (i l : ℕ) → output_phase p ≡ true → gone_in p i l ≡ i
gone-out Plain i l h = absurd (false≢true h)
gone-out Output i l h = refl
gone-out Positions i l h = absurd (false≢true h)
gone-out Spoiled i l h = absurd (false≢true h)

pub gone-plain : (p : Phase) (i l : ℕ) → output_phase p ≡ false → spoiled_phase p ≡ false → gone_in p i l ≡ 0
gone-plain Plain i l h k = refl
gone-plain Output i l h k = absurd (false≢true (sym h))
gone-plain Positions i l h k = refl
gone-plain Spoiled i l h k = absurd (false≢true (sym k))

pub gone-without : (b : Buffer) → output_phase b.phase ≡ false → spoiled_phase b.phase ≡ false → gone_of b ≡ 0
unfolding gone_of
gone-without b o p = gone-plain b.phase b.idx.0 b.len.0 o p

pub gone-output : (b : Buffer) → output_phase b.phase ≡ true → gone_of b ≡ b.idx.0
unfolding gone_of
gone-output b h = gone-out b.phase b.idx.0 b.len.0 h

pub output-places : (b : Buffer) (i l o : ℕ) (run other : List ℕ) → output_phase b.phase ≡ true
    → account_of (at_places i l o b) run other ≡ output b i (take o (cond b.have_separate_output (glyphs other) (glyphs run))) (slice i l (glyphs run))
unfolding account_of at_places state_of gone_of
output-places b i l o run other h =
    let g : gone_in b.phase i l ≡ i = gone-out b.phase i l h in
    let none : slice (gone_in b.phase i l) i (shown b.phase run other) ≡ [] =
    ap (λ (k : ℕ). slice k i (shown b.phase run other)) g ∙ slice_empty i (shown b.phase run other) in
    let rest : slice i l (shown b.phase run other) ≡ slice i l (glyphs run) = ap (slice i l) (shown-output b.phase run other h) in
    λ k. record {
      done = take o (cond b.have_separate_output (glyphs other) (glyphs run));
      passed = none k;
      rest = rest k;
      state = record { phase = b.phase; gone = g k; limits = b.limits; level = read_level b.level; wants = b.wants };
    }

pub output-account : (b : Buffer) (run other : List ℕ) → output_phase b.phase ≡ true
    → account_of b run other ≡ output b b.idx.0 (take b.out_len.0 (cond b.have_separate_output (glyphs other) (glyphs run))) (slice b.idx.0 b.len.0 (glyphs run))
unfolding at_places
output-account b run other h = output-places b b.idx.0 b.len.0 b.out_len.0 run other h

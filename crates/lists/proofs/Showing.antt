-- The glyphs that a buffer shows of its run, and the lists of its account.
use mathlib.Core.{Path.◌≡◌, Path.refl, Path.sym, Bool.true, Bool.false, Bool.cond, Bool.false≢true, List.List}
use Prim.Native.Nat.{ℕ}
use lib.{ListN.take, Seq.slice}
use Rattle.records.specs.{Phase, Plain, Output, Positions, Spoiled, Glyphs.Glyph, View.glyphs, View.positions_in, View.paired}
use Rattle.lists.proofs.Outputs.{gone_in}
use Rattle.lists.specs.declared.Buffer.{Buffer}
use Rattle.lists.specs.{Account.positions_phase, Account.spoiled_phase, Contract.shown, Contract.gone_of, Contract.state_of, Contract.account_of}

-- what holds of the glyphs alone, and of them with positions, holds of what is shown
pub on-shown : (P : ((run other : List ℕ) → List (Glyph ℕ)) → Type 0) (p : Phase) → spoiled_phase p ≡ false → P (λ run other. glyphs run) → P (λ run other. paired (glyphs run) (positions_in other)) → P (λ run other. shown p run other)
unfolding shown
on-shown P Plain h x y = x
on-shown P Output h x y = x
on-shown P Positions h x y = y
on-shown P Spoiled h x y = absurd (false≢true (sym h))

pub shown-glyphs : (p : Phase) (run other : List ℕ) → positions_phase p ≡ false → spoiled_phase p ≡ false → shown p run other ≡ glyphs run
unfolding shown
shown-glyphs Plain run other h k = refl
shown-glyphs Output run other h k = refl
shown-glyphs Positions run other h k = absurd (false≢true (sym h))
shown-glyphs Spoiled run other h k = absurd (false≢true (sym k))

pub shown-positions : (p : Phase) (run other : List ℕ) → positions_phase p ≡ true → shown p run other ≡ paired (glyphs run) (positions_in other)
unfolding shown
shown-positions Plain run other h = absurd (false≢true h)
shown-positions Output run other h = absurd (false≢true h)
shown-positions Positions run other h = refl
shown-positions Spoiled run other h = absurd (false≢true h)

shown-same : (p : Phase) (run run' other : List ℕ) → glyphs run' ≡ glyphs run → shown p run' other ≡ shown p run other
unfolding shown
shown-same Plain run run' other e = e
shown-same Output run run' other e = e
shown-same Positions run run' other e = rw e
shown-same Spoiled run run' other e = refl

-- the lists of an account
module _ (b : Buffer) (run other : List ℕ) where
  pub done-list : (account_of b run other).done ≡ take b.out_len.0 (cond b.have_separate_output (glyphs other) (glyphs run))
  unfolding account_of
  done-list = refl

  pub rest-list : (account_of b run other).rest ≡ slice b.idx.0 b.len.0 (shown b.phase run other)
  unfolding account_of
  rest-list = refl

  pub account-is : account_of b run other ≡ record { done = take b.out_len.0 (cond b.have_separate_output (glyphs other) (glyphs run)); passed = slice (gone_of b) b.idx.0 (shown b.phase run other); rest = slice b.idx.0 b.len.0 (shown b.phase run other); state = state_of b }
  unfolding account_of
  account-is = refl

-- how many glyphs of the input are gone, by the phase
pub gone-in : (b : Buffer) → gone_of b ≡ gone_in b.phase b.idx.0 b.len.0
unfolding gone_of
gone-in b = refl

-- the same glyphs in the run
pub account-same : (b : Buffer) (run run' other : List ℕ) → glyphs run' ≡ glyphs run → account_of b run' other ≡ account_of b run other
unfolding account_of
account-same b run run' other e = rw (e, shown-same b.phase run run' other e)

-- The account of the run that `answers` drives, before the first call and after each.
use mathlib.Core.{Path.◌≡◌, Path.refl, List.List, List.[], List.◌∷◌}
use Prim.Native.Nat.{ℕ}
use Rattle.std.specs.Prelude.{Some, None, Ok, Err}
use lib.ListN.{replicate}
use Rattle.records.specs.{Glyphs.Glyph, Glyphs.blank, Counters.words_for, View.word_place, View.word, View.up_to, View.rows, View.made, View.glyph_of, View.glyphs}
use Rattle.lists.specs.declared.Buffer.{Buffer}
use Rattle.lists.specs.{Account.Account, Account.outcome, Contract.shown, Contract.gone_of, Contract.state_of, Contract.account_of, Contract.account, Contract.in_order, Contract.sound, Cursor.clear_output, Cursor.next_glyphs, Cursor.move_to, Cursor.sync}
use Rattle.lists.proofs.{Executable.executable, Chains.At}
use Rattle.driving.specs.{Starts.started}
use Rattle.driving.proofs.Telling.{meant, refusal_of}
use Rattle.records.specs.declared.Refusal.TheVariants.{WrongPhase, OutOfRange}

abbrev pub zeros : List ℕ
zeros = replicate (words_for 6) 0

unfoldable pub nil : Glyph ℕ
nil = record { glyph = 0; info = blank 0 }

unfoldable pub a₀ : Account ℕ
a₀ = record { done = []; passed = []; rest = nil ∷ nil ∷ nil ∷ []; state = state_of (started 3 6 0) }

unfoldable pub a₁ : Account ℕ
a₁ = (outcome a₀ (clear_output a₀)).after

unfoldable pub a₂ : Account ℕ
a₂ = (outcome a₁ (next_glyphs 6 4 a₁)).after

unfoldable pub a₃ : Account ℕ
a₃ = (outcome a₂ (next_glyphs 6 2 a₂)).after

unfoldable pub a₄ : Account ℕ
a₄ = (outcome a₃ (move_to 6 1 a₃)).after

unfoldable pub a₅ : Account ℕ
a₅ = (outcome a₄ (sync 6 a₄)).after

pub at-start : {b : Buffer} → b ≡ started 3 6 0 → At 6 a₀ b zeros zeros
unfolding executable nil a₀ started account account_of shown gone_of state_of sound in_order glyphs rows up_to made word word_place glyph_of
at-start e = rw e (record { is = refl; fit = refl; room = refl })

pub far-answered : meant (outcome a₁ (next_glyphs 6 4 a₁)).answer ≡ Err OutOfRange
unfolding executable meant refusal_of nil a₀ a₁ started state_of gone_of
far-answered = refl

pub there-answered : meant (outcome a₂ (next_glyphs 6 2 a₂)).answer ≡ Ok None
unfolding executable meant refusal_of nil a₀ a₁ a₂ started state_of gone_of
there-answered = refl

pub back-answered : meant (outcome a₃ (move_to 6 1 a₃)).answer ≡ Ok (Some 1)
unfolding executable meant refusal_of nil a₀ a₁ a₂ a₃ started state_of gone_of
back-answered = refl

pub synced-answered : meant (outcome a₄ (sync 6 a₄)).answer ≡ Ok (Some 1)
unfolding executable meant refusal_of nil a₀ a₁ a₂ a₃ a₄ started state_of gone_of
synced-answered = refl

pub again-answered : meant (outcome a₅ (sync 6 a₅)).answer ≡ Err WrongPhase
unfolding executable meant refusal_of nil a₀ a₁ a₂ a₃ a₄ a₅ started state_of gone_of
again-answered = refl

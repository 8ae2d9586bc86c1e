-- The account of the run that `answers` drives, before the first call and after each.
use mathlib.Core.{Path.◌≡◌, Path.refl, List.List, List.[], List.◌∷◌}
use Prim.Native.Nat.{ℕ}
use Rattle.std.specs.Prelude.{None, Ok, Err}
use lib.ListN.{replicate}
use Rattle.records.specs.{Glyphs.Glyph, Glyphs.blank, Counters.words_for, View.word_place, View.word, View.up_to, View.rows, View.made, View.glyph_of, View.glyphs}
use Rattle.lists.specs.declared.Buffer.{Buffer}
use Rattle.lists.specs.{Account.Account, Account.Result, Account.outcome, Contract.shown, Contract.gone_of, Contract.state_of, Contract.account_of, Contract.account, Contract.in_order, Contract.sound, Cursor.clear_output}
use Rattle.lists.proofs.{Chains.At}
use Rattle.edits.specs.{Writing.output_glyph, Writing.replace_glyphs, Merging.merge_input, Merging.clusters_merge, Deleting.delete_glyph}
use Rattle.edits.proofs.{Executable.executable}
use Rattle.driving.specs.{Starts.started}
use Rattle.driving.proofs.Telling.{meant, refusal_of}
use Rattle.records.specs.declared.Refusal.TheVariants.{OutOfRange, BadOperand, OverCapacity}

abbrev pub zeros : List ℕ
zeros = replicate (words_for 3) 0

unfoldable pub nil : Glyph ℕ
nil = record { glyph = 0; info = blank 0 }

unfoldable pub a₀ : Account ℕ
a₀ = record { done = []; passed = []; rest = nil ∷ nil ∷ []; state = state_of (started 2 2 0) }

unfoldable pub a₁ : Account ℕ
a₁ = (outcome a₀ (clear_output a₀)).after

-- the calls, in slices of three glyphs
abbrev pub few : Account ℕ → Result ℕ
few a = replace_glyphs 3 1 9 (90 ∷ 91 ∷ []) a

abbrev pub past : Account ℕ → Result ℕ
past a = merge_input (λ level. clusters_merge level) (record { 0 = 0 }) (record { 0 = 3 }) a

abbrev pub full : Account ℕ → Result ℕ
full a = replace_glyphs 3 2 3 (90 ∷ 91 ∷ 92 ∷ []) a

abbrev pub over : Account ℕ → Result ℕ
over a = output_glyph 3 93 a

unfoldable pub a₂ : Account ℕ
a₂ = (outcome a₁ (few a₁)).after

unfoldable pub a₃ : Account ℕ
a₃ = (outcome a₂ (past a₂)).after

unfoldable pub a₄ : Account ℕ
a₄ = (outcome a₃ (full a₃)).after

unfoldable pub a₅ : Account ℕ
a₅ = (outcome a₄ (over a₄)).after

pub at-start : {b : Buffer} → b ≡ started 2 2 0 → At 3 a₀ b zeros zeros
unfolding executable nil a₀ started account account_of shown gone_of state_of sound in_order glyphs rows up_to made word word_place glyph_of
at-start e = rw e (record { is = refl; fit = refl; room = refl })

-- too few numbers: 4, before 5
pub few-answered : meant (outcome a₁ (few a₁)).answer ≡ Err BadOperand
unfolding executable meant refusal_of nil a₀ a₁ started state_of gone_of
few-answered = refl

-- past the end: 3
pub past-answered : meant (outcome a₂ (past a₂)).answer ≡ Err OutOfRange
unfolding executable meant refusal_of nil a₀ a₁ a₂ started state_of gone_of
past-answered = refl

pub full-answered : meant (outcome a₃ (full a₃)).answer ≡ Ok None
unfolding executable meant refusal_of nil a₀ a₁ a₂ a₃ started state_of gone_of
full-answered = refl

-- beyond the capacity: 5
pub over-answered : meant (outcome a₄ (over a₄)).answer ≡ Err OverCapacity
unfolding executable meant refusal_of nil a₀ a₁ a₂ a₃ a₄ started state_of gone_of
over-answered = refl

-- nothing left to delete: 3
pub none-answered : meant (outcome a₅ (delete_glyph a₅)).answer ≡ Err OutOfRange
unfolding executable meant refusal_of nil a₀ a₁ a₂ a₃ a₄ a₅ started state_of gone_of
none-answered = refl

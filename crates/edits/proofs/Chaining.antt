-- What is done to the lists of a buffer, one after the other.
use mathlib.Core.{Path.◌≡◌, Path.sym, Path.ap, Path.◌∙◌, Path.subst, List.List}
use Rattle.std.proofs.Common.{ℕ, ◌<◌, ◌≤◌, arith}
use lib.{ListN.length}
use Rattle.records.specs.{View.glyphs, View.words_from}
use Rattle.records.proofs.View.{glyphs-same}
use Rattle.lists.specs.declared.Buffer.{Buffer}
use Rattle.lists.specs.{Account.Account, Contract.account_of}
use Rattle.lists.proofs.{SoundLaws.held-lengths}
use Rattle.edits.specs.{inner.Acts.Acts}

-- a place in a slice whose length was kept
pub stays-inside : {i n : ℕ} (run run₁ : List ℕ) → length run₁ ≡ length run → n ≤ length (glyphs run) → i < n → i < length (glyphs run₁)
stays-inside run run₁ e h o = omega (arith, glyphs-same run₁ run e, h, o)

module _ {h : Account ℕ → Account ℕ} {b f : Buffer} {run other run₁ other₁ : List ℕ} (u : Acts h b run other f run₁ other₁) where
  -- the same under another name
  pub acts-as : {k : Account ℕ → Account ℕ} → h (account_of b run other) ≡ k (account_of b run other) → Acts k b run other f run₁ other₁
  acts-as e = record { is = u.is ∙ e; size = u.size; side = u.side; run-beyond = u.run-beyond; other-beyond = u.other-beyond; held = u.held }

  pub acts-then : {g : Account ℕ → Account ℕ} {r : Buffer} {run₂ other₂ : List ℕ} → length run₁ ≡ length run → length other₁ ≡ length other → Acts g f run₁ other₁ r run₂ other₂
      → Acts (λ a. g (h a)) b run other r run₂ other₂
  acts-then {g} {r} {run₂} {other₂} lr lo w = record {
    is = w.is ∙ ap g u.is;
    size = w.size ∙ u.size;
    side = w.side ∙ u.side;
    run-beyond = subst (λ (n : ℕ). words_from n run₂ ≡ words_from n run₁) u.size w.run-beyond ∙ u.run-beyond;
    other-beyond = subst (λ (n : ℕ). words_from n other₂ ≡ words_from n other₁) u.size w.other-beyond ∙ u.other-beyond;
    held = held-lengths r run₁ other₁ run other (sym lr) (sym lo) w.held;
  }

-- for the proofs of functions
pub ruleset staying = (stays-inside)

-- The run and the other slice, whichever of the lent two is which.
use mathlib.Core.{Path.◌≡◌, Path.refl, Path.sym, Path.◌∙◌, Bool.Bool, Bool.true, Bool.false, Bool.false≢true, List.List}
use Prim.Native.Nat.{ℕ}
use lib.{ListN.length}
use Rattle.records.proofs.View.{lent_same}
use Rattle.lists.specs.{declared.Buffer.Buffer}
use Rattle.lists.specs.{Contract.sound, inner.Held.Held}
use Rattle.lists.specs.inner.Verdicts.{Sided}
use Rattle.lists.proofs.SoundLaws.{sound-lent, sound-held, held-turned}

-- ---- an act, on the side of the run
module _ {x : Bool} {P : (run other run' other' : List ℕ) → Type 0} {f s f' s' : List ℕ} where
  pub sided-first : x ≡ false → P f s f' s' → Sided x P f s f' s'
  sided-first h p = record { first = λ e. p; second = λ e. absurd (false≢true (sym h ∙ e)) }

  pub sided-second : x ≡ true → P s f s' f' → Sided x P f s f' s'
  sided-second h p = record { first = λ e. absurd (false≢true (sym e ∙ h)); second = λ e. p }

-- ---- whichever slice holds the run
pub record Lying (b : Buffer) (f run other : List ℕ) : Type 0 where
  pub long : length run ≡ length f
  pub held : Held b run other

module _ {b : Buffer} {f s : List ℕ} (h : sound b f s ≡ true) where
  pub lying-first : Lying b f f s
  lying-first = record { long = refl; held = sound-held b f s h }

  pub lying-second : Lying b f s f
  lying-second = record { long = sym (lent_same f s (sound-lent b f s h)); held = held-turned b f s (sound-held b f s h) }

-- Parts of a string played so far, in a room that has place for a line.
use mathlib.Core.{Path.◌≡◌, Path.refl, Path.ap, Path.◌∙◌, List.List}
use Prim.Native.Nat.{ℕ, ◌+◌, ◌<◌, ◌≤◌, ◌^◌}
use native.Mathlib.Omega.{arith}
use lib.ListN.{length}
use Rattle.std.specs.Prelude.{Ok, None}
use Rattle.lists.specs.{declared.Buffer.Buffer, declared.Reply.Reply}
use Rattle.lists.specs.inner.States.{reply}
use Rattle.commands.specs.{Texts.longest, Runs.Runs, Texts.Plays}
use Rattle.commands.specs.declared.Played.{Played}
use Rattle.commands.proofs.MadeLaws.{Made, made_none, part-more, made-runs}

pub record Parted (t : List ℕ) (b₀ : Buffer) (f₀ s₀ out₀ f s out : List ℕ) (x : Played) (k : ℕ) : Type 0 where
  pub state : Made t 0 b₀ f₀ s₀ f s x.reply x.next k
  pub room : longest ≤ length out
  pub bytes : length t < 2 ^ 64
  pub out-len : length out ≡ length out₀

pub parted_none : {t : List ℕ} {b₀ : Buffer} {f₀ s₀ out₀ : List ℕ} {r : Reply} → r ≡ reply b₀ (Ok None) → longest ≤ length out₀ → length t < 2 ^ 64 → Parted t r.buffer f₀ s₀ out₀ f₀ s₀ out₀ (record { reply = r; next = 0; written = 0; commands = 0 }) 0
parted_none e h fits = record { state = made_none (ap (λ (x : Reply). x.answer) e); room = h; bytes = fits; out-len = refl }

module _ {t : List ℕ} {b₀ : Buffer} {f₀ s₀ out₀ f s out : List ℕ} {x : Played} {k : ℕ} (v : Parted t b₀ f₀ s₀ out₀ f s out x k) where
  module _ (h : x.next < length t) {y : Played} {f' s' out' : List ℕ} where
    pub parted_more : Plays t x.next x.reply.buffer f s out y f' s' out' → length f' ≡ length f → length s' ≡ length s → length out' ≡ length out → Parted t b₀ f₀ s₀ out₀ f' s' out' y (k + y.commands)
    parted_more w ef es eo = record { state = part-more v.state h w v.room ef es; room = omega (arith, v.room); bytes = v.bytes; out-len = eo ∙ v.out-len }

pub parted_all : {t : List ℕ} {b₀ : Buffer} {f₀ s₀ out₀ f s out : List ℕ} {x : Played} {k : ℕ} {r : Reply} → r ≡ reply b₀ (Ok None) → Parted t r.buffer f₀ s₀ out₀ f s out x k → length t ≤ x.next → Runs t b₀ f₀ s₀ (record { reply = x.reply; commands = k }) f s
parted_all e v h = made-runs e v.state h

-- The counters of an account are those of its buffer; spoiled, `idx` is 0.
use mathlib.Core.{Path.◌≡◌, Path.refl, Bool.Bool, Bool.true, Bool.false, Bool.cond, List.List}
use Prim.Native.Nat.{ℕ}
use native.Mathlib.Omega.{arith}
use Rattle.lists.specs.declared.Buffer.{Buffer}
use Rattle.lists.specs.Account.{Account, spoiled_phase, len, idx, out_length}
use Rattle.lists.specs.{Contract.account_of, Contract.account, Contract.sound, inner.Held.Held}
use Rattle.lists.proofs.Accounts.{either-slice, gone-of, gone-spoiled, input-spoiled, spoiled-of, limits_of, len_of, idx-of, out_of}
use Rattle.lists.proofs.SoundLaws.{sound-held, held-turned}

-- a spoiled buffer keeps its length and shows no list
spoiled-len : (b : Buffer) (run other : List ℕ) → spoiled_phase b.phase ≡ true → len (account_of b run other) ≡ b.len.0
unfolding len
spoiled-len b run other h = omega (arith, gone-of b run other, gone-spoiled b h, input-spoiled b run other h)

module _ {b : Buffer} {run other : List ℕ} (v : Held b run other) where
  held-len : len (account_of b run other) ≡ b.len.0
  held-len = by (spoiled_phase b.phase) refl
    where
      by : (t : Bool) → spoiled_phase b.phase ≡ t → len (account_of b run other) ≡ b.len.0
      by true h = spoiled-len b run other h
      by false h = len_of b run other v h

  held-idx : idx (account_of b run other) ≡ cond (spoiled_phase b.phase) 0 b.idx.0
  unfolding idx
  held-idx = by (spoiled_phase b.phase) refl
    where
      by : (t : Bool) → spoiled_phase b.phase ≡ t → idx (account_of b run other) ≡ cond (spoiled_phase b.phase) 0 b.idx.0
      by true h = rw (spoiled-of b run other, h)
      by false h = rw h (idx-of b run other v h)

-- the same of the account, whichever slice holds the run
in_either : {A : Type 0} (h : Account ℕ → A) {x : A} (b : Buffer) (f s : List ℕ) → h (account_of b s f) ≡ x → h (account_of b f s) ≡ x → h (account b f s) ≡ x
in_either h {x} b f s p q = either-slice b f s (λ a. h a ≡ x) p q

pub account-limits : (b : Buffer) (f s : List ℕ) → (account b f s).state.limits ≡ b.limits
account-limits b f s = in_either (λ (a : Account ℕ). a.state.limits) b f s (limits_of b s f) (limits_of b f s)

module _ (b : Buffer) (f s : List ℕ) (h : sound b f s ≡ true) where
  turned : Held b s f
  turned = held-turned b f s (sound-held b f s h)

  pub account-len : len (account b f s) ≡ b.len.0
  account-len = in_either (λ (a : Account ℕ). len a) b f s (held-len turned) (held-len (sound-held b f s h))

  pub account-idx : idx (account b f s) ≡ cond (spoiled_phase b.phase) 0 b.idx.0
  account-idx = in_either (λ (a : Account ℕ). idx a) b f s (held-idx turned) (held-idx (sound-held b f s h))

  pub account-out-len : out_length (account b f s) ≡ b.out_len.0
  account-out-len = in_either (λ (a : Account ℕ). out_length a) b f s (out_of b s f turned) (out_of b f s (sound-held b f s h))

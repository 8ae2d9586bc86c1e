-- A state with other limits, at other places, or with its output apart: what it holds, and its account.
use Rattle.std.specs.Prelude.{Ok}
use mathlib.Core.{Path.◌≡◌, Path.refl, Path.sym, Bool.true, Bool.false, Bool.cond, Bool.false≢true, List.List}
use Prim.Native.Nat.{ℕ, ◌≤◌}
use lib.{ListN.length, ListN.take, Seq.slice}
use Rattle.records.specs.{Limits, Counters.costs, View.glyphs}
use Rattle.lists.specs.{declared.Buffer.Buffer, declared.Verdict.Verdict}
use Rattle.lists.specs.{Account.output_phase, Account.read_level, Account.with_limits, Contract.shown, Contract.gone_of, Contract.state_of, Contract.account_of, inner.Held.Held, inner.Verdicts.settled_buffer, inner.Verdicts.settled}
use Rattle.lists.proofs.Outputs.{output, output-places}
use Rattle.lists.specs.inner.States.{reply, with_limits_of, at_places, apart_buffer}

-- ---- other limits
module _ (l : Limits) (b : Buffer) where
  pub limits-idx : (with_limits_of l b).idx ≡ b.idx
  unfolding with_limits_of
  limits-idx = refl

  pub limits-len : (with_limits_of l b).len ≡ b.len
  unfolding with_limits_of
  limits-len = refl

  pub limits-out : (with_limits_of l b).out_len ≡ b.out_len
  unfolding with_limits_of
  limits-out = refl

  pub limits-phase : (with_limits_of l b).phase ≡ b.phase
  unfolding with_limits_of
  limits-phase = refl

  pub limits-limits : (with_limits_of l b).limits ≡ l
  unfolding with_limits_of
  limits-limits = refl

  pub limits-apart : (with_limits_of l b).have_separate_output ≡ b.have_separate_output
  unfolding with_limits_of
  limits-apart = refl

  pub limits-swapped : (with_limits_of l b).swapped ≡ b.swapped
  unfolding with_limits_of
  limits-swapped = refl

  pub limits-gone : gone_of (with_limits_of l b) ≡ gone_of b
  unfolding with_limits_of gone_of
  limits-gone = refl

  -- the account is that of the same lists
  pub account-limits : (run other : List ℕ) → account_of (with_limits_of l b) run other ≡ record { done = take b.out_len.0 (cond b.have_separate_output (glyphs other) (glyphs run)); passed = slice (gone_of b) b.idx.0 (shown b.phase run other); rest = slice b.idx.0 b.len.0 (shown b.phase run other); state = with_limits l (state_of b) }
  unfolding with_limits_of account_of state_of gone_of with_limits
  account-limits run other = refl

pub ruleset other-limits = (limits-idx, limits-len, limits-out, limits-phase, limits-limits, limits-apart, limits-swapped, limits-gone)

-- ---- its own limits
module _ (b : Buffer) where
  pub own-limits : with_limits_of b.limits b ≡ b
  unfolding with_limits_of
  own-limits = refl

  pub state-own : with_limits b.limits (state_of b) ≡ state_of b
  unfolding with_limits state_of
  state-own = refl

  pub state-paid : (n : ℕ) → with_limits (costs n b.limits) (state_of b) ≡ with_limits (costs n (state_of b).limits) (state_of b)
  unfolding state_of
  state-paid n = refl

  pub state-level : (state_of b).level ≡ read_level b.level
  unfolding state_of
  state-level = refl

  pub state-wants : (state_of b).wants ≡ b.wants
  unfolding state_of
  state-wants = refl

  pub paid-size : (n : ℕ) → (with_limits_of (costs n b.limits) b).limits.allocated ≡ b.limits.allocated
  unfolding with_limits_of costs
  paid-size n = refl

-- ---- other places
module _ (i l o : ℕ) (b : Buffer) where
  pub places-idx : (at_places i l o b).idx.0 ≡ i
  unfolding at_places
  places-idx = refl

  pub places-len : (at_places i l o b).len.0 ≡ l
  unfolding at_places
  places-len = refl

  pub places-out : (at_places i l o b).out_len.0 ≡ o
  unfolding at_places
  places-out = refl

  pub places-phase : (at_places i l o b).phase ≡ b.phase
  unfolding at_places
  places-phase = refl

  pub places-limits : (at_places i l o b).limits ≡ b.limits
  unfolding at_places
  places-limits = refl

  pub places-swapped : (at_places i l o b).swapped ≡ b.swapped
  unfolding at_places
  places-swapped = refl

pub ruleset other-places = (places-idx, places-len, places-out, places-phase, places-limits, places-swapped)

-- field by field
module _ (m : Limits) (b : Buffer) where
  pub limits-is : with_limits_of m b ≡ record { idx = b.idx; len = b.len; out_len = b.out_len; phase = b.phase; limits = m; level = b.level; wants = b.wants; swapped = b.swapped; have_separate_output = b.have_separate_output }
  unfolding with_limits_of
  limits-is = refl

  pub placed-is : (i l o : ℕ) → at_places i l o (with_limits_of m b) ≡ record { idx = record { 0 = i }; len = record { 0 = l }; out_len = record { 0 = o }; phase = b.phase; limits = m; level = b.level; wants = b.wants; swapped = b.swapped; have_separate_output = b.have_separate_output }
  unfolding at_places with_limits_of
  placed-is i l o = refl

-- ---- the output apart
module _ (b : Buffer) where
  pub apart-limits : (apart_buffer b).limits ≡ b.limits
  unfolding apart_buffer
  apart-limits = refl

  pub apart-swapped : (apart_buffer b).swapped ≡ b.swapped
  unfolding apart_buffer
  apart-swapped = refl

  -- the output at place o of the other slice, the cursor at i
  pub output-apart : (i l o : ℕ) (run other : List ℕ) → output_phase b.phase ≡ true → account_of (apart_buffer (at_places i l o b)) run other ≡ output b i (take o (glyphs other)) (slice i l (glyphs run))
  unfolding apart_buffer at_places
  output-apart i l o run other h = output-places (apart_buffer b) i l o run other h

pub ruleset changed = (other-limits, other-places, apart-limits, apart-swapped)

-- the reply of a verdict, by what it says of places, limits and output
pub settled_at : (b : Buffer) (v : Verdict) → settled b (Ok v) ≡ reply (let x = at_places v.idx v.len v.out_len (with_limits_of v.limits b) in cond v.apart (apart_buffer x) x) (Ok v.value)
unfolding settled settled_buffer with_limits_of at_places
settled_at b v = refl

-- ---- what is held at other places, under other limits
pub held-placed : {b : Buffer} {run other : List ℕ} → Held b run other → (i l o : ℕ) (m : Limits) → i ≤ l → l ≤ m.allocated → o ≤ m.allocated → m.allocated ≤ length (glyphs run)
    → (output_phase b.phase ≡ true → b.have_separate_output ≡ false → o ≤ i) → (output_phase b.phase ≡ false → o ≡ 0) → Held (at_places i l o (with_limits_of m b)) run other
unfolding at_places with_limits_of
held-placed v i l o m p q r k behind none = record { idx-in = p; len-in = q; out-in = r; all_in = k; most = v.most; same = v.same; whole = v.whole; behind = behind; none = none }

-- the same under its own limits
module _ {b : Buffer} {run other : List ℕ} (v : Held b run other) (i l o : ℕ) (p : i ≤ l) (q : l ≤ b.limits.allocated) (r : o ≤ b.limits.allocated) where
  pub held-places : (output_phase b.phase ≡ true → b.have_separate_output ≡ false → o ≤ i) → (output_phase b.phase ≡ false → o ≡ 0) → Held (at_places i l o b) run other
  unfolding at_places
  held-places behind none = record { idx-in = p; len-in = q; out-in = r; all_in = v.all_in; most = v.most; same = v.same; whole = v.whole; behind = behind; none = none }

  pub held-apart : (output_phase b.phase ≡ false → o ≡ 0) → Held (apart_buffer (at_places i l o b)) run other
  unfolding apart_buffer at_places
  held-apart none = record { idx-in = p; len-in = q; out-in = r; all_in = v.all_in; most = v.most; same = v.same; whole = v.whole; behind = λ h s. absurd (false≢true (sym s)); none = none }

-- its state is the one before, if as many glyphs are gone
pub state-placed : (i l o : ℕ) (m : Limits) (b : Buffer) → gone_of (at_places i l o (with_limits_of m b)) ≡ gone_of b → state_of (at_places i l o (with_limits_of m b)) ≡ with_limits m (state_of b)
unfolding at_places with_limits_of state_of with_limits
state-placed i l o m b g = λ k. record { phase = b.phase; gone = g k; limits = m; level = read_level b.level; wants = b.wants }

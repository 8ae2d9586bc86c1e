-- What the account of a buffer says: the lists and counters of a state and two slices.
use mathlib.Core.{Path.◌≡◌, Path.refl, Path.sym, Path.ap, Path.◌∙◌, Bool.Bool, Bool.true, Bool.false, Bool.cond, Bool.false≢true, List.List}
use Prim.Native.Nat.{ℕ, ◌+◌, ◌-◌, ◌≤◌}
use native.Mathlib.Omega.{arith}
use lib.{ListN.length, ListN.take, Seq.length-slice, Seq.length-take-le, Seq.take-nil, Seq.drop-nil}
use Rattle.records.specs.{Phase, Plain, Output, Positions, Spoiled, Limits, View.glyphs, View.positions_in}
use Rattle.records.proofs.View.{glyphs-same, positions-glyphs, length-paired}
use Rattle.lists.specs.declared.Buffer.{Buffer}
use Rattle.lists.specs.Account.{Account, output_phase, positions_phase, spoiled_phase, has_output, has_positions, is_spoiled, len, idx, out_length, limiting, with_limits, read_level}
use Rattle.lists.specs.{Contract.shown, Contract.gone_of, Contract.state_of, Contract.account_of, Contract.account, inner.Held.Held}
use Rattle.lists.specs.inner.States.{with_limits_of}

-- ---- phases

pub output-clean : (p : Phase) → output_phase p ≡ true → spoiled_phase p ≡ false
output-clean Plain h = refl
output-clean Output h = refl
output-clean Positions h = refl
output-clean Spoiled h = absurd (false≢true h)

pub spoiled-is : (p : Phase) → spoiled_phase p ≡ true → p ≡ Spoiled
spoiled-is Plain h = absurd (false≢true h)
spoiled-is Output h = absurd (false≢true h)
spoiled-is Positions h = absurd (false≢true h)
spoiled-is Spoiled h = refl

-- a buffer that is not spoiled shows the whole of its run
pub length-shown : (p : Phase) (run other : List ℕ) → spoiled_phase p ≡ false → length (shown p run other) ≡ length (glyphs run)
unfolding shown
length-shown Plain run other h = refl
length-shown Output run other h = refl
length-shown Positions run other h = length-paired (glyphs run) (positions_in other)
length-shown Spoiled run other h = absurd (false≢true (sym h))

-- either slice may hold the run: what holds of both holds of the account
pub either-slice : (b : Buffer) (f s : List ℕ) (P : Account ℕ → Type 0) → P (account_of b s f) → P (account_of b f s) → P (account b f s)
unfolding account
either-slice b f s P p q = by b.swapped
  where
    by : (t : Bool) → P (cond t (account_of b s f) (account_of b f s))
    by true = p
    by false = q

-- how much no list shows, by the phase
pub gone-by : (b : Buffer) (p : Phase) → b.phase ≡ p → gone_of b ≡ elim p as (λ x. ℕ) [ Plain ↦ 0 | Output ↦ b.idx.0 | Positions ↦ 0 | Spoiled ↦ b.len.0 ]
unfolding gone_of
gone-by b p e = ap (λ (q : Phase). elim q as (λ x. ℕ) [ Plain ↦ 0 | Output ↦ b.idx.0 | Positions ↦ 0 | Spoiled ↦ b.len.0 ]) e

-- a spoiled buffer keeps its length and shows no list
pub gone-spoiled : (b : Buffer) → spoiled_phase b.phase ≡ true → gone_of b ≡ b.len.0
gone-spoiled b h = gone-by b Spoiled (spoiled-is b.phase h)

pub input-spoiled : (b : Buffer) (run other : List ℕ) → spoiled_phase b.phase ≡ true → length (account_of b run other).passed + length (account_of b run other).rest ≡ 0
unfolding account_of shown
input-spoiled b run other h = simp (spoiled-is b.phase h, drop-nil, take-nil)

module _ (b : Buffer) (run other : List ℕ) where
  pub output-of : has_output (account_of b run other) ≡ output_phase b.phase
  unfolding has_output account_of state_of
  output-of = refl

  pub positions-of : has_positions (account_of b run other) ≡ positions_phase b.phase
  unfolding has_positions account_of state_of
  positions-of = refl

  pub spoiled-of : is_spoiled (account_of b run other) ≡ spoiled_phase b.phase
  unfolding is_spoiled account_of state_of
  spoiled-of = refl

  pub limits_of : (account_of b run other).state.limits ≡ b.limits
  unfolding account_of state_of
  limits_of = refl

  pub level-of : (account_of b run other).state.level ≡ read_level b.level
  unfolding account_of state_of
  level-of = refl

  pub wants-of : (account_of b run other).state.wants ≡ b.wants
  unfolding account_of state_of
  wants-of = refl

  pub gone-of : (account_of b run other).state.gone ≡ gone_of b
  unfolding account_of state_of
  gone-of = refl

  -- other limits, and nothing else
  pub limited-of : (h : Limits → Limits) → account_of (with_limits_of (h b.limits) b) run other ≡ limiting h (account_of b run other)
  unfolding account_of state_of gone_of with_limits_of limiting with_limits
  limited-of h = refl

  module _ (v : Held b run other) where
    pub out_of : out_length (account_of b run other) ≡ b.out_len.0
    unfolding out_length account_of
    out_of = out-length b.have_separate_output
      where
        out-length : (s : Bool) → length (take b.out_len.0 (cond s (glyphs other) (glyphs run))) ≡ b.out_len.0
        out-length true = let e : length (glyphs run) ≡ length (glyphs other) = glyphs-same run other v.same in length-take-le b.out_len.0 (glyphs other) (omega arith)
        out-length false = length-take-le b.out_len.0 (glyphs run) (omega arith)

    module _ (h : spoiled_phase b.phase ≡ false) where
      pub rest_of : length (account_of b run other).rest ≡ b.len.0 - b.idx.0
      unfolding account_of
      rest_of = let e : length (shown b.phase run other) ≡ length (glyphs run) = length-shown b.phase run other h in length-slice b.idx.0 b.len.0 (shown b.phase run other) (omega arith)

      pub gone-in : gone_of b ≤ b.idx.0
      unfolding gone_of
      gone-in = by-phase b.phase h
        where
          by-phase : (p : Phase) → spoiled_phase p ≡ false → (elim p as (λ x. ℕ) [ Plain ↦ 0 | Output ↦ b.idx.0 | Positions ↦ 0 | Spoiled ↦ b.len.0 ]) ≤ b.idx.0
          by-phase Plain k = omega arith
          by-phase Output k = omega arith
          by-phase Positions k = omega arith
          by-phase Spoiled k = absurd (false≢true (sym k))

      pub passed-of : length (account_of b run other).passed ≡ b.idx.0 - gone_of b
      unfolding account_of
      passed-of = let e : length (shown b.phase run other) ≡ length (glyphs run) = length-shown b.phase run other h in length-slice (gone_of b) b.idx.0 (shown b.phase run other) (omega arith)

      pub idx-of : idx (account_of b run other) ≡ b.idx.0
      unfolding idx
      idx-of = rw (spoiled-of ∙ h) (omega (arith, gone-of, passed-of, gone-in))

      pub len_of : len (account_of b run other) ≡ b.len.0
      unfolding len
      len_of = omega (arith, gone-of, passed-of, gone-in, rest_of)

    pub places_in : b.len.0 ≤ length (positions_in other)
    places_in = let e : length (glyphs run) ≡ length (glyphs other) = glyphs-same run other v.same in let p : length (positions_in other) ≡ length (glyphs other) = positions-glyphs other in omega arith

    -- in every phase
    pub gone-within : gone_of b ≤ b.len.0
    gone-within = by-test (spoiled_phase b.phase) refl
      where
        by-test : (t : Bool) → spoiled_phase b.phase ≡ t → gone_of b ≤ b.len.0
        by-test true h = omega (arith, gone-spoiled b h)
        by-test false h = omega (arith, gone-in h)

    pub input-length : length (account_of b run other).passed + length (account_of b run other).rest ≡ b.len.0 - gone_of b
    input-length = by-test (spoiled_phase b.phase) refl
      where
        by-test : (t : Bool) → spoiled_phase b.phase ≡ t → length (account_of b run other).passed + length (account_of b run other).rest ≡ b.len.0 - gone_of b
        by-test true h = omega (arith, gone-spoiled b h, input-spoiled b run other h)
        by-test false h = omega (arith, passed-of h, rest_of h, gone-in h)

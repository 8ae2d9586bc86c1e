-- The calls that replace glyphs on the account: their tests, and the merge of their inputs with the copies after it.
use mathlib.Core.{Path.◌≡◌, Path.sym, Path.ap, Path.◌∙◌, Bool.true, Bool.false, List.List}
use Rattle.std.proofs.Common.{ℕ, ◌+◌, ◌-◌, ◌<◌, ◌≤◌, max, arith, le-ltb, lt-ltb}
use lib.{Dec.ltb, ListN.length, ListN.take, ListN.get_or}
use Rattle.records.specs.{WrongPhase, OutOfRange, BadOperand, Limits, Glyphs.Glyph, Glyphs.Info, Ranges.copies, View.glyphs, inner.Stores.zero_glyph}
use Rattle.lists.proofs.Changed.{limits-limits, other-limits}
use Rattle.records.proofs.Edited.{take-copies}
use Rattle.lists.specs.declared.Buffer.{Buffer}
use Rattle.lists.specs.{Account.read_level, Account.Account, Account.output_phase, Account.has_output, Account.sized, Account.limiting, Account.with_limits, Cursor.dropping, Account.refused, Contract.account_of, Contract.gone_of, inner.Held.Held, inner.States.with_limits_of}
use Rattle.lists.proofs.{Accounts.output-clean, Accounts.rest_of, SoundLaws.held-lengths, Accounts.level-of, Outputs.gone-output}
use Rattle.lists.proofs.Refusing.{refusing}
use Rattle.edits.specs.{inner.Acts.Acts, inner.Acts.Mergeful, inner.Acts.replacing, Merging.merge, Merging.clusters_merge, inner.Replaces.replaced, Writing.written, Writing.model, Writing.replace_glyphs}
use Rattle.edits.proofs.WriteForms.{Roomy, writes_replaced}
use Rattle.edits.proofs.Chaining.{acts-as, acts-then}
use Rattle.edits.proofs.Writings.{rest-first, model-rest}

module _ (b : Buffer) (run other : List ℕ) (o : output_phase b.phase ≡ true) where
  -- a merge from the cursor on, counted in the run and counted in the input
  pub merge-places : (m : ℕ) → merge (clusters_merge (read_level b.level)) (b.idx.0 - gone_of b) (b.idx.0 + m - gone_of b) (account_of b run other) ≡ merge (clusters_merge (account_of b run other).state.level) 0 m (account_of b run other)
  merge-places m =
      let g : gone_of b ≡ b.idx.0 = gone-output b o in
      let s : b.idx.0 - gone_of b ≡ 0 = omega arith in
      let f : b.idx.0 + m - gone_of b ≡ m = omega arith in
      λ k. merge (clusters_merge (sym (level-of b run other) k)) (s k) (f k) (account_of b run other)

-- ---- the merge of the inputs, and the copies after it
module _ {b : Buffer} {m n : ℕ} {run other : List ℕ} (v : Roomy b m n run other) where
  pub inputs-mergeful : Mergeful b b.idx.0 (b.idx.0 + m) run other
  inputs-mergeful = record {
    held = v.held;
    whole = output-clean b.phase v.output;
    start = let e : gone_of b ≡ b.idx.0 = gone-output b v.output in omega arith;
    order = omega arith;
    end = v.in_len;
  }

  -- limits of the same size change nothing here
  same-roomy : (l : Limits) → l.allocated ≡ b.limits.allocated → (run₁ other₁ : List ℕ) → Held (with_limits_of l b) run₁ other₁ → Roomy (with_limits_of l b) m n run₁ other₁
  same-roomy l e run₁ other₁ h = record { held = h; output = simp other-limits v.output; in_len = simp other-limits v.in_len; in_size = simp (other-limits, e) v.in_size }

  same_first : (l : Limits) (run₁ other₁ : List ℕ) → Held (with_limits_of l b) run₁ other₁ → b.idx.0 < b.len.0 → model (account_of (with_limits_of l b) run₁ other₁) ≡ (get_or (glyphs run₁) b.idx.0 zero_glyph).info
  same_first l run₁ other₁ h k = model-rest _ _ _ (simp other-limits at (rest-first h (simp other-limits v.output) (simp other-limits k)))

  module _ {x : Account ℕ → Account ℕ} (l : Limits) {run₁ other₁ : List ℕ} (u : Acts x b run other (with_limits_of l b) run₁ other₁) (lr : length run₁ ≡ length run) (lo : length other₁ ≡ length other) where
    merged-held : Held (with_limits_of l b) run₁ other₁
    merged-held = held-lengths (with_limits_of l b) run other run₁ other₁ lr lo u.held

    pub merged-roomy : Roomy (with_limits_of l b) m n run₁ other₁
    merged-roomy = same-roomy l (simp limits-limits at u.size) run₁ other₁ merged-held

    module _ (h : b.idx.0 < b.len.0) (ex : x (account_of b run other) ≡ merge (clusters_merge (account_of b run other).state.level) 0 m (account_of b run other)) (gs : List ℕ) {g : Glyph ℕ} (eg : g ≡ get_or (glyphs run₁) b.idx.0 zero_glyph)
        {f : Buffer} {run' other' : List ℕ} (w : Acts (λ a. dropping m (written (take n (copies g.info gs)) a)) (with_limits_of l b) run₁ other₁ f run' other') where
      merged-is : account_of f run' other' ≡ replaced m n gs (account_of b run other)
      unfolding replaced replacing
      merged-is =
          w.is
          ∙ (ap (λ (new : List (Glyph ℕ)). dropping m (written new (account_of (with_limits_of l b) run₁ other₁))) (take-copies g.info n gs)
          ∙ (ap (λ (i : Info). replacing i (take n gs) m (account_of (with_limits_of l b) run₁ other₁)) (ap (λ (y : Glyph ℕ). y.info) eg ∙ sym (same_first l run₁ other₁ merged-held h))
          ∙ ap (λ (a : Account ℕ). replacing (model a) (take n gs) m a) (u.is ∙ ex)))

      pub merged-replaced : Acts (replaced m n gs) b run other f run' other'
      merged-replaced = acts-as (acts-then u lr lo w) (sym (acts-then u lr lo w).is ∙ merged-is)

-- ---- other limits leave the cursor where it is

-- ---- replace_glyphs
module _ (capacity m n : ℕ) (gs : List ℕ) (a : Account ℕ) where
  pub replace-none : has_output a ≡ false → replace_glyphs capacity m n gs a ≡ refused WrongPhase
  unfolding replace_glyphs
  replace-none h = simp (h, refusing)

  module _ (h : has_output a ≡ true) where
    pub replace-outside : ltb (length a.rest) (max m 1) ≡ true → replace_glyphs capacity m n gs a ≡ refused OutOfRange
    unfolding replace_glyphs
    replace-outside k = simp (h, k, refusing)

    pub replace-short : ltb (length a.rest) (max m 1) ≡ false → ltb (length gs) n ≡ true → replace_glyphs capacity m n gs a ≡ refused BadOperand
    unfolding replace_glyphs
    replace-short k j = simp (h, k, j, refusing)

    pub replace-writes : ltb (length a.rest) (max m 1) ≡ false → ltb (length gs) n ≡ false → replace_glyphs capacity m n gs a ≡ writes_replaced m n gs capacity a
    unfolding replace_glyphs writes_replaced replaced replacing sized limiting with_limits
    replace-writes k j = simp (h, k, j, refusing)

module _ {b : Buffer} {run other : List ℕ} (v : Held b run other) (m : ℕ) (o : output_phase b.phase ≡ true) where
  pub few : b.len.0 - b.idx.0 < max m 1 → ltb (length (account_of b run other).rest) (max m 1) ≡ true
  few h = lt-ltb (length (account_of b run other).rest) (max m 1) (omega (arith, rest_of b run other v (output-clean b.phase o)))

  pub enough : 1 ≤ b.len.0 - b.idx.0 → m ≤ b.len.0 - b.idx.0 → ltb (length (account_of b run other).rest) (max m 1) ≡ false
  enough h k = le-ltb (length (account_of b run other).rest) (max m 1) (omega (arith, rest_of b run other v (output-clean b.phase o)))

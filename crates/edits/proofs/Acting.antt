-- Copies of one glyph under numbers, and how the loop that puts them goes on by one.
use mathlib.Core.{Path.◌≡◌, Path.refl, Path.sym, Path.ap, Path.◌∙◌, List.List}
use Rattle.std.proofs.Common.{ℕ, ◌+◌, ◌<◌, ◌≤◌, length, get_or, set, arith}
use Rattle.records.specs.{Glyphs.Glyph, Glyphs.Info, Ranges.copies, View.glyphs, inner.Stores.zero_glyph}
use Rattle.records.proofs.{View.glyphs-same}
use Rattle.records.proofs.Edited.{length-copies, copies_at}
use Rattle.lists.specs.inner.Copied.{copied}
use Rattle.lists.proofs.Copying.{copied_none, copied_more}

-- the first i of n copies are put
pub record Putting (ws₀ : List ℕ) (at : ℕ) (w : Info) (gs : List ℕ) (n : ℕ) (ws : List ℕ) (i : ℕ) : Type 0 where
  pub in-gs : n ≤ length gs
  pub in-ws : at + n ≤ length (glyphs ws)
  pub most : i ≤ n
  pub is : glyphs ws ≡ copied (glyphs ws₀) at (copies w gs) 0 i
  pub len : length ws ≡ length ws₀

module _ {at n : ℕ} {w : Info} {gs : List ℕ} where
  pub putting-none : {ws : List ℕ} → at + n ≤ length (glyphs ws) → n ≤ length gs → Putting ws at w gs n ws 0
  putting-none {ws} hw hg = record { in-gs = hg; in-ws = hw; most = omega arith; is = copied_none (glyphs ws) (copies w gs) at 0; len = refl }

  pub putting-more : {ws₀ ws ws' : List ℕ} {i x : ℕ} {g : Glyph ℕ} → Putting ws₀ at w gs n ws i → i < n
      → x ≡ get_or gs i 0 → g ≡ record { glyph = x; info = w } → glyphs ws' ≡ set (glyphs ws) (at + i) g → length ws' ≡ length ws → Putting ws₀ at w gs n ws' (i + 1)
  putting-more {ws₀} {ws} {ws'} {i} {x} {g} v h ex eg ep el =
      let same : length (glyphs ws) ≡ length (glyphs ws₀) = glyphs-same ws ws₀ v.len in
      let same' : length (glyphs ws') ≡ length (glyphs ws) = glyphs-same ws' ws el in
      let many : length (copies w gs) ≡ length gs = length-copies w gs in
      let zero_more : 0 + i ≡ i = omega arith in
      let read : g ≡ get_or (copies w gs) (0 + i) zero_glyph = rw ex at eg ∙ (sym (copies_at w gs i (omega arith)) ∙ ap (λ (k : ℕ). get_or (copies w gs) k zero_glyph) (sym zero_more)) in
      record {
        in-gs = v.in-gs;
        in-ws = omega arith;
        most = omega arith;
        is = ep ∙ rw (read, v.is) (copied_more zero_glyph (glyphs ws₀) (copies w gs) at 0 i (omega arith) (omega arith));
        len = el ∙ v.len;
      }

  pub putting-done : {ws₀ ws : List ℕ} {i : ℕ} → Putting ws₀ at w gs n ws i → n ≤ i → glyphs ws ≡ copied (glyphs ws₀) at (copies w gs) 0 n
  putting-done {ws₀} {ws} {i} v h =
      let e : i ≡ n = omega arith in
      rw e at v.is

-- for the proofs of functions
pub ruleset putting = (putting-none, putting-more, putting-done)

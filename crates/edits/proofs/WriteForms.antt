-- What a call that writes output asks for and comes to, for the laws.
use mathlib.Core.{Path.◌≡◌, Bool.Bool, Bool.true, Bool.cond, List.List, List.[], List.◌∷◌}
use Rattle.std.proofs.Common.{ℕ, ◌+◌, ◌≤◌}
use Rattle.records.specs.{Glyphs.Info, Ranges.copies}
use Rattle.lists.specs.declared.Buffer.{Buffer}
use Rattle.lists.specs.{Account.Account, Account.output_phase, Account.out_length, Account.sized, Account.Result, inner.Held.Held, inner.States.at_places, inner.States.apart_buffer}
use Rattle.edits.specs.{inner.Replaces.replaced, Writing.written, Writing.writing}

-- the size for num-out glyphs is there, in place of num-in of the input
pub record Roomy (b : Buffer) (num-in num-out : ℕ) (run other : List ℕ) : Type 0 where
  pub held : Held b run other
  pub output : output_phase b.phase ≡ true
  pub in_len : b.idx.0 + num-in ≤ b.len.0
  pub in_size : b.out_len.0 + num-out ≤ b.limits.allocated

-- one glyph written, after its size
unfoldable pub writes_one : Info → ℕ → ℕ → Account ℕ → Result ℕ
writes_one i number capacity a = writing capacity 1 (written (copies i (number ∷ [])) (sized (out_length a + 1) a)) a

-- glyphs in place of others, after their size
unfoldable pub writes_replaced : ℕ → ℕ → List ℕ → ℕ → Account ℕ → Result ℕ
writes_replaced num-in num-out gs capacity a = writing capacity num-out (replaced num-in num-out gs (sized (out_length a + num-out) a)) a

-- the state that is left, of one that has its limits
unfoldable pub put_buffer : Bool → ℕ → ℕ → Buffer → Buffer
put_buffer x i o b = let y = at_places (b.idx.0 + i) b.len.0 (b.out_len.0 + o) b in cond x (apart_buffer y) y

-- Calls by their numbers: open bounds, what calls with operands made of words need, and the last arm of the dispatch.
use mathlib.Core.{Path.◌≡◌, Path.sym, Path.ap, Bool.Bool, Bool.cond}
use Prim.Native.Nat.{ℕ, zero, suc, ◌+◌, ◌≤◌, ◌<◌}
use native.Mathlib.Omega.{arith}
use borrow.Author.Tests.{eq-eqb}
use Rattle.std.specs.Prelude.{None, Some}
use Rattle.records.proofs.{View.seen-number, View.seen-info, ByteLaws.words-of-part}
use Rattle.edits.proofs.Writings.{info-origin}
use Rattle.commands.specs.Calls.{bound, input_place}

-- ---- bounds: the highest word is an open one
pub input-open : (n : ℕ) → n ≡ 4294967295 → None ≡ bound (λ k. input_place k) n
unfolding bound
input-open n h = sym (ap (λ (highest : Bool). cond highest None (Some (input_place n))) (eq-eqb n 4294967295 h))

-- 0C by its operands, 0E by the bytes of its numbers
pub ruleset operand_laws = (seen-number, seen-info, info-origin, words-of-part)

-- none of n bytes from a on
abbrev pub NoneFrom : ℕ → ℕ → ℕ → Type 0
NoneFrom a zero b = Unit {0}
NoneFrom a (suc n) b = NoneFrom a n b × (b ≡ a + n → ⊥)

behind : (a n b : ℕ) → a ≤ b → NoneFrom a n b → a + n ≤ b
behind a zero b low none = omega (arith, low)
behind a (suc n) b low none = let before : a + n ≤ b = behind a n b low none.0 in let not : b ≡ a + n → ⊥ = none.1 in omega arith

-- the last arm of a group, whose bytes are a and the n after it
pub last_byte : (a n b : ℕ) → a ≤ b → b < suc (a + n) → NoneFrom a n b → b ≡ a + n
last_byte a n b low high none = let at-least : a + n ≤ b = behind a n b low none in omega (arith, high)

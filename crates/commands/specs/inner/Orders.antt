-- What functions below the reader make: orders of operands that stand in a string.
use mathlib.Core.{Path.◌≡◌, List.List}
use Rattle.std.specs.Prelude.{ℕ, ◌+◌, ◌*◌, Option}
use lib.{ListN.get_or, ListN.drop}
use Rattle.records.specs.Bytes.{words_at}
use Rattle.commands.specs.Calls.{read_form}
use Rattle.lists.specs.{declared.Buffer.Buffer, declared.Reply.Reply, Contract.Meets}
use Rattle.commands.specs.{Calls.form_of, Calls.perform, Reading.reading_of, Reading.ordered, Reading.IsOrdered}
use Rattle.commands.specs.declared.Order.{Order}

-- operand i of n, which stand from a place on; 0 where there are fewer
abbrev pub operand_at : List ℕ → (from n i : ℕ) → ℕ
operand_at s from n i = get_or (words_at s from n) i 0

-- the order of n operands, and m glyph numbers of its own after them
unfoldable pub order_at : List ℕ → (byte from n m : ℕ) → Order
order_at s byte from n m = record {
  byte = byte;
  a = operand_at s from n 0;
  b = operand_at s from n 1;
  c = operand_at s from n 2;
  d = operand_at s from n 3;
  e = operand_at s from n 4;
  numbers = from + 4 * n;
  next = from + 4 * n + 4 * m;
}

-- what is read of the operands of a command byte, which stand from a place on
pub record ReadsForm (s : List ℕ) (byte from : ℕ) (r : Option Order) : Type 0 where
  pub same : read_form (form_of byte) (drop from s) ≡ reading_of s r
  pub ordered : IsOrdered s byte from r

-- the call of an order that has no glyph numbers of its own, whichever are handed to it
pub record Makes (o : Order) (b : Buffer) (f s : List ℕ) (r : Reply) (f' s' : List ℕ) : Type 0 where
  pub meets : (gs : List ℕ) → Meets (λ capacity a. perform 0 capacity (ordered o gs).call (ordered o gs).glyphs a) b f s r f' s'

-- What an answer of the reader stands for: what the account reads from the same bytes.
use Rattle.std.specs.Prelude.{◌+◌, ◌*◌, ◌≤◌, ◌<◌, ◌∷◌, ◌≡◌}
use Rattle.std.specs.Prelude.{Option, Some, None}
use Rattle.records.specs.Library.{ℕ, suc, List, [], length, take, drop, get_or}
use Rattle.records.specs.Bytes.{words_at}
use Rattle.commands.specs.{declared.Order.Order, declared.Operands.Operands, declared.Operands.TheVariants.Words}
use Rattle.commands.specs.{declared.Operands.TheVariants.Listed, declared.Taken.Taken}
use Rattle.commands.specs.Calls.{Worded, c03-clear-output, Read, unreadable, got, Form, unknown, operands, glyph_and, listed, form_of, front}

-- what follows a command byte, if it is one (`Order`, `Operands`, `Taken`: src/lib.rt)
unfoldable pub operands_of : Form → Option Operands
operands_of unknown = None
operands_of (operands n k) = Some (Words n)
operands_of (glyph_and n k) = Some (Words (suc n))
operands_of (listed k) = Some Listed

-- how many operands there are, the list of 0E not counted
unfoldable pub count : Option Operands → ℕ
count None = 0
count (Some (Words n)) = n
count (Some Listed) = 2

-- the call that a form makes of its operands ws, and of the out numbers gs of 0E. No order has an unknown byte
unfoldable pub made : Form → (ws gs : List ℕ) → Worded ℕ
made unknown ws gs = record { call = c03-clear-output; glyphs = [] }
made (operands n k) ws gs = record { call = k ws; glyphs = [] }
made (glyph_and n k) ws gs = record { call = k (drop 1 ws); glyphs = take 1 ws }
made (listed k) ws gs = record { call = k ws; glyphs = gs }

-- the call that an order stands for: with out numbers gs, and with those that stand in the string
unfoldable pub ordered : Order → List ℕ → Worded ℕ
ordered o gs = made (form_of o.byte) (take (count (operands_of (form_of o.byte))) (o.a ∷ o.b ∷ o.c ∷ o.d ∷ o.e ∷ [])) gs

unfoldable pub worded_of : List ℕ → Order → Worded ℕ
worded_of s o = ordered o (words_at s o.numbers o.b)

-- an order that was read, or none
unfoldable pub reading_of : List ℕ → Option Order → Read (Worded ℕ)
reading_of s None = unreadable
reading_of s (Some o) = got (worded_of s o) (drop o.next s)

-- places of an order that was read; 39 is the byte after 26, and 14 is 0E
pub record Ordered (s : List ℕ) (byte from : ℕ) (o : Order) : Type 0 where
  pub byte-is : o.byte ≡ byte
  pub known : byte < 39
  pub onward : from ≤ o.next
  pub inside : o.next ≤ length s
  pub listed-end : byte ≡ 14 → o.next ≡ o.numbers + 4 * o.b

abbrev pub IsOrdered : List ℕ → (byte from : ℕ) → Option Order → Type 0
IsOrdered s byte from None = Unit {0}
IsOrdered s byte from (Some o) = Ordered s byte from o

-- what is read at a place; past the end nothing can be read
pub record Reads (s : List ℕ) (at : ℕ) (r : Option Order) : Type 0 where
  pub is : front (drop at s) ≡ reading_of s r
  pub places : at < length s → IsOrdered s (get_or s at 0) (at + 1) r

-- ---- a reader that keeps its bytes: "a struct holding the script slice and its place".
-- the place after what was read; "Bytes end at their first refusal 6"
unfoldable pub place_after : List ℕ → Option Order → ℕ
place_after s None = length s
place_after s (Some o) = o.next

pub record Takes (s : List ℕ) (at : ℕ) (t : Taken) : Type 0 where
  pub reads : Reads s at t.reading
  pub next-is : t.next ≡ place_after s t.reading

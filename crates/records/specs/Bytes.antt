-- Words in a string of bytes: "operands of four bytes, low byte first".
use Rattle.std.specs.Prelude.{◌+◌, ◌*◌, ◌/◌, ◌∷◌}
use Rattle.records.specs.Library.{ℕ, zero, suc, List, [], length, get_or}

abbrev pub word : ℕ → ℕ → ℕ → ℕ → ℕ
word a b c d = a + 256 * (b + 256 * (c + 256 * d))

-- the word whose four bytes stand at a place, and n words from a place on
abbrev pub word_at : List ℕ → (at : ℕ) → ℕ
word_at s at = word (get_or s at 0) (get_or s (at + 1) 0) (get_or s (at + 2) 0) (get_or s (at + 3) 0)

unfoldable pub words_at : List ℕ → (at n : ℕ) → List ℕ
words_at s at zero = []
words_at s at (suc n) = word_at s at ∷ words_at s (at + 4) n

-- all whole words of a string
unfoldable pub words_of : List ℕ → List ℕ
words_of s = words_at s 0 (length s / 4)

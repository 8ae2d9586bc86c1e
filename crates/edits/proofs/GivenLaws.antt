-- Laws of glyph numbers that are given as the words of a string of bytes.
use mathlib.Core.{Path.◌≡◌, Path.sym, Path.◌∙◌, List.List}
use Rattle.std.proofs.Common.{ℕ, ◌+◌, ◌*◌, ◌/◌, ◌<◌, ◌≤◌, arith}
use lib.{ListN.length, ListN.get_or}
use Rattle.records.specs.Bytes.{word_at, words_of}
use Rattle.records.proofs.ByteLaws.{length-words-of, word_of}

module _ (bs : List ℕ) where
  pub given-count : length bs / 4 ≡ length (words_of bs)
  given-count = sym (length-words-of bs)

  module _ (i : ℕ) (h : i < length (words_of bs)) where
    pub word_room : 4 * i + 4 ≤ length bs
    word_room = omega (arith, given-count)

    pub given_word : {x : ℕ} → x ≡ word_at bs (4 * i) → x ≡ get_or (words_of bs) i 0
    given_word ex = ex ∙ sym (word_of bs i (omega (arith, given-count)))

-- for the proofs of functions
pub ruleset giving = (given-count, word_room, given_word)

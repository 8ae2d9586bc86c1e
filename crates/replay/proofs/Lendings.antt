-- The part of a slice that is lent for so many glyphs.
use mathlib.Core.{Path.◌≡◌, Path.sym, List.List}
use Rattle.std.proofs.Common.{ℕ, ◌^◌, ◌<◌, ◌≤◌, arith}
use lib.{ListN.length, ListN.take, Seq.length-take-le}
use Rattle.records.specs.Counters.{capacity_of, words_for}
use Rattle.records.proofs.View.{words-within}

-- by what the code asked: the capacity of the slice, and that it is not below n
module _ (n : ℕ) (ws : List ℕ) {k : ℕ} (e : k ≡ capacity_of (length ws)) (h : n ≤ k) where
  words-in : words_for n ≤ length ws
  words-in = words-within n (length ws) (rw (← e) h)

  pub few_words : length ws < 2 ^ 64 → words_for n < 2 ^ 64
  few_words fits = omega (arith, words-in)

  pub part_long : {end : ℕ} → end ≡ words_for n → end ≡ length (take end ws)
  part_long {end} p = sym (length-take-le end ws (rw p words-in))

-- What the functions below the exported edits ask for and do.
use mathlib.Core.{Path.◌≡◌, Bool.Bool, Bool.true, Bool.false, List.List}
use Rattle.std.specs.Prelude.{ℕ, ◌≤◌}
use Rattle.records.specs.{declared.Key.Key, Glyphs.Info, Ranges.copies, View.words_from}
use Rattle.lists.specs.{declared.Buffer.Buffer}
use Rattle.lists.specs.{Account.Account, Account.output_phase, Account.spoiled_phase, Cursor.dropping, Contract.account_of, inner.Held.Held, Contract.gone_of}
use Rattle.edits.specs.{declared.Way.Way, declared.Keyed.Keyed, Writing.written}

-- by which level and wants the ranges of a buffer merge, or are flagged
abbrev pub way_of : Buffer → Bool → Way
way_of b merges = record { merges = merges; level = b.level; wants = b.wants }

-- what calls 1E, 21 and 22 go by
abbrev pub keyed_of : Buffer → Bool → Key → Keyed
keyed_of b merges key = record { way = way_of b merges; len = b.len.0; key = key }

-- h on the account, nothing beyond the allocated size. Limits may change, the size does not
pub record Acts (h : Account ℕ → Account ℕ) (b : Buffer) (run other : List ℕ) (r : Buffer) (run' other' : List ℕ) : Type 0 where
  pub is : account_of r run' other' ≡ h (account_of b run other)
  pub size : r.limits.allocated ≡ b.limits.allocated
  pub side : r.swapped ≡ b.swapped
  pub run-beyond : words_from b.limits.allocated run' ≡ words_from b.limits.allocated run
  pub other-beyond : words_from b.limits.allocated other' ≡ words_from b.limits.allocated other
  pub held : Held r run other

-- copies with these words and numbers, in place of num-in of the input
unfoldable pub replacing : Info → List ℕ → ℕ → Account ℕ → Account ℕ
replacing i gs num-in a = dropping num-in (written (copies i gs) a)

-- s..e is a range of the input, in a phase that has lists
pub record Mergeful (b : Buffer) (s e : ℕ) (run other : List ℕ) : Type 0 where
  pub held : Held b run other
  pub whole : spoiled_phase b.phase ≡ false
  pub start : gone_of b ≤ s
  pub order : s ≤ e
  pub end : e ≤ b.len.0

-- s..e is a range of the output
pub record OutMergeful (b : Buffer) (s e : ℕ) (run other : List ℕ) : Type 0 where
  pub held : Held b run other
  pub output : output_phase b.phase ≡ true
  pub order : s ≤ e
  pub end : e ≤ b.out_len.0

-- What the programs promise: a string's commands on the first buffer, "level and wants 0", and the text at the end.
use mathlib.Core.{Path.◌≡◌, Bool.true, List.List, List.[], List.◌∷◌}
use Rattle.std.specs.Prelude.{ℕ, ◌≤◌, length, take}
use Rattle.records.specs.Answers.{ok}
use Rattle.lists.specs.{Account.Account, Account.fresh_account, Contract.account, Contract.sound, Contract.outcome_of}
use Rattle.lists.specs.declared.Buffer.{Buffer}
use Rattle.commands.specs.Runs.{last_of}
use Rattle.commands.specs.Texts.{exam_run, Plays}
use Rattle.commands.specs.Claims.{SameLengths}
use Rattle.commands.specs.{declared.Ran.Ran, declared.Played.Played}

-- the whole run of a string over slices for n glyphs: the last outcome, and how many there are
pub record RunsFresh (n : ℕ) (script : List ℕ) (r : Ran) (f' s' : List ℕ) : Type 0 where
  pub last : outcome_of r.reply f' s' ≡ last_of (record { answer = ok; after = fresh_account 0 0 }) (exam_run n script)
  pub all : r.commands ≡ length (exam_run n script)
  pub is-sound : sound r.reply.buffer f' s' ≡ true

-- the first r bytes of a room are this text
pub record Holds (text : List ℕ) (r : ℕ) (out : List ℕ) : Type 0 where
  pub is : take r out ≡ text
  pub inside : r ≤ length out

-- ---- parts of a string, one after the other
-- what a part gives back, and leaves in the slices and in the room for its lines
pub record Part : Type 0 where
  pub played : Played
  pub first : List ℕ
  pub second : List ℕ
  pub room : List ℕ
  pub lines : List ℕ

-- the bytes that a part wrote
abbrev pub text_of : Part → List ℕ
text_of p = take p.played.written p.lines

-- from a place on up to the end, each from where the one before it ended
abbrev pub InParts : List ℕ → (at : ℕ) → Buffer → (f s : List ℕ) → List Part → Type 0
InParts script at b f s [] = length script ≤ at
InParts script at b f s (p ∷ ps) =
    Plays script at b f s p.room p.played p.first p.second p.lines
    × SameLengths f s p.first p.second
    × InParts script p.played.next p.played.reply.buffer p.first p.second ps

-- the account of what the last of them leaves
abbrev pub account_after : Buffer → (f s : List ℕ) → List Part → Account ℕ
account_after b f s [] = account b f s
account_after b f s (p ∷ ps) = account_after p.played.reply.buffer p.first p.second ps

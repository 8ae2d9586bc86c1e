-- What the functions below whole texts say of a line and its place.
use mathlib.Core.{Path.◌≡◌, Bool.Bool, Bool.◌&&◌, List.List}
use Rattle.std.specs.Prelude.{ℕ, ◌+◌, ◌-◌, ◌*◌, ◌≤◌}
use lib.{Dec.ltb, Dec.leb, ListN.length, ListN.take, ListN.drop}
use Rattle.commands.specs.{Lines.reported, Texts.from_space, Texts.longest, declared.texts.Source.Source}

-- the lines of which a text is made
abbrev pub report_of : Source → List (List ℕ)
report_of s = reported s.b s.first.now s.second.now

-- r is the place of the next space in a line from a place on, or its end
pub record Spaced (line : List ℕ) (from r : ℕ) : Type 0 where
  pub is : drop r line ≡ from_space (drop from line)
  pub low : from ≤ r
  pub high : r ≤ length line

-- from r on stands what is shown of what was a line
pub record Cut (shown : List ℕ → List ℕ) (before : List ℕ) (r : ℕ) (after : List ℕ) : Type 0 where
  pub is : drop r after ≡ shown before
  pub inside : r ≤ length before

-- a line stands in a room between two places
pub record Stands (line : List ℕ) (from to : ℕ) (room : List ℕ) : Type 0 where
  pub is : take (to - from) (drop from room) ≡ line
  pub order : from ≤ to
  pub inside : to ≤ length room
  pub short : to ≤ longest

-- how long it is; and that it has room
pub record Long (line : List ℕ) (r : ℕ) : Type 0 where
  pub is : r ≡ length line
  pub short : r ≤ longest

pub record Room (text : List ℕ) (at : ℕ) (out : List ℕ) : Type 0 where
  pub fits : at + length text ≤ length out

-- how long a text of so many lines is
pub record Together (text : List ℕ) (lines r : ℕ) : Type 0 where
  pub is : r ≡ length text
  pub short : r ≤ longest * lines

-- whether there is a command more, and room for its line
pub record Follows (next len written room : ℕ) (r : Bool) : Type 0 where
  pub is : r ≡ (ltb next len && leb (written + longest) room)

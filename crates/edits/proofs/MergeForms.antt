-- What merges and flags come to on the account, for the laws. Places count in the slices: the account counts them from `gone` on.
use mathlib.Core.{Path.◌≡◌, List.List}
use Rattle.std.proofs.Common.{ℕ, ◌-◌, ◌<◌, ◌≤◌}
use lib.{ListN.length, ListN.take, ListN.drop, Seq.slice}
use Rattle.records.specs.Glyphs.{Glyph}
use Rattle.lists.specs.Account.{State}
use Rattle.edits.specs.Merging.{merged, merged_out}
use Rattle.edits.specs.inner.Holding.{holds, paid}

-- s..e is a range of the first len glyphs of the run, which may be empty
pub record InputRange (run out : List (Glyph ℕ)) (len out_length s e : ℕ) : Type 0 where
  pub order : s ≤ e
  pub end : e ≤ len
  pub fits : len ≤ length run
  pub out-fits : out_length ≤ length out

-- s..e is a range of the run, of at least one glyph
pub record Mergeable (run out : List (Glyph ℕ)) (len out_length s e : ℕ) : Type 0 where
  pub order : s < e
  pub end : e ≤ len
  pub fits : len ≤ length run
  pub out-fits : out_length ≤ length out

-- the input goes from place `gone` to place `len` of the run, the cursor is at idx, and s is in the input
pub record InputFrom (gone idx len s : ℕ) : Type 0 where
  pub cursor : gone ≤ idx
  pub inside : idx ≤ len
  pub start : gone ≤ s

-- the account is the merged one, and no glyph outside the lists has changed
pub record MergedApart (gone idx len out_length s e : ℕ) (run out run' out' : List (Glyph ℕ)) : Type 0 where
  pub account : (k : State) → holds run' out' gone idx len out_length (paid (e - s) k) ≡ merged (s - gone) (e - gone) (holds run out gone idx len out_length k)
  pub before : take gone run' ≡ take gone run
  pub behind : drop len run' ≡ drop len run
  pub out-behind : drop out_length out' ≡ drop out_length out

pub record MergedWithin (gone idx len out_length s e : ℕ) (run run' : List (Glyph ℕ)) : Type 0 where
  pub account : (k : State) → holds run' run' gone idx len out_length (paid (e - s) k) ≡ merged (s - gone) (e - gone) (holds run run gone idx len out_length k)
  pub between : slice out_length gone run' ≡ slice out_length gone run
  pub behind : drop len run' ≡ drop len run

-- s..e is a range of the output, of at least one glyph
pub record OutMergeable (run out : List (Glyph ℕ)) (idx len out_length s e : ℕ) : Type 0 where
  pub order : s < e
  pub end : e ≤ out_length
  pub out-fits : out_length ≤ length out
  pub inside : idx ≤ len
  pub fits : len ≤ length run

pub record MergedOutApart (idx len out_length s e : ℕ) (run out run' out' : List (Glyph ℕ)) : Type 0 where
  pub account : (k : State) → holds run' out' idx idx len out_length (paid (e - s) k) ≡ merged_out s e (holds run out idx idx len out_length k)
  pub before : take idx run' ≡ take idx run
  pub behind : drop len run' ≡ drop len run
  pub out-behind : drop out_length out' ≡ drop out_length out

pub record MergedOutWithin (idx len out_length s e : ℕ) (run run' : List (Glyph ℕ)) : Type 0 where
  pub account : (k : State) → holds run' run' idx idx len out_length (paid (e - s) k) ≡ merged_out s e (holds run run idx idx len out_length k)
  pub between : slice out_length idx run' ≡ slice out_length idx run
  pub behind : drop len run' ≡ drop len run

-- ---- the outbuffer forms: from place s of the output on, up to place e of the run
pub record OutRange (run out : List (Glyph ℕ)) (idx len out_length s e : ℕ) : Type 0 where
  pub order : s ≤ out_length
  pub out-fits : out_length ≤ length out
  pub start : idx ≤ e
  pub end : e ≤ len
  pub fits : len ≤ length run

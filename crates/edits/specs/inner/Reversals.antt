-- What `reverse_range` comes to, and what the functions below the reversals leave.
use Rattle.lists.specs.inner.States.{Decision}
use Rattle.lists.specs.inner.Verdicts.{acts_of}
use mathlib.Core.{Path.◌≡◌, Bool.Bool, Bool.true, Bool.false, Bool.cond, List.List, List.◌∷◌}
use Rattle.std.specs.Prelude.{ℕ, ◌-◌, ◌<◌, ◌≤◌}
use lib.{ListN.take, ListN.drop}
use Rattle.records.specs.{Phase, InputPlace, Limits, Glyphs.Glyph, Glyphs.Info, Ranges.infos, View.glyphs, View.positions_in}
use Rattle.lists.specs.{declared.Buffer.Buffer}
use Rattle.lists.specs.{Account.Account, Account.positions_phase, Account.spoiled_phase, Account.with_rest, Contract.shown, inner.Turned.turned, inner.Verdicts.settled, inner.Verdicts.Decided}
use Rattle.edits.specs.{inner.Charges.Charges, Groups.group_sizes, Groups.continues, Groups.merged_each, Groups.regrouped, WholeRun.reverse_range, inner.Wholes.WholeInput, inner.Wholes.RunOf}

-- a range the other way round; positions, where there are any, go with their glyphs
pub record Turns (phase : Phase) (s e : ℕ) (run other run' other' : List ℕ) : Type 0 where
  pub run_is : glyphs run' ≡ turned s e (glyphs run)
  pub other-is : positions_in other' ≡ cond (positions_phase phase) (turned s e (positions_in other)) (positions_in other)

-- h on a run of n glyphs, whose positions go with their glyphs, and nothing from place n on
pub record Rearranges (h : List (Glyph ℕ) → List (Glyph ℕ)) (phase : Phase) (n : ℕ) (run other run' other' : List ℕ) : Type 0 where
  pub is : take n (shown phase run' other') ≡ h (take n (shown phase run other))
  pub run-behind : drop n (glyphs run') ≡ drop n (glyphs run)
  pub other-behind : drop n (positions_in other') ≡ drop n (positions_in other)

pub record ReversesRange (start stop : InputPlace) (b : Buffer) (f s : List ℕ) (d : Decision) : Type 0 where
  pub is : Decided (λ capacity a. reverse_range start stop a) b f s (settled b d) (acts_of d) ((start.0 ≤ stop.0) × RunOf b.phase stop.0 f s) (Turns b.phase start.0 stop.0)

-- ---- 1D, 1E
-- of the first len glyphs of a run, a group from s to e; `p x y` says that y goes on with the group of x
pub record Group (p : Info → Info → Bool) (l : List (Glyph ℕ)) (len s e : ℕ) : Type 0 where
  pub after : s < e
  pub inside : e ≤ len
  pub is : group_sizes p (drop s (infos (take len l))) ≡ (e - s) ∷ group_sizes p (drop e (infos (take len l)))

-- the same in every phase that has lists
pub record EndsGroup (p : Info → Info → Bool) (run : List ℕ) (s len e : ℕ) : Type 0 where
  pub is : (phase : Phase) (other : List ℕ) → spoiled_phase phase ≡ false → Group p (shown phase run other) len s e

-- a whole run in this phase
pub record InPhase (phase : Phase) (b : Buffer) (run other : List ℕ) : Type 0 where
  pub whole : WholeInput b run other
  pub is : b.phase ≡ phase

-- the graphemes in reverse order, after a merge of each where they merge
unfoldable pub regroups : Bool → ℕ → ℕ → Account ℕ → Account ℕ
regroups merging slot mask a =
    let ns = group_sizes (continues slot mask) (infos a.rest) in
    let b = cond merging (merged_each true ns 0 a) a in
    with_rest (regrouped ns b.rest) b

pub record Regroups (phase : Phase) (merging : Bool) (level wants n slot mask : ℕ) (l l' : Limits) (run other run' other' : List ℕ) : Type 0 where
  pub is : Charges (InPhase phase) (regroups merging slot mask) level wants n l l' run other run' other'

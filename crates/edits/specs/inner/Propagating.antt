-- What the functions below `propagate_flags` leave.
use mathlib.Core.{Path.◌≡◌, Bool.false, List.List}
use Rattle.std.specs.Prelude.{ℕ}
use lib.{ListN.take, ListN.drop}
use Rattle.records.specs.{Phase, Ranges.infos, View.glyphs}
use Rattle.lists.specs.{Account.spoiled_phase, Contract.shown}
use Rattle.edits.specs.Groups.{group_sizes, same_cluster, propagated}

-- the groups of the first n glyphs have their masks, whatever positions go with them
pub record Propagates (wants n : ℕ) (run run' : List ℕ) : Type 0 where
  pub is : (p : Phase) (other : List ℕ) → spoiled_phase p ≡ false → take n (shown p run' other) ≡ propagated wants (group_sizes same_cluster (infos (take n (shown p run other)))) 0 (take n (shown p run other))
  pub behind : drop n (glyphs run') ≡ drop n (glyphs run)

pub record PropagatesRun (wants n : ℕ) (run other run' other' : List ℕ) : Type 0 where
  pub run-does : Propagates wants n run run'
  pub other-is : other' ≡ other

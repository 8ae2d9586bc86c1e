-- The loop that turns the groups of a run round, one after the other.
use mathlib.Core.{Path.◌≡◌, Path.refl, Path.◌∙◌, Bool.Bool, List.List}
use Rattle.std.proofs.Common.{ℕ, ◌<◌, ◌≤◌, zero-le, le_refl, arith}
use lib.{ListN.length, ListN.take, ListN.drop}
use Rattle.records.specs.{Phase, Glyphs.Info, Ranges.infos, View.glyphs, View.positions_in}
use Rattle.lists.specs.{Contract.shown}
use Rattle.std.specs.Fn.{Shared}
use Rattle.lists.specs.inner.Swapping.{Pair}
use Rattle.edits.specs.{Groups.group_sizes, Groups.regrouped, inner.Wholes.RunOf, inner.Reversals.Turns, inner.Reversals.Rearranges, inner.Reversals.Group, inner.Grouped.Taken, inner.Grouped.ActedOnGroup, inner.Grouped.ActedOnEach}
use Rattle.edits.proofs.EachGroup.{holds-after}
use Rattle.edits.proofs.Regroups.{Regrouping, regrouping-none, regrouping-more, regrouping-done}
use Rattle.edits.proofs.ReverseCalls.{shown-length, turns-rearrange}
use Rattle.edits.proofs.WholeCalls.{run-lengths, run-shorter}

-- the groups up to place i are the other way round
pub record GroupTurning (p : Info → Info → Bool) (phase : Phase) (n : ℕ) (run₀ other₀ run other : List ℕ) (i : ℕ) : Type 0 where
  pub whole : RunOf phase n run other
  pub groups : Regrouping p (take n (shown phase run₀ other₀)) (take n (shown phase run other)) i
  pub first : length (take n (shown phase run₀ other₀)) ≡ n
  pub run-behind : drop n (glyphs run) ≡ drop n (glyphs run₀)
  pub other-behind : drop n (positions_in other) ≡ drop n (positions_in other₀)
  pub run_len : length run ≡ length run₀
  pub other-len : length other ≡ length other₀

module _ {p : Info → Info → Bool} {phase : Phase} {n : ℕ} where
  groups_none : {run other : List ℕ} → RunOf phase n run other → GroupTurning p phase n run other run other 0
  groups_none {run} {other} w = record {
    whole = w;
    groups = regrouping-none refl;
    first = shown-length w;
    run-behind = refl;
    other-behind = refl;
    run_len = refl;
    other-len = refl;
  }

  module _ {run₀ other₀ run other : List ℕ} {i : ℕ} (v : GroupTurning p phase n run₀ other₀ run other i) {run' other' : List ℕ} where
    groups-more : {e : ℕ} → Group p (shown phase run other) n i e → Turns phase i e run other run' other' → length run' ≡ length run → length other' ≡ length other
        → GroupTurning p phase n run₀ other₀ run' other' e
    groups-more {e} g turns lr lo =
        let order : i ≤ e = omega (arith, g.after) in
        let t = turns-rearrange v.whole order g.inside turns in
        record {
          whole = run-lengths v.whole lr lo;
          groups = regrouping-more v.groups (omega (arith, g.after)) (omega (arith, g.inside, v.first)) g.is t.is;
          first = v.first;
          run-behind = t.run-behind ∙ v.run-behind;
          other-behind = t.other-behind ∙ v.other-behind;
          run_len = lr ∙ v.run_len;
          other-len = lo ∙ v.other-len;
        }

    groups-done : n ≤ i → Turns phase 0 n run other run' other' → Rearranges (λ l. regrouped (group_sizes p (infos l)) l) phase n run₀ other₀ run' other'
    groups-done o turns = let t = turns-rearrange v.whole zero-le (le_refl n) turns in record {
      is = regrouping-done v.groups (omega (arith, o, v.first)) v.first t.is;
      run-behind = t.run-behind ∙ v.run-behind;
      other-behind = t.other-behind ∙ v.other-behind;
    }

  -- where the act turns its range, and the whole run is turned then
  pub turns_each : {F : Type 0} {g : Shared F Taken (Unit {0} × Pair)} {act : F} {run₀ other₀ run other run' other' : List ℕ} → RunOf phase n run₀ other₀ → ActedOnEach g act p n run₀ other₀ run other
      → ((s e : ℕ) (run other run' other' : List ℕ) → ActedOnGroup g act s e run other run' other' → Turns phase s e run other run' other') → Turns phase 0 n run other run' other'
      → Rearranges (λ l. regrouped (group_sizes p (infos l)) l) phase n run₀ other₀ run' other'
  turns_each {run₀ = run₀} {other₀} r w h =
      groups-done
      (holds-after {Holds = λ s run other. GroupTurning p phase n run₀ other₀ run other s} (groups_none r)
      (λ s e run other run' other' v o g c lr lo. groups-more v (g.is phase other v.whole.clean) (h s e run other run' other' c) lr lo) w.acted)
      w.end

-- what the turn of a group asks for
pub turning-room : {phase : Phase} {n : ℕ} {run other p q : List ℕ} {s e : ℕ} → RunOf phase n run other → length p ≡ length run → length q ≡ length other → s < e → e ≤ n → (s ≤ e) × RunOf phase e p q
turning-room w lr lo o i = (omega (arith, o), run-shorter (run-lengths w lr lo) i)

-- An act on each group: what holds after it.
use mathlib.Core.{Path.◌≡◌, Path.refl, Path.ap, Path.◌∙◌, Bool.Bool, List.List}
use Rattle.std.proofs.Common.{ℕ, [], ◌-◌, ◌<◌, ◌≤◌, arith}
use Rattle.std.specs.Fn.{Shared}
use denote.Ref.{MutBor}
use lib.{ListN.length}
use Rattle.records.specs.{Plain, Glyphs.Info, View.glyphs}
use Rattle.records.proofs.View.{glyphs-same}
use Rattle.lists.specs.inner.Swapping.{Pair}
use Rattle.edits.specs.inner.Reversals.{EndsGroup}
use Rattle.edits.specs.inner.Grouped.{Taken, MayActOnEach, ActedOnGroup, ActedUpTo, no_group, one_group, ActedOnEach}

-- the groups up to place s are done
pub record OnEach {F : Type 0} (g : Shared F Taken (Unit {0} × Pair)) (act : F) (p : Info → Info → Bool) (n : ℕ) (run₀ other₀ : List ℕ) (run other : List ℕ) (s : ℕ) : Type 0 where
  pub may : MayActOnEach g act n run₀ other₀
  pub acted : ActedUpTo g act p n run₀ other₀ s run other
  pub same-run : length run ≡ length run₀
  pub same-other : length other ≡ length other₀

module _ {F : Type 0} {g : Shared F Taken (Unit {0} × Pair)} {act : F} {p : Info → Info → Bool} {n : ℕ} {run₀ other₀ : List ℕ} where
  pub on_none : MayActOnEach g act n run₀ other₀ → OnEach g act p n run₀ other₀ run₀ other₀ 0
  on_none m = record { may = m; acted = no_group; same-run = refl; same-other = refl }

  module _ {run other : List ℕ} {s : ℕ} (v : OnEach g act p n run₀ other₀ run other s) where
    pub on-fits : n ≤ length (glyphs run)
    on-fits = rw (glyphs-same run run₀ v.same-run) v.may.fits

    module _ {e : ℕ} (o : s < n) (w : EndsGroup p run s n e) where
      pub on-less : n - e < n - s
      on-less = let g = w.is Plain [] refl in omega (arith, g.after, g.inside)

      pub on-may : (a b : MutBor (List ℕ)) → a.now ≡ run → b.now ≡ other → g.pre act (a, (b, (s, (e, tt))))
      on-may a b ea eb = let g = w.is Plain [] refl in v.may.law a b s e (ap length ea ∙ v.same-run) (ap length eb ∙ v.same-other) g.after g.inside

      pub on_more : {run' other' : List ℕ} → ActedOnGroup g act s e run other run' other' → length run' ≡ length run → length other' ≡ length other → OnEach g act p n run₀ other₀ run' other' e
      on_more c lr lo = record { may = v.may; acted = one_group v.acted o w c lr lo; same-run = lr ∙ v.same-run; same-other = lo ∙ v.same-other }

    pub on-done : n ≤ s → ActedOnEach g act p n run₀ other₀ run other
    on-done o = record { at = s; end = o; acted = v.acted }

  -- THE LAW: what holds before and is kept by each act holds after
  pub holds-after : {Holds : ℕ → (run other : List ℕ) → Type 0} → Holds 0 run₀ other₀
      → ((s e : ℕ) (run other run' other' : List ℕ) → Holds s run other → s < n → EndsGroup p run s n e → ActedOnGroup g act s e run other run' other' → length run' ≡ length run → length other' ≡ length other → Holds e run' other')
      → {s : ℕ} {run other : List ℕ} → ActedUpTo g act p n run₀ other₀ s run other → Holds s run other
  holds-after i m no_group = i
  holds-after i m (one_group d o w c lr lo) = m _ _ _ _ _ _ (holds-after i m d) o w c lr lo

-- for the proofs of functions
pub ruleset on_each = (on_none, on-fits, on-less, on-may, on_more, on-done)

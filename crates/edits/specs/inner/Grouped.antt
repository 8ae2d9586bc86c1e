-- What is asked of an act on each group of a run, and what they leave.
use mathlib.Core.{Path.◌≡◌, Bool.Bool, List.List}
use Rattle.std.specs.Prelude.{ℕ, ◌<◌, ◌≤◌}
use Rattle.std.specs.Fn.{Shared}
use denote.Ref.{MutBor}
use lib.{ListN.length}
use Rattle.records.specs.{Glyphs.Info, View.glyphs}
use Rattle.lists.specs.inner.Swapping.{Pair}
use Rattle.edits.specs.inner.Reversals.{EndsGroup}

-- the run, the other slice, and a range of the run
abbrev pub Taken : Type 0
Taken = MutBor (List ℕ) × (MutBor (List ℕ) × (ℕ × (ℕ × Unit {0})))

module _ {F : Type 0} (g : Shared F Taken (Unit {0} × Pair)) (act : F) where
  -- the act may be called at any range of the first n glyphs, on slices as long as these
  pub record MayActOnEach (n : ℕ) (run other : List ℕ) : Type 0 where
    pub fits : n ≤ length (glyphs run)
    pub law : (p q : MutBor (List ℕ)) (s e : ℕ) → length p.now ≡ length run → length q.now ≡ length other → s < e → e ≤ n → g.pre act (p, (q, (s, (e, tt))))

  -- called at s..e, it left run' and other'
  pub record ActedOnGroup (s e : ℕ) (run other run' other' : List ℕ) : Type 0 where
    pub first : MutBor (List ℕ)
    pub second : MutBor (List ℕ)
    pub shows-first : first.now ≡ run
    pub shows-second : second.now ≡ other
    pub left-first : MutBor (List ℕ)
    pub left-second : MutBor (List ℕ)
    pub met : g.post act (first, (second, (s, (e, tt)))) (tt, (left-first, (left-second, tt)))
    pub leaves-first : left-first.now ≡ run'
    pub leaves-second : left-second.now ≡ other'

  -- called at each group of the first n glyphs that ends at s or before
  pub data ActedUpTo (p : Info → Info → Bool) (n : ℕ) (run₀ other₀ : List ℕ) : ℕ → List ℕ → List ℕ → Type 0 where
    no_group : ActedUpTo p n run₀ other₀ 0 run₀ other₀
    one_group : {s e : ℕ} {run other run' other' : List ℕ} → ActedUpTo p n run₀ other₀ s run other → s < n → EndsGroup p run s n e → ActedOnGroup s e run other run' other' → length run' ≡ length run → length other' ≡ length other
        → ActedUpTo p n run₀ other₀ e run' other'

  -- called at each group of the first n glyphs
  pub record ActedOnEach (p : Info → Info → Bool) (n : ℕ) (run₀ other₀ run other : List ℕ) : Type 0 where
    pub at : ℕ
    pub end : n ≤ at
    pub acted : ActedUpTo p n run₀ other₀ at run other

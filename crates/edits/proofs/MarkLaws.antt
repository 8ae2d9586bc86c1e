-- The flag forms on slices: from what their loops say.
use mathlib.Core.{Path.◌≡◌, Path.sym, Path.ap, Path.ap₂, Path.◌∙◌, Bool.Bool, Bool.true, Bool.false, Bool.cond, List.List}
use Rattle.std.proofs.Common.{ℕ, ◌-◌, ◌<◌, ◌≤◌, arith, le-ltb, lt-ltb}
use Rattle.std.specs.Prelude.{Option, Some, None}
use lib.Seq.{slice}
use Rattle.records.specs.{Glyphs.Glyph, Glyphs.flagged, Ranges.clusters, Ranges.edit, View.glyphs}
use Rattle.records.proofs.View.{glyphs-same}
use Rattle.lists.specs.{declared.Lists.Lists, inner.Held.exchanged, inner.Verdicts.Sided}
use Rattle.edits.specs.Flags.{interior, sought}
use Rattle.edits.specs.inner.Marks.{flagged_run, flagged_part, marked_part, sought_out, OutFlagged}
use Rattle.edits.proofs.FlagLaws.{interior-empty, sought-empty}

module _ {interiorly : Bool} (level bits s e : ℕ) (l : List (Glyph ℕ)) where
  pub run-interior : {l' : List (Glyph ℕ)} → interiorly ≡ true → 1 < e - s → l' ≡ interior level (sought level (slice s e (clusters l))) bits s e l → l' ≡ flagged_run interiorly level bits s e l
  unfolding flagged_run
  run-interior h k el = rw (h, le-ltb (e - s) 2 k) el

  pub run_short : interiorly ≡ true → e - s ≤ 1 → l ≡ flagged_run interiorly level bits s e l
  unfolding flagged_run
  run_short h k = rw (h, lt-ltb (e - s) 2 (omega arith))

  pub run-all : {l' : List (Glyph ℕ)} → interiorly ≡ false → l' ≡ edit s e (flagged bits) l → l' ≡ flagged_run interiorly level bits s e l
  unfolding flagged_run
  run-all h el = rw h el

-- ---- ranges that may be empty
pub sought-none : (level s e : ℕ) (cs : List ℕ) → s ≤ e → e ≤ s → 4294967295 ≡ sought level (slice s e cs)
sought-none level s e cs o k = let same : e ≡ s = omega arith in rw same (sym (sought-empty level s cs))

mark-none : (level m bits s e : ℕ) (l : List (Glyph ℕ)) → s ≤ e → e ≤ s → l ≡ interior level m bits s e l
mark-none level m bits s e l o k = let same : e ≡ s = omega arith in rw same (sym (interior-empty level m bits s l))

module _ {sought : Option ℕ} (level bits s e : ℕ) (l : List (Glyph ℕ)) where
  pub part-interior : {m : ℕ} {l' : List (Glyph ℕ)} → sought ≡ Some m → l' ≡ interior level m bits s e l → l' ≡ marked_part sought level bits s e l
  unfolding marked_part
  part-interior h el = rw h el

  pub part-none : {m : ℕ} → sought ≡ Some m → s ≤ e → e ≤ s → l ≡ marked_part sought level bits s e l
  unfolding marked_part
  part-none {m} h o k = rw h (mark-none level m bits s e l o k)

  pub part-all : {l' : List (Glyph ℕ)} → sought ≡ None → l' ≡ edit s e (flagged bits) l → l' ≡ marked_part sought level bits s e l
  unfolding marked_part
  part-all h el = rw h el

pub part-sought : (x : Bool) {sought : Option ℕ} (level m bits s e : ℕ) (l : List (Glyph ℕ)) → sought ≡ cond x (Some m) None → marked_part sought level bits s e l ≡ flagged_part x level m bits s e l
unfolding marked_part flagged_part
part-sought true level m bits s e l h = rw h
part-sought false level m bits s e l h = rw h

-- ---- on either slice
pub sided-as : {P Q : (run other run' other' : List ℕ) → Type 0} {x : Bool} {f g f' g' : List ℕ} → ((run other run' other' : List ℕ) → P run other run' other' → Q run other run' other') → Sided x P f g f' g' → Sided x Q f g f' g'
sided-as h w = record { first = λ e. h _ _ _ _ (w.first e); second = λ e. h _ _ _ _ (w.second e) }

-- the interior form went over the places i..j of the run, for m
pub record Marked (level m bits i j : ℕ) (run other run' other' : List ℕ) : Type 0 where
  pub run_is : glyphs run' ≡ interior level m bits i j (glyphs run)
  pub other-is : other' ≡ other

-- the cluster that an outbuffer form seeks, of the two slices, the second of which holds the run if x is true
unfoldable pub sought_in : (x : Bool) (level : ℕ) (at : Lists) (s e : ℕ) (f g : List ℕ) → ℕ
sought_in x level at s e f g = sought_out level s at.out_len at.idx e (glyphs (cond x g f)) (cond at.separate (glyphs (cond x f g)) (glyphs (cond x g f)))

-- the output is marked, then the run
marked-both : {level k bits s e : ℕ} {at : Lists} {run other run₁ other₁ run' other' : List ℕ} → k ≡ sought_out level s at.out_len at.idx e (glyphs run) (cond at.separate (glyphs other) (glyphs run))
    → (at.separate ≡ true → Marked level k bits s at.out_len other run other₁ run₁) → (at.separate ≡ false → Marked level k bits s at.out_len run other run₁ other₁)
    → Marked level k bits at.idx e run₁ other₁ run' other' → OutFlagged true level bits at s e run other run' other'
unfolding marked_part
marked-both {level} {k} {bits} {s} {e} {at} ek apart within w = record {
  m = Some k;
  m-is = ap Some ek;
  apart = λ h. let o = apart h in (w.run_is ∙ ap (λ (l : List ℕ). interior level k bits at.idx e (glyphs l)) o.other-is, ap glyphs w.other-is ∙ o.run_is);
  within = λ h. let o = within h in (w.run_is ∙ ap (interior level k bits at.idx e) o.run_is, w.other-is ∙ o.other-is);
}

-- out says which slice holds the output
module _ {x out : Bool} {level bits s e : ℕ} {at : Lists} {f g f₁ g₁ f' g' : List ℕ} (eo : out ≡ exchanged at.separate x) where
  pub out-interior : {m search : ℕ} → search ≡ level → m ≡ sought_in x search at s e f g → Sided out (Marked search m bits s at.out_len) f g f₁ g₁ → Sided x (Marked search m bits at.idx e) f₁ g₁ f' g' → Sided x (OutFlagged true level bits at s e) f g f' g'
  unfolding sought_in
  out-interior {m} {search} es em p q = rw (← es) (record {
    first = λ h. marked-both (em ∙ ap (λ (b : Bool). sought_in b search at s e f g) h) (λ k. p.second (side k h)) (λ k. p.first (side k h)) (q.first h);
    second = λ h. marked-both (em ∙ ap (λ (b : Bool). sought_in b search at s e f g) h) (λ k. p.first (side k h)) (λ k. p.second (side k h)) (q.second h);
  })
    where
      side : {y z : Bool} → at.separate ≡ y → x ≡ z → out ≡ exchanged y z
      side k h = eo ∙ ap₂ (λ (a : Bool) (b : Bool). exchanged a b) k h

-- for the proofs of functions
pub ruleset marking = (run-interior, run_short, run-all, sought-none, part-interior, part-none, part-all)

pub ruleset out_marking = (glyphs-same)

-- The account of a buffer whose *rest* is the run, and what a call on it leaves.
use mathlib.Core.{Path.◌≡◌, Path.refl, Path.sym, Path.ap, Path.◌∙◌, Bool.Bool, Bool.true, Bool.false, Bool.◌||◌, List.List, List.[]}
use Rattle.std.proofs.Common.{ℕ, ◌≤◌, arith, ltb-false}
use lib.{Dec.ltb, ListN.length, ListN.take, ListN.drop}
use Rattle.records.specs.{Glyphs.Glyph, View.glyphs, View.positions_in}
use Rattle.records.proofs.View.{beyond-glyphs, beyond-positions}
use Rattle.lists.specs.declared.Buffer.{Buffer}
use Rattle.lists.specs.{Account.output_phase, Account.spoiled_phase, Account.idx, Account.with_rest, Contract.shown, Contract.gone_of, Contract.state_of, Contract.account_of, inner.Held.Held}
use Rattle.lists.proofs.{Outputs.gone-without, Accounts.output-of, Accounts.spoiled-of, Accounts.idx-of, Accounts.rest_of, SoundLaws.held-lengths}
use Rattle.lists.proofs.Showing.{account-is}
use Rattle.edits.specs.{inner.Acts.Acts, WholeRun.not_whole, inner.Wholes.WholeInput}
use Rattle.edits.proofs.Holding.{behind-further}
use Rattle.edits.proofs.MergeCalls.{neither_left, neither_right}

-- ---- the test
abbrev pub whole_test : Buffer → Bool
whole_test b = output_phase b.phase || (spoiled_phase b.phase || ltb 0 b.idx.0)

module _ {b : Buffer} {run other : List ℕ} (v : Held b run other) where
  pub whole-test : not_whole (account_of b run other) ≡ whole_test b
  unfolding not_whole
  whole-test = rw (output-of b run other, spoiled-of b run other) (ap (λ (x : Bool). output_phase b.phase || x) (by-phase (spoiled_phase b.phase) refl))
    where
      by-phase : (x : Bool) → spoiled_phase b.phase ≡ x → (x || ltb 0 (idx (account_of b run other))) ≡ (x || ltb 0 b.idx.0)
      by-phase true h = refl
      by-phase false h = ap (ltb 0) (idx-of b run other v h)

  pub whole-input : {t : Bool} → t ≡ whole_test b → t ≡ false → WholeInput b run other
  whole-input {t} e h =
      let none : whole_test b ≡ false = sym e ∙ h in
      let more : (spoiled_phase b.phase || ltb 0 b.idx.0) ≡ false = neither_right (output_phase b.phase) _ none in
      let low : b.idx.0 ≤ 0 = ltb-false 0 b.idx.0 (neither_right (spoiled_phase b.phase) _ more) in
      record { held = v; plain = neither_left (output_phase b.phase) _ none; clean = neither_left (spoiled_phase b.phase) _ more; start = omega arith }

-- ---- the account
module _ {b : Buffer} {run other : List ℕ} (w : WholeInput b run other) where
  pub not-not-whole : not_whole (account_of b run other) ≡ false
  not-not-whole = whole-test w.held ∙ rw (w.plain, w.clean, w.start)

  pub whole-gone : gone_of b ≡ 0
  whole-gone = gone-without b w.plain w.clean

  pub whole-rest : length (account_of b run other).rest ≡ b.len.0
  whole-rest = omega (arith, rest_of b run other w.held w.clean, w.start)

  pub account-whole : account_of b run other ≡ record { done = []; passed = []; rest = take b.len.0 (shown b.phase run other); state = state_of b }
  account-whole = rw (account-is b run other, whole-gone, w.held.none w.plain, w.start)

-- lengths are all that it goes by
pub whole-lengths : {b : Buffer} {run other run' other' : List ℕ} → length run' ≡ length run → length other' ≡ length other → WholeInput b run other → WholeInput b run' other'
whole-lengths {b} {run} {other} {run'} {other'} lr lo w = record { held = held-lengths b run other run' other' lr lo w.held; plain = w.plain; clean = w.clean; start = w.start }

-- ---- h on *rest*, in the same places
pub whole_is : {b : Buffer} {run other : List ℕ} (run' other' : List ℕ) → WholeInput b run other → length run' ≡ length run → length other' ≡ length other
    → (h : List (Glyph ℕ) → List (Glyph ℕ)) → take b.len.0 (shown b.phase run' other') ≡ h (take b.len.0 (shown b.phase run other))
    → account_of b run' other' ≡ with_rest (h (account_of b run other).rest) (account_of b run other)
unfolding with_rest
whole_is {b} {run} {other} run' other' w lr lo h e = account-whole (whole-lengths lr lo w) ∙ rw (account-whole w, e)

module _ {b : Buffer} {run other run' other' : List ℕ} (w : WholeInput b run other) (lr : length run' ≡ length run) (lo : length other' ≡ length other) where
  module _ (dr : drop b.len.0 (glyphs run') ≡ drop b.len.0 (glyphs run)) (dp : drop b.len.0 (positions_in other') ≡ drop b.len.0 (positions_in other)) where
    pub whole-acts : (h : List (Glyph ℕ) → List (Glyph ℕ)) → take b.len.0 (shown b.phase run' other') ≡ h (take b.len.0 (shown b.phase run other)) → Acts (λ a. with_rest (h a.rest) a) b run other b run' other'
    whole-acts h e =
        let n : ℕ = b.limits.allocated in
        record {
          is = whole_is run' other' w lr lo h e;
          size = refl;
          side = refl;
          run-beyond = beyond-glyphs n run' run (behind-further b.len.0 n (glyphs run) (glyphs run') w.held.len-in dr);
          other-beyond = beyond-positions n other' other (behind-further b.len.0 n (positions_in other) (positions_in other') w.held.len-in dp);
          held = w.held;
        }

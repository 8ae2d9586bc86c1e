-- `set_length`: zeros behind the run, on the account.
use Rattle.lists.proofs.Decisions.{turned}
use Rattle.lists.specs.inner.States.{Decision}
use Rattle.lists.specs.inner.Verdicts.{Turned}
use Rattle.std.specs.Prelude.{Ok, Some}
use Rattle.lists.specs.inner.Held.{fitting}
use mathlib.Core.{Path.◌≡◌, Path.refl, Path.sym, Path.ap, Path.◌∙◌, Bool.Bool, Bool.true, Bool.false, List.List, List.◌++◌, List.append-nil}
use Rattle.std.proofs.Common.{ℕ, ◌-◌, ◌<◌, ◌≤◌, arith}
use lib.{ListN.length, ListN.take, ListN.drop, ListN.replicate, Seq.take_all, Seq.take-take, Seq.length-take-le}
use Rattle.records.specs.{Phase, Position, Limits, Contradiction, WrongPhase, Glyphs.Glyph, Glyphs.blank, Glyphs.zero_position, Counters.capacity_of, Counters.grown, Ranges.copies, View.glyphs, View.positions_in, View.paired}
use Rattle.records.proofs.View.{length-paired}
use Rattle.records.proofs.Pairs.{paired-take, paired-append}
use Rattle.lists.specs.{declared.Buffer.Buffer}
use Rattle.lists.specs.{Account.Account, Account.positions_phase, Account.len, Account.sized, Account.failing, Account.with_rest, inner.Filled.filled, Account.answered, Account.needing, Contract.shown, Contract.account_of, Contract.sound, inner.Held.room_for, inner.States.reply}
use Rattle.lists.proofs.Sides.{MeetsIn}
use Rattle.lists.proofs.{Accounts.len_of, Calls.in-answered, Filling.take-filled, Filling.drop-filled}
use Rattle.lists.proofs.Inner.{Roomy, roomy-grown}
use Rattle.lists.proofs.Decisions.{decided-unsound, decided-refused}
use Rattle.lists.proofs.SoundLaws.{soundness}
use Rattle.lists.proofs.Refusing.{refusing}
use Rattle.records.proofs.Tests.{tested}
use Rattle.lists.proofs.Showing.{shown-glyphs, shown-positions}
use Rattle.records.proofs.Apart.{paired-zeros}
use Rattle.records.proofs.Edited.{copies-zeros}
use Rattle.edits.specs.{inner.Fills.longer_buffer, inner.Fills.Lengthens, inner.Fills.Lengthened, inner.Fills.SetsLength, WholeRun.not_whole, WholeRun.set_length, inner.Wholes.WholeInput, inner.Wholes.RunOf}
use Rattle.edits.proofs.WholeInputs.{whole_test, not-not-whole}
use Rattle.edits.proofs.WholeCalls.{OnWhole, whole-refuses, places-fit}
use Rattle.edits.proofs.Lengths.{rest-is, room_fits, longer-held, longer-side, longer-is, longer-beyond, other-beyond, Needing, decided-lengthens}

-- ---- zeros behind the run
module _ {phase : Phase} {m n : ℕ} {run other : List ℕ} (w : RunOf phase n run other) where
  pub lengthened-short : n ≤ m → Lengthened phase m n run other run other
  unfolding copies
  lengthened-short o =
      let z : n - m ≡ 0 = omega arith in
      let l : List (Glyph ℕ) = shown phase run other in
      record { is = rw z (sym (append-nil (take n (take m l)) ∙ take-take n m l o)); behind = refl; other-behind = refl }

  module _ (o : m < n) where
    fits : n ≤ length (glyphs run)
    fits = w.room.fits

    other_fits : n ≤ length (positions_in other)
    other_fits = places-fit w

    -- all of the run is kept
    kept : (l : List (Glyph ℕ)) → n ≤ length l → take n (take m l) ≡ take m l
    kept l q = let k : length (take m l) ≡ m = length-take-le m l (omega arith) in take_all n (take m l) (omega arith)

    module _ (run' : List ℕ) (e : glyphs run' ≡ filled (record { glyph = 0; info = blank 0 }) m n (glyphs run)) where
      zeros-first : take n (glyphs run') ≡ take m (glyphs run) ++ replicate (n - m) (record { glyph = 0; info = blank 0 })
      zeros-first = ap (take n) e ∙ take-filled (record { glyph = 0; info = blank 0 }) m n (glyphs run) (omega arith) fits

      zeros-behind : drop n (glyphs run') ≡ drop n (glyphs run)
      zeros-behind = ap (drop n) e ∙ drop-filled (record { glyph = 0; info = blank 0 }) m n (glyphs run) (omega arith) fits n (omega arith)

      pub lengthened-plain : positions_phase phase ≡ false → Lengthened phase m n run other run' other
      lengthened-plain p =
          record {
            is = rw (shown-glyphs phase run' other p w.clean, shown-glyphs phase run other p w.clean, kept (glyphs run) fits, copies-zeros (n - m)) zeros-first;
            behind = zeros-behind;
            other-behind = refl;
          }

      pub lengthened-positions : {other' : List ℕ} → positions_phase phase ≡ true → positions_in other' ≡ filled zero_position m n (positions_in other) → Lengthened phase m n run other run' other'
      lengthened-positions {other'} p eo =
          let m : ℕ = m in
          let ps : List Position = positions_in other in
          let lm : length (take m (glyphs run)) ≡ m = length-take-le m (glyphs run) (omega arith) in
          let lp : length (take m ps) ≡ m = length-take-le m ps (omega (arith, other_fits)) in
          let zeros : take n (positions_in other') ≡ take m ps ++ replicate (n - m) zero_position = ap (take n) eo ∙ take-filled zero_position m n ps (omega arith) other_fits in
          let pairs : take n (paired (glyphs run') (positions_in other')) ≡ take m (paired (glyphs run) ps) ++ replicate (n - m) (record { glyph = 0; info = blank 0 }) =
          paired-take n (glyphs run') (positions_in other')
          ∙ (ap (λ (l : List (Glyph ℕ)). paired l (take n (positions_in other'))) zeros-first
          ∙ (ap (paired (take m (glyphs run) ++ replicate (n - m) (record { glyph = 0; info = blank 0 }))) zeros
          ∙ (paired-append (take m (glyphs run)) (replicate (n - m) (record { glyph = 0; info = blank 0 })) (take m ps) (replicate (n - m) zero_position) (lm ∙ sym lp)
          ∙ rw (paired-zeros (n - m), paired-take m (glyphs run) ps)))) in
          record {
            is = rw (shown-positions phase run' other' p, shown-positions phase run other p, kept (paired (glyphs run) ps) (rw (length-paired (glyphs run) ps) fits), copies-zeros (n - m)) pairs;
            behind = zeros-behind;
            other-behind = ap (drop n) eo ∙ drop-filled zero_position m n ps (omega arith) other_fits n (omega arith);
          }

-- ---- set_length
module _ (n : ℕ) where
  on-whole-length : OnWhole (λ capacity a. set_length 0 capacity n a)
  unfolding set_length
  on-whole-length = record { refuses = λ capacity a h. simp (h, refusing) }

  length-needs : (capacity : ℕ) (a : Account ℕ) → not_whole a ≡ false → (m : ℕ) → len a ≡ m
      → set_length 0 capacity n a ≡ needing capacity n a (answered 1 (with_rest (take n a.rest ++ copies (blank 0) (replicate (n - m) 0)) (sized n a))) (answered 0 (failing a))
  unfolding set_length
  length-needs capacity a h m e = simp (h, e, refusing)

  module _ {b : Buffer} {run other : List ℕ} (w : WholeInput b run other) where
    length-is : set_length 0 (capacity_of (length run)) n (account_of b run other)
        ≡ needing (capacity_of (length run)) n (account_of b run other) (answered 1 (with_rest (take n (account_of b run other).rest ++ copies (blank 0) (replicate (n - b.len.0) 0)) (sized n (account_of b run other)))) (answered 0 (failing (account_of b run other)))
    length-is = length-needs _ _ (not-not-whole w) b.len.0 (len_of b run other w.held w.clean)

    length-done : {run' other' : List ℕ} → room_for (capacity_of (length run)) n b.limits ≡ fitting → length run' ≡ length run → length other' ≡ length other
        → Lengthened b.phase b.len.0 n run other run' other' → MeetsIn (λ capacity a. set_length 0 capacity n a) b run other (reply (longer_buffer n (grown n b.limits) b) (Ok (Some 1))) run' other'
    unfolding sized
    length-done {run'} {other'} h lr lo x =
        let more : List (Glyph ℕ) = copies (blank 0) (replicate (n - b.len.0) 0) in
        let r : Roomy b n (grown n b.limits) run = roomy-grown b run other w.held n h in
        in-answered (longer_buffer n (grown n b.limits) b) (longer-side w n (grown n) r) (longer-beyond w n (grown n) r run' other' lr lo x.behind) (other-beyond w n (grown n) r run' other' lr lo x.other-behind) (longer-held w n (grown n) r) 1
        (length-is ∙ (room_fits w n h _ _ ∙ ap (answered 1) (sym (longer-is w n (grown n) r run' other' lr lo _ (x.is ∙ ap (λ (l : List (Glyph ℕ)). take n l ++ more) (sym (rest-is w)))))))
        refl

  length-needing : (b : Buffer) → Needing (λ capacity a. set_length 0 capacity n a) b n (grown n b.limits) (Some 1) (Some 0) (RunOf b.phase n) (Lengthened b.phase b.len.0 n)
  length-needing b = record {
    then = _;
    sized = λ run other w. length-is w;
    done = λ run other run' other' w h lr lo act. length-done w h lr lo act;
    asked = λ f s w k. record { clean = w.clean; room = record { fits = k; same = w.held.same; few = omega (arith, k, w.held.most) } };
  }

module _ {n : ℕ} {b : Buffer} {f s : List ℕ} {v : Decision} where
  pub length-unsound : sound b f s ≡ false → Turned Contradiction v → SetsLength n b f s v
  length-unsound h w = record { is = decided-unsound h w }

  module _ {t : Bool} (h : sound b f s ≡ true) (et : t ≡ whole_test b) where
    pub length-not-whole : t ≡ true → Turned WrongPhase v → SetsLength n b f s v
    length-not-whole k w = record { is = decided-refused h (whole-refuses (on-whole-length n) et k) w }

    pub length-ahead : {m : ℕ} {l : Limits} → t ≡ false → m ≡ capacity_of (length f) → l ≡ grown n b.limits → Lengthens m n l (Some 1) (Some 0) b v → SetsLength n b f s v
    length-ahead k em el w = record { is = decided-lengthens h et k (length-needing n b) em (rw el at w) }

-- for the proofs of functions
pub ruleset length_calls = (turned, soundness, tested, lengthened-short, lengthened-plain, lengthened-positions, length-unsound, length-not-whole, length-ahead)

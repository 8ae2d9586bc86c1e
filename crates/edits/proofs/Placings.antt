-- `place`: four numbers of one position, on the account.
use Rattle.lists.proofs.Decisions.{turned}
use Rattle.lists.specs.inner.States.{Decision}
use Rattle.lists.specs.inner.Verdicts.{Turned}
use Rattle.std.specs.Prelude.{Ok, None}
use mathlib.Core.{Path.◌≡◌, Path.refl, Path.sym, Path.ap, Path.◌∙◌, Bool.Bool, Bool.true, Bool.false, Bool.◌&&◌, Bool.false≢true, List.List}
use Rattle.std.proofs.Common.{ℕ, suc, ◌<◌, ◌≤◌, zero-le, arith, le-leb}
use borrow.Author.Tests.{lt-leb}
use lib.{Dec.leb, ListN.length, ListN.take, ListN.drop, ListN.get_or, ListN.set, Seq.drop-set-lt}
use Rattle.records.specs.{Phase, Plain, Output, Positions, Spoiled, InputPlace, Position, Contradiction, WrongPhase, OutOfRange, Glyphs.Glyph, Glyphs.Info, Glyphs.zero_position, Ranges.edit, View.glyphs, View.positions_in, View.paired, View.words_from}
use Rattle.records.proofs.View.{glyphs-same, positions-glyphs, length-paired, beyond-positions}
use Rattle.lists.specs.{declared.Buffer.Buffer}
use Rattle.lists.specs.{Account.Account, Account.State, Account.output_phase, Account.positions_phase, Account.spoiled_phase, Account.has_positions, Account.input, Account.len, Account.with_input, Account.refused, Account.accepted, Contract.gone_of, Contract.state_of, Contract.account_of, Contract.sound, inner.Held.Held, inner.States.reply, inner.Verdicts.Leaves}
use Rattle.lists.proofs.Sides.{MeetsIn}
use Rattle.lists.proofs.{Accounts.len_of, SoundLaws.sound-held, SoundLaws.held-turned, Accounts.positions-of, Calls.in-accepted, Decisions.near_same, Decisions.decided-unsound, Decisions.decided-refused, Decisions.decided-does}
use Rattle.edits.specs.{inner.Fills.repositioned, inner.Fills.Placeable, inner.Fills.Places, inner.Holding.holds, WholeRun.set_position, WholeRun.place}
use Rattle.lists.proofs.Outputs.{gone-without}
use Rattle.lists.proofs.SoundLaws.{soundness}
use Rattle.lists.proofs.Refusing.{refusing}
use Rattle.records.proofs.Tests.{tested}
use Rattle.lists.proofs.Showing.{shown-positions}
use Rattle.records.proofs.Edited.{edit-take}
use Rattle.edits.proofs.Bridge.{input-is, holds-input}
use Rattle.edits.proofs.MergeCalls.{own-within}
use Rattle.edits.proofs.Pairs.{paired-placed}

-- ---- phase positions
positions-clean : (p : Phase) → positions_phase p ≡ true → spoiled_phase p ≡ false
positions-clean Plain h = absurd (false≢true h)
positions-clean Output h = absurd (false≢true h)
positions-clean Positions h = refl
positions-clean Spoiled h = absurd (false≢true h)

no_output : (p : Phase) → positions_phase p ≡ true → output_phase p ≡ false
no_output Plain h = refl
no_output Output h = absurd (false≢true h)
no_output Positions h = refl
no_output Spoiled h = refl

-- ---- one glyph of the input has other words
module _ (h : Info → Info) (l l' : List (Glyph ℕ)) {i idx len : ℕ} (k : State) (inside : idx ≤ len) (fits : len ≤ length l) (at : i < len) where
  one-edited : l' ≡ edit i (suc i) h l → holds l' l' 0 idx len 0 k ≡ with_input (edit i (suc i) h (input (holds l l 0 idx len 0 k))) (holds l l 0 idx len 0 k)
  one-edited e =
      holds-input l l 0 idx len 0 k zero-le inside fits l' l' (edit i (suc i) h (input (holds l l 0 idx len 0 k)))
      (ap (take len) e ∙ (edit-take h i (suc i) len l (omega arith) at ∙ ap (edit i (suc i) h) (sym (input-is l l 0 idx len 0 k zero-le inside fits))))
      refl

-- ---- a buffer in phase positions
module _ {b : Buffer} {run other : List ℕ} (v : Held b run other) (h : positions_phase b.phase ≡ true) where
  length-is : len (account_of b run other) ≡ b.len.0
  length-is = len_of b run other v (positions-clean b.phase h)

  account-as : (o : List ℕ) → account_of b run o ≡ holds (paired (glyphs run) (positions_in o)) (paired (glyphs run) (positions_in o)) 0 b.idx.0 b.len.0 0 (state_of b)
  account-as o =
      let k : State = state_of b in
      let pairs : List (Glyph ℕ) = paired (glyphs run) (positions_in o) in
      own-within b run o (ap (λ (x : Bool). x && b.have_separate_output) (no_output b.phase h)) v.none
      ∙ (ap (λ (x : List (Glyph ℕ)). holds x x (gone_of b) b.idx.0 b.len.0 b.out_len.0 k) (shown-positions b.phase run o h)
      ∙ (ap (λ (g : ℕ). holds pairs pairs g b.idx.0 b.len.0 b.out_len.0 k) (gone-without b (no_output b.phase h) (positions-clean b.phase h))
      ∙ ap (λ (n : ℕ). holds pairs pairs 0 b.idx.0 b.len.0 n k) (v.none (no_output b.phase h))))

  pub placed-room : (i : ℕ) → i < b.len.0 → i < length (positions_in other)
  placed-room i k =
      let same : length (glyphs run) ≡ length (glyphs other) = glyphs-same run other v.same in
      omega (arith, v.len-in, v.all_in, positions-glyphs other)

-- ---- the call
pub put-placed : (ps : List Position) (xa ya xo yo i : ℕ) {ps' : List Position} {p : Position} → p ≡ get_or ps i zero_position
    → ps' ≡ set ps i (record { x_advance = xa; y_advance = ya; x_offset = xo; y_offset = yo; var = p.var; free = p.free }) → ps' ≡ set ps i (repositioned xa ya xo yo (get_or ps i zero_position))
unfolding repositioned
put-placed ps xa ya xo yo i {ps'} {p} eg ep = ep ∙ ap (λ (q : Position). set ps i (repositioned xa ya xo yo q)) eg

module _ (i : InputPlace) (xa ya xo yo : ℕ) where
  module _ (a : Account ℕ) where
    place_none : has_positions a ≡ false → place i xa ya xo yo a ≡ refused WrongPhase
    unfolding place
    place_none h = simp (h, refusing)

    place-outside : has_positions a ≡ true → leb (len a) i.0 ≡ true → place i xa ya xo yo a ≡ refused OutOfRange
    unfolding place
    place-outside h k = simp (h, k, refusing)

    place_inside : has_positions a ≡ true → leb (len a) i.0 ≡ false → place i xa ya xo yo a ≡ accepted (with_input (edit i.0 (suc i.0) (set_position xa ya xo yo) (input a)) a)
    unfolding place
    place_inside h k = simp (h, k, refusing)

  module _ {b : Buffer} {run other : List ℕ} (v : Held b run other) (h : positions_phase b.phase ≡ true) where
    place-beyond : b.len.0 ≤ i.0 → place i xa ya xo yo (account_of b run other) ≡ refused OutOfRange
    place-beyond k = place-outside _ (positions-of b run other ∙ h) (ap (λ (n : ℕ). leb n i.0) (length-is v h) ∙ le-leb b.len.0 i.0 k)

    place-done : {other' : List ℕ} → i.0 < b.len.0 → length other' ≡ length other → positions_in other' ≡ set (positions_in other) i.0 (repositioned xa ya xo yo (get_or (positions_in other) i.0 zero_position))
        → MeetsIn (λ capacity a. place i xa ya xo yo a) b run other (reply b (Ok None)) run other'
    place-done {other'} k lo e =
        let n : ℕ = b.limits.allocated in
        let gs : List (Glyph ℕ) = glyphs run in
        let ps : List Position = positions_in other in
        let room : i.0 < length gs = omega (arith, v.len-in, v.all_in) in
        let fits : b.len.0 ≤ length (paired gs ps) = rw (length-paired gs ps) (omega (arith, v.len-in, v.all_in)) in
        let pairs : paired gs (positions_in other') ≡ edit i.0 (suc i.0) (set_position xa ya xo yo) (paired gs ps) =
        ap (paired gs) e ∙ paired-placed xa ya xo yo i.0 gs ps room (placed-room v h i.0 k) in
        let behind : words_from n other ≡ words_from n other' =
        beyond-positions n other other' (sym (ap (drop n) e ∙ drop-set-lt n ps i.0 _ (omega (arith, v.len-in)))) in
        in-accepted b refl refl (sym behind) v
        (place_inside _ (positions-of b run other ∙ h) (ap (λ (m : ℕ). leb m i.0) (length-is v h) ∙ lt-leb b.len.0 i.0 k)
        ∙ ap accepted
        (sym
        (account-as v h other'
        ∙ (one-edited (set_position xa ya xo yo) (paired gs ps) (paired gs (positions_in other')) (state_of b) v.idx-in fits k pairs
        ∙ ap (λ (a : Account ℕ). with_input (edit i.0 (suc i.0) (set_position xa ya xo yo) (input a)) a) (sym (account-as v h other))))))
        refl

-- ---- its verdict
module _ {i : InputPlace} {b : Buffer} {f s : List ℕ} {v : Decision} where
  pub place-unsound : sound b f s ≡ false → Turned Contradiction v → Places i b f s v
  place-unsound h w = record { is = λ xa ya xo yo. decided-unsound h w }

  module _ (h : sound b f s ≡ true) where
    pub place-unplaced : positions_phase b.phase ≡ false → Turned WrongPhase v → Places i b f s v
    place-unplaced p w = record { is = λ xa ya xo yo. decided-refused h (record { law = λ run other l. place_none i xa ya xo yo _ (positions-of b run other ∙ p) }) w }

    module _ (p : positions_phase b.phase ≡ true) where
      pub place-behind : b.len.0 ≤ i.0 → Turned OutOfRange v → Places i b f s v
      place-behind k w = record { is = λ xa ya xo yo. decided-refused h (record { law = λ run other l. place-beyond i xa ya xo yo l.held p k }) w }

      pub place-ahead : i.0 < b.len.0 → Leaves b true None v → Places i b f s v
      place-ahead k w = record {
        is = λ xa ya xo yo. decided-does h (record {
          near = near_same b;
          none = λ c. absurd (false≢true (sym c));
          law = λ run other run' other' l lr lo act. rw act.run_is (place-done i xa ya xo yo l.held p k lo act.other-is);
        }) (λ c. let u = sound-held b f s h in record { in-first = placed-room (held-turned b f s u) p i.0 k; in-second = placed-room u p i.0 k }) w;
      }

pub placeable-turned : {n : ℕ} {f s : List ℕ} → Placeable n f s → Placeable n s f
placeable-turned w = record { in-first = w.in-second; in-second = w.in-first }

-- for the proofs of functions
pub ruleset place_calls = (turned, soundness, tested, put-placed, place-unsound, place-unplaced, place-behind, place-ahead)

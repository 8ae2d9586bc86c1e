-- Laws of calls, whichever the call: refusal 1 and which slice holds the run, and what a call that was decided leaves.
use Rattle.std.specs.Prelude.{Ok, Err, Some, None}
use mathlib.Core.{Path.◌≡◌, Path.refl, Path.sym, Path.ap, Path.◌∙◌, Bool.Bool, Bool.true, Bool.false, Bool.cond, Bool.not, Bool.false≢true, List.List}
use Prim.Native.Nat.{ℕ}
use lib.{ListN.length}
use Rattle.records.specs.{Refusal, Contradiction, Answers.no, Answers.refusal_number, Counters.capacity_of, Counters.rightly_lent, View.words_from}
use Rattle.records.proofs.View.{lent_same}
use Rattle.lists.specs.{declared.Buffer.Buffer, declared.Reply.Reply}
use Rattle.lists.specs.Account.{Account}
use Rattle.lists.specs.Account.{refuse◌when◌else◌, Result, refused, accepted, answered, outcome}
use Rattle.lists.specs.{Contract.account_of, Contract.account, Contract.sound, inner.Held.Held}
use Rattle.lists.specs.inner.States.{reply}
use Rattle.lists.specs.Contract.{judged, LeavesAlone, Meets}
use Rattle.lists.specs.inner.Held.{exchanged}
use Rattle.lists.proofs.Sides.{account_in, MeetsIn}
use Rattle.lists.proofs.SoundLaws.{sound-lent, held-sound, held-turned, held-lengths}

-- ---- which slice holds the run
module _ (b : Buffer) (f s : List ℕ) where
  pub account-first : b.swapped ≡ false → account b f s ≡ account_of b f s
  unfolding account
  account-first h = rw h

  pub account-second : b.swapped ≡ true → account b f s ≡ account_of b s f
  unfolding account
  account-second h = rw h

side-first : (x : Bool) (r : Buffer) (f s : List ℕ) → x ≡ false → account_in x r f s ≡ account r f s
unfolding account_in account
side-first x r f s h = rw h

side-second : (x : Bool) (r : Buffer) (f s : List ℕ) → x ≡ true → account_in x r s f ≡ account r f s
unfolding account_in account
side-second x r f s h = rw h (by_side r.swapped)
  where
    by_side : (y : Bool) → cond (not y) (account_of r f s) (account_of r s f) ≡ cond y (account_of r s f) (account_of r f s)
    by_side true = refl
    by_side false = refl

-- a call that exchanges nothing
same-side : (x y : Bool) → x ≡ y → exchanged x y ≡ false
same-side true true e = refl
same-side true false e = absurd (false≢true (sym e))
same-side false true e = sym e
same-side false false e = refl

pub in-side : (x : Bool) (r : Buffer) (run other : List ℕ) → r.swapped ≡ x → account_in x r run other ≡ account_of r run other
unfolding account_in
in-side x r run other e = rw (same-side x r.swapped (sym e))

-- ---- the shell of an exported call
still-lent : (b : Buffer) (f s f' s' : List ℕ) → sound b f s ≡ true → length f' ≡ length f → length s' ≡ length s → rightly_lent (length f') (length s') ≡ true
still-lent b f s f' s' h ef es = rw (ef, es) (sound-lent b f s h)

pub judged-sound : (call : ℕ → Account ℕ → Result ℕ) (b : Buffer) (f s : List ℕ) → sound b f s ≡ true → judged call b f s ≡ outcome (account b f s) (call (capacity_of (length f)) (account b f s))
unfolding judged refuse◌when◌else◌
judged-sound call b f s h = rw h

pub judged-unsound : (call : ℕ → Account ℕ → Result ℕ) (b : Buffer) (f s : List ℕ) → sound b f s ≡ false → judged call b f s ≡ outcome (account b f s) (refused Contradiction)
unfolding judged refuse◌when◌else◌
judged-unsound call b f s h = rw h

pub outcome-refused : {G : Type 0} (a : Account G) (why : Refusal) → outcome a (refused why) ≡ record { answer = no (refusal_number why); after = a }
unfolding outcome
outcome-refused a why = refl

pub untouched : (refuses : Bool) (size : ℕ) (b : Buffer) (f s : List ℕ) → LeavesAlone refuses size b f s b f s
untouched refuses size b f s = record { stays = λ k. (refl, refl, refl); first-beyond = refl; second-beyond = refl; sounds = refl }

module _ {call : ℕ → Account ℕ → Result ℕ} {b : Buffer} {f s : List ℕ} {r : Reply} where
  pub shell-unsound : sound b f s ≡ false → r ≡ reply b (Err Contradiction) → Meets call b f s r f s
  unfolding judged refuse◌when◌else◌ outcome
  shell-unsound h e = rw e (record { is = rw h; alone = untouched _ _ b f s })

  module _ {f' s' : List ℕ} (h : sound b f s ≡ true) (ef : length f' ≡ length f) (es : length s' ≡ length s) where
    pub shell-first : b.swapped ≡ false → MeetsIn call b f s r f' s' → Meets call b f s r f' s'
    shell-first g v = record {
      is = rw (← side-first b.swapped r.buffer f' s' g, judged-sound call b f s h, account-first b f s g) v.is;
      alone = record {
        stays = v.stays;
        first-beyond = v.run-beyond;
        second-beyond = v.other-beyond;
        sounds = held-sound r.buffer f' s' (still-lent b f s f' s' h ef es) (held-lengths r.buffer f s f' s' ef es v.held) ∙ sym h;
      };
    }

    pub shell-second : b.swapped ≡ true → MeetsIn call b s f r s' f' → Meets call b f s r f' s'
    shell-second g v =
        let e : length f ≡ length s = lent_same f s (sound-lent b f s h) in
        record {
          is = rw (← side-second b.swapped r.buffer f' s' g, judged-sound call b f s h, account-second b f s g, e) v.is;
          alone = record {
            stays = λ k. let p = v.stays k in (p.0, p.2, p.1);
            first-beyond = v.other-beyond;
            second-beyond = v.run-beyond;
            sounds = held-sound r.buffer f' s' (still-lent b f s f' s' h ef es) (held-lengths r.buffer f s f' s' ef es (held-turned r.buffer s f v.held)) ∙ sym h;
          };
        }

  -- a call that writes no word and goes by the account alone
  module _ (h : sound b f s ≡ true) where
    pub shell-accepted : (b' : Buffer) → call (capacity_of (length f)) (account b f s) ≡ accepted (account b' f s) → r ≡ reply b' (Ok None) → Held b' f s → Meets call b f s r f s
    unfolding outcome
    shell-accepted b' e er v = rw er (record { is = sym (judged-sound call b f s h ∙ ap (outcome (account b f s)) e); alone = record { stays = λ k. absurd (false≢true k); first-beyond = refl; second-beyond = refl; sounds = held-sound b' f s (sound-lent b f s h) v ∙ sym h } })

-- ---- below the shell
module _ {call : ℕ → Account ℕ → Result ℕ} {b : Buffer} {run other : List ℕ} {r : Reply} where
  pub in-refused : (why : Refusal) → call (capacity_of (length run)) (account_of b run other) ≡ refused why → Held b run other → r ≡ reply b (Err why) → MeetsIn call b run other r run other
  unfolding outcome
  in-refused why e v er = rw er (record {
    is = rw (in-side b.swapped b run other refl) (sym (ap (outcome (account_of b run other)) e));
    stays = λ k. (refl, refl, refl);
    run-beyond = refl;
    other-beyond = refl;
    held = v;
  })

  -- b' is the buffer after the call, x the value that it answers
  module _ {run' other' : List ℕ} (b' : Buffer) (side : b'.swapped ≡ b.swapped) (br : words_from b'.limits.allocated run' ≡ words_from b'.limits.allocated run) (bo : words_from b'.limits.allocated other' ≡ words_from b'.limits.allocated other) (v : Held b' run other) where
    pub in-accepted : call (capacity_of (length run)) (account_of b run other) ≡ accepted (account_of b' run' other') → r ≡ reply b' (Ok None) → MeetsIn call b run other r run' other'
    unfolding outcome
    in-accepted e er = rw er (record {
      is = rw (in-side b.swapped b' run' other' side) (sym (ap (outcome (account_of b run other)) e));
      stays = λ k. absurd (false≢true k);
      run-beyond = br;
      other-beyond = bo;
      held = v;
    })

    pub in-answered : (x : ℕ) → call (capacity_of (length run)) (account_of b run other) ≡ answered x (account_of b' run' other') → r ≡ reply b' (Ok (Some x)) → MeetsIn call b run other r run' other'
    unfolding outcome
    in-answered x e er = rw er (record {
      is = rw (in-side b.swapped b' run' other' side) (sym (ap (outcome (account_of b run other)) e));
      stays = λ k. absurd (false≢true k);
      run-beyond = br;
      other-beyond = bo;
      held = v;
    })

  -- a call that is handed on to another from the same state
  pub in-call : {other-call : ℕ → Account ℕ → Result ℕ} {run' other' : List ℕ} → call (capacity_of (length run)) (account_of b run other) ≡ other-call (capacity_of (length run)) (account_of b run other) → MeetsIn other-call b run other r run' other' → MeetsIn call b run other r run' other'
  in-call e v = record { is = v.is ∙ ap (outcome (account_of b run other)) (sym e); stays = v.stays; run-beyond = v.run-beyond; other-beyond = v.other-beyond; held = v.held }

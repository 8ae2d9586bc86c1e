-- Laws of the calls on the counters and the cursor that write no word.
use Rattle.std.specs.Prelude.{Ok, Err, None}
use mathlib.Core.{Path.◌≡◌, Path.refl, Path.sym, Path.ap, Path.◌∙◌, Bool.Bool, Bool.true, Bool.false, Bool.cond, Bool.not, Bool.beq, Bool.◌&&◌, Bool.false≢true, List.List, List.[], List.◌++◌, List.map}
use Prim.Native.Nat.{ℕ, ◌+◌, ◌≤◌, ◌<◌}
use native.Mathlib.Omega.{arith}
use borrow.Author.Tests.{le-leb, lt-leb, le-ltb, lt-ltb}
use lib.{Dec.ltb, ListN.length, ListN.take, ListN.drop, ListN.take-append-drop, Seq.slice, Seq.slice_empty, Seq.take-take, Seq.drop-drop}
use Rattle.records.specs.{Phase, Plain, Output, Positions, Spoiled, Refusal, BadOperand, Answers.no, Answers.refusal_number, Counters.capacity_of, Counters.rightly_lent, Counters.fresh_limits, Glyphs.Glyph, Glyphs.change, Glyphs.with_position, Glyphs.zero_position, View.glyphs, View.positions_in}
use Rattle.records.proofs.View.{glyphs-plain, paired-plain}
use Rattle.records.proofs.Renaming.{take-map}
use Rattle.lists.specs.{declared.Buffer.Buffer, declared.Reply.Reply}
use Rattle.lists.specs.Account.{Account, in_phase, with_gone, output_phase, spoiled_phase, input, fresh_account, read_level}
use Rattle.lists.specs.Account.{Result, Outcome, refused, accepted, outcome, refuse◌when◌else◌}
use Rattle.lists.specs.Cursor.{fresh, dropping, cursor_at, without_positions, opened}
use Rattle.lists.specs.{Contract.shown, Contract.gone_of, Contract.state_of, Contract.account_of, Contract.account, Contract.in_order, Contract.sound, inner.Held.Soundness, inner.Held.Held}
use Rattle.lists.specs.inner.States.{at_places, fresh_buffer, opened_buffer, restarted_buffer, swapped_buffer, reply}
use Rattle.lists.specs.Contract.{Begins}
use Rattle.lists.proofs.SoundLaws.{held-turned, is-sound, is-unsound, held_first, held-second}
use Rattle.lists.proofs.Outputs.{gone-output, gone-without}
use Rattle.lists.proofs.Accounts.{either-slice}

-- ---- a line of a call's tests
module _ (why : Refusal) (x : Result ℕ) where
  pub refuse-yes : (t : Bool) → t ≡ true → (refuse why when t else x) ≡ refused why
  unfolding refuse◌when◌else◌
  refuse-yes true h = refl
  refuse-yes false h = absurd (false≢true h)

  pub refuse-no : (t : Bool) → t ≡ false → (refuse why when t else x) ≡ x
  unfolding refuse◌when◌else◌
  refuse-no true h = absurd (false≢true (sym h))
  refuse-no false h = refl

-- ---- what holds whichever slice holds the run holds of the account
module _ (b : Buffer) (f s : List ℕ) where
  pub on-account : (P : Account ℕ → Type 0) → Held b f s → ((run other : List ℕ) → Held b run other → P (account_of b run other)) → P (account b f s)
  on-account P v law = either-slice b f s P (law s f (held-turned b f s v)) (law f s v)

-- ---- 00
pub low-level : (level : ℕ) → level ≤ 3 → level ≡ read_level level
unfolding read_level
low-level level h = rw (le-leb level 3 h)

pub high-level : (level : ℕ) → 3 < level → 0 ≡ read_level level
unfolding read_level
high-level level h = rw (lt-leb level 3 h)

pub fresh-refused : (level wants : ℕ) (a : Account ℕ) → 7 < wants → fresh level wants a ≡ refused BadOperand
unfolding fresh
fresh-refused level wants a h = refuse-yes BadOperand _ (ltb 7 wants) (lt-ltb 7 wants h)

module _ (level wants : ℕ) where
  pub fresh-account : (f s : List ℕ) → fresh_account level wants ≡ account (fresh_buffer level wants) f s
  unfolding account account_of state_of gone_of fresh_buffer fresh_account
  fresh-account f s = refl

  pub fresh-sound : (f s : List ℕ) → sound (fresh_buffer level wants) f s ≡ rightly_lent (length f) (length s)
  unfolding sound in_order fresh_buffer fresh_limits
  fresh-sound f s = ap (λ (x : Bool). rightly_lent (length f) (length s) && (x && true)) (le-leb 0 (capacity_of (length f)) (omega arith)) ∙ and_yes (rightly_lent (length f) (length s))
    where
      and_yes : (x : Bool) → x && true ≡ x
      and_yes true = refl
      and_yes false = refl

  pub fresh-held : (b : Buffer) (f s : List ℕ) → Held b f s → Held (fresh_buffer level wants) f s
  unfolding fresh_buffer fresh_limits
  fresh-held b f s v = record {
    idx-in = omega arith;
    len-in = omega arith;
    out-in = omega arith;
    all_in = omega arith;
    most = v.most;
    same = v.same;
    whole = v.whole;
    behind = λ o k. omega arith;
    none = λ o. refl;
  }

-- the first buffer
module _ (level wants : ℕ) {b : Buffer} {r : Reply} where
  pub begins : wants ≤ 7 → b ≡ fresh_buffer level wants → r ≡ reply b (Ok None) → Begins level wants r
  unfolding fresh outcome
  begins w eb er = rw (er, eb) (record {
    is = λ f s. sym (ap (outcome (fresh_account level 0)) (refuse-no BadOperand _ (ltb 7 wants) (le-ltb 7 wants w) ∙ ap accepted (fresh-account level wants f s)));
    is-sound = fresh-sound level wants;
  })

  pub begins_refused : 7 < wants → b ≡ fresh_buffer level 0 → r ≡ reply b (Err BadOperand) → Begins level wants r
  unfolding outcome
  begins_refused w eb er = rw (er, eb) (record {
    is = λ f s. sym (ap (outcome (fresh_account level 0)) (fresh-refused level wants _ w) ∙ ap (λ (a : Account ℕ). record { answer = no (refusal_number BadOperand); after = a }) (fresh-account level 0 f s));
    is-sound = fresh-sound level 0;
  })

-- and its account
pub begun_fresh : {level wants : ℕ} {r : Reply} → wants ≤ 7 → Begins level wants r → (f s : List ℕ) → account r.buffer f s ≡ fresh_account level wants
unfolding fresh outcome
begun_fresh {level} {wants} w v f s = ap (λ (o : Outcome ℕ). o.after) (v.is f s ∙ ap (outcome (fresh_account level 0)) (refuse-no BadOperand _ (ltb 7 wants) (le-ltb 7 wants w)))

-- the output as the run
pub swapped-is : (b : Buffer) (x : Bool) → x ≡ cond b.have_separate_output (not b.swapped) b.swapped → record { idx = record { 0 = 0 }; len = record { 0 = b.out_len.0 }; out_len = record { 0 = 0 }; phase = Plain; limits = b.limits; level = b.level; wants = b.wants; swapped = x; have_separate_output = false } ≡ swapped_buffer b
unfolding swapped_buffer
swapped-is b x e = ap (λ (y : Bool). record { idx = record { 0 = 0 }; len = record { 0 = b.out_len.0 }; out_len = record { 0 = 0 }; phase = Plain; limits = b.limits; level = b.level; wants = b.wants; swapped = y; have_separate_output = false }) e

-- ---- the cursor
account-ext : (a a' : Account ℕ) → a.done ≡ a'.done → a.passed ≡ a'.passed → a.rest ≡ a'.rest → a.state ≡ a'.state → a ≡ a'
account-ext a a' d p r s = λ k. record { done = d k; passed = p k; rest = r k; state = s k }

join : (i n : ℕ) (l : List (Glyph ℕ)) → i ≤ n → slice 0 i l ++ slice i n l ≡ take n l
join i n l h = ap (λ (k : List (Glyph ℕ)). k ++ drop i (take n l)) (sym (take-take i n l h)) ∙ take-append-drop i (take n l)

-- the run's glyphs with no positions
shown-plain : (p : Phase) (run other : List ℕ) → spoiled_phase p ≡ false → map (change (with_position zero_position)) (shown p run other) ≡ glyphs run
unfolding shown
shown-plain Plain run other h = glyphs-plain run
shown-plain Output run other h = glyphs-plain run
shown-plain Positions run other h = paired-plain (glyphs run) (positions_in other) ∙ glyphs-plain run
shown-plain Spoiled run other h = absurd (false≢true (sym h))

module _ (b : Buffer) (run other : List ℕ) (v : Held b run other) where
  module _ (o : output_phase b.phase ≡ false) (p : spoiled_phase b.phase ≡ false) where
    pub input_of : input (account_of b run other) ≡ take b.len.0 (shown b.phase run other)
    unfolding input account_of
    input_of =
        ap (λ (n : ℕ). slice n b.idx.0 (shown b.phase run other) ++ slice b.idx.0 b.len.0 (shown b.phase run other)) (gone-without b o p)
        ∙ join b.idx.0 b.len.0 (shown b.phase run other) v.idx-in

    -- another place of the cursor, without output
    pub cursor-of : (i : ℕ) → i ≤ b.len.0 → account_of (at_places i b.len.0 b.out_len.0 b) run other ≡ cursor_at i (account_of b run other)
    unfolding account_of state_of at_places cursor_at
    cursor-of i h =
        let b' : Buffer = at_places i b.len.0 b.out_len.0 b in
        let l : List (Glyph ℕ) = shown b.phase run other in
        let e : gone_of b' ≡ 0 = gone-without b' o p in
        account-ext (account_of b' run other) (cursor_at i (account_of b run other))
        refl
        (ap (λ (n : ℕ). slice n i l) e ∙ (sym (take-take i b.len.0 l h) ∙ ap (take i) (sym input_of)))
        (ap (drop i) (sym input_of))
        (ap (λ (n : ℕ). record { phase = b.phase; gone = n; limits = b.limits; level = read_level b.level; wants = b.wants }) (e ∙ sym (gone-without b o p)))

    pub opened_of : opened (account_of b run other) ≡ account_of (opened_buffer b) run other
    unfolding account_of state_of gone_of shown restarted_buffer opened without_positions in_phase with_gone
    opened_of =
        let w : List (Glyph ℕ) → List (Glyph ℕ) = map (change (with_position zero_position)) in
        ap (λ (l : List (Glyph ℕ)). record { done = []; passed = []; rest = l; state = record { phase = Output; gone = 0; limits = b.limits; level = read_level b.level; wants = b.wants } })
        (ap w input_of ∙ (sym (take-map (change (with_position zero_position)) b.len.0 (shown b.phase run other)) ∙ ap (take b.len.0) (shown-plain b.phase run other p)))

  -- n glyphs are dropped, with output
  pub dropping-of : output_phase b.phase ≡ true → (n : ℕ) → account_of (at_places (b.idx.0 + n) b.len.0 b.out_len.0 b) run other ≡ dropping n (account_of b run other)
  unfolding account_of state_of at_places dropping with_gone
  dropping-of o n =
      let b' : Buffer = at_places (b.idx.0 + n) b.len.0 b.out_len.0 b in
      let l : List (Glyph ℕ) = shown b.phase run other in
      account-ext (account_of b' run other) (dropping n (account_of b run other))
      refl
      (ap (λ (k : ℕ). slice k (b.idx.0 + n) l) (gone-output b' o) ∙ (slice_empty (b.idx.0 + n) l ∙ sym (ap (λ (k : ℕ). slice k b.idx.0 l) (gone-output b o) ∙ slice_empty b.idx.0 l)))
      (sym (drop-drop n b.idx.0 (take b.len.0 l)))
      (ap (λ (k : ℕ). record { phase = b.phase; gone = k; limits = b.limits; level = read_level b.level; wants = b.wants }) (gone-output b' o ∙ ap (λ (k : ℕ). k + n) (sym (gone-output b o))))

-- ---- 03
pub opened-held : (b : Buffer) (f s : List ℕ) → Held b f s → Held (opened_buffer b) f s
unfolding restarted_buffer
opened-held b f s v = record {
  idx-in = omega arith;
  len-in = v.len-in;
  out-in = omega arith;
  all_in = v.all_in;
  most = v.most;
  same = v.same;
  whole = v.whole;
  behind = λ o k. omega arith;
  none = λ o. refl;
}

-- ---- out_info: the output lies in the second slice where one of the two flags stands alone
output_in : Bool → Bool → (first second : List (Glyph ℕ)) → List (Glyph ℕ)
output_in x y f s = cond x (cond y f s) (cond y s f)

flags : (x y : Bool) (f s : List ℕ) → glyphs (cond (not (beq x y)) s f) ≡ output_in x y (glyphs f) (glyphs s)
unfolding output_in
flags true true f s = refl
flags true false f s = refl
flags false true f s = refl
flags false false f s = refl

module _ (b : Buffer) (f s : List ℕ) where
  done-is : (account b f s).done ≡ take b.out_len.0 (output_in b.swapped b.have_separate_output (glyphs f) (glyphs s))
  unfolding account account_of output_in
  done-is = by_side b.swapped
    where
      by_side : (x : Bool) → (cond x (account_of b s f) (account_of b f s)).done ≡ take b.out_len.0 (output_in x b.have_separate_output (glyphs f) (glyphs s))
      by_side true = refl
      by_side false = refl

-- as the code tests
module _ {b : Buffer} {f s : List ℕ} {t : Bool} (w : Soundness b f s t) where
  pub out-unsound : {l : List (Glyph ℕ)} → t ≡ false → l ≡ [] → l ≡ cond (sound b f s) (account b f s).done []
  out-unsound h e = rw (is-unsound w h) e

  module _ (h : t ≡ true) {o : List ℕ} where
    pub out-room : (x : Bool) → o ≡ cond x s f → b.out_len.0 ≤ length (glyphs o)
    out-room x e = rw e (by_side x)
      where
        by_side : (x : Bool) → b.out_len.0 ≤ length (glyphs (cond x s f))
        by_side true = let v = held-second w h in omega arith
        by_side false = let v = held_first w h in omega arith

    pub out-is : {l : List (Glyph ℕ)} → o ≡ cond (not (beq b.swapped b.have_separate_output)) s f → l ≡ take b.out_len.0 (glyphs o) → l ≡ cond (sound b f s) (account b f s).done []
    out-is eo e = rw (is-sound w h) (e ∙ (ap (λ (ws : List ℕ). take b.out_len.0 (glyphs ws)) eo ∙ (ap (take b.out_len.0) (flags b.swapped b.have_separate_output f s) ∙ sym (done-is b f s))))

-- for the proofs of functions
pub ruleset out_laws = (out-room, out-unsound, out-is)

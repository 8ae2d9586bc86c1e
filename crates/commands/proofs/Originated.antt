-- After every list of calls each origin is 0 or the number of a push made since fresh, and the pushes that stored a glyph are counted.
use mathlib.Core.{Path.◌≡◌, Path.refl, Path.ap, Bool.Bool, Bool.true, Bool.false, Bool.cond, Bool.not, Bool.◌&&◌, List.List, List.[], List.◌∷◌, List.map}
use Rattle.std.specs.Prelude.{Option, None as none, Some as some}
use Prim.Native.Nat.{ℕ, suc}
use native.Mathlib.Omega.{arith}
use lib.{ListN.length, ListN.get_or}
use borrow.Author.Tests.{eq-eqb, ne_eqb}
use Rattle.records.specs.{Refusal, Contradiction, Counters.capacity_of, Counters.rightly_lent, Glyphs.Glyph}
use Rattle.lists.specs.{Account.Account, Account.len, Account.fresh_account, Account.Result, Account.Outcome, Account.refused, Account.outcome, Account.refuse◌when◌else◌, Contract.account, Contract.Begins, declared.Reply.Reply}
use Rattle.lists.proofs.OriginLaws.{Within, none as no-glyph, more, Drawn, Leaves, refuses, accepts, answers, leaves_after, fresh-drawn, fresh-leaves}
use Rattle.lists.proofs.OriginLaws.{enter-leaves, leave-leaves, allocate-leaves, clear-leaves, positions-leaves, next-leaves, skip-leaves, sync-leaves, move-leaves}
use Rattle.edits.proofs.OriginCalls.{plain-leaves, outbuffer-leaves, merge-leaves, merge-out-leaves, delete-leaves, delete-each-leaves, copy-leaves, output-leaves, info-leaves, replace-leaves}
use Rattle.edits.proofs.OriginRuns.{length-leaves, place-leaves, masks-leaves, reverse-leaves, range-leaves, reset-leaves, sort-leaves, groups-leaves, propagate-leaves, graphemes-leaves, form-leaves, Pushes, turned, stores, fails, push-pushes}
use Rattle.commands.specs.Calls.{Call, Worded, command_byte, perform, step, run, read_up_to, run_read, run_bytes, c00-fresh, c01-push, c02-set-length, c03-clear-output, c04-sync, c05-clear-positions, c06-place, c07-next-glyph, c08-next-glyphs, c09-skip-glyph, c0A-copy-glyph, c0B-output-glyph, c0C-output-info, c0D-replace-glyph, c0E-replace-glyphs, c0F-delete-glyph, c10-move-to, c11-merge-clusters, c12-merge-out-clusters, c13-merge-grapheme-clusters, c14-merge-out-grapheme-clusters, c15-unsafe-to-break, c16-unsafe-to-concat, c17-safe-to-insert-tatweel, c18-unsafe-to-break-from-outbuffer, c19-unsafe-to-concat-from-outbuffer, c1A-set-masks, c1B-reverse, c1C-reverse-range, c1D-reverse-clusters, c1E-reverse-graphemes, c1F-reset-clusters, c20-sort, c21-delete-glyphs-inplace, c22-form-clusters, c23-propagate-flags, c24-enter, c25-leave, c26-allocate-lig-id}
use Rattle.commands.specs.Origins.{stored_after, capped, OriginsUpTo, Numbered, NumberedOn, FromPushes}
use Rattle.commands.specs.Claims.{Origins}
use Rattle.commands.proofs.Returned.{calls-run, bytes_run}

-- ---- a list and an account, as the claim has them
module _ {G : Type 0} where
  up_to : {n : ℕ} {l : List (Glyph G)} → Within n l → OriginsUpTo n l
  up_to no-glyph = tt
  up_to (more h w) = (h, up_to w)

  numbered : {n : ℕ} {a : Account G} → Drawn (capped n) a → Numbered n a
  numbered d = record { count = d.count; done = up_to d.done; passed = up_to d.passed; rest = up_to d.rest }

-- ---- calls 00 and 01, and a call that is refused
module _ {G : Type 0} (k : ℕ) {a : Account G} (d : Drawn (capped k) a) where
  after-fresh : (level wants : ℕ) {x : Result G} → Leaves 0 x → let o = outcome a x in Drawn (capped (stored_after k (c00-fresh level wants) a o)) o.after
  unfolding stored_after command_byte outcome
  after-fresh level wants refuses = d
  after-fresh level wants (accepts e) = e
  after-fresh level wants (answers e) = e

  after_push : (cluster : ℕ) {x : Result G} → Pushes k a x → let o = outcome a x in Drawn (capped (stored_after k (c01-push cluster) a o)) o.after
  unfolding stored_after command_byte outcome
  after_push cluster turned = rw (ne_eqb (len a) (suc (len a)) (λ e. omega arith)) d
  after_push cluster (stores {b = b} e h) = rw (eq-eqb (len b) (suc (len a)) h) e
  after_push cluster (fails {b = b} e h) = rw (ne_eqb (len b) (suc (len a)) (λ p. omega arith)) e

  none-stored : (x y : Bool) → cond (x && false) 0 (cond (y && false) (suc k) k) ≡ k
  none-stored true true = refl
  none-stored true false = refl
  none-stored false true = refl
  none-stored false false = refl

  after-refused : (c : Call) (r : Refusal) → let o = outcome a (refused r) in Drawn (capped (stored_after k c a o)) o.after
  unfolding stored_after outcome
  after-refused c r = rw (ne_eqb (len a) (suc (len a)) (λ e. omega arith), none-stored) d

-- ---- every call
module _ {G : Type 0} (z : G) where
  ruleset calls = (leaves_after, enter-leaves, leave-leaves, allocate-leaves, clear-leaves, positions-leaves, next-leaves, skip-leaves, sync-leaves, move-leaves, plain-leaves, outbuffer-leaves, merge-leaves, merge-out-leaves, delete-leaves, delete-each-leaves, copy-leaves, output-leaves, info-leaves, replace-leaves, length-leaves, place-leaves, masks-leaves, reverse-leaves, range-leaves, reset-leaves, sort-leaves, groups-leaves, propagate-leaves, graphemes-leaves, form-leaves)

  after_call : (capacity k : ℕ) (c : Call) (gs : List G) {a : Account G} → Drawn (capped k) a → let o = outcome a (perform z capacity c gs a) in Drawn (capped (stored_after k c a o)) o.after
  unfolding perform stored_after command_byte
  after_call capacity k (c00-fresh level wants) gs {a} d = after-fresh k d level wants (fresh-leaves level wants a)
  after_call capacity k (c01-push cluster) gs {a} d = after_push k d cluster (push-pushes capacity (get_or gs 0 z) cluster a k d)
  after_call capacity k (c02-set-length n) gs d = search calls
  after_call capacity k c03-clear-output gs d = search calls
  after_call capacity k c04-sync gs d = search calls
  after_call capacity k c05-clear-positions gs d = search calls
  after_call capacity k (c06-place i xa ya xo yo) gs d = search calls
  after_call capacity k c07-next-glyph gs d = search calls
  after_call capacity k (c08-next-glyphs n) gs d = search calls
  after_call capacity k c09-skip-glyph gs d = search calls
  after_call capacity k c0A-copy-glyph gs d = search calls
  after_call capacity k c0B-output-glyph gs d = search calls
  after_call capacity k (c0C-output-info mask cluster var0 var1) gs d = search calls
  after_call capacity k c0D-replace-glyph gs d = search calls
  after_call capacity k (c0E-replace-glyphs num-in num-out) gs d = search calls
  after_call capacity k c0F-delete-glyph gs d = search calls
  after_call capacity k (c10-move-to i) gs d = search calls
  after_call capacity k (c11-merge-clusters s e) gs d = search calls
  after_call capacity k (c12-merge-out-clusters s e) gs d = search calls
  after_call capacity k (c13-merge-grapheme-clusters s e) gs d = search calls
  after_call capacity k (c14-merge-out-grapheme-clusters s e) gs d = search calls
  after_call capacity k (c15-unsafe-to-break s e) gs d = search calls
  after_call capacity k (c16-unsafe-to-concat s e) gs d = search calls
  after_call capacity k (c17-safe-to-insert-tatweel s e) gs d = search calls
  after_call capacity k (c18-unsafe-to-break-from-outbuffer s e) gs d = search calls
  after_call capacity k (c19-unsafe-to-concat-from-outbuffer s e) gs d = search calls
  after_call capacity k (c1A-set-masks value mask s e) gs d = search calls
  after_call capacity k c1B-reverse gs d = search calls
  after_call capacity k (c1C-reverse-range s e) gs d = search calls
  after_call capacity k c1D-reverse-clusters gs d = search calls
  after_call capacity k (c1E-reverse-graphemes slot mask) gs d = search calls
  after_call capacity k c1F-reset-clusters gs d = search calls
  after_call capacity k (c20-sort s e slot mask) gs d = search calls
  after_call capacity k (c21-delete-glyphs-inplace slot mask v) gs d = search calls
  after_call capacity k (c22-form-clusters slot mask) gs d = search calls
  after_call capacity k c23-propagate-flags gs d = search calls
  after_call capacity k c24-enter gs d = search calls
  after_call capacity k c25-leave gs d = search calls
  after_call capacity k c26-allocate-lig-id gs d = search calls

  after-step : (m p k : ℕ) (w : Worded G) {a : Account G} → Drawn (capped k) a → let o = step z m p w a in Drawn (capped (stored_after k w.call a o)) o.after
  unfolding step refuse◌when◌else◌
  after-step m p k w {a} d = by (not (rightly_lent m p))
    where
      by : (x : Bool) → let o = outcome a (cond x (refused Contradiction) (perform z (capacity_of m) w.call w.glyphs a)) in Drawn (capped (stored_after k w.call a o)) o.after
      by true = after-refused k d w.call Contradiction
      by false = after_call (capacity_of m) k w.call w.glyphs d

-- ---- every list of calls, and every string of bytes
numbered-on : (m p : ℕ) (ws : List (Option (Worded ℕ))) (k : ℕ) (a : Account ℕ) → Drawn (capped k) a → NumberedOn k ws a (run_read (step 0 m p) ws a)
unfolding run_read outcome
numbered-on m p [] k a d = tt
numbered-on m p (none ∷ ws) k a d = (numbered d, tt)
numbered-on m p (some w ∷ ws) k a d = let e = after-step 0 m p k w d in (numbered e, numbered-on m p ws _ _ e)

from-pushes : (m p : ℕ) (ws : List (Option (Worded ℕ))) {a : Account ℕ} → Drawn 0 a → FromPushes ws a (run_read (step 0 m p) ws a)
from-pushes m p ws {a} d = record { before = numbered d; after = numbered-on m p ws 0 a d }

run-read : (m p : ℕ) (ws : List (Worded ℕ)) (a : Account ℕ) → run 0 m p ws a ≡ run_read (step 0 m p) (map some ws) a
unfolding run run_read
run-read m p [] a = refl
run-read m p (w ∷ ws) a = ap (λ (l : List (Outcome ℕ)). step 0 m p w a ∷ l) (run-read m p ws _)

module _ {level wants : ℕ} {r : Reply} (v : Begins level wants r) where
  begun-drawn : (f s : List ℕ) → Drawn 0 (account r.buffer f s)
  begun-drawn f s = rw (ap (λ (o : Outcome ℕ). o.after) (v.is f s)) (leaves_after (fresh-drawn level 0) (fresh-leaves level wants (fresh_account level 0)))

  pub origins : Origins level wants r.buffer
  unfolding run_bytes
  origins = record {
    calls = λ m p ws. rw (run-read m p ws (fresh_account level wants)) (from-pushes m p (map some ws) (fresh-drawn level wants));
    bytes = λ m p script. from-pushes m p (read_up_to (length script) script) (fresh-drawn level wants);
    calls-returned = λ i j ws xs c.
        rw (calls-run ws xs r.buffer i j refl refl (v.is-sound i j) c, run-read (length i) (length j) ws (account r.buffer i j))
        (from-pushes (length i) (length j) (map some ws) (begun-drawn i j));
    steps-returned = λ i j script xs c. rw (bytes_run v i j script xs c) (from-pushes (length i) (length j) (read_up_to (length script) script) (begun-drawn i j));
  }

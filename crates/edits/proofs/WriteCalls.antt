-- Calls that write, decided: 0A, 0B and 0C, outcome by outcome, and what 0D and 0E share with them.
use Rattle.lists.specs.declared.Verdict.{Verdict}
use Rattle.lists.specs.inner.Verdicts.{limiting_verdict}
use Rattle.lists.proofs.Tries.{Exits}
use Rattle.lists.specs.inner.Held.{Test}
use Rattle.lists.specs.inner.Verdicts.{amended}
use Rattle.lists.proofs.Decisions.{turned}
use Rattle.lists.specs.inner.Held.{given_up}
use Rattle.lists.specs.inner.States.{Decision}
use Rattle.lists.specs.inner.Verdicts.{acts_of, apart_of, Turned}
use Rattle.std.specs.Prelude.{Ok, Err, None, Some, Option}
use Rattle.lists.specs.inner.Held.{fitting, Room}
use mathlib.Core.{Path.◌≡◌, Path.refl, Path.sym, Path.ap, Path.◌∙◌, Path.subst, Bool.Bool, Bool.true, Bool.false, Bool.cond, Bool.not, Bool.◌&&◌, Bool.false≢true, List.List, List.[], List.◌∷◌}
use Rattle.std.proofs.Common.{ℕ, ◌+◌, ◌-◌, ◌^◌, ◌<◌, ◌≤◌, arith, ltb-false, ltb-true}
use lib.{Dec.ltb, ListN.length, ListN.take, ListN.get_or}
use Rattle.records.specs.{Contradiction, WrongPhase, OutOfRange, Limits, Counters.capacity_of, Counters.grown, Glyphs.Glyph, Glyphs.Info, Glyphs.change, Glyphs.with_origin, Ranges.copies, View.glyphs, View.seen, inner.Stores.zero_glyph, View.words_from}
use Rattle.records.specs.declared.GlyphInfo.{GlyphInfo}
use Rattle.records.proofs.View.{length-glyphs, glyphs-same}
use Rattle.lists.specs.{declared.Buffer.Buffer}
use Rattle.lists.specs.{Account.Account, Account.output_phase, Account.out_length, Account.sized, Cursor.dropping, Account.Result, Contract.account_of, Contract.sound, inner.Held.Tested, inner.Held.Held, inner.Held.room_for, inner.States.reply, inner.States.with_limits_of, inner.Verdicts.leaving, inner.Verdicts.Sized, inner.Verdicts.by_size, inner.Verdicts.wrote_buffer, inner.Verdicts.failed_buffer, inner.Verdicts.settled, inner.Verdicts.Decided}
use Rattle.lists.proofs.Sides.{MeetsIn, SyncOutput}
use Rattle.lists.proofs.{SoundLaws.sound-held, SizeLaws.fits-within, Accounts.output-of, Calls.in-call, SoundLaws.tests-sound, Lying.Lying, Decisions.Needs, Decisions.Rooms, Decisions.room_of, Decisions.meets-sided, Decisions.decided-unsound, Decisions.decided-refused, Decisions.decided-accepted, Decisions.near-limits, Decisions.decided-sized, Decisions.leaves-is, Inner.limits-side, Inner.sized_of}
use Rattle.lists.proofs.SoundLaws.{soundness}
use Rattle.records.proofs.Tests.{tested}
use Rattle.records.proofs.Edited.{copies-one}
use Rattle.lists.proofs.Changed.{other-limits, changed, settled_at}
use Rattle.lists.specs.inner.States.{lists_of}
use Rattle.edits.specs.{inner.Acts.Acts, inner.Puts.overtakes, inner.Puts.lying, inner.Puts.moving, inner.Puts.costing, inner.Puts.size_alone, inner.Puts.Writes, inner.Puts.Puttable, inner.Puts.Wrote, inner.Puts.model_at, inner.Puts.Outputable, inner.Puts.Outputs, inner.Puts.OutputDecided, inner.Puts.InfoDecided, Writing.written, Writing.model, Writing.writing, Writing.copy_glyph, Writing.output_glyph}
use Rattle.edits.proofs.WriteForms.{writes_one, put_buffer}
use Rattle.edits.proofs.PutLaws.{stays-behind, wrote-acts, model-first, model-last}
use Rattle.edits.proofs.Writings.{writing-room, writing-done, size-done, grown-roomy, out-size, dropping-none, rest-first, rest-none, rest-short, rest-long, done-last, all-some, all_none, model-rest, model-done, copy-none, copy-outside, copy_writes, glyph-none, glyph-writes, glyph-sizes, info-none, info-writes}

-- ---- the verdict of a call that writes
pub overtakes-apart : (b : Buffer) (i o : ℕ) → b.have_separate_output ≡ true → false ≡ overtakes b i o
unfolding overtakes
overtakes-apart b i o h = sym (ap (λ (t : Bool). not t && ltb (b.idx.0 + i) (b.out_len.0 + o)) h)

pub overtakes-within : (b : Buffer) (i o : ℕ) → b.have_separate_output ≡ false → ltb (b.idx.0 + i) (b.out_len.0 + o) ≡ overtakes b i o
unfolding overtakes
overtakes-within b i o h = sym (ap (λ (t : Bool). not t && ltb (b.idx.0 + i) (b.out_len.0 + o)) h)

module _ {capacity : ℕ} {b : Buffer} {i o : ℕ} {acts : Bool} {w : Decision} (s : Sized capacity b i o acts w) where
  as-it-acts : {v : Verdict} {t : Bool} → w ≡ Ok v → v.acts ≡ t → ◌≡◌ {A = Decision} (Ok (lying (cond t (overtakes b i o) v.apart) v)) (amended (moving (overtakes b i o)) (by_size (room_for capacity (b.out_len.0 + o) b.limits) b i o acts))
  as-it-acts {v} q h = sym (ap (λ (t : Bool). Ok (lying (cond t (overtakes b i o) v.apart) v)) h) ∙ ap (amended (moving (overtakes b i o))) (sym q ∙ s.is)

  pub writes-moving : {v : Verdict} {x : Bool} → w ≡ Ok v → v.acts ≡ true → x ≡ overtakes b i o → Writes capacity b i o acts (Ok (lying x v))
  writes-moving {v} q h ex = record { is = ap (λ (y : Bool). Ok (lying y v)) ex ∙ as-it-acts q h }

  pub writes-still : {v : Verdict} → w ≡ Ok v → v.acts ≡ false → Writes capacity b i o acts (Ok v)
  writes-still q h = record { is = as-it-acts q h }

  pub writes-over : {d : Decision} → Exits w d → Writes capacity b i o acts d
  writes-over x = record { is = x.is ∙ ap (amended (moving (overtakes b i o))) (sym x.was ∙ s.is) }

costs-nothing : (v : Decision) → amended (costing (λ l. l)) v ≡ v
costs-nothing (Ok v) = ap (λ (l : Limits). Ok (limiting_verdict l v)) (same v.acts)
  where
    same : (t : Bool) → cond t v.limits v.limits ≡ v.limits
    same true = refl
    same false = refl
costs-nothing (Err why) = refl

-- numbers of the code that stay small
module _ {b : Buffer} {f s : List ℕ} {t : Test} {y : Unit {0}} (w : Tested b f s t) (h : t ≡ Ok y) where
  pub idx-still : b.idx.0 + 0 < 2 ^ 64
  idx-still = let v = sound-held b f s (tests-sound w h) in omega arith

  pub idx-next : b.idx.0 + 1 < 2 ^ 64
  idx-next = let v = sound-held b f s (tests-sound w h) in omega arith

  pub out-next : b.out_len.0 + 1 < 2 ^ 64
  out-next = let v = sound-held b f s (tests-sound w h) in omega arith

  pub both_small : b.len.0 + b.out_len.0 < 2 ^ 64
  both_small = let v = sound-held b f s (tests-sound w h) in omega arith

-- ---- n of the glyphs `new` are written, in place of m of the input
abbrev pub grown_buffer : ℕ → Buffer → Buffer
grown_buffer n b = with_limits_of (grown (b.out_len.0 + n) b.limits) b

abbrev pub putting : (m n : ℕ) → List (Glyph ℕ) → Account ℕ → Account ℕ
putting m n new a = dropping m (written (take n new) (sized (out_length a + n) a))

module _ {b : Buffer} {run other run' other' : List ℕ} (m n : ℕ) (new : List (Glyph ℕ)) (v : SyncOutput b run other) (fit : room_for (capacity_of (length run)) (b.out_len.0 + n) b.limits ≡ fitting) (in_len : b.idx.0 + m ≤ b.len.0) (many : n ≤ length new) (lr : length run' ≡ length run) (lo : length other' ≡ length other) where
  pub put_meets : (x : Bool) → (b.have_separate_output ≡ false → x ≡ false → b.out_len.0 + n ≤ b.idx.0 + m) → Wrote (lists_of b) x new n run other run' other'
      → MeetsIn (λ capacity a. writing capacity n (putting m n new a) a) b run other (reply (put_buffer x m n (grown_buffer n b)) (Ok None)) run' other'
  put_meets x q w =
      let u : Acts (λ a. dropping m (written (take n new) a)) (grown_buffer n b) run other (put_buffer x m n (grown_buffer n b)) run' other' = wrote-acts (grown-roomy v m n fit in_len) x (simp other-limits q) many (simp other-limits w) lr lo in
      let f : Buffer = put_buffer x m n (grown_buffer n b) in
      let e : account_of f run' other' ≡ putting m n new (account_of b run other) =
      u.is ∙ ap (λ (a : Account ℕ). dropping m (written (take n new) a)) (sized_of b run other (b.out_len.0 + n) ∙ sym (out-size v (account_of b run other) refl n)) in
      writing-done v n (putting m n new) fit (u.side ∙ limits-side _ b) (subst (λ (k : ℕ). words_from k run' ≡ words_from k run) (sym u.size) u.run-beyond) (subst (λ (k : ℕ). words_from k other' ≡ words_from k other) (sym u.size) u.other-beyond) u.held e refl

-- ---- the size is there, gives up or is over
pub record Puts (call : ℕ → Account ℕ → Result ℕ) (b : Buffer) (f : List ℕ) (i o : ℕ) (paid : Limits → Limits) (Act : (run other run' other' : List ℕ) → Type 0) : Type 0 where
  pub law : (run other run' other' : List ℕ) → Lying b f run other → length run' ≡ length run → length other' ≡ length other → Act run other run' other' → MeetsIn call b run other (reply (put_buffer (overtakes b i o) i o (with_limits_of (paid (grown (b.out_len.0 + o) b.limits)) b)) (Ok None)) run' other'

abbrev is_fits : Room → Bool
is_fits r = elim r [ Ok fits ↦ fits | Err why ↦ false ]

module _ (call : ℕ → Account ℕ → Result ℕ) (b : Buffer) (f s : List ℕ) (v : Decision) (i o : ℕ) where
  -- the size is not there
  decided-without : {Ask : Type 0} {Act : (run other run' other' : List ℕ) → Type 0} → sound b f s ≡ true → Needs call b f o → (room : Room) → is_fits room ≡ false → room_for (capacity_of (length f)) (b.out_len.0 + o) b.limits ≡ room → v ≡ by_size room b i o true → Decided call b f s (settled b v) (acts_of v) Ask Act
  decided-without h r room none k q = decided-sized {i = i} {acts = true} h r (λ fits. absurd (false≢true (no fits))) (λ fits. absurd (false≢true (no fits))) refl refl (record { is = q ∙ ap (λ (x : Room). by_size x b i o true) (sym k) })
    where
      no : Rooms b f o → false ≡ true
      no fits = sym none ∙ ap is_fits (sym k ∙ fits.law f s (record { long = refl; held = sound-held b f s h }))

  put-settled : (paid : Limits → Limits) (x : Bool) → settled b (amended (costing paid) (amended (moving x) (leaving (wrote_buffer i o b) true None))) ≡ reply (put_buffer x i o (with_limits_of (paid (grown (b.out_len.0 + o) b.limits)) b)) (Ok None)
  unfolding put_buffer wrote_buffer
  put-settled paid x = simp (settled_at, changed)

  -- an act is asked for where it is, at a cost
  pub decided-writes : (Ask : Type 0) (Act : Bool → (run other run' other' : List ℕ) → Type 0) (paid : Limits → Limits) → sound b f s ≡ true → Needs call b f o → (Rooms b f o → Puts call b f i o paid (Act (overtakes b i o))) → (Rooms b f o → Ask)
      → v ≡ amended (costing paid) (amended (moving (overtakes b i o)) (by_size (room_for (capacity_of (length f)) (b.out_len.0 + o) b.limits) b i o true)) → Decided call b f s (settled b v) (acts_of v) Ask (Act (apart_of v))
  decided-writes Ask Act paid h r puts ask e = by-room (room_for (capacity_of (length f)) (b.out_len.0 + o) b.limits) refl e
    where
      by-room : (room : Room) → room_for (capacity_of (length f)) (b.out_len.0 + o) b.limits ≡ room → v ≡ amended (costing paid) (amended (moving (overtakes b i o)) (by_size room b i o true)) → Decided call b f s (settled b v) (acts_of v) Ask (Act (apart_of v))
      by-room (Ok true) k q =
          let fits : Rooms b f o = record { law = λ run other l. room_of (b.out_len.0 + o) l k } in
          rw q (record {
            still = λ t. absurd (false≢true (sym t));
            asked = λ t. ask fits;
            acted = λ t lf ls act. rw (put-settled paid (overtakes b i o)) (meets-sided h lf ls act (puts fits).law);
          })
      by-room (Ok false) k q = decided-without h r given_up refl k q
      by-room (Err why) k q = decided-without h r (Err why) refl k q

-- ---- one glyph
one-meets : {b : Buffer} {run other run' other' : List ℕ} → SyncOutput b run other → room_for (capacity_of (length run)) (b.out_len.0 + 1) b.limits ≡ fitting → length run' ≡ length run → length other' ≡ length other → (w : Info) (number : ℕ)
    → Wrote (lists_of b) (overtakes b 0 1) (copies w (number ∷ [])) 1 run other run' other' → MeetsIn (λ capacity a. writes_one w number capacity a) b run other (reply (put_buffer (overtakes b 0 1) 0 1 (grown_buffer 1 b)) (Ok None)) run' other'
unfolding writes_one copies
one-meets {b} {run} {other} v fit lr lo w number act =
    let a : Account ℕ = account_of b run other in
    in-call (ap (λ (x : Account ℕ). writing (capacity_of (length run)) 1 x a) (sym (dropping-none (written (copies w (number ∷ [])) (sized (out_length a + 1) a)))))
    (put_meets 0 1 (copies w (number ∷ [])) v fit (omega (arith, v.held.idx-in)) (omega arith) lr lo (overtakes b 0 1) (stays-behind b 0 1) act)

abbrev pub synced : {b : Buffer} {f run other : List ℕ} → output_phase b.phase ≡ true → Lying b f run other → SyncOutput b run other
synced o l = record { held = l.held; output = o }

module _ (call : ℕ → Account ℕ → Result ℕ) (b : Buffer) (f s : List ℕ) (v : Decision) (w : (run other : List ℕ) → Info) (number : (run other : List ℕ) → ℕ) (Ask : Type 0) (Act : Bool → (run other run' other' : List ℕ) → Type 0) where
  decided-one : {m : ℕ} → sound b f s ≡ true → output_phase b.phase ≡ true
      → ((run other : List ℕ) → Lying b f run other → call (capacity_of (length run)) (account_of b run other) ≡ writes_one (w run other) (number run other) (capacity_of (length run)) (account_of b run other))
      → ((x : Bool) (run other run' other' : List ℕ) → Act x run other run' other' → Wrote (lists_of b) x (copies (w run other) (number run other ∷ [])) 1 run other run' other')
      → (Rooms b f 1 → Ask) → m ≡ capacity_of (length f) → Writes m b 0 1 true v → Decided call b f s (settled b v) (acts_of v) Ask (Act (apart_of v))
  unfolding writes_one
  decided-one h o law of ask em q =
      decided-writes call b f s v 0 1 Ask Act (λ l. l) h
      (record { then = _; law = λ run other l. law run other l ∙ writing-room (synced o l) 1 (λ a. written (copies (w run other) (number run other ∷ [])) (sized (out_length a + 1) a)) })
      (λ fits. record { law = λ run other run' other' l lr lo act. in-call (law run other l) (one-meets (synced o l) (fits.law run other l) lr lo (w run other) (number run other) (of (overtakes b 0 1) run other run' other' act)) })
      ask (rw em at q.is ∙ sym (costs-nothing _))

-- what the acts ask for
module _ {b : Buffer} {f s : List ℕ} (h : sound b f s ≡ true) where
  pub room-puttable : {n : ℕ} → Rooms b f n → Puttable b.out_len.0 n f s
  room-puttable {n} room =
      let w = sound-held b f s h in
      let l : length (glyphs f) ≡ capacity_of (length f) = length-glyphs f in
      let fit : b.out_len.0 + n ≤ capacity_of (length f) = fits-within (capacity_of (length f)) (b.out_len.0 + n) b.limits (omega arith) (room.law f s (record { long = refl; held = w })) in
      record { same = glyphs-same f s w.same; fits = omega arith }

  pub room-outputable : b.idx.0 < b.len.0 + b.out_len.0 → Rooms b f 1 → Outputable (lists_of b) f s
  room-outputable k room =
      let w = sound-held b f s h in
      let p = room-puttable room in
      record { same = p.same; len-in = omega arith; fits = p.fits; some = k }

-- the glyph that is copied is the model
abbrev pub model_of : Buffer → (run other : List ℕ) → Glyph ℕ
model_of b run other = model_at (lists_of b) run other

module _ {b : Buffer} {run other : List ℕ} (v : Held b run other) (o : output_phase b.phase ≡ true) where
  pub model_is : b.idx.0 < b.len.0 + b.out_len.0 → model (account_of b run other) ≡ (model_of b run other).info
  model_is h = by (ltb b.idx.0 b.len.0) refl
    where
      by : (t : Bool) → ltb b.idx.0 b.len.0 ≡ t → model (account_of b run other) ≡ (model_of b run other).info
      by true e =
          let k : b.idx.0 < b.len.0 = ltb-true b.idx.0 b.len.0 e in
          model-rest _ _ _ (rest-first v o k) ∙ ap (λ (x : Glyph ℕ). x.info) (sym (model-first (lists_of b) run other k))
      by false e =
          let k : b.len.0 ≤ b.idx.0 = ltb-false b.idx.0 b.len.0 e in
          model-done (account_of b run other) (get_or (cond b.have_separate_output (glyphs other) (glyphs run)) (b.out_len.0 - 1) zero_glyph) (take (b.out_len.0 - 1) (cond b.have_separate_output (glyphs other) (glyphs run))) (rest-none v o k) (done-last v o (omega arith)) ∙ ap (λ (x : Glyph ℕ). x.info) (sym (model-last (lists_of b) run other k))

  rest-one : b.idx.0 < b.len.0 → take 1 (account_of b run other).rest ≡ copies (model_of b run other).info ((model_of b run other).glyph ∷ [])
  rest-one h = rw copies-one (ap (take 1) (rest-first v o h) ∙ ap {B = List (Glyph ℕ)} (λ x. x ∷ []) (sym (model-first (lists_of b) run other h)))

-- ---- 0A and 0B, by their tests
module _ {call : ℕ → Account ℕ → Result ℕ} {x : Bool} {number : Option ℕ} {b : Buffer} {f s : List ℕ} {v : Decision} where
  pub output-unsound : sound b f s ≡ false → Turned Contradiction v → OutputDecided call number x b f s v
  output-unsound h q = record { is = decided-unsound h q }

module _ {x : Bool} {b : Buffer} {f s : List ℕ} {v : Decision} (h : sound b f s ≡ true) where
  pub copy-spoils : output_phase b.phase ≡ false → Turned WrongPhase v → OutputDecided (λ capacity a. copy_glyph capacity a) None x b f s v
  copy-spoils k q = record { is = decided-refused h (record { law = λ run other l. copy-none _ _ (output-of b run other ∙ k) }) q }

  pub output-spoils : {number : ℕ} → output_phase b.phase ≡ false → Turned WrongPhase v → OutputDecided (λ capacity a. output_glyph capacity number a) (Some number) x b f s v
  output-spoils {number} k q = record { is = decided-refused h (record { law = λ run other l. glyph-none _ _ number (output-of b run other ∙ k) }) q }

  pub copy-past : output_phase b.phase ≡ true → b.len.0 ≤ b.idx.0 → Turned OutOfRange v → OutputDecided (λ capacity a. copy_glyph capacity a) None x b f s v
  copy-past o k q = record { is = decided-refused h (record { law = λ run other l. copy-outside _ _ (output-of b run other ∙ o) (rest-short l.held o k) }) q }

module _ {b : Buffer} {f s : List ℕ} {v : Decision} {m : ℕ} (h : sound b f s ≡ true) (o : output_phase b.phase ≡ true) (em : m ≡ capacity_of (length f)) where
  pub copy-decided : b.idx.0 < b.len.0 → Writes m b 0 1 true v → OutputDecided (λ capacity a. copy_glyph capacity a) None (apart_of v) b f s v
  copy-decided k q = record {
    is = decided-one _ b f s v (λ run other. (model_of b run other).info) (λ run other. (model_of b run other).glyph) _ (λ x. Outputs (lists_of b) x None) h o
        (λ run other l. copy_writes _ _ (output-of b run other ∙ o) (rest-long l.held o k) _ _ (rest-one l.held o k))
        (λ x run other run' other' act. act.is) (room-outputable h (omega arith)) em q;
  }

  pub output-decided : {t : Bool} {number : ℕ} → t ≡ true → t ≡ ltb b.idx.0 (b.len.0 + b.out_len.0) → Writes m b 0 1 t v → OutputDecided (λ capacity a. output_glyph capacity number a) (Some number) (apart_of v) b f s v
  output-decided {t} {number} et es q = record {
    is = decided-one _ b f s v (λ run other. (model_of b run other).info) (λ run other. number) _ (λ x. Outputs (lists_of b) x (Some number)) h o
        (λ run other l. glyph-writes _ _ (output-of b run other ∙ o) number _ (all-some l.held o (omega (arith, some))) (model_is l.held o some))
        (λ x run other run' other' act. act.is) (room-outputable h some) em (rw et at q);
  }
    where
      some : b.idx.0 < b.len.0 + b.out_len.0
      some = ltb-true b.idx.0 (b.len.0 + b.out_len.0) (sym es ∙ et)

  -- with both lists empty only the size is made
  pub output-sizes : {t : Bool} {w : Decision} {number : ℕ} → t ≡ false → t ≡ ltb b.idx.0 (b.len.0 + b.out_len.0) → Writes m b 0 1 t w → v ≡ amended size_alone w → OutputDecided (λ capacity a. output_glyph capacity number a) (Some number) (apart_of v) b f s v
  unfolding wrote_buffer failed_buffer
  output-sizes {t} {w} {number} et es q ev = record { is = by-room (room_for (capacity_of (length f)) (b.out_len.0 + 1) b.limits) refl (ev ∙ ap (amended size_alone) (rw (em, et) at q.is)) }
    where
      few : b.len.0 + b.out_len.0 ≤ b.idx.0
      few = ltb-false b.idx.0 (b.len.0 + b.out_len.0) (sym es ∙ et)

      at-end : b.len.0 ≤ b.idx.0
      at-end = omega (arith, few)

      empty : b.out_len.0 ≡ 0
      empty = let k = sound-held b f s h in omega (arith, few, k.idx-in)

      sizes : {run other : List ℕ} → Lying b f run other → output_glyph (capacity_of (length run)) number (account_of b run other) ≡ writing (capacity_of (length run)) 1 (sized (out_length (account_of b run other) + 1) (account_of b run other)) (account_of b run other)
      sizes {run} {other} l = glyph-sizes _ _ (output-of b run other ∙ o) number (all_none l.held o at-end (omega (arith, empty)))

      needs : Needs (λ capacity a. output_glyph capacity number a) b f 1
      needs = record { then = _; law = λ run other l. sizes l ∙ writing-room (synced o l) 1 (λ a. sized (out_length a + 1) a) }

      by-room : (room : Room) → room_for (capacity_of (length f)) (b.out_len.0 + 1) b.limits ≡ room → v ≡ amended size_alone (amended (moving (overtakes b 0 1)) (by_size room b 0 1 false)) → Decided (λ capacity a. output_glyph capacity number a) b f s (settled b v) (acts_of v) (Outputable (lists_of b) f s) (Outputs (lists_of b) (apart_of v) (Some number))
      by-room (Ok true) k e =
          let still : b.idx.0 + 0 ≡ b.idx.0 = omega arith in
          let l : Limits = grown (b.out_len.0 + 1) b.limits in
          decided-accepted h (record { near = near-limits b l; law = λ run other y. in-call (sizes y) (size-done (synced o y) 1 (room_of (b.out_len.0 + 1) y k) refl refl refl) })
          (leaves-is (with_limits_of l b) (e ∙ simp (changed, still, empty)))
      by-room (Ok false) k e = decided-without _ b f s v 0 1 h needs given_up refl k (e ∙ simp (changed, empty))
      by-room (Err why) k e = decided-without _ b f s v 0 1 h needs (Err why) refl k e

-- ---- 0C
module _ {b : Buffer} {f s : List ℕ} {v : Decision} {g : GlyphInfo} where
  pub info-unsound : sound b f s ≡ false → Turned Contradiction v → InfoDecided g b f s v
  info-unsound h q = record { is = decided-unsound h q }

  pub info-spoils : sound b f s ≡ true → output_phase b.phase ≡ false → Turned WrongPhase v → InfoDecided g b f s v
  info-spoils h k q = record { is = decided-refused h (record { law = λ run other l. info-none _ _ (seen g).glyph (seen g).info (output-of b run other ∙ k) }) q }

  pub info-decided : {m : ℕ} → sound b f s ≡ true → output_phase b.phase ≡ true → m ≡ capacity_of (length f) → Writes m b 0 1 true v → InfoDecided g b f s v
  unfolding change
  info-decided h o em q = record {
    is = decided-one _ b f s v (λ run other. with_origin 0 (seen g).info) (λ run other. (seen g).glyph) _ (λ x. Wrote (lists_of b) x (change (with_origin 0) (seen g) ∷ []) 1) h o
        (λ run other l. info-writes _ _ (output-of b run other ∙ o) (seen g).glyph (seen g).info)
        (λ x run other run' other' act. rw copies-one act) (room-puttable h) em q;
  }

-- for the proofs of functions
pub ruleset write_calls = (turned, soundness, tested, overtakes-apart, overtakes-within, writes-moving, writes-still, writes-over, idx-still, idx-next, out-next, both_small, output-unsound, copy-spoils, output-spoils, copy-past, copy-decided, output-decided, output-sizes, info-unsound, info-spoils, info-decided)

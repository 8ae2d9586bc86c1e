-- Calls that write, below their shells: from what the code tests and what its writes promise to the call on the account.
use Rattle.std.specs.Prelude.{Ok, None}
use Rattle.lists.specs.inner.Held.{fitting}
use mathlib.Core.{Path.◌≡◌, Path.refl, Path.sym, Path.ap, Path.◌∙◌, Bool.Bool, Bool.true, Bool.false, Bool.cond, List.List, List.[], List.◌∷◌, List.◌++◌, List.reverse, List.reverse-append}
use Rattle.std.proofs.Common.{ℕ, suc, ◌+◌, ◌-◌, ◌<◌, ◌≤◌, arith, le-ltb, lt-ltb, eq-eqb, ne_eqb}
use lib.{Dec.eqb, Dec.ltb, ListN.length, ListN.take, ListN.get_or, Seq.slice, Seq.slice-cons, Seq.slice_empty, Seq.take-suc}
use Rattle.records.specs.{WrongPhase, OutOfRange, Limits, Counters.capacity_of, Counters.grown, Glyphs.Glyph, Glyphs.Info, Glyphs.with_origin, Glyphs.zero_position, Glyphs.blank, Ranges.copies, Ranges.infos, View.glyphs, inner.Stores.zero_glyph, View.words_from}
use Rattle.records.proofs.{Renaming.append-map}
use Rattle.lists.proofs.Changed.{other-limits}
use Rattle.lists.proofs.Showing.{done-list, rest-list}
use Rattle.lists.specs.{declared.Buffer.Buffer, declared.Reply.Reply}
use Rattle.lists.specs.{Account.Account, Account.output_phase, Account.with_gone, Account.has_output, Account.out_length, Account.failing, Account.sized, Cursor.dropping, Account.Result, Account.refused, Account.accepted, Account.needing, Contract.account_of, inner.Held.Held, inner.Held.room_for, inner.States.reply, inner.States.with_limits_of}
use Rattle.lists.proofs.Sides.{MeetsIn, SyncOutput}
use Rattle.lists.proofs.{Accounts.output-clean, Accounts.limits_of, Accounts.out_of, Accounts.rest_of, SizeLaws.needing-fits, Calls.in-accepted}
use Rattle.edits.specs.{Writing.written, Writing.model, Writing.writing, Writing.copy_glyph, Writing.output_glyph, Writing.output_info}
use Rattle.edits.proofs.WriteForms.{Roomy, writes_one}
use Rattle.lists.proofs.Inner.{limits-side, sized_of, held-limits, roomy-grown}
use Rattle.lists.proofs.SoundLaws.{out-fits}
use Rattle.lists.proofs.Outputs.{shown-output}
use Rattle.lists.proofs.Refusing.{refusing}

-- ---- other limits
module _ (b : Buffer) (run other : List ℕ) where
  module _ (v : Held b run other) where
    held_grown : (n : ℕ) → room_for (capacity_of (length run)) n b.limits ≡ fitting → Held (with_limits_of (grown n b.limits) b) run other
    held_grown n h = let r = roomy-grown b run other v n h in held-limits b run other v (grown n b.limits) r.grows r.within

-- ---- a size of n glyphs more, and then x
module _ {b : Buffer} {run other : List ℕ} (v : SyncOutput b run other) (n : ℕ) (x : Account ℕ → Account ℕ) where
  abbrev before : Account ℕ
  before = account_of b run other

  pub writing-room : writing (capacity_of (length run)) n (x before) before ≡ needing (capacity_of (length run)) (b.out_len.0 + n) before (accepted (x before)) (accepted (failing before))
  unfolding writing
  writing-room = ap (λ (k : ℕ). needing (capacity_of (length run)) (k + n) before (accepted (x before)) (accepted (failing before))) (out_of b run other v.held)

  limits-room : {t : _} → room_for (capacity_of (length run)) (b.out_len.0 + n) b.limits ≡ t → room_for (capacity_of (length run)) (b.out_len.0 + n) before.state.limits ≡ t
  limits-room h = ap (room_for (capacity_of (length run)) (b.out_len.0 + n)) (limits_of b run other) ∙ h

  -- f is the buffer after it
  pub writing-done : {r : Reply} {f : Buffer} {run' other' : List ℕ} → room_for (capacity_of (length run)) (b.out_len.0 + n) b.limits ≡ fitting → f.swapped ≡ b.swapped
      → words_from f.limits.allocated run' ≡ words_from f.limits.allocated run → words_from f.limits.allocated other' ≡ words_from f.limits.allocated other → Held f run other
      → account_of f run' other' ≡ x before → r ≡ reply f (Ok None) → MeetsIn (λ capacity a. writing capacity n (x a) a) b run other r run' other'
  writing-done {r} {f} h side br bo w e er = in-accepted f side br bo w (writing-room ∙ (needing-fits _ _ before _ _ (limits-room h) ∙ ap accepted (sym e))) er

-- ---- the size, and what may be written then
module _ {b : Buffer} {run other : List ℕ} (v : SyncOutput b run other) where
  pub out-size : (a : Account ℕ) → a ≡ account_of b run other → (n : ℕ) → sized (out_length a + n) a ≡ sized (b.out_len.0 + n) (account_of b run other)
  out-size a e n = ap (λ (k : Account ℕ). sized (out_length k + n) k) e ∙ ap (λ (k : ℕ). sized (k + n) (account_of b run other)) (out_of b run other v.held)

  -- only the size is made
  pub size-done : (n : ℕ) {r : Reply} {l : Limits} {g : Buffer} → room_for (capacity_of (length run)) (b.out_len.0 + n) b.limits ≡ fitting → l ≡ grown (b.out_len.0 + n) b.limits → g ≡ with_limits_of l b → r ≡ reply g (Ok None) → MeetsIn (λ capacity a. writing capacity n (sized (out_length a + n) a) a) b run other r run other
  size-done n h el eg er =
      writing-done v n (λ a. sized (out_length a + n) a) h (limits-side (grown (b.out_len.0 + n) b.limits) b) refl refl (held_grown b run other v.held (b.out_len.0 + n) h)
      (sized_of b run other (b.out_len.0 + n) ∙ sym (out-size (account_of b run other) refl n))
      (er ∙ ap (λ (k : Buffer). reply k (Ok None)) (eg ∙ ap (λ (k : Limits). with_limits_of k b) el))

  pub grown-roomy : (m n : ℕ) → room_for (capacity_of (length run)) (b.out_len.0 + n) b.limits ≡ fitting → b.idx.0 + m ≤ b.len.0 → Roomy (with_limits_of (grown (b.out_len.0 + n) b.limits) b) m n run other
  grown-roomy m n h k = record { held = held_grown b run other v.held (b.out_len.0 + n) h; output = simp other-limits v.output; in_len = simp other-limits k; in_size = simp other-limits (roomy-grown b run other v.held (b.out_len.0 + n) h).room }

pub dropping-none : (a : Account ℕ) → dropping 0 a ≡ a
unfolding dropping with_gone
dropping-none a =
    let e : a.state.gone + 0 ≡ a.state.gone = omega arith in
    λ k. record { done = a.done; passed = a.passed; rest = a.rest; state = record { phase = a.state.phase; gone = e k; limits = a.state.limits; level = a.state.level; wants = a.state.wants } }

-- ---- what stands before the cursor, and last in the output
module _ {b : Buffer} {run other : List ℕ} (v : Held b run other) (o : output_phase b.phase ≡ true) where
  rest-is : (account_of b run other).rest ≡ slice b.idx.0 b.len.0 (glyphs run)
  rest-is = rest-list b run other ∙ ap (slice b.idx.0 b.len.0) (shown-output b.phase run other o)

  pub rest-first : b.idx.0 < b.len.0 → (account_of b run other).rest ≡ get_or (glyphs run) b.idx.0 zero_glyph ∷ slice (suc b.idx.0) b.len.0 (glyphs run)
  rest-first h = rest-is ∙ slice-cons b.idx.0 b.len.0 (glyphs run) zero_glyph h (omega (arith, v.len-in, v.all_in))

  pub rest-none : b.len.0 ≤ b.idx.0 → (account_of b run other).rest ≡ []
  rest-none h =
      let e : b.len.0 ≡ b.idx.0 = omega (arith, v.idx-in) in
      rest-is ∙ (ap (λ (k : ℕ). slice b.idx.0 k (glyphs run)) e ∙ slice_empty b.idx.0 (glyphs run))

  all-length : length (account_of b run other).rest + out_length (account_of b run other) ≡ b.len.0 - b.idx.0 + b.out_len.0
  all-length = omega (arith, rest_of b run other v (output-clean b.phase o), out_of b run other v)

  pub rest-short : b.len.0 ≤ b.idx.0 → ltb (length (account_of b run other).rest) 1 ≡ true
  rest-short h = lt-ltb (length (account_of b run other).rest) 1 (omega (arith, rest_of b run other v (output-clean b.phase o)))

  pub rest-long : b.idx.0 < b.len.0 → ltb (length (account_of b run other).rest) 1 ≡ false
  rest-long h = le-ltb (length (account_of b run other).rest) 1 (omega (arith, rest_of b run other v (output-clean b.phase o)))

  pub all-some : 0 < b.len.0 - b.idx.0 + b.out_len.0 → eqb (length (account_of b run other).rest + out_length (account_of b run other)) 0 ≡ false
  all-some h = ne_eqb (length (account_of b run other).rest + out_length (account_of b run other)) 0 (λ q. omega (arith, all-length, q))

  pub all_none : b.len.0 ≤ b.idx.0 → b.out_len.0 ≤ 0 → eqb (length (account_of b run other).rest + out_length (account_of b run other)) 0 ≡ true
  all_none h k = eq-eqb (length (account_of b run other).rest + out_length (account_of b run other)) 0 (omega (arith, all-length))

  pub done-last : 0 < b.out_len.0
      → (account_of b run other).done ≡ take (b.out_len.0 - 1) (cond b.have_separate_output (glyphs other) (glyphs run)) ++ (get_or (cond b.have_separate_output (glyphs other) (glyphs run)) (b.out_len.0 - 1) zero_glyph ∷ [])
  done-last h =
      let l : List (Glyph ℕ) = cond b.have_separate_output (glyphs other) (glyphs run) in
      let e : b.out_len.0 ≡ suc (b.out_len.0 - 1) = omega arith in
      let fits : b.out_len.0 ≤ length l = out-fits v b.have_separate_output in
      done-list b run other ∙ (ap (λ (k : ℕ). take k l) e ∙ take-suc l (b.out_len.0 - 1) zero_glyph (omega arith))

module _ (separate : Bool) (run other : List ℕ) {output : List ℕ} (eo : output ≡ cond separate other run) where
  pub last-room : {n : ℕ} → 1 ≤ n → n ≤ length (glyphs run) → n ≤ length (glyphs other) → n - 1 < length (glyphs output)
  last-room {n} o f g = rw eo (by separate)
    where
      by : (x : Bool) → n - 1 < length (glyphs (cond x other run))
      by true = omega arith
      by false = omega arith

  pub last-is : {x : Glyph ℕ} (k : ℕ) → x ≡ get_or (glyphs output) k zero_glyph → x ≡ get_or (cond separate (glyphs other) (glyphs run)) k zero_glyph
  last-is k e = e ∙ rw eo (by separate)
    where
      by : (x : Bool) → get_or (glyphs (cond x other run)) k zero_glyph ≡ get_or (cond x (glyphs other) (glyphs run)) k zero_glyph
      by true = refl
      by false = refl

-- ---- the model of the copies
module _ (a : Account ℕ) where
  pub model-rest : (x : Glyph ℕ) (l : List (Glyph ℕ)) → a.rest ≡ x ∷ l → model a ≡ x.info
  unfolding model infos
  model-rest x l e = ap (λ (r : List (Glyph ℕ)). get_or (infos r ++ reverse (infos a.done)) 0 (blank 0)) e

  pub model-done : (x : Glyph ℕ) (l : List (Glyph ℕ)) → a.rest ≡ [] → a.done ≡ l ++ (x ∷ []) → model a ≡ x.info
  unfolding model infos
  model-done x l e d =
      ap (λ (r : List (Glyph ℕ)). get_or (infos r ++ reverse (infos a.done)) 0 (blank 0)) e
      ∙ (ap (λ (r : List (Glyph ℕ)). get_or (reverse (infos r)) 0 (blank 0)) d
      ∙ (ap (λ (r : List Info). get_or (reverse r) 0 (blank 0)) (sym (append-map (λ g. g.info) l (x ∷ [])))
      ∙ ap (λ (r : List Info). get_or r 0 (blank 0)) (reverse-append (infos l) (x.info ∷ []))))

-- ---- copy_glyph, output_info and output_glyph
-- 0C by the words of its operands: the origin that is given with them counts for nothing
pub info-origin : (g mask cluster var0 var1 o : ℕ)
    → ◌≡◌ {A = ℕ → Account ℕ → Result ℕ} (λ capacity a. output_info capacity g (record { mask = mask; cluster = cluster; var0 = var0; var1 = var1; origin = o; position = zero_position }) a)
    (λ capacity a. output_info capacity g (record { mask = mask; cluster = cluster; var0 = var0; var1 = var1; origin = 0; position = zero_position }) a)
unfolding output_info with_origin
info-origin g mask cluster var0 var1 o = refl

module _ (capacity : ℕ) (a : Account ℕ) where
  pub copy-none : has_output a ≡ false → copy_glyph capacity a ≡ refused WrongPhase
  unfolding copy_glyph
  copy-none h = simp (h, refusing)

  pub info-none : (g : ℕ) (w : Info) → has_output a ≡ false → output_info capacity g w a ≡ refused WrongPhase
  unfolding output_info
  info-none g w h = simp (h, refusing)

  pub glyph-none : (g : ℕ) → has_output a ≡ false → output_glyph capacity g a ≡ refused WrongPhase
  unfolding output_glyph
  glyph-none g h = simp (h, refusing)

  module _ (h : has_output a ≡ true) where
    pub copy-outside : ltb (length a.rest) 1 ≡ true → copy_glyph capacity a ≡ refused OutOfRange
    unfolding copy_glyph
    copy-outside k = simp (h, k, refusing)

    pub copy_writes : ltb (length a.rest) 1 ≡ false → (w : Info) (number : ℕ) → take 1 a.rest ≡ copies w (number ∷ []) → copy_glyph capacity a ≡ writes_one w number capacity a
    unfolding copy_glyph writes_one
    copy_writes k w number e = simp (h, k, refusing) (ap (λ (l : List (Glyph ℕ)). writing capacity 1 (written l (sized (out_length a + 1) a)) a) e)

    pub info-writes : (g : ℕ) (w : Info) → output_info capacity g w a ≡ writes_one (with_origin 0 w) g capacity a
    unfolding output_info writes_one
    info-writes g w = simp (h, refusing)

    pub glyph-writes : (g : ℕ) (w : Info) → eqb (length a.rest + out_length a) 0 ≡ false → model a ≡ w → output_glyph capacity g a ≡ writes_one w g capacity a
    unfolding output_glyph writes_one
    glyph-writes g w k e = simp (h, k, refusing) (ap (λ (i : Info). writing capacity 1 (written (copies i (g ∷ [])) (sized (out_length a + 1) a)) a) e)

    pub glyph-sizes : (g : ℕ) → eqb (length a.rest + out_length a) 0 ≡ true → output_glyph capacity g a ≡ writing capacity 1 (sized (out_length a + 1) a) a
    unfolding output_glyph
    glyph-sizes g k = simp (h, k, refusing)

-- for the proofs of functions
pub ruleset last_glyph = (last-room, last-is)

-- Glyphs put behind the output: what the acts by places leave, and what that is on the account.
use mathlib.Core.{Path.◌≡◌, Path.refl, Path.sym, Path.ap, Path.◌∙◌, Path.subst, Bool.Bool, Bool.true, Bool.false, Bool.cond, Bool.◌||◌, Bool.false≢true, List.List, List.[], List.◌∷◌, List.◌++◌}
use Rattle.std.specs.Option.{unwrap_or}
use Rattle.std.specs.Prelude.{Option}
use Rattle.std.proofs.Common.{ℕ, ◌+◌, ◌-◌, ◌<◌, ◌≤◌, length, get_or, take, drop, set, arith, drop-drop, ltb-false, le-ltb, lt-ltb}
use lib.Seq.{slice, length-paste}
use Rattle.records.specs.{Glyphs.Glyph, Ranges.copies, View.glyphs, View.seen, inner.Stores.zero_glyph}
use Rattle.records.specs.declared.GlyphInfo.{GlyphInfo}
use Rattle.records.proofs.View.{glyphs-same, beyond-glyphs, seen-number}
use Rattle.records.proofs.Edited.{copies-one}
use Rattle.lists.proofs.Changed.{changed, output-apart, held-places, held-apart}
use Rattle.lists.specs.{declared.Buffer.Buffer, declared.Lists.Lists}
use Rattle.lists.specs.{Account.Account, Account.output_phase, Account.with_gone, inner.Copied.copied, Cursor.dropping, Contract.account_of, inner.Held.Held, inner.Verdicts.Sided}
use Rattle.lists.proofs.{Copying.copied_none, Copying.copied_more, Copying.take-copied, Copying.drop-copied, Copying.range_same, Outputs.output, Outputs.output-cong, Outputs.output-places, Outputs.output-account}
use Rattle.lists.specs.inner.States.{lists_of}
use Rattle.edits.specs.{inner.Acts.Acts, inner.MergeActs.Merges, inner.Puts.overtakes, inner.Puts.Puttable, inner.Puts.Brought, inner.Puts.Wrote, inner.Puts.Outputable, inner.Puts.Replaceable, inner.Puts.Replaces, inner.Puts.model_at, inner.Puts.Modelled, inner.Puts.Outputs, Writing.written}
use Rattle.edits.proofs.WriteForms.{Roomy, put_buffer}

-- ---- where the output lies
module _ {at : Lists} {apart : Bool} {run other : List ℕ} where
  pub brought-separate : at.separate ≡ true → Brought at apart run other other true
  brought-separate h = record { lies = rw h; other-is = rw h }

  pub brought-moved : {other' : List ℕ} → at.separate ≡ false → apart ≡ true → glyphs other' ≡ copied (glyphs other) 0 (glyphs run) 0 at.out_len → Brought at apart run other other' apart
  brought-moved h k e = record { lies = rw h; other-is = rw (h, k) e }

  pub brought-none : {other' : List ℕ} → at.separate ≡ false → apart ≡ false → other' ≡ other → Brought at apart run other other' apart
  brought-none h k e = record { lies = rw h; other-is = rw (h, k, e) }

-- n of the glyphs `new` stand behind the output, in the slice that it lies in
pub record Grown (to : ℕ) (new : List (Glyph ℕ)) (n : ℕ) (run other run' other' : List ℕ) : Type 0 where
  pub run_is : glyphs run' ≡ copied (glyphs run) to new 0 n
  pub other-is : other' ≡ other

pub wrote-by : {at : Lists} {apart x : Bool} {new : List (Glyph ℕ)} {n : ℕ} {run other other₁ run' other' : List ℕ} → Brought at apart run other other₁ x → Sided x (Grown at.out_len new n) run other₁ run' other' → Wrote at apart new n run other run' other'
wrote-by {at} {apart} {x} {new} {n} {run} {other} {other₁} {run'} {other'} w p = by at.separate apart refl refl
  where
    in-other : (at.separate || apart) ≡ true → Grown at.out_len new n other₁ run other' run'
    in-other h = p.second (w.lies ∙ h)

    in-run : (at.separate || apart) ≡ false → Grown at.out_len new n run other₁ run' other'
    in-run h = p.first (w.lies ∙ h)

    grown-other : {l : List (Glyph ℕ)} → (at.separate || apart) ≡ true → glyphs other₁ ≡ l → glyphs other' ≡ copied l at.out_len new 0 n
    grown-other h e = (in-other h).run_is ∙ ap (λ (l : List (Glyph ℕ)). copied l at.out_len new 0 n) e

    by : (s t : Bool) → at.separate ≡ s → apart ≡ t → Wrote at apart new n run other run' other'
    by true t h k =
        let y : (at.separate || apart) ≡ true = ap (λ (z : Bool). z || apart) h in
        record { run_is = rw h (ap glyphs (in-other y).other-is); other-is = rw h (grown-other y (w.other-is ∙ rw h)) }
    by false true h k =
        let y : (at.separate || apart) ≡ true = ap (λ (z : Bool). z || apart) h ∙ k in
        record { run_is = rw (h, k) (ap glyphs (in-other y).other-is); other-is = rw (h, k) (grown-other y (w.other-is ∙ rw (h, k))) }
    by false false h k =
        let y : (at.separate || apart) ≡ false = ap (λ (z : Bool). z || apart) h ∙ k in
        record { run_is = rw (h, k) (in-run y).run_is; other-is = rw (h, k) (ap glyphs (in-run y).other-is ∙ (w.other-is ∙ rw (h, k))) }

pub puttable-turned : {to n : ℕ} {f s : List ℕ} → Puttable to n f s → Puttable to n s f
puttable-turned w = record { same = sym w.same; fits = omega (arith, w.same, w.fits) }

-- one glyph that is put is a copy of one
pub put_copied : (d : List (Glyph ℕ)) (x : Glyph ℕ) (to : ℕ) {l : List (Glyph ℕ)} → to + 1 ≤ length d → l ≡ set d to x → l ≡ copied d to (x ∷ []) 0 1
put_copied d x to h e =
    let here : to + 0 ≡ to = omega arith in
    e
    ∙ (ap (λ (k : ℕ). set d k x) (sym here)
    ∙ (ap (λ (y : List (Glyph ℕ)). set y (to + 0) x) (copied_none d (x ∷ []) to 0) ∙ copied_more zero_glyph d (x ∷ []) to 0 0 (omega arith) (omega arith)))

-- ---- which glyph is copied
module _ (at : Lists) (run other : List ℕ) where
  pub model-first : at.idx < at.len → model_at at run other ≡ get_or (glyphs run) at.idx zero_glyph
  unfolding model_at
  model-first h = rw (lt-ltb at.idx at.len h)

  pub model-last : at.len ≤ at.idx → model_at at run other ≡ get_or (cond at.separate (glyphs other) (glyphs run)) (at.out_len - 1) zero_glyph
  unfolding model_at
  model-last h = rw (le-ltb at.idx at.len h)

module _ {u : Glyph ℕ} {at : Lists} {run other : List ℕ} where
  pub reads_first : at.idx < at.len → u ≡ get_or (glyphs run) at.idx zero_glyph → Modelled at run other u
  reads_first h e = record { is = e ∙ sym (model-first at run other h) }

  pub reads-last : at.len ≤ at.idx → u ≡ get_or (cond at.separate (glyphs other) (glyphs run)) (at.out_len - 1) zero_glyph → Modelled at run other u
  reads-last h e = record { is = e ∙ sym (model-last at run other h) }

  pub outputs-of : {apart : Bool} {number : Option ℕ} {r : Glyph ℕ} {x : ℕ} {run' other' : List ℕ} → Modelled at run other u → x ≡ unwrap_or number u.glyph → r ≡ record { glyph = x; info = u.info } → Wrote at apart (r ∷ []) 1 run other run' other'
      → Outputs at apart number run other run' other'
  outputs-of {apart} {number} {r} {x} {run'} {other'} eg ex er w =
      let m : Glyph ℕ = model_at at run other in
      let en : x ≡ unwrap_or number m.glyph = ex ∙ ap (λ (t : Glyph ℕ). unwrap_or number t.glyph) eg.is in
      let e : r ≡ record { glyph = unwrap_or number m.glyph; info = m.info } = er ∙ (λ k. record { glyph = en k; info = (eg.is k).info }) in
      record { is = rw copies-one (subst (λ (y : Glyph ℕ). Wrote at apart (y ∷ []) 1 run other run' other') e w) }

pub outputable-turned : {at : Lists} {f s : List ℕ} → Outputable at f s → Outputable at s f
outputable-turned w = record { same = sym w.same; len-in = omega (arith, w.same, w.len-in); fits = omega (arith, w.same, w.fits); some = w.some }

-- a number that is given, or the glyph's own
pub number_or : {x : ℕ} (number : Option ℕ) (g : GlyphInfo) → x ≡ unwrap_or number g.glyph → x ≡ unwrap_or number (seen g).glyph
number_or {x} number g e = e ∙ ap (λ (n : ℕ). unwrap_or number n) (sym (seen-number g))

-- ---- n elements of a list went to place o of the output, which lies apart (s), moved there (x) or lies in the run
module _ {A : Type 0} (run other new : List A) (o n : ℕ) (out-run : o + n ≤ length run) (out-other : o + n ≤ length other) (in-new : 0 + n ≤ length new) where
  moved-long : length (copied other 0 run 0 o) ≡ length other
  moved-long = length-paste other 0 run o (omega arith) (omega arith)

  moved_front : take o (copied other 0 run 0 o) ≡ take o run
  moved_front = let zero_more : 0 + o ≡ o = omega arith in ap (λ (k : ℕ). take k (copied other 0 run 0 o)) (sym zero_more) ∙ take-copied other run 0 0 o (omega arith) (omega arith)

  put-done : (s x : Bool) (run' other' : List A) → run' ≡ cond (s || x) run (copied run o new 0 n) → other' ≡ cond s (copied other o new 0 n) (cond x (copied (copied other 0 run 0 o) o new 0 n) other)
      → take (o + n) (cond (s || x) other' run') ≡ take o (cond s other run) ++ take n new
  put-done true x run' other' er eo = ap (take (o + n)) eo ∙ take-copied other new o 0 n (omega arith) in-new
  put-done false true run' other' er eo = ap (take (o + n)) eo ∙ (take-copied (copied other 0 run 0 o) new o 0 n (omega (arith, moved-long)) in-new ∙ ap (λ (l : List A). l ++ take n new) moved_front)
  put-done false false run' other' er eo = ap (take (o + n)) er ∙ take-copied run new o 0 n (omega arith) in-new

  put_rest : (s x : Bool) (run' : List A) (i m e : ℕ) → run' ≡ cond (s || x) run (copied run o new 0 n) → (s ≡ false → x ≡ false → o + n ≤ i + m) → slice (i + m) e run' ≡ drop m (slice i e run)
  put_rest true x run' i m e er q = ap (slice (i + m) e) er ∙ sym (drop-drop m i (take e run))
  put_rest false true run' i m e er q = ap (slice (i + m) e) er ∙ sym (drop-drop m i (take e run))
  put_rest false false run' i m e er q =
      ap (slice (i + m) e) er
      ∙ (range_same (copied run o new 0 n) run (i + m) e (drop-copied run new o 0 n (i + m) (q refl refl) (omega arith) in-new)
      ∙ sym (drop-drop m i (take e run)))

  put-run : (s x : Bool) (run' : List A) (m : ℕ) → o + n ≤ m → run' ≡ cond (s || x) run (copied run o new 0 n) → drop m run' ≡ drop m run
  put-run true x run' m h er = ap (drop m) er
  put-run false true run' m h er = ap (drop m) er
  put-run false false run' m h er = ap (drop m) er ∙ drop-copied run new o 0 n m h (omega arith) in-new

  put_other : (s x : Bool) (other' : List A) (m : ℕ) → o + n ≤ m → other' ≡ cond s (copied other o new 0 n) (cond x (copied (copied other 0 run 0 o) o new 0 n) other) → drop m other' ≡ drop m other
  put_other true x other' m h eo = ap (drop m) eo ∙ drop-copied other new o 0 n m h (omega arith) in-new
  put_other false true other' m h eo =
      ap (drop m) eo
      ∙ (drop-copied (copied other 0 run 0 o) new o 0 n m h (omega (arith, moved-long)) in-new ∙ drop-copied other run 0 0 o m (omega arith) (omega arith) (omega arith))
  put_other false false other' m h eo = ap (drop m) eo

-- ---- the state that is left
or-true : (s : Bool) → s || true ≡ true
or-true true = refl
or-true false = refl

or-false : (s : Bool) → s || false ≡ s
or-false true = refl
or-false false = refl

module _ (b : Buffer) (m n : ℕ) where
  -- the output stays where it is only where it does not overtake the cursor
  pub stays-behind : b.have_separate_output ≡ false → overtakes b m n ≡ false → b.out_len.0 + n ≤ b.idx.0 + m
  unfolding overtakes
  stays-behind h k = ltb-false (b.idx.0 + m) (b.out_len.0 + n) (rw h at k)

  put-account : (x : Bool) (run other : List ℕ) → output_phase b.phase ≡ true
      → account_of (put_buffer x m n b) run other ≡ output b (b.idx.0 + m) (take (b.out_len.0 + n) (cond (b.have_separate_output || x) (glyphs other) (glyphs run))) (slice (b.idx.0 + m) b.len.0 (glyphs run))
  unfolding put_buffer
  put-account true run other h =
      output-apart b (b.idx.0 + m) b.len.0 (b.out_len.0 + n) run other h
      ∙ output-cong b refl (ap (λ (s : Bool). take (b.out_len.0 + n) (cond s (glyphs other) (glyphs run))) (sym (or-true b.have_separate_output))) refl
  put-account false run other h =
      output-places b (b.idx.0 + m) b.len.0 (b.out_len.0 + n) run other h
      ∙ output-cong b refl (ap (λ (s : Bool). take (b.out_len.0 + n) (cond s (glyphs other) (glyphs run))) (sym (or-false b.have_separate_output))) refl

module _ {b : Buffer} {m n : ℕ} {run other : List ℕ} (v : Roomy b m n run other) (x : Bool) (q : b.have_separate_output ≡ false → x ≡ false → b.out_len.0 + n ≤ b.idx.0 + m) where
  put-held : Held (put_buffer x m n b) run other
  unfolding put_buffer
  put-held = by x refl
    where
      by : (y : Bool) → x ≡ y → Held (put_buffer y m n b) run other
      by true e = held-apart v.held _ _ _ v.in_len v.held.len-in v.in_size (λ p. absurd (false≢true (sym p ∙ v.output)))
      by false e = held-places v.held _ _ _ v.in_len v.held.len-in v.in_size (λ p s. q s e) (λ p. absurd (false≢true (sym p ∙ v.output)))

  put-limits : (put_buffer x m n b).limits ≡ b.limits
  unfolding put_buffer
  put-limits = by x
    where
      by : (y : Bool) → (put_buffer y m n b).limits ≡ b.limits
      by true = simp changed
      by false = simp changed

  put-side : (put_buffer x m n b).swapped ≡ b.swapped
  unfolding put_buffer
  put-side = by x
    where
      by : (y : Bool) → (put_buffer y m n b).swapped ≡ b.swapped
      by true = simp changed
      by false = simp changed

  module _ {new : List (Glyph ℕ)} {run' other' : List ℕ} (many : n ≤ length new) (w : Wrote (lists_of b) x new n run other run' other') where
    room-run : b.out_len.0 + n ≤ length (glyphs run)
    room-run = omega (arith, v.in_size, v.held.all_in)

    room-other : b.out_len.0 + n ≤ length (glyphs other)
    room-other = let same : length (glyphs run) ≡ length (glyphs other) = glyphs-same run other v.held.same in omega (arith, room-run)

    put_is : account_of (put_buffer x m n b) run' other' ≡ dropping m (written (take n new) (account_of b run other))
    unfolding dropping written with_gone
    put_is =
        put-account b m n x run' other' v.output
        ∙ (output-cong b refl
        (put-done (glyphs run) (glyphs other) new b.out_len.0 n room-run room-other (omega arith) b.have_separate_output x (glyphs run') (glyphs other') w.run_is w.other-is)
        (put_rest (glyphs run) (glyphs other) new b.out_len.0 n room-run room-other (omega arith) b.have_separate_output x (glyphs run') b.idx.0 m b.len.0 w.run_is q)
        ∙ ap (λ (a : Account ℕ). dropping m (written (take n new) a)) (sym (output-account b run other v.output)))

    pub wrote-acts : length run' ≡ length run → length other' ≡ length other → Acts (λ a. dropping m (written (take n new) a)) b run other (put_buffer x m n b) run' other'
    wrote-acts lr lo =
        let a : ℕ = b.limits.allocated in
        let behind-run : drop a (glyphs run') ≡ drop a (glyphs run) =
        put-run (glyphs run) (glyphs other) new b.out_len.0 n room-run room-other (omega arith) b.have_separate_output x (glyphs run') a v.in_size w.run_is in
        let behind-other : drop a (glyphs other') ≡ drop a (glyphs other) =
        put_other (glyphs run) (glyphs other) new b.out_len.0 n room-run room-other (omega arith) b.have_separate_output x (glyphs other') a v.in_size w.other-is in
        record {
          is = put_is;
          size = ap (λ (l : _). l.allocated) put-limits;
          side = put-side;
          run-beyond = beyond-glyphs a run' run behind-run;
          other-beyond = beyond-glyphs a other' other behind-other;
          held = put-held;
        }

-- ---- the merge of inputs before it
module _ {at : Lists} {m n x : ℕ} {run other : List ℕ} (v : Replaceable at m n x run other) where
  pub replaceable-turned : Replaceable at m n x other run
  replaceable-turned = record { same = sym v.same; len-in = omega (arith, v.same, v.len-in); fits = omega (arith, v.same, v.fits); some = v.some; in_len = v.in_len; enough = v.enough }

  pub replace-puttable : (run₁ other₁ : List ℕ) → length run₁ ≡ length run → length other₁ ≡ length other → Puttable at.out_len n run₁ other₁
  replace-puttable run₁ other₁ lr lo =
      let er : length (glyphs run₁) ≡ length (glyphs run) = glyphs-same run₁ run lr in
      let eo : length (glyphs other₁) ≡ length (glyphs other) = glyphs-same other₁ other lo in
      record { same = er ∙ (v.same ∙ sym eo); fits = omega (arith, v.fits) }

pub replaces-of : {at : Lists} {apart merges : Bool} {level wants m n : ℕ} {gs run other run₁ other₁ run' other' : List ℕ} {u : Glyph ℕ} → Sided false (Merges at.separate merges level wants at.idx at.len at.out_len at.idx (at.idx + m)) run other run₁ other₁ → length run₁ ≡ length run → length other₁ ≡ length other → u ≡ get_or (glyphs run₁) at.idx zero_glyph
    → Wrote at apart (copies u.info gs) n run₁ other₁ run' other' → Replaces at apart merges level wants m n gs run other run' other'
replaces-of {run₁ = run₁} {other₁ = other₁} {u = u} w lr lo eu q = record { run₁ = run₁; other₁ = other₁; run_long = lr; other-long = lo; merged = w; first = u; first-is = eu; wrote = q }

-- for the proofs of functions
pub ruleset put_laws = (brought-separate, brought-moved, brought-none, reads_first, reads-last, outputs-of, number_or, replace-puttable, replaces-of)

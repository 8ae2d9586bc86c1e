-- One write after another, and lines printed where there is room.
use mathlib.Core.{Path.◌≡◌, Path.refl, Path.ap, Path.sym, Path.◌∙◌, Bool.Bool, Bool.true, Bool.false, Bool.cond, List.List, List.[], List.◌∷◌, List.◌++◌, List.append_assoc, List.map}
use Prim.Native.Nat.{ℕ, suc, ◌+◌, ◌-◌, ◌/◌, ◌<◌, ◌≤◌, ◌^◌}
use native.Mathlib.Nat.{add-zero, add-suc, suc-add}
use native.Mathlib.Omega.{arith}
use lib.{ListN.length, ListN.set, ListN.take, ListN.length-append, Seq.sets, Seq.sets-eq, Seq.drop-drop}
use borrow.Rule.Slice.PartMut.{put_mid}
use Rattle.std.specs.Int.{from_bool}
use Rattle.std.specs.Prelude.{Ok, Option, Some, None}
use Rattle.records.specs.Answers.{Answer, ok, ok_with, said}
use Rattle.records.specs.{View.seen, declared.GlyphInfo.GlyphInfo}
use Rattle.records.proofs.View.{seen-number, seen-mask, seen-cluster, seen-var0, seen-var1, seen-origin}
use Rattle.lists.specs.{Account.spoiled_phase, declared.Buffer.Buffer}
use Rattle.commands.specs.{Lines.decimal, Lines.digit_of, Lines.ending, Lines.counters_line, Lines.glyph_line, inner.Writes.end_line_of, inner.Writes.Puts, Texts.Wrote, Texts.Prints, Texts.longest, declared.writer.Writer.Writer}
use Rattle.commands.proofs.Decimals.{one-digit, more-digits, more_length, word_short, count_short, negative_short}

pub sets-append : (l a b : List ℕ) (i : ℕ) → sets l i (a ++ b) ≡ sets (sets l i a) (i + length a) b
sets-append l [] b i = rw add-zero
sets-append l (x ∷ a) b i = sets-append (set l i x) a b (suc i) ∙ ap (λ (k : ℕ). sets (sets (set l i x) (suc i) a) k b) (suc-add i (length a) ∙ sym (add-suc i (length a)))

pub and_then : {l m n a b : List ℕ} {at k r : ℕ} → Wrote a l at k m → Wrote b m k r n → Wrote (a ++ b) l at r n
and_then {l} {m} {n} {a} {b} {at} {k} {r} v w = record {
  list = w.list ∙ (rw (v.list, v.next) (sym (sets-append l a b at)));
  next = rw length-append (let x : r ≡ k + length b = w.next in let y : k ≡ at + length a = v.next in omega arith);
}

-- one byte
pub wrote-one : (l : List ℕ) (at x : ℕ) → Wrote (x ∷ []) l at (at + 1) (set l at x)
wrote-one l at x = record { list = refl; next = refl }

-- the last digit behind the others
pub wrote-last : {n d at k : ℕ} {l m : List ℕ} → n < 2 ^ 64 → 10 ≤ n → d ≡ digit_of n → Wrote (decimal (n / 10)) l at k m → Wrote (decimal n) l at (k + 1) (set m k d)
wrote-last {n} {d} {at} {k} {l} {m} fits h e w = rw (more-digits n fits h, e) (and_then w (wrote-one m k (digit_of n)))

-- some bytes copied over a part
pub pasted : (bytes l m : List ℕ) (at : ℕ) → at + length bytes ≤ length l → m ≡ bytes → Wrote bytes l at (at + length bytes) (put_mid at (at + length bytes - at) l m)
pasted bytes l m at h e =
    let some : at + length bytes - at ≡ length bytes = omega arith in
    record { list = rw (some, e, drop-drop) (sym (sets-eq bytes l at h ∙ append_assoc (take at l) bytes _)); next = refl }

-- ---- a writer: one write after another, by what the first wrote
pub then : {w x y : Writer} {a b : List ℕ} → Puts a w x → Puts b x y → Puts (a ++ b) w y
then p q = record { same = q.same ∙ p.same; size = q.size ∙ p.size; wrote = and_then p.wrote q.wrote }

module _ {w x y : Writer} {b : List ℕ} where
  pub then_one : {c : ℕ} → Puts (c ∷ []) w x → Puts b x y → Puts (c ∷ b) w y
  then_one = then

  pub then-two : {c d : ℕ} → Puts (c ∷ d ∷ []) w x → Puts b x y → Puts (c ∷ d ∷ b) w y
  then-two = then

  pub then-three : {c d e : ℕ} → Puts (c ∷ d ∷ e ∷ []) w x → Puts b x y → Puts (c ∷ d ∷ e ∷ b) w y
  then-three = then

  pub then-word : {a : List ℕ} → Puts (32 ∷ a) w x → Puts b x y → Puts (32 ∷ (a ++ b)) w y
  then-word = then

pub ruleset writing = (then_one, then-two, then-three, then-word)

-- ---- numbers
pub truth_short : (t : Bool) → length (decimal (from_bool t)) ≡ 1
truth_short true = rw (one-digit 1 (omega arith)) refl
truth_short false = rw (one-digit 0 (omega arith)) refl

-- ---- answers
pub said-ok : {a : Answer} {x : Option ℕ} → a ≡ Ok x → x ≡ None → said a ≡ ok
said-ok e f = rw (e, f) refl

pub said-value : {a : Answer} {x : Option ℕ} {v : ℕ} → a ≡ Ok x → x ≡ Some v → said a ≡ ok_with v
said-value e f = rw (e, f) refl

-- ---- lines
pub glyph-put : (kind : ℕ) (g : GlyphInfo) {w x : Writer} → Puts (kind ∷ ending (map decimal (g.glyph ∷ g.cluster ∷ g.mask ∷ g.var0 ∷ g.var1 ∷ g.origin ∷ []))) w x → Puts (glyph_line kind (seen g)) w x
unfolding glyph_line
glyph-put kind g p = rw (seen-number g, seen-cluster g, seen-mask g, seen-var0 g, seen-var1 g, seen-origin g) p

pub counters-put : (b : Buffer) {i : ℕ} {w x : Writer} → i ≡ cond (spoiled_phase b.phase) 0 b.idx.0
    → Puts (counters_line b.len.0 i b.out_len.0 b.limits.max_ops b.limits.successful) w x → Puts (end_line_of b) w x
unfolding end_line_of
counters-put b e p = rw (← e) p

-- what arithmetic needs of numbers
pub ruleset decimals = (wrote-one, wrote-last, one-digit, more-digits, more_length)

pub ruleset signs = (then, word_short, negative_short)

pub ruleset words = (then, word_short, count_short, truth_short)

-- a line that was written at the start of a room is as long as it says
pub printed-length : {line before : List ℕ} {r : ℕ} {after : List ℕ} → Prints line before 0 r after → longest ≤ length before → r ≡ length line
printed-length p h = omega (arith, (p.room (omega arith)).next)

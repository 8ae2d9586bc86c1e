-- The reader's places and the account's bytes: operands read off the front of what is left, and by their places, are the same.
use mathlib.Core.{Path.◌≡◌, Path.refl, Path.ap, Path.sym, Path.◌∙◌, Bool.Bool, Bool.true, Bool.false, Bool.◌&&◌, Bool.and-eq-true_iff, List.List, List.[], List.◌∷◌}
use Prim.Native.Nat.{ℕ, zero, suc, ◌+◌, ◌*◌, ◌-◌, ◌<◌, ◌≤◌}
use native.Mathlib.Nat.{add-zero}
use native.Mathlib.Omega.{arith}
use lib.{Dec.ltb, Dec.leb, ListN.length, ListN.get_or, ListN.take, ListN.drop, ListN.length-drop, ListN.drop_of_length-le, ListN.get_or-eq_default, Seq.drop-cons}
use borrow.Author.Tests.{ltb-true, ltb-false, leb-true}
use Rattle.commands.specs.Calls.{unreadable, got, mapped, words, operand, Form, unknown, operands, glyph_and, listed, forms, read_form, front, read_up_to}
use Rattle.records.specs.Bytes.{word_at, words_at}
use Rattle.records.proofs.ByteLaws.{length-words, word-there}
use Rattle.commands.specs.{Calls.form_of, Reading.operands_of, Reading.count, Reading.made, inner.Orders.operand_at, inner.Orders.order_at, Reading.ordered, Reading.worded_of, Reading.reading_of, inner.Orders.ReadsForm, Reading.Reads}
use Rattle.commands.proofs.Bytes.{listed_read, continued}
use Rattle.std.specs.Prelude.{Option, Some, None}
use Rattle.commands.specs.{declared.Order.Order, declared.Operands.Operands, declared.Operands.TheVariants.Words, declared.Operands.TheVariants.Listed}

-- ---- words
cut : (n : ℕ) (l : List ℕ) → length l < 4 → words (suc n) l ≡ unreadable
unfolding words
cut n [] h = refl
cut n (a ∷ []) h = refl
cut n (a ∷ (b ∷ [])) h = refl
cut n (a ∷ (b ∷ (c ∷ []))) h = refl
cut n (a ∷ (b ∷ (c ∷ (d ∷ l)))) h = absurd (omega arith)

pub next : (s : List ℕ) (j k : ℕ) → j < length s → suc j ≡ k → drop j s ≡ get_or s j 0 ∷ drop k s
next s j k h e = rw (← e) (drop-cons s j 0 h)

full : (n : ℕ) (s : List ℕ) (at : ℕ) → at + 4 ≤ length s → words (suc n) (drop at s) ≡ mapped (λ ws. word_at s at ∷ ws) (words n (drop (at + 4) s))
unfolding words
full n s at h = rw (next s at (at + 1) (omega arith) (omega arith), next s (at + 1) (at + 2) (omega arith) (omega arith), next s (at + 2) (at + 3) (omega arith) (omega arith), next s (at + 3) (at + 4) (omega arith) (omega arith))

pub words-cut : (n : ℕ) (s : List ℕ) (at : ℕ) → at ≤ length s → length s - at < 4 * n → words n (drop at s) ≡ unreadable
unfolding mapped
words-cut zero s at h k = absurd (omega (arith, k))
words-cut (suc n) s at h k = tested (ltb (length s - at) 4) refl (words-cut n s (at + 4))
  where
    tested : (t : Bool) → ltb (length s - at) 4 ≡ t → (at + 4 ≤ length s → length s - (at + 4) < 4 * n → words n (drop (at + 4) s) ≡ unreadable) → words (suc n) (drop at s) ≡ unreadable
    tested true e r = let few : length s - at < 4 = ltb-true _ _ e in cut n (drop at s) (simp length-drop few)
    tested false e r = let many : 4 ≤ length s - at = ltb-false _ _ e in rw (full n s at (omega arith), r (omega arith) (omega (arith, k)))

pub words-read : (n : ℕ) (s : List ℕ) (at : ℕ) → at + 4 * n ≤ length s → words n (drop at s) ≡ got (words_at s at n) (drop (at + 4 * n) s)
unfolding words words_at mapped
words-read zero s at h = rw add-zero
words-read (suc n) s at h =
    let past : at + 4 * suc n ≡ at + 4 + 4 * n = omega arith in
    rw (full n s at (omega (arith, h)), words-read n s (at + 4) (omega (arith, h)), past)

-- ---- forms
unknown-from : (byte : ℕ) → 39 ≤ byte → form_of byte ≡ unknown
unfolding forms
unknown-from byte h = get_or-eq_default forms unknown {n = byte} h

-- none of the first n bytes
abbrev pub NoneOf : ℕ → ℕ → Type 0
NoneOf zero b = Unit {0}
NoneOf (suc n) b = NoneOf n b × (b ≡ n → ⊥)

pub past : (n b : ℕ) → NoneOf n b → n ≤ b
past zero b h = omega arith
past (suc n) b h = let low : n ≤ b = past n b h.0 in let not : b ≡ n → ⊥ = h.1 in omega arith

pub no-command : (byte : ℕ) → 39 ≤ byte → None ≡ operands_of (form_of byte)
unfolding operands_of
no-command byte h = rw (unknown-from byte h)

-- no form has more than five
all_few : List Form → Bool
all_few [] = true
all_few (x ∷ xs) = leb (count (operands_of x)) 5 && all_few xs

few-of : (xs : List Form) (k : ℕ) → all_few xs ≡ true → count (operands_of (get_or xs k unknown)) ≤ 5
unfolding all_few count operands_of
few-of [] k h = omega arith
few-of (x ∷ xs) zero h = leb-true _ _ ((and-eq-true_iff _ _).0 h).0
few-of (x ∷ xs) (suc k) h = few-of xs k ((and-eq-true_iff _ _).0 h).1

pub few_words : (byte n : ℕ) → operands_of (form_of byte) ≡ Some (Words n) → n ≤ 5
unfolding all_few count operands_of forms
few_words byte n e = rw e at (few-of forms byte refl)

-- ---- operands of an order
pub operand_none : (n i : ℕ) (s : List ℕ) (from : ℕ) → n ≤ i → operand_at s from n i ≡ 0
operand_none n i s from h = get_or-eq_default (words_at s from n) 0 {n = i} (rw (length-words n s from) h)

pub ruleset operand_laws = (word-there, operand_none)

-- five operands hold a list that is no longer
cut-back : (ws : List ℕ) → length ws ≤ 5 → take (length ws) (get_or ws 0 0 ∷ get_or ws 1 0 ∷ get_or ws 2 0 ∷ get_or ws 3 0 ∷ get_or ws 4 0 ∷ []) ≡ ws
cut-back [] h = refl
cut-back (a ∷ []) h = refl
cut-back (a ∷ (b ∷ [])) h = refl
cut-back (a ∷ (b ∷ (c ∷ []))) h = refl
cut-back (a ∷ (b ∷ (c ∷ (d ∷ [])))) h = refl
cut-back (a ∷ (b ∷ (c ∷ (d ∷ (e ∷ []))))) h = refl
cut-back (a ∷ (b ∷ (c ∷ (d ∷ (e ∷ (f ∷ ws)))))) h = absurd (omega arith)

operands-are : (n : ℕ) → n ≤ 5 → (s : List ℕ) (from : ℕ)
    → take n (operand_at s from n 0 ∷ operand_at s from n 1 ∷ operand_at s from n 2 ∷ operand_at s from n 3 ∷ operand_at s from n 4 ∷ []) ≡ words_at s from n
operands-are n h s from =
    ap (λ (k : ℕ). take k (operand_at s from n 0 ∷ operand_at s from n 1 ∷ operand_at s from n 2 ∷ operand_at s from n 3 ∷ operand_at s from n 4 ∷ [])) (sym (length-words n s from))
    ∙ cut-back (words_at s from n) (rw (length-words n s from) h)

-- ---- a form's operands, cut off and there
module _ (s : List ℕ) (from n : ℕ) where
  form-cut : (x : Form) → operands_of x ≡ Some (Words n) → from ≤ length s → length s - from < 4 * n → read_form x (drop from s) ≡ unreadable
  unfolding read_form operands_of count mapped
  form-cut unknown e h k = refl
  form-cut (operands m f) e h k = let i : m ≡ n = cc in rw (i, words-cut n s from h k)
  form-cut (glyph_and m f) e h k = let i : suc m ≡ n = cc in rw (i, words-cut n s from h k)
  form-cut (listed f) e h k = cc

  form-read : (x : Form) → operands_of x ≡ Some (Words n) → from + 4 * n ≤ length s → (gs : List ℕ) → read_form x (drop from s) ≡ got (made x (words_at s from n) gs) (drop (from + 4 * n) s)
  unfolding read_form operands_of count mapped made
  form-read unknown e h gs = cc
  form-read (operands m f) e h gs = let i : m ≡ n = cc in rw (i, words-read n s from h)
  form-read (glyph_and m f) e h gs = let i : suc m ≡ n = cc in rw (i, words-read n s from h)
  form-read (listed f) e h gs = cc

module _ (s : List ℕ) (from : ℕ) where
  listed-cut : (x : Form) → operands_of x ≡ Some Listed → from ≤ length s → length s - from < 8 → read_form x (drop from s) ≡ unreadable
  unfolding read_form listed_read operands_of
  listed-cut unknown e h k = refl
  listed-cut (operands m f) e h k = cc
  listed-cut (glyph_and m f) e h k = cc
  listed-cut (listed f) e h k = ap (listed_read f) (words-cut 2 s from h k)

  numbers-cut : (x : Form) → operands_of x ≡ Some Listed → from + 8 ≤ length s → length s - (from + 8) < 4 * word_at s (from + 4) → read_form x (drop from s) ≡ unreadable
  unfolding read_form listed_read operands_of mapped words_at operand
  numbers-cut unknown e h k = refl
  numbers-cut (operands m f) e h k = cc
  numbers-cut (glyph_and m f) e h k = cc
  numbers-cut (listed f) e h k = ap (listed_read f) (words-read 2 s from h) ∙ rw (words-cut (word_at s (from + 4)) s (from + 8) h k)

  listed-read : (x : Form) → operands_of x ≡ Some Listed → from + 8 + 4 * word_at s (from + 4) ≤ length s
      → read_form x (drop from s) ≡ got (made x (words_at s from 2) (words_at s (from + 8) (word_at s (from + 4)))) (drop (from + 8 + 4 * word_at s (from + 4)) s)
  unfolding read_form listed_read operands_of mapped made words_at operand
  listed-read unknown e h = cc
  listed-read (operands m f) e h = cc
  listed-read (glyph_and m f) e h = cc
  listed-read (listed f) e h = let two : from + 8 ≤ length s = omega (arith, h) in ap (listed_read f) (words-read 2 s from two) ∙ rw (words-read (word_at s (from + 4)) s (from + 8) h)

-- ---- orders
-- a byte with operands is a command
known-byte : (byte : ℕ) {x : Operands} → operands_of (form_of byte) ≡ Some x → byte < 39
unfolding operands_of
known-byte byte {x} e = tested (ltb byte 39) refl
  where
    tested : (t : Bool) → ltb byte 39 ≡ t → byte < 39
    tested true h = ltb-true _ _ h
    tested false h = let none : None ≡ Some x = rw (unknown-from byte (ltb-false _ _ h)) at e in cc

-- 0E is the one command with glyph numbers of its own
not-words : (byte n : ℕ) → operands_of (form_of byte) ≡ Some (Words n) → byte ≡ 14 → ⊥
unfolding forms operands_of
not-words byte n e h = let other : Some Listed ≡ Some (Words n) = rw h at e in cc

module _ (s : List ℕ) (byte from : ℕ) where
  module _ (n : ℕ) (e : operands_of (form_of byte) ≡ Some (Words n)) where
    pub words-unreadable : from ≤ length s → length s - from < 4 * n → ReadsForm s byte from None
    unfolding reading_of
    words-unreadable h k = record { same = form-cut s from n (form_of byte) e h k; ordered = tt }

    pub words-ordered : from + 4 * n ≤ length s → ReadsForm s byte from (Some (order_at s byte from n 0))
    unfolding reading_of worded_of ordered order_at count
    words-ordered k = let last : from + 4 * n + 4 * 0 ≡ from + 4 * n = omega arith in record {
      same = form-read s from n (form_of byte) e k (words_at s (from + 4 * n) (operand_at s from n 1)) ∙ sym (rw (e, operands-are n (few_words byte n e) s from, last));
      ordered = record { byte-is = refl; known = known-byte byte e; onward = omega arith; inside = rw last k; listed-end = λ x. absurd (not-words byte n e x) };
    }

  module _ (e : operands_of (form_of byte) ≡ Some Listed) where
    pub listed-unreadable : from ≤ length s → length s - from < 8 → ReadsForm s byte from None
    unfolding reading_of
    listed-unreadable h k = record { same = listed-cut s from (form_of byte) e h k; ordered = tt }

    pub numbers-unreadable : from + 8 ≤ length s → length s - (from + 8) < 4 * word_at s (from + 4) → ReadsForm s byte from None
    unfolding reading_of
    numbers-unreadable h k = record { same = numbers-cut s from (form_of byte) e h k; ordered = tt }

    pub listed-ordered : from + 8 + 4 * word_at s (from + 4) ≤ length s → ReadsForm s byte from (Some (order_at s byte from 2 (word_at s (from + 4))))
    unfolding reading_of worded_of ordered order_at words_at count
    listed-ordered h = record {
      same = listed-read s from (form_of byte) e h ∙ sym (rw e);
      ordered = record { byte-is = refl; known = known-byte byte e; onward = omega arith; inside = h; listed-end = λ x. refl };
    }

  pub unknown-unreadable : operands_of (form_of byte) ≡ None → ReadsForm s byte from None
  unfolding reading_of read_form operands_of
  unknown-unreadable e = record { same = unread (form_of byte) e; ordered = tt }
    where
      unread : (x : Form) → operands_of x ≡ None → read_form x (drop from s) ≡ unreadable
      unread unknown k = refl
      unread (operands m f) k = cc
      unread (glyph_and m f) k = cc
      unread (listed f) k = cc

-- ---- a place in a string
module _ {s : List ℕ} {at : ℕ} where
  pub reads-past : length s ≤ at → Reads s at None
  unfolding front reading_of
  reads-past h = record { is = ap front (drop_of_length-le s h); places = λ k. tt }

  pub reads-inside : {r : Option Order} → at < length s → ReadsForm s (get_or s at 0) (at + 1) r → Reads s at r
  unfolding front
  reads-inside h w = record { is = ap front (next s at (at + 1) h (omega arith)) ∙ w.same; places = λ k. w.ordered }

  pub reads-unknown : {b : ℕ} → at < length s → get_or s at 0 ≡ b → operands_of (form_of b) ≡ None → Reads s at None
  reads-unknown h e u = reads-inside h (unknown-unreadable _ _ _ (rw e u))

-- the calls of what is left of a string go by what the reader answers at its place
pub read-up-to : (n : ℕ) (s : List ℕ) (at : ℕ) (r : Option Order) → at < length s → Reads s at r
    → read_up_to (suc n) (drop at s) ≡ continued n (reading_of s r)
unfolding read_up_to continued front
read-up-to n s at r h w = rw (next s at (at + 1) h (omega arith)) (ap (continued n) (rw (next s at (at + 1) h (omega arith)) at w.is))

-- an order of five operands that were read one by one
pub order_made : (s : List ℕ) (byte from n m : ℕ) {a b c d e : ℕ} → a ≡ operand_at s from n 0 → b ≡ operand_at s from n 1 → c ≡ operand_at s from n 2 → d ≡ operand_at s from n 3 → e ≡ operand_at s from n 4
    → record { byte = byte; a = a; b = b; c = c; d = d; e = e; numbers = from + 4 * n; next = from + 4 * n + 4 * m } ≡ order_at s byte from n m
unfolding order_at
order_made s byte from n m p q u v w = rw (p, q, u, v, w)

pub ruleset word_forms = (few_words, words-unreadable)

pub ruleset listed_forms = (listed-unreadable, numbers-unreadable)

pub ruleset commands = (reads-past, reads-inside)

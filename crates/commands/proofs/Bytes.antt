-- Renaming the glyph numbers in a string of bytes: it reads as the same calls, reworded, and ends in refusal 6 where the first does.
use mathlib.Core.{Path.◌≡◌, Path.refl, Path.ap, Path.◌∙◌, List.List, List.[], List.◌∷◌, List.◌++◌, List.map, List.map-id}
use Rattle.std.specs.Prelude.{Option, None as none, Some as some}
use Prim.Native.Nat.{ℕ, zero, suc, ◌/◌, ◌%◌, ◌<◌}
use native.Mathlib.Omega.{arith}
use lib.{ListN.length, ListN.get_or, ListN.take, ListN.drop}
use Rattle.records.specs.{Unreadable}
use Rattle.lists.specs.{Account.Account, Account.renamed, Account.Outcome}
use Rattle.commands.specs.Calls.{Call, Worded, step}
use Rattle.records.specs.Bytes.{word}
use Rattle.commands.specs.Calls.{Read, unreadable, got, mapped, words, operand, Form, unknown, operands, glyph_and, listed, forms, read_form, read_up_to, run_read, run_bytes}
use Rattle.commands.specs.Claims.{renamed_outcome, reworded, over_operands, as_it_is, renamed_number, renamed_form, renamed_up_to, renamed_bytes}
use Rattle.commands.proofs.Renaming.{step-rename, refused-outcome}

-- what was read, changed by g, and the bytes after it, changed by h
unfoldable pub turned : {A B : Type 0} → (A → B) → (List ℕ → List ℕ) → Read A → Read B
turned g h unreadable = unreadable
turned g h (got a l) = got (g a) (h l)

abbrev worded : Call → List ℕ → Worded ℕ
worded c gs = record { call = c; glyphs = gs }

-- the parts of the reader that go by what was read
abbrev second : Read (List ℕ) → ℕ
second r = elim r [ unreadable ↦ 0 | got ws l ↦ operand 1 ws ]

unfoldable pub listed_read : (List ℕ → Call) → Read (List ℕ) → Read (Worded ℕ)
listed_read k r = elim r [ unreadable ↦ unreadable | got ws l ↦ mapped (λ gs. worded (k ws) gs) (words (operand 1 ws) l) ]

unfoldable pub continued : ℕ → Read (Worded ℕ) → List (Option (Worded ℕ))
continued n r = elim r [ unreadable ↦ none ∷ [] | got w l ↦ some w ∷ read_up_to n l ]

-- ---- operands: h puts other bytes for each four, and they read as g of the word
module _ (h : ℕ → ℕ → ℕ → ℕ → List ℕ) (g : ℕ → ℕ) (reads : (a b c d n : ℕ) (l : List ℕ) → words (suc n) (h a b c d ++ l) ≡ mapped (λ ws. g (word a b c d) ∷ ws) (words n l)) where
  mapped-turned : (next : List ℕ → List ℕ) (w : ℕ) (r : Read (List ℕ)) → mapped (λ ws. g w ∷ ws) (turned (map g) next r) ≡ turned (map g) next (mapped (λ ws. w ∷ ws) r)
  unfolding mapped turned
  mapped-turned next w unreadable = refl
  mapped-turned next w (got ws l) = refl

  words-over : (n : ℕ) (next : List ℕ → List ℕ) (l : List ℕ) → words n (over_operands h n next l) ≡ turned (map g) next (words n l)
  unfolding words over_operands turned
  words-over zero next l = refl
  words-over (suc n) next [] = refl
  words-over (suc n) next (a ∷ []) = refl
  words-over (suc n) next (a ∷ (b ∷ [])) = refl
  words-over (suc n) next (a ∷ (b ∷ (c ∷ []))) = refl
  words-over (suc n) next (a ∷ (b ∷ (c ∷ (d ∷ l)))) =
      reads a b c d n (over_operands h n next l)
      ∙ (ap (mapped (λ ws. g (word a b c d) ∷ ws)) (words-over n next l) ∙ mapped-turned next (word a b c d) (words n l))

kept-reads : (a b c d n : ℕ) (l : List ℕ) → words (suc n) (as_it_is a b c d ++ l) ≡ mapped (λ ws. word a b c d ∷ ws) (words n l)
unfolding words as_it_is
kept-reads a b c d n l = refl

turned-id : (next : List ℕ → List ℕ) (r : Read (List ℕ)) → turned (map (λ w. w)) next r ≡ turned (λ ws. ws) next r
unfolding turned
turned-id next unreadable = refl
turned-id next (got ws l) = ap (λ (k : List ℕ). got k (next l)) (map-id ws)

words-kept : (n : ℕ) (next : List ℕ → List ℕ) (l : List ℕ) → words n (over_operands as_it_is n next l) ≡ turned (λ ws. ws) next (words n l)
words-kept n next l = words-over as_it_is (λ w. w) kept-reads n next l ∙ turned-id next (words n l)

word-of-bytes : (w : ℕ) → word (w % 256) (w / 256 % 256) (w / 65536 % 256) (w / 16777216) ≡ w
word-of-bytes w = omega arith

module _ (f : ℕ → ℕ) where
  renamed-reads : (a b c d n : ℕ) (l : List ℕ) → words (suc n) (renamed_number f a b c d ++ l) ≡ mapped (λ ws. f (word a b c d) ∷ ws) (words n l)
  unfolding words renamed_number
  renamed-reads a b c d n l = ap (λ w. mapped (λ ws. w ∷ ws) (words n l)) (word-of-bytes (f (word a b c d)))

  words-renamed : (n : ℕ) (next : List ℕ → List ℕ) (l : List ℕ) → words n (over_operands (renamed_number f) n next l) ≡ turned (map f) next (words n l)
  words-renamed n next l = words-over (renamed_number f) f renamed-reads n next l

  -- a glyph number, then plain operands
  headed : List ℕ → List ℕ
  headed [] = []
  headed (g ∷ ws) = f g ∷ ws

  headed-turned : (next : List ℕ → List ℕ) (w : ℕ) (r : Read (List ℕ)) → mapped (λ ws. f w ∷ ws) (turned (λ ws. ws) next r) ≡ turned headed next (mapped (λ ws. w ∷ ws) r)
  unfolding mapped turned headed
  headed-turned next w unreadable = refl
  headed-turned next w (got ws l) = refl

  words-headed : (n : ℕ) (next : List ℕ → List ℕ) (l : List ℕ) → words (suc n) (over_operands (renamed_number f) 1 (over_operands as_it_is n next) l) ≡ turned headed next (words (suc n) l)
  unfolding words over_operands turned
  words-headed n next [] = refl
  words-headed n next (a ∷ []) = refl
  words-headed n next (a ∷ (b ∷ [])) = refl
  words-headed n next (a ∷ (b ∷ (c ∷ []))) = refl
  words-headed n next (a ∷ (b ∷ (c ∷ (d ∷ l)))) =
      renamed-reads a b c d n (over_operands as_it_is n next l)
      ∙ (ap (mapped (λ ws. f (word a b c d) ∷ ws)) (words-kept n next l) ∙ headed-turned next (word a b c d) (words n l))

  -- ---- a command
  module _ (next : List ℕ → List ℕ) where
    plain-turned : (k : List ℕ → Call) (r : Read (List ℕ)) → mapped (λ ws. worded (k ws) []) (turned (λ ws. ws) next r) ≡ turned (reworded f) next (mapped (λ ws. worded (k ws) []) r)
    unfolding mapped turned reworded
    plain-turned k unreadable = refl
    plain-turned k (got ws l) = refl

    glyph-turned : (k : List ℕ → Call) (r : Read (List ℕ)) → mapped (λ ws. worded (k (drop 1 ws)) (take 1 ws)) (turned headed next r) ≡ turned (reworded f) next (mapped (λ ws. worded (k (drop 1 ws)) (take 1 ws)) r)
    unfolding mapped turned reworded headed
    glyph-turned k unreadable = refl
    glyph-turned k (got [] l) = refl
    glyph-turned k (got (g ∷ ws) l) = refl

    listed-turned : (c : Call) (r : Read (List ℕ)) → mapped (λ gs. worded c gs) (turned (map f) next r) ≡ turned (reworded f) next (mapped (λ gs. worded c gs) r)
    unfolding mapped turned reworded
    listed-turned c unreadable = refl
    listed-turned c (got gs l) = refl

    listed-read : (k : List ℕ → Call) (r : Read (List ℕ)) → listed_read k (turned (λ ws. ws) (over_operands (renamed_number f) (second r) next) r) ≡ turned (reworded f) next (listed_read k r)
    unfolding listed_read turned
    listed-read k unreadable = refl
    listed-read k (got ws l) = rw words-renamed (listed-turned (k ws) (words (operand 1 ws) l))

    pub form-read : (x : Form) (l : List ℕ) → read_form x (renamed_form f x next l) ≡ turned (reworded f) next (read_form x l)
    unfolding read_form renamed_form turned listed_read
    form-read unknown l = refl
    form-read (operands n k) l = rw words-kept (plain-turned k (words n l))
    form-read (glyph_and n k) l = rw words-headed (glyph-turned k (words (suc n) l))
    form-read (listed k) l = ap (listed_read k) (words-kept 2 (over_operands (renamed_number f) (second (words 2 l)) next) l) ∙ listed-read k (words 2 l)

  -- ---- a string
  unfoldable pub reworded_read : Option (Worded ℕ) → Option (Worded ℕ)
  reworded_read none = none
  reworded_read (some w) = some (reworded f w)

  pub up_to-rename : (n : ℕ) (l : List ℕ) → read_up_to n (renamed_up_to f n l) ≡ map reworded_read (read_up_to n l)
  unfolding read_up_to renamed_up_to reworded_read continued turned
  up_to-rename zero l = refl
  up_to-rename (suc n) [] = refl
  up_to-rename (suc n) (byte ∷ l) = ap (continued n) (form-read (renamed_up_to f n) (get_or forms byte unknown) l) ∙ goes_on (up_to-rename n) (read_form (get_or forms byte unknown) l)
    where
      goes_on : ((r : List ℕ) → read_up_to n (renamed_up_to f n r) ≡ map reworded_read (read_up_to n r)) → (r : Read (Worded ℕ)) → continued n (turned (reworded f) (renamed_up_to f n) r) ≡ map reworded_read (continued n r)
      goes_on ih unreadable = refl
      goes_on ih (got w r) = ap {B = List (Option (Worded ℕ))} (λ k. some (reworded f w) ∷ k) (ih r)

-- ---- lengths: four bytes stand for four
module _ (h : ℕ → ℕ → ℕ → ℕ → List ℕ) (four : (a b c d : ℕ) (l : List ℕ) → length (h a b c d ++ l) ≡ suc (suc (suc (suc (length l))))) where
  over-length : (n : ℕ) (next : List ℕ → List ℕ) → ((l : List ℕ) → length (next l) ≡ length l) → (l : List ℕ) → length (over_operands h n next l) ≡ length l
  unfolding over_operands
  over-length zero next e l = e l
  over-length (suc n) next e [] = refl
  over-length (suc n) next e (a ∷ []) = refl
  over-length (suc n) next e (a ∷ (b ∷ [])) = refl
  over-length (suc n) next e (a ∷ (b ∷ (c ∷ []))) = refl
  over-length (suc n) next e (a ∷ (b ∷ (c ∷ (d ∷ l)))) = four a b c d (over_operands h n next l) ∙ ap (λ k. suc (suc (suc (suc k)))) (over-length n next e l)

kept-four : (a b c d : ℕ) (l : List ℕ) → length (as_it_is a b c d ++ l) ≡ suc (suc (suc (suc (length l))))
unfolding as_it_is
kept-four a b c d l = refl

module _ (f : ℕ → ℕ) where
  renamed-four : (a b c d : ℕ) (l : List ℕ) → length (renamed_number f a b c d ++ l) ≡ suc (suc (suc (suc (length l))))
  unfolding renamed_number
  renamed-four a b c d l = refl

  form-length : (x : Form) (next : List ℕ → List ℕ) → ((l : List ℕ) → length (next l) ≡ length l) → (l : List ℕ) → length (renamed_form f x next l) ≡ length l
  unfolding renamed_form
  form-length unknown next e l = refl
  form-length (operands n k) next e l = over-length as_it_is kept-four n next e l
  form-length (glyph_and n k) next e l = over-length (renamed_number f) renamed-four 1 _ (over-length as_it_is kept-four n next e) l
  form-length (listed k) next e l = over-length as_it_is kept-four 2 _ (over-length (renamed_number f) renamed-four _ next e) l

  pub up_to-length : (n : ℕ) (l : List ℕ) → length (renamed_up_to f n l) ≡ length l
  unfolding renamed_up_to
  up_to-length zero l = refl
  up_to-length (suc n) [] = refl
  up_to-length (suc n) (byte ∷ l) = ap suc (form-length (get_or forms byte unknown) (renamed_up_to f n) (up_to-length n) l)

  module _ (call : Worded ℕ → Account ℕ → Outcome ℕ) (renames : (w : Worded ℕ) (a : Account ℕ) → call (reworded f w) (renamed f a) ≡ renamed_outcome f (call w a)) where
    pub run_read-rename : (ws : List (Option (Worded ℕ))) (a : Account ℕ) → run_read call (map (reworded_read f) ws) (renamed f a) ≡ map (renamed_outcome f) (run_read call ws a)
    unfolding run_read reworded_read renamed_outcome
    run_read-rename [] a = refl
    run_read-rename (none ∷ ws) a = ap (λ (o : Outcome ℕ). o ∷ []) (refused-outcome f a Unreadable)
    run_read-rename (some w ∷ ws) a = rw (renames w a) (ap {B = List (Outcome ℕ)} (λ r. renamed_outcome f (call w a) ∷ r) (run_read-rename ws _))

    -- every string of bytes
    pub string-rename : (bytes : List ℕ) (a : Account ℕ) → run_read call (read_up_to (length (renamed_bytes f bytes)) (renamed_bytes f bytes)) (renamed f a) ≡ map (renamed_outcome f) (run_read call (read_up_to (length bytes) bytes) a)
    unfolding renamed_bytes
    string-rename bytes a = rw (up_to-length (length bytes) bytes, up_to-rename f (length bytes) bytes) (run_read-rename (read_up_to (length bytes) bytes) a)

  pub run_bytes-rename : f 0 ≡ 0 → (first second : ℕ) (bytes : List ℕ) (a : Account ℕ) → run_bytes first second (renamed_bytes f bytes) (renamed f a) ≡ map (renamed_outcome f) (run_bytes first second bytes a)
  unfolding run_bytes
  run_bytes-rename z first second bytes a = string-rename (step 0 first second) (λ w a. rw z at (step-rename f 0 first second w a)) bytes a

-- ---- where f takes words to words, a renamed string of bytes is one of bytes
abbrev pub AreBytes : List ℕ → Type 0
AreBytes [] = Unit {0}
AreBytes (b ∷ l) = (b < 256) × AreBytes l

module _ (h : ℕ → ℕ → ℕ → ℕ → List ℕ) (bytes : (a b c d : ℕ) (l : List ℕ) → a < 256 → b < 256 → c < 256 → d < 256 → AreBytes l → AreBytes (h a b c d ++ l)) where
  over-bytes : (n : ℕ) (next : List ℕ → List ℕ) → ((l : List ℕ) → AreBytes l → AreBytes (next l)) → (l : List ℕ) → AreBytes l → AreBytes (over_operands h n next l)
  unfolding over_operands
  over-bytes zero next e l u = e l u
  over-bytes (suc n) next e [] u = u
  over-bytes (suc n) next e (a ∷ []) u = u
  over-bytes (suc n) next e (a ∷ (b ∷ [])) u = u
  over-bytes (suc n) next e (a ∷ (b ∷ (c ∷ []))) u = u
  over-bytes (suc n) next e (a ∷ (b ∷ (c ∷ (d ∷ l)))) u =
      bytes a b c d (over_operands h n next l) u.0 u.1.0 u.1.1.0 u.1.1.1.0 (over-bytes n next e l u.1.1.1.1)

kept-bytes : (a b c d : ℕ) (l : List ℕ) → a < 256 → b < 256 → c < 256 → d < 256 → AreBytes l → AreBytes (as_it_is a b c d ++ l)
unfolding as_it_is
kept-bytes a b c d l p q r s u = (p, (q, (r, (s, u))))

module _ (f : ℕ → ℕ) (to-words : (w : ℕ) → w < 4294967296 → f w < 4294967296) where
  number-bytes : (a b c d : ℕ) (l : List ℕ) → a < 256 → b < 256 → c < 256 → d < 256 → AreBytes l → AreBytes (renamed_number f a b c d ++ l)
  unfolding renamed_number
  number-bytes a b c d l p q r s u =
      let w : ℕ = f (word a b c d) in
      let small : w < 4294967296 = to-words (word a b c d) (omega arith) in
      (omega arith, (omega arith, (omega arith, (omega (arith, small), u))))

  form-bytes : (x : Form) (next : List ℕ → List ℕ) → ((l : List ℕ) → AreBytes l → AreBytes (next l)) → (l : List ℕ) → AreBytes l → AreBytes (renamed_form f x next l)
  unfolding renamed_form
  form-bytes unknown next e l u = u
  form-bytes (operands n k) next e l u = over-bytes as_it_is kept-bytes n next e l u
  form-bytes (glyph_and n k) next e l u = over-bytes (renamed_number f) number-bytes 1 (over_operands as_it_is n next) (over-bytes as_it_is kept-bytes n next e) l u
  form-bytes (listed k) next e l u = over-bytes as_it_is kept-bytes 2 (over_operands (renamed_number f) (second (words 2 l)) next) (over-bytes (renamed_number f) number-bytes (second (words 2 l)) next e) l u

  up_to-bytes : (n : ℕ) (l : List ℕ) → AreBytes l → AreBytes (renamed_up_to f n l)
  unfolding renamed_up_to
  up_to-bytes zero l u = u
  up_to-bytes (suc n) [] u = u
  up_to-bytes (suc n) (byte ∷ l) u = (u.0, form-bytes (get_or forms byte unknown) (renamed_up_to f n) (up_to-bytes n) l u.1)

  pub renamed-are-bytes : (l : List ℕ) → AreBytes l → AreBytes (renamed_bytes f l)
  unfolding renamed_bytes
  renamed-are-bytes l u = up_to-bytes (length l) l u

-- What desk prints is the same for two wordings: the layout record has no glyph number, and the answers go by the commands alone.
use mathlib.Core.{Path.◌≡◌, Path.refl, Path.sym, Path.ap, Path.ap₂, Path.◌∙◌, Bool.true, List.List, List.[], List.◌∷◌, List.◌++◌, List.map, List.flat_map}
use Prim.Native.Nat.{ℕ, zero, suc}
use native.Mathlib.Omega.{arith}
use borrow.Author.Tests.{ne_eqb}
use lib.{ListN.length, ListN.get_or}
use Rattle.records.specs.{Answers.ok, Counters.words_for, Glyphs.Glyph, Glyphs.rename, View.seen, View.stored}
use Rattle.records.specs.declared.GlyphInfo.{GlyphInfo}
use Rattle.lists.specs.{Account.Account, Account.fresh_account, Account.renamed, Account.Outcome, Contract.items}
use Rattle.lists.specs.{declared.Item.Item, declared.Item.TheVariants.OfDone, declared.Item.TheVariants.OfPassed, declared.Item.TheVariants.OfRest}
use Rattle.lists.proofs.Renaming.{done-rename, passed-rename, rest-rename, state-rename, len-rename, idx-rename, out_length-rename, positions-rename, fresh-renamed, renamed-twice}
use Rattle.commands.specs.{Calls.Worded, Claims.forget}
use Rattle.commands.specs.Calls.{Read, unreadable, got, unknown, forms, read_form}
use Rattle.commands.specs.Claims.{renamed_outcome, reworded, renamed_up_to, renamed_bytes}
use Rattle.commands.specs.Runs.{last_of}
use Rattle.commands.specs.Totals.{is_glyph_kind}
use Rattle.commands.specs.Lines.{decimal, ending, answer_line, end_line, glyph_line, item_line, lines_above, last_line, report_lines}
use Rattle.commands.specs.Texts.{from_space, without_glyph, layout_record, command_bytes, answer_lines, answers, exam_run, last_account, desk_text}
use Rattle.commands.proofs.{Bytes.turned, Bytes.form-read, Bytes.up_to-length, Bytes.run_bytes-rename, Returned.last_of-map, FieldLaws.Plain, FieldLaws.plain-decimal, LineLaws.glyph-line, TotalLaws.same-last-line}

-- ---- a line
from-space : (w l : List ℕ) → Plain w → from_space (w ++ (32 ∷ l)) ≡ 32 ∷ l
unfolding from_space
from-space [] l p = refl
from-space (c ∷ w) l p = rw (ne_eqb c 32 (λ e. omega (arith, p.0, e))) (from-space w l p.1)

-- a decimal has no space, so that of the line of a glyph nothing of its number is left
without-number : (kind : ℕ) → is_glyph_kind kind ≡ true → (g : Glyph ℕ)
    → without_glyph (glyph_line kind g) ≡ kind ∷ ending (map decimal (g.info.cluster ∷ g.info.mask ∷ g.info.var0 ∷ g.info.var1 ∷ g.info.origin ∷ []))
unfolding without_glyph glyph_line ending
without-number kind h g = rw h (ap (λ (l : List ℕ). kind ∷ l) (from-space (decimal g.glyph) _ (plain-decimal g.glyph)))

module _ (f : ℕ → ℕ) where
  line-rename : (kind : ℕ) → is_glyph_kind kind ≡ true → (g : Glyph ℕ) → without_glyph (glyph_line kind (seen (stored (rename f g)))) ≡ without_glyph (glyph_line kind (seen (stored g)))
  unfolding rename
  line-rename kind h g =
      ap without_glyph (glyph-line kind (rename f g))
      ∙ (without-number kind h (rename f g)
      ∙ (sym (without-number kind h g) ∙ sym (ap without_glyph (glyph-line kind g))))

  -- ---- the layout record
  -- the lines of a list, before other lines
  list-rename : (item : GlyphInfo → Item) → ((g : Glyph ℕ) → without_glyph (item_line (item (stored (rename f g)))) ≡ without_glyph (item_line (item (stored g)))) → (l : List (Glyph ℕ)) (m n : List Item) (z : List (List ℕ))
      → flat_map without_glyph (map item_line m ++ z) ≡ flat_map without_glyph (map item_line n ++ z)
      → flat_map without_glyph (map item_line (map (λ g. item (stored g)) (map (rename f) l) ++ m) ++ z) ≡ flat_map without_glyph (map item_line (map (λ g. item (stored g)) l ++ n) ++ z)
  unfolding flat_map
  list-rename item e [] m n z same = same
  list-rename item e (g ∷ l) m n z same = ap₂ (λ (k r : List ℕ). k ++ r) (e g) (list-rename item e l m n z same)

  items-rename : (a : Account ℕ) (z : List (List ℕ)) → flat_map without_glyph (map item_line (items (renamed f a)) ++ z) ≡ flat_map without_glyph (map item_line (items a) ++ z)
  unfolding items item_line is_glyph_kind
  items-rename a z = rw (positions-rename, done-rename, passed-rename, rest-rename)
      (list-rename OfDone (line-rename 111 refl) a.done _ _ z
      (list-rename OfPassed (line-rename 112 refl) a.passed _ _ z
      (list-rename OfRest (line-rename 105 refl) a.rest _ _ z refl)))

  end-rename : (a : Account ℕ) → end_line (renamed f a) ≡ end_line a
  unfolding end_line
  end-rename a = simp (len-rename, idx-rename, out_length-rename, state-rename)

  -- whatever the numbers
  record-forgets : (a : Account ℕ) → layout_record (renamed f a) ≡ layout_record a
  unfolding layout_record report_lines lines_above flat_map
  record-forgets a = rw (end-rename a, same-last-line forget (renamed f a) a (renamed-twice f forget a)) (ap (λ (l : List ℕ). without_glyph (end_line a) ++ l) (items-rename a (last_line a ∷ [])))

-- accounts that are the same once glyph numbers are forgotten
pub same-record : (a b : Account ℕ) → renamed forget a ≡ renamed forget b → layout_record a ≡ layout_record b
same-record a b e = blotted a ∙ (ap (λ (x : Account (Unit {0})). layout_record (renamed (λ n. 0) x)) e ∙ sym (blotted b))
  where
    blotted : (a : Account ℕ) → layout_record a ≡ layout_record (renamed (λ n. 0) (renamed forget a))
    blotted a = rw (renamed-twice forget {K = ℕ} (λ n. 0) a) (sym (record-forgets (λ n. 0) a))

-- ---- the command bytes
module _ (f : ℕ → ℕ) where
  followed : ℕ → Read (Worded ℕ) → List ℕ
  followed n r = elim r [ unreadable ↦ [] | got w l ↦ command_bytes n l ]

  up_to-commands : (n : ℕ) (l : List ℕ) → command_bytes n (renamed_up_to f n l) ≡ command_bytes n l
  unfolding command_bytes renamed_up_to followed turned
  up_to-commands zero l = refl
  up_to-commands (suc n) [] = refl
  up_to-commands (suc n) (byte ∷ l) = ap (λ (r : Read (Worded ℕ)). byte ∷ followed n r) (form-read f (renamed_up_to f n) (get_or forms byte unknown) l) ∙ goes_on (up_to-commands n) (read_form (get_or forms byte unknown) l)
    where
      goes_on : ((r : List ℕ) → command_bytes n (renamed_up_to f n r) ≡ command_bytes n r) → (r : Read (Worded ℕ)) → ◌≡◌ {A = List ℕ} (byte ∷ followed n (turned (reworded f) (renamed_up_to f n) r)) (byte ∷ followed n r)
      goes_on ih unreadable = refl
      goes_on ih (got w r) = ap (λ (k : List ℕ). byte ∷ k) (ih r)

  -- a string renamed has the same
  commands-rename : (bytes : List ℕ) → command_bytes (length (renamed_bytes f bytes)) (renamed_bytes f bytes) ≡ command_bytes (length bytes) bytes
  unfolding renamed_bytes
  commands-rename bytes = rw (up_to-length f (length bytes) bytes) (up_to-commands (length bytes) bytes)

-- ---- the answers
module _ (f : ℕ → ℕ) where
  lines-rename : (commands : List ℕ) (os : List (Outcome ℕ)) → answer_lines commands (map (renamed_outcome f) os) ≡ answer_lines commands os
  unfolding answer_lines renamed_outcome
  lines-rename [] os = refl
  lines-rename (byte ∷ commands) [] = refl
  lines-rename (byte ∷ commands) (o ∷ os) = ap {B = List (List ℕ)} (λ r. answer_line byte o.answer ∷ r) (lines-rename commands os)

  -- by the commands, not by the numbers of either string
  answers-rename : (bytes : List ℕ) (os : List (Outcome ℕ)) → answers (renamed_bytes f bytes) (map (renamed_outcome f) os) ≡ answers bytes os
  unfolding answers
  answers-rename bytes os = rw (commands-rename f bytes, lines-rename (command_bytes (length bytes) bytes) os) refl

-- ---- the program
module _ (f : ℕ → ℕ) where
  account-rename : (os : List (Outcome ℕ)) → last_account (map (renamed_outcome f) os) ≡ renamed f (last_account os)
  unfolding last_account renamed_outcome
  account-rename os =
      ap (λ (a : Account ℕ). (last_of (record { answer = ok; after = a }) (map (renamed_outcome f) os)).after) (sym (fresh-renamed f 0 0))
      ∙ ap (λ (o : Outcome ℕ). o.after) (last_of-map f (record { answer = ok; after = fresh_account 0 0 }) os)

  run-renamed : f 0 ≡ 0 → (n : ℕ) (bytes : List ℕ) → exam_run n (renamed_bytes f bytes) ≡ map (renamed_outcome f) (exam_run n bytes)
  unfolding exam_run
  run-renamed keeps-zero n bytes = rw (fresh-renamed f 0 0) at (run_bytes-rename f keeps-zero (words_for n) (words_for n) bytes (fresh_account 0 0))

  -- of a string renamed, by any f that sends 0 to 0
  pub desk-renamed : f 0 ≡ 0 → (n : ℕ) (bytes : List ℕ) → desk_text n (renamed_bytes f bytes) ≡ desk_text n bytes
  unfolding desk_text
  desk-renamed keeps-zero n bytes =
      let os : List (Outcome ℕ) = exam_run n bytes in
      ap (λ (ps : List (Outcome ℕ)). answers (renamed_bytes f bytes) ps ++ layout_record (last_account ps)) (run-renamed keeps-zero n bytes)
      ∙ ap₂ (λ (k r : List ℕ). k ++ r) (answers-rename f bytes os) (ap layout_record (account-rename os) ∙ record-forgets f (last_account os))

-- two strings that differ in glyph numbers only
pub desk-alike : (n : ℕ) (bytes others : List ℕ) → renamed_bytes (λ w. 0) bytes ≡ renamed_bytes (λ w. 0) others → desk_text n bytes ≡ desk_text n others
desk-alike n bytes others e = sym (desk-renamed (λ w. 0) refl n bytes) ∙ (ap (desk_text n) e ∙ desk-renamed (λ w. 0) refl n others)

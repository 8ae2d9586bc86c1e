-- Writing: calls 0A to 0E.
use Rattle.std.specs.Prelude.{◌+◌, ◌∷◌, ◌++◌}
use Rattle.records.specs.Library.{ℕ, max, cond, not, eqb, ltb, List, [], reverse, length, take, get_or}
use Rattle.records.specs.{WrongPhase, OutOfRange, BadOperand, Glyphs.Glyph, Glyphs.Info, Glyphs.with_origin, Glyphs.blank, Ranges.infos, Ranges.copies}
use Rattle.lists.specs.{Account.Account, Account.has_output, Account.out_length, Account.sized, Account.failing, Account.Result, Account.accepted}
use Rattle.lists.specs.{Account.refuse◌when◌else◌, Account.needing, Cursor.dropping}
use Rattle.edits.specs.Merging.{merge, clusters_merge}

module _ {G : Type 0} where
  unfoldable pub written : List (Glyph G) → Account G → Account G  -- these glyphs behind *done*
  written l a = record { done = a.done ++ l; passed = a.passed; rest = a.rest; state = a.state }

  -- "Copies are of its first", and of "the last done glyph" where *rest* is empty. "Copies and replacements take the origin of the glyph they copy."
  -- (document 02, N8): it is one of these words
  unfoldable pub model : Account G → Info
  model a = get_or (infos a.rest ++ reverse (infos a.done)) 0 (blank 0)

  -- "size `out_len` + glyphs written; if it gives up, nothing else happens": b is the account where n glyphs fit
  unfoldable pub writing : (capacity n : ℕ) (b a : Account G) → Result G
  writing capacity n b a = needing capacity (out_length a + n) a (accepted b) (accepted (failing a))

  unfoldable pub copy_glyph : (capacity : ℕ) → Account G → Result G  -- 0A
  copy_glyph capacity a =
      refuse WrongPhase when not (has_output a) else
      refuse OutOfRange when ltb (length a.rest) 1 else
      writing capacity 1 (written (take 1 a.rest) (sized (out_length a + 1) a)) a

  -- "`output_glyph` with *rest* empty copies the last done glyph; with both empty it only makes its size."
  unfoldable pub output_glyph : (capacity : ℕ) → G → Account G → Result G  -- 0B
  output_glyph capacity g a =
      let b = sized (out_length a + 1) a in
      refuse WrongPhase when not (has_output a) else
      writing capacity 1 (cond (eqb (length a.rest + out_length a) 0) b (written (copies (model a) (g ∷ [])) b)) a

  -- "`output_info` and filled glyphs have 0": whatever origin is given (document 02, N8)
  unfoldable pub output_info : (capacity : ℕ) → G → Info → Account G → Result G  -- 0C
  output_info capacity g i a =
      refuse WrongPhase when not (has_output a) else
      writing capacity 1 (written (copies (with_origin 0 i) (g ∷ [])) (sized (out_length a + 1) a)) a

  -- "`replace_glyphs` makes its size, merges its inputs, then writes copies of the first (also for 0 inputs)."; "only 0D and 0E drop what they replace";
  -- "All but 0B and 0C need *rest* nonempty."
  unfoldable pub replace_glyphs : (capacity num-in num-out : ℕ) → List G → Account G → Result G  -- 0E; 0D is that of one by one
  replace_glyphs capacity num-in num-out gs a =
      let b = merge (clusters_merge a.state.level) 0 num-in (sized (out_length a + num-out) a) in
      refuse WrongPhase when not (has_output a) else
      refuse OutOfRange when ltb (length a.rest) (max num-in 1) else
      refuse BadOperand when ltb (length gs) num-out else
      writing capacity num-out (dropping num-in (written (copies (model b) (take num-out gs)) b)) a

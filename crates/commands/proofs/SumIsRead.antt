-- What a reader counts from the lines of an account is what its three lists hold, counted apart.
use mathlib.Core.{Path.◌≡◌, Path.refl, Path.sym, Path.ap, Path.◌∙◌, List.List, List.[], List.◌∷◌, List.◌++◌, List.map}
use Prim.Native.Nat.{ℕ}
use native.Mathlib.Omega.{arith}
use borrow.Author.Tests.{eq-eqb}
use Rattle.std.specs.Prelude.{Option, None, Some}
use lib.ListN.{length}
use Rattle.records.specs.{Position, Glyphs.Glyph}
use Rattle.lists.specs.Account.{Account, positions}
use Rattle.commands.specs.Lines.{lines_above}
use Rattle.commands.specs.{Totals.no_totals, Totals.plus, Totals.starts, Totals.counted, Totals.counted_below, Totals.read_totals, inner.Counts.groups_below, inner.Counts.groups_of, inner.Counts.marked_of, inner.Counts.list_totals, inner.Counts.totals, inner.Counts.Printable, inner.Counts.AllPrintable}
use Rattle.commands.specs.declared.Entry.{Entry}
use Rattle.commands.proofs.FieldLaws.{number_decimal}
use Rattle.commands.proofs.TotalLaws.{taken, entries, lines-read, same-totals, none-plus, plus_none, Apart, other-kind}

-- what is read of the line above what comes next
last_entry : Option Entry → List (Option Entry) → Option Entry
last_entry above [] = above
last_entry above (e ∷ es) = last_entry e es

-- ---- the lines of one list
module _ (kind : ℕ) where
  entry_of : Glyph ℕ → Option Entry
  entry_of g = Some (record { kind = kind; cluster = g.info.cluster; mask = g.info.mask })

  -- what is read is what was printed
  taken-words : (l : List (Glyph ℕ)) → Printable l → map (λ g. Some (taken kind g.info)) l ≡ map entry_of l
  unfolding taken entry_of
  taken-words [] p = refl
  taken-words (g ∷ l) p = rw (number_decimal g.info.cluster p.0, number_decimal g.info.mask p.1) (ap (λ (r : List (Option Entry)). entry_of g ∷ r) (taken-words l p.2))

  -- below it stands an entry of another list, where that is of another kind
  last-kind : (other : ℕ) → (kind ≡ other → ⊥) → (l : List (Glyph ℕ)) (above : Option Entry) → Apart other above → Apart other (last_entry above (map entry_of l))
  unfolding last_entry entry_of
  last-kind other k [] above h = h
  last-kind other k (g ∷ l) above h = last-kind other k l (entry_of g) k

  module _ (es : List (Option Entry)) where
    -- below a line of the list itself
    count-on : (l : List (Glyph ℕ)) (above : Glyph ℕ)
        → counted_below (entry_of above) (map entry_of l ++ es) ≡ plus (record { lines = length l; groups = groups_below above.info.cluster (map (λ g. g.info.cluster) l); marked = marked_of (map (λ g. g.info.mask) l) }) (counted_below (last_entry (entry_of above) (map entry_of l)) es)
    unfolding counted_below counted starts groups_below marked_of last_entry entry_of plus
    count-on [] above = sym (none-plus (counted_below (entry_of above) es))
    count-on (g ∷ l) above = rw (eq-eqb kind kind refl, count-on l g) (same-totals (omega arith) (omega arith) (omega arith))

    -- below any other
    count-list : (l : List (Glyph ℕ)) (above : Option Entry) → Apart kind above → counted_below above (map entry_of l ++ es) ≡ plus (list_totals l) (counted_below (last_entry above (map entry_of l)) es)
    unfolding counted_below counted groups_of marked_of list_totals last_entry entry_of plus
    count-list [] above h = sym (none-plus (counted_below above es))
    count-list (g ∷ l) above h = rw (← other-kind above (record { kind = kind; cluster = g.info.cluster; mask = g.info.mask }) h, count-on l g) (same-totals (omega arith) (omega arith) (omega arith))

-- positions
count-positions : (ps : List Position) (above : Option Entry) → counted_below above (map (λ q. None) ps) ≡ no_totals
unfolding counted_below counted
count-positions [] above = refl
count-positions (q ∷ ps) above = rw (count-positions ps None) (plus_none no_totals)

-- ---- "Each number equals what a reader counts from the lines above it."
pub sum-is-read : (a : Account ℕ) → AllPrintable a → totals a ≡ read_totals (lines_above a)
unfolding totals entries
sum-is-read a w = sym (lines-read a ∙ (rw (taken-words 111 a.done w.done, taken-words 112 a.passed w.passed, taken-words 105 a.rest w.rest) done_first))
  where
    places : List (Option Entry)
    places = map (λ q. None) (positions a)

    done_first : counted_below None (map (entry_of 111) a.done ++ (map (entry_of 112) a.passed ++ (map (entry_of 105) a.rest ++ places))) ≡ plus (list_totals a.done) (plus (list_totals a.passed) (list_totals a.rest))
    done_first =
        let d : Option Entry = last_entry None (map (entry_of 111) a.done) in
        let p : Option Entry = last_entry d (map (entry_of 112) a.passed) in
        let r : Option Entry = last_entry p (map (entry_of 105) a.rest) in
        let not-passed : Apart 112 d = last-kind 111 112 (λ e. omega arith) a.done None tt in
        let not-rest : Apart 105 p = last-kind 112 105 (λ e. omega arith) a.passed d (last-kind 111 105 (λ e. omega arith) a.done None tt) in
        count-list 111 _ a.done None tt
        ∙ ap (plus (list_totals a.done)) (count-list 112 _ a.passed d not-passed
        ∙ ap (plus (list_totals a.passed)) (count-list 105 places a.rest p not-rest
        ∙ (ap (plus (list_totals a.rest)) (count-positions (positions a) r) ∙ plus_none (list_totals a.rest))))

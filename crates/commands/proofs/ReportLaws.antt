-- The lines printed at the end of a run: each by its place, and all in document 01's order.
use mathlib.Core.{Path.◌≡◌, Path.refl, Path.sym, Path.ap, Path.ap₂, Path.◌∙◌, Bool.Bool, Bool.true, Bool.false, Bool.cond, List.List, List.[], List.◌∷◌, List.◌++◌, List.map, List.flat_map, List.append-nil, List.append_assoc}
use Prim.Native.Nat.{ℕ, zero, suc, ◌+◌, ◌-◌, ◌<◌, ◌≤◌, ◌^◌}
use native.Mathlib.Omega.{arith}
use Rattle.std.specs.{Prelude.slice_get, Option.option_map_or}
use lib.{ListN.length, ListN.length-map, ListN.length-append, Seq.get_or_at}
use Rattle.records.specs.{View.glyphs, View.stored}
use Rattle.lists.specs.{Account.Account, Account.positions, Account.spoiled_phase, Contract.account, Contract.sound, Contract.items}
use Rattle.lists.specs.{declared.Buffer.Buffer, declared.Item.Item, declared.Item.TheVariants.OfDone, declared.Item.TheVariants.OfPassed, declared.Item.TheVariants.OfRest, declared.Item.TheVariants.OfPosition}
use Rattle.lists.proofs.ItemLaws.{items-few, items-most, items-spoiled}
use Rattle.commands.specs.{Lines.end_line, inner.Writes.end_line_of, Lines.glyph_line, Lines.position_line, Lines.item_line, Lines.sum_line, Lines.lines_above, Lines.last_line, Lines.report_lines, Lines.report, Lines.reported, Lines.line_of, Texts.Prints}
use Rattle.commands.specs.Totals.{no_totals, counted_below, read_totals}
use Rattle.commands.specs.declared.Totals.{Totals}
use Rattle.commands.proofs.LineLaws.{end-of, glyph-line}
use Rattle.commands.proofs.TotalLaws.{below_end}

-- ---- one line
pub prints-nothing : {l : List ℕ} {at : ℕ} → Prints [] l at at l
prints-nothing = record { room = λ k. record { list = refl; next = omega arith }; none = λ k. (refl, refl); short = omega arith }

some-place : (k : ℕ) → (k ≡ 0 → ⊥) → k ≡ suc (k - 1)
some-place k h = omega (arith, h)

-- a thing's line, behind them all one line more, and behind that none
item-at : (l : List Item) (x : List ℕ) (j : ℕ) → (j ≡ length l → ⊥) → line_of j (map item_line l ++ (x ∷ [])) ≡ option_map_or item_line (slice_get l j) []
item-at [] x zero n = absurd (n refl)
item-at [] x (suc j) n = refl
item-at (y ∷ l) x zero n = refl
item-at (y ∷ l) x (suc j) n = item-at l x j (λ e. n (ap suc e))

module _ (b : Buffer) (f s : List ℕ) where
  module _ (h : sound b f s ≡ true) where
    module _ {n : ℕ} (e : n ≡ cond (sound b f s) (length (items (account b f s))) 0) where
      many : n ≡ length (items (account b f s))
      many = rw h at e

      pub count_fits : 2 + n < 2 ^ 64
      count_fits = omega (arith, many, items-most b f s h)

      pub lines-counted : 2 + n ≡ length (reported b f s)
      unfolding reported report_lines lines_above
      lines-counted = rw (many, h, length-append) (omega (arith, length-map (items (account b f s)) item_line))

    -- the line with a number: the line `end`, the line `sum`, that of a thing
    module _ (k : ℕ) where
      pub line_end : k ≡ 0 → line_of k (reported b f s) ≡ end_line_of b
      unfolding reported report_lines lines_above
      line_end e = rw (e, h) (sym (end-of b f s h))

      pub line_sum : (k ≡ 0 → ⊥) → k - 1 ≡ length (items (account b f s)) → line_of k (reported b f s) ≡ sum_line (read_totals (map item_line (items (account b f s))))
      unfolding reported report_lines lines_above last_line
      line_sum some last =
          let shows = items (account b f s) in
          rw (h, some-place k some) (get_or_at (map item_line shows) (last_line (account b f s)) [] [] (k - 1) (length-map shows item_line ∙ sym last) ∙ ap sum_line (below_end (account b f s) (map item_line shows)))

      pub line_item : (k ≡ 0 → ⊥) → (k - 1 ≡ length (items (account b f s)) → ⊥) → line_of k (reported b f s) ≡ option_map_or item_line (slice_get (items (account b f s)) (k - 1)) []
      unfolding reported report_lines lines_above
      line_item some inner = rw h (ap (λ (i : ℕ). line_of i (report_lines (account b f s))) (some-place k some) ∙ item-at (items (account b f s)) (last_line (account b f s)) (k - 1) inner)

    -- "A spoiled buffer prints three zeros."
    pub spoiled-lines : spoiled_phase b.phase ≡ true → reported b f s ≡ end_line_of b ∷ sum_line no_totals ∷ []
    unfolding reported report_lines lines_above last_line read_totals counted_below
    spoiled-lines p = rw (h, end-of b f s h, items-spoiled b f s h p) (ap (λ (t : Totals). end_line (account b f s) ∷ sum_line t ∷ []) (below_end (account b f s) []))

  module _ (h : sound b f s ≡ false) where
    pub line_none : (k : ℕ) → line_of k (reported b f s) ≡ []
    unfolding reported
    line_none k = rw h refl

    pub no_lines : 0 ≡ length (reported b f s)
    unfolding reported
    no_lines = rw h

pub ruleset reporting = (count_fits, lines-counted, no_lines)

pub ruleset lines_of_reports = (prints-nothing, line_end, line_sum, line_item, line_none)

-- how many there are at most
module _ (b : Buffer) (f s : List ℕ) where
  lines-sound : sound b f s ≡ true → length (reported b f s) ≡ 2 + length (items (account b f s))
  lines-sound h = sym (lines-counted b f s h {n = length (items (account b f s))} (rw h))

  pub lines-most : length (reported b f s) ≤ 2097154
  lines-most = by (sound b f s) refl
    where
      by : (t : Bool) → sound b f s ≡ t → length (reported b f s) ≤ 2097154
      by true h = omega (arith, lines-sound h, items-most b f s h)
      by false h = omega (arith, no_lines b f s h)

  pub lines-few : sound b f s ≡ true → length (reported b f s) ≤ 2 + (length (glyphs f) + length (glyphs f))
  lines-few h = omega (arith, lines-sound h, items-few b f s h)

-- ---- all of them: "`end` ..; then done `o`, passed `p`, input `i` ..; positions `x`", and the line `sum`
module _ (end : List ℕ) where
  -- the lines of things, and behind them one line more
  lines : List Item → List ℕ
  lines l = flat_map (λ x. x) (map item_line l ++ (end ∷ []))

  lines_of : {A : Type 0} (kind : A → Item) (line : A → List ℕ) → ((x : A) → item_line (kind x) ≡ line x) → (l : List A) (m : List Item) → lines (map kind l ++ m) ≡ flat_map line l ++ lines m
  unfolding lines flat_map
  lines_of kind line e [] m = refl
  lines_of kind line e (x ∷ l) m = ap₂ (λ (a b : List ℕ). a ++ b) (e x) (lines_of kind line e l m) ∙ sym (append_assoc (line x) (flat_map line l) (lines m))

pub report-is : (a : Account ℕ) → report a ≡ end_line a ++ (flat_map (glyph_line 111) a.done ++ (flat_map (glyph_line 112) a.passed ++ (flat_map (glyph_line 105) a.rest ++ (flat_map position_line (positions a) ++ last_line a))))
unfolding report report_lines lines_above flat_map items item_line lines
report-is a =
    let end = last_line a in
    ap (λ (l : List ℕ). end_line a ++ l)
    (lines_of end (λ g. OfDone (stored g)) (glyph_line 111) (glyph-line 111) a.done _
    ∙ ap (λ (l : List ℕ). flat_map (glyph_line 111) a.done ++ l)
    (lines_of end (λ g. OfPassed (stored g)) (glyph_line 112) (glyph-line 112) a.passed _
    ∙ ap (λ (l : List ℕ). flat_map (glyph_line 112) a.passed ++ l)
    (lines_of end (λ g. OfRest (stored g)) (glyph_line 105) (glyph-line 105) a.rest _
    ∙ ap (λ (l : List ℕ). flat_map (glyph_line 105) a.rest ++ l)
    (ap (lines end) (sym (append-nil (map OfPosition (positions a))))
    ∙ (lines_of end OfPosition position_line (λ q. refl) (positions a) [] ∙ ap (λ (l : List ℕ). flat_map position_line (positions a) ++ l) (append-nil end))))))

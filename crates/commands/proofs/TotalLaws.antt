-- The line `sum`: what a reader takes from each line, what the lines come to, and that no glyph number counts.
use mathlib.Core.{Path.◌≡◌, Path.refl, Path.sym, Path.ap, Path.ap₂, Path.◌∙◌, Bool.Bool, Bool.true, Bool.false, Bool.cond, Bool.◌&&◌, List.List, List.[], List.◌∷◌, List.◌++◌, List.map, List.append-nil}
use Prim.Native.Nat.{ℕ, ◌+◌, ◌*◌, ◌%◌, ◌≤◌, ◌<◌, ◌^◌}
use native.Mathlib.Omega.{arith}
use native.Mathlib.Numerals.{add-one}
use borrow.Author.Tests.{ne_eqb}
use Rattle.std.specs.Prelude.{Option, None, Some, MatchOption, slice_get}
use Rattle.std.proofs.lemmas.Option.{slice_get-get_or}
use lib.{Dec.eqb, ListN.length, ListN.get_or, ListN.drop, ListN.drop_of_length-le, Seq.drop-cons}
use Rattle.records.specs.{Position, Glyphs.Glyph, Glyphs.Info, Glyphs.zero_position, View.seen, View.stored}
use Rattle.records.specs.declared.GlyphInfo.{GlyphInfo}
use Rattle.records.proofs.{View.seen-mask, View.seen-cluster, Renaming.words-rename}
use Rattle.lists.specs.{Account.Account, Account.positions, Account.renamed, Contract.account, Contract.sound, Contract.items}
use Rattle.lists.specs.{declared.Buffer.Buffer, declared.Item.Item, declared.Item.TheVariants.OfDone, declared.Item.TheVariants.OfPassed, declared.Item.TheVariants.OfRest, declared.Item.TheVariants.OfPosition}
use Rattle.lists.proofs.{ItemLaws.items-most, Renaming.done-rename, Renaming.passed-rename, Renaming.rest-rename, Renaming.positions-rename}
use Rattle.commands.specs.Totals.{number_of}
use Rattle.commands.specs.Lines.{decimal, glyph_line, position_line, counters_line, end_line, item_line, sum_line, lines_above, last_line}
use Rattle.commands.specs.Totals.{is_glyph_kind, read_line, no_totals, plus, starts, counted, counted_below, read_totals}
use Rattle.commands.specs.{declared.Entry.Entry, declared.Totals.Totals}
use Rattle.commands.proofs.LineLaws.{glyph-line}
use Rattle.commands.proofs.FieldLaws.{number_decimal, plain-decimal, fields-line}

-- ---- lines read
-- what is read of a glyph: nothing of its number
unfoldable pub taken : ℕ → Info → Entry
taken kind i = record { kind = kind; cluster = number_of (decimal i.cluster); mask = number_of (decimal i.mask) }

-- a glyph line, whatever its kind
read-glyph : (kind : ℕ) → is_glyph_kind kind ≡ true → 32 < kind → (g : Glyph ℕ) → read_line (glyph_line kind g) ≡ Some (taken kind g.info)
unfolding read_line glyph_line taken
read-glyph kind h k g = rw (h, fields-line (kind ∷ []) (map decimal (g.glyph ∷ g.info.cluster ∷ g.info.mask ∷ g.info.var0 ∷ g.info.var1 ∷ g.info.origin ∷ [])) (k, tt) (plain-decimal _, (plain-decimal _, (plain-decimal _, (plain-decimal _, (plain-decimal _, (plain-decimal _, tt))))))) refl

read-position : (q : Position) → read_line (position_line q) ≡ None
unfolding read_line position_line is_glyph_kind
read-position q = refl

read-end : (a : Account ℕ) → read_line (end_line a) ≡ None
unfolding read_line end_line counters_line is_glyph_kind
read-end a = refl

glyph-read : (kind : ℕ) → is_glyph_kind kind ≡ true → 32 < kind → (g : GlyphInfo) → read_line (glyph_line kind (seen g)) ≡ Some (record { kind = kind; cluster = number_of (decimal g.cluster); mask = number_of (decimal g.mask) })
unfolding taken
glyph-read kind h k g = rw (read-glyph kind h k (seen g), seen-cluster g, seen-mask g) refl

-- what the code takes from each thing that a buffer shows is what is read of its line
module _ {item : Item} where
  module _ {g : GlyphInfo} {e : Entry} where
    pub entry_done : item ≡ OfDone g → e ≡ record { kind = 111; cluster = number_of (decimal g.cluster); mask = number_of (decimal g.mask) } → Some e ≡ read_line (item_line item)
    unfolding item_line is_glyph_kind
    entry_done i is = ap Some is ∙ rw i (sym (glyph-read 111 refl (omega arith) g))

    pub entry-passed : item ≡ OfPassed g → e ≡ record { kind = 112; cluster = number_of (decimal g.cluster); mask = number_of (decimal g.mask) } → Some e ≡ read_line (item_line item)
    unfolding item_line is_glyph_kind
    entry-passed i is = ap Some is ∙ rw i (sym (glyph-read 112 refl (omega arith) g))

    pub entry-rest : item ≡ OfRest g → e ≡ record { kind = 105; cluster = number_of (decimal g.cluster); mask = number_of (decimal g.mask) } → Some e ≡ read_line (item_line item)
    unfolding item_line is_glyph_kind
    entry-rest i is = ap Some is ∙ rw i (sym (glyph-read 105 refl (omega arith) g))

  pub entry-placed : {q : Position} → item ≡ OfPosition q → None ≡ read_line (item_line item)
  unfolding item_line
  entry-placed {q} i = rw i (sym (read-position q))

pub ruleset entered = (entry_done, entry-passed, entry-rest, entry-placed)

-- a word that is printed is the word that is read
pub entry_of : (kind : ℕ) {cluster mask : ℕ} → cluster < 2 ^ 32 → mask < 2 ^ 32 → ◌≡◌ {A = Entry} (record { kind = kind; cluster = cluster; mask = mask }) (record { kind = kind; cluster = number_of (decimal cluster); mask = number_of (decimal mask) })
entry_of kind {cluster} {mask} c m = rw (number_decimal cluster (omega (arith, c)), number_decimal mask (omega (arith, m))) refl

-- ---- the lines of an account
module _ {G : Type 0} where
  -- what is read below the line `end`
  unfoldable pub entries : Account G → List (Option Entry)
  entries a =
      map (λ g. Some (taken 111 g.info)) a.done
      ++ (map (λ g. Some (taken 112 g.info)) a.passed
      ++ (map (λ g. Some (taken 105 g.info)) a.rest
      ++ map (λ q. None) (positions a)))

read_of : {A : Type 0} (item : A → Item) (entry : A → Option Entry) → ((x : A) → read_line (item_line (item x)) ≡ entry x) → (l : List A) (m : List Item)
    → map read_line (map item_line (map item l ++ m)) ≡ map entry l ++ map read_line (map item_line m)
read_of item entry e [] m = refl
read_of item entry e (x ∷ l) m = ap₂ (λ (y : Option Entry) (r : List (Option Entry)). y ∷ r) (e x) (read_of item entry e l m)

stored-line : (kind : ℕ) → is_glyph_kind kind ≡ true → 32 < kind → (g : Glyph ℕ) → read_line (glyph_line kind (seen (stored g))) ≡ Some (taken kind g.info)
stored-line kind h k g = ap read_line (glyph-line kind g) ∙ read-glyph kind h k g

items-read : (a : Account ℕ) → map read_line (map item_line (items a)) ≡ entries a
unfolding items entries item_line is_glyph_kind
items-read a =
    read_of (λ g. OfDone (stored g)) (λ g. Some (taken 111 g.info)) (stored-line 111 refl (omega arith)) a.done _
    ∙ ap (λ (r : List (Option Entry)). map (λ g. Some (taken 111 g.info)) a.done ++ r)
    (read_of (λ g. OfPassed (stored g)) (λ g. Some (taken 112 g.info)) (stored-line 112 refl (omega arith)) a.passed _
    ∙ ap (λ (r : List (Option Entry)). map (λ g. Some (taken 112 g.info)) a.passed ++ r)
    (read_of (λ g. OfRest (stored g)) (λ g. Some (taken 105 g.info)) (stored-line 105 refl (omega arith)) a.rest _
    ∙ ap (λ (r : List (Option Entry)). map (λ g. Some (taken 105 g.info)) a.rest ++ r)
    (ap (λ (l : List Item). map read_line (map item_line l)) (sym (append-nil (map OfPosition (positions a))))
    ∙ (read_of OfPosition (λ q. None) read-position (positions a) [] ∙ append-nil (map (λ q. None) (positions a))))))

-- ---- sums of totals
module _ {l g m l' g' m' : ℕ} where
  pub same-totals : l ≡ l' → g ≡ g' → m ≡ m' → ◌≡◌ {A = Totals} (record { lines = l; groups = g; marked = m }) (record { lines = l'; groups = g'; marked = m' })
  same-totals p q r = rw (p, q, r) refl

pub none-plus : (t : Totals) → plus no_totals t ≡ t
unfolding plus
none-plus t = same-totals (omega arith) (omega arith) (omega arith)

pub plus_none : (t : Totals) → plus t no_totals ≡ t
unfolding plus
plus_none t = same-totals (omega arith) (omega arith) (omega arith)

pub plus-plus : (t u v : Totals) → plus (plus t u) v ≡ plus t (plus u v)
unfolding plus
plus-plus t u v = same-totals (omega arith) (omega arith) (omega arith)

-- the line `end` is no glyph's
pub below_end : (a : Account ℕ) (ls : List (List ℕ)) → read_totals (end_line a ∷ ls) ≡ read_totals ls
unfolding read_totals counted_below counted
below_end a ls = rw (read-end a) (none-plus (counted_below None (map read_line ls)))

-- ---- one line after the other
-- a line that is of no list of this kind
abbrev pub Apart : ℕ → Option Entry → Type 0
Apart kind None = Unit {0}
Apart kind (Some e) = e.kind ≡ kind → ⊥

-- below it a line of this kind starts a group
pub other-kind : (above : Option Entry) (line : Entry) → Apart line.kind above → 1 ≡ starts above line
unfolding starts
other-kind None line h = refl
other-kind (Some above) line h = sym (ap (λ (same : Bool). cond (same && eqb above.cluster line.cluster) 0 1) (ne_eqb above.kind line.kind h))

-- a glyph's line is counted, with the group that it starts
pub count-one : (above : Option Entry) (line : Entry) (t : Totals) {n : ℕ} → n ≡ starts above line → ◌≡◌ {A = Totals} (record { lines = t.lines + 1; groups = t.groups + n; marked = t.marked + line.mask % 2 }) (plus t (counted above (Some line)))
unfolding counted plus
count-one above line t e = rw e refl

pub starts_most : (above : Option Entry) (line : Entry) → starts above line ≤ 1
unfolding starts
starts_most None line = omega arith
starts_most (Some above) line = one-or-none (eqb above.kind line.kind && eqb above.cluster line.cluster)
  where
    one-or-none : (p : Bool) → cond p 0 1 ≤ 1
    one-or-none true = omega arith
    one-or-none false = omega arith

three-at-most : (above line : Option Entry) → (counted above line).lines + (counted above line).groups + (counted above line).marked ≤ 3
unfolding counted
three-at-most above None = omega arith
three-at-most above (Some line) = omega (arith, starts_most above line)

more-most : (t u : Totals) (k : ℕ) → t.lines + t.groups + t.marked ≤ 3 * k → u.lines + u.groups + u.marked ≤ 3 → (plus t u).lines + (plus t u).groups + (plus t u).marked ≤ 3 * (k + 1)
unfolding plus
more-most t u k h o = omega arith

pub group-fits : (above : Option Entry) (line : Entry) (t : Totals) {n : ℕ} → t.lines + t.groups + t.marked < 2 ^ 32 → n ≡ starts above line → t.groups + n < 2 ^ 64
group-fits above line t h e = omega (arith, h, e, starts_most above line)

-- k things were counted, the last with this entry; the others are to come
pub record Counting (b : Buffer) (f s : List ℕ) (k : ℕ) (t : Totals) (above : Option Entry) : Type 0 where
  pub to-come : plus t (counted_below above (map read_line (map item_line (drop k (items (account b f s)))))) ≡ read_totals (map item_line (items (account b f s)))
  pub fewer : t.lines + t.groups + t.marked ≤ 3 * k

module _ {b : Buffer} {f s : List ℕ} where
  pub counting-none : {t : Totals} → (t.lines ≡ 0) × ((t.groups ≡ 0) × (t.marked ≡ 0)) → Counting b f s 0 t None
  unfolding read_totals
  counting-none {t} et =
      let none : t ≡ no_totals = same-totals et.0 et.1.0 et.1.1 in
      rw none (record { to-come = none-plus _; fewer = omega arith })

  module _ {k n : ℕ} {t : Totals} {above : Option Entry} (v : Counting b f s k t above) (h : sound b f s ≡ true) (en : n ≡ cond (sound b f s) (length (items (account b f s))) 0) where
    -- the k-th of the things, of whose line this was read
    pub counting_more : {o : Option Item} {line : Option Entry} {u : Totals} → k < n → o ≡ cond (sound b f s) (slice_get (items (account b f s)) k) None → MatchOption o (line ≡ None) (λ (item : Item). line ≡ read_line (item_line item)) → u ≡ plus t (counted above line) → Counting b f s (k + 1) u line
    unfolding counted_below
    counting_more {o} {line} {u} i ei el eu =
        let shows : List Item = items (account b f s) in
        let many : n ≡ length shows = rw h at en in
        let item : Item = get_or shows k (OfPosition zero_position) in
        let one : o ≡ Some item = rw h at ei ∙ slice_get-get_or shows k _ (omega arith) in
        let here : line ≡ read_line (item_line item) = rw one at el in
        let below : drop k shows ≡ item ∷ drop (k + 1) shows = rw add-one (drop-cons shows k _ (omega arith)) in
        let step : counted_below above (map read_line (map item_line (drop k shows))) ≡ plus (counted above line) (counted_below line (map read_line (map item_line (drop (k + 1) shows)))) = rw (below, here) refl in
        record {
          to-come = rw eu (plus-plus t (counted above line) _ ∙ (ap (plus t) (sym step) ∙ v.to-come));
          fewer = rw eu (more-most t (counted above line) k v.fewer (three-at-most above line));
        }

    pub counting-all : n ≤ k → t ≡ read_totals (map item_line (items (account b f s)))
    unfolding counted_below
    counting-all i =
        let shows : List Item = items (account b f s) in
        let many : n ≡ length shows = rw h at en in
        let none : drop k shows ≡ [] = drop_of_length-le shows {i = k} (omega arith) in
        sym (plus_none t) ∙ rw none at v.to-come

    pub counting-room : k < n → t.lines + t.groups + t.marked < 2 ^ 32
    counting-room i =
        let many : n ≡ length (items (account b f s)) = rw h at en in
        omega (arith, v.fewer, items-most b f s h)

pub lines-read : (a : Account ℕ) → read_totals (lines_above a) ≡ counted_below None (entries a)
unfolding lines_above read_totals
lines-read a = below_end a (map item_line (items a)) ∙ ap (counted_below None) (items-read a)

-- ---- glyph numbers
entries-rename : {G H : Type 0} (f : G → H) (a : Account G) → entries (renamed f a) ≡ entries a
unfolding entries
entries-rename f a = simp (done-rename, passed-rename, rest-rename, positions-rename, words-rename f (λ i. Some (taken 111 i)), words-rename f (λ i. Some (taken 112 i)), words-rename f (λ i. Some (taken 105 i)))

-- the line `sum` of an account of which no glyph number is known
unfoldable pub sum_of : {G : Type 0} → Account G → List ℕ
sum_of a = sum_line (counted_below None (entries a))

-- it is the line that is printed, whatever the numbers
pub last-line-forgets : {H : Type 0} (f : ℕ → H) (a : Account ℕ) → last_line a ≡ sum_of (renamed f a)
unfolding last_line sum_of
last-line-forgets f a = ap sum_line (lines-read a ∙ ap (counted_below None) (sym (entries-rename f a)))

pub same-last-line : {H : Type 0} (f : ℕ → H) (a b : Account ℕ) → renamed f a ≡ renamed f b → last_line a ≡ last_line b
same-last-line f a b e = last-line-forgets f a ∙ (ap sum_of e ∙ sym (last-line-forgets f b))

pub ruleset counting = (counting-none, counting-all, counting-room)

-- Groups of neighbours in the whole run: calls 1D, 1E, 22, 23.
use Rattle.std.specs.Prelude.{◌+◌, ◌*◌, ◌%◌, ◌<◌, ◌∷◌, ◌++◌, ◌≡◌}
use Rattle.records.specs.Library.{ℕ, suc, Bool, true, false, cond, leb, ltb, bit_and, bit_or, List, [], length, take, drop, get_or}
use Rattle.records.specs.Library.{slice}
use Rattle.records.specs.{WrongPhase, BadOperand, Glyphs.Glyph, Glyphs.Info, Glyphs.with_mask, Glyphs.key, Ranges.infos, Ranges.edit, Ranges.is, Ranges.isnt}
use Rattle.lists.specs.Account.{Account, with_rest, Result, accepted, refuse◌when◌else◌}
use Rattle.edits.specs.{WholeRun.not_whole, Merging.merge, Merging.graphemes_merge, Flags.wants_concat, Flags.wants_tatweel}

-- one more in the first group, or a new group of one before it
unfoldable pub joins : Bool → List ℕ → List ℕ
joins true [] = []
joins true (n ∷ ns) = suc n ∷ ns
joins false ns = 1 ∷ ns

-- the sizes of groups, from left to right. `p x y` says that y goes on with the group of x
unfoldable pub group_sizes : (Info → Info → Bool) → List Info → List ℕ
group_sizes p [] = []
group_sizes p (x ∷ []) = 1 ∷ []
group_sizes p (x ∷ (y ∷ ys)) = joins (p x y) (group_sizes p (y ∷ ys))

abbrev pub same_cluster : Info → Info → Bool
same_cluster x y = is x.cluster y.cluster

-- "a glyph with a nonzero key continues its grapheme"
abbrev pub continues : (slot mask : ℕ) → Info → Info → Bool
continues slot mask x y = isnt 0 (key slot mask y)

-- "neighbours of one cluster join their low three mask bits"
unfoldable pub joined : List Info → ℕ
joined [] = 0
joined (i ∷ rest) = bit_or (i.mask % 8) (joined rest)

-- "tatweel wanted, bit 0 clears bit 2, and a bit 2 still set sets bits 0 and 1; concat unwanted clears bit 1"
unfoldable pub settled_mask : (wants joined : ℕ) → ℕ
settled_mask wants x =
    let cleared = cond (is 1 (x % 2)) (x % 4) x in
    let y = cond (wants_tatweel wants) (cond (leb 4 cleared) 7 cleared) x in
    cond (wants_concat wants) y (bit_and 5 y)

module _ {G : Type 0} where
  -- "Group reversals reverse the order of groups only"
  unfoldable pub regrouped : List ℕ → List (Glyph G) → List (Glyph G)
  regrouped [] l = l
  regrouped (n ∷ ns) l = regrouped ns (drop n l) ++ take n l

  -- a merge of each group, from the left; the first starts at s
  unfoldable pub merged_each : (merges : Bool) → List ℕ → (s : ℕ) → Account G → Account G
  merged_each merges [] s a = a
  merged_each merges (n ∷ ns) s a = merged_each merges ns (s + n) (merge merges s (s + n) a)

  -- "the result is each one's whole mask"
  unfoldable pub propagated : (wants : ℕ) → List ℕ → (s : ℕ) → List (Glyph G) → List (Glyph G)
  propagated wants [] s l = l
  propagated wants (n ∷ ns) s l = propagated wants ns (s + n) (edit s (s + n) (with_mask (settled_mask wants (joined (slice s (s + n) (infos l))))) l)

  unfoldable pub reverse_clusters : Account G → Result G  -- 1D
  reverse_clusters a = refuse WrongPhase when not_whole a else accepted (with_rest (regrouped (group_sizes same_cluster (infos a.rest)) a.rest) a)

  -- "at level 1 `reverse_graphemes` first merges each from the left"
  unfoldable pub reverse_graphemes : (slot mask : ℕ) → Account G → Result G  -- 1E
  reverse_graphemes slot mask a =
      let ns = group_sizes (continues slot mask) (infos a.rest) in
      let b = cond (is 1 a.state.level) (merged_each true ns 0 a) a in
      refuse WrongPhase when not_whole a else
      refuse BadOperand when ltb 1 slot else
      accepted (with_rest (regrouped ns b.rest) b)

  -- "`form_clusters` makes the grapheme merge of each"
  unfoldable pub form_clusters : (slot mask : ℕ) → Account G → Result G  -- 22
  form_clusters slot mask a =
      refuse WrongPhase when not_whole a else
      refuse BadOperand when ltb 1 slot else
      accepted (merged_each (graphemes_merge a.state.level) (group_sizes (continues slot mask) (infos a.rest)) 0 a)

  unfoldable pub propagate_flags : Account G → Result G  -- 23
  propagate_flags a =
      refuse WrongPhase when not_whole a else
      accepted (with_rest (propagated a.state.wants (group_sizes same_cluster (infos a.rest)) 0 a.rest) a)

-- ---- the masks of groups as a table (document 02, N3), from which the code of call 23 takes them
-- "one constant table, 32 entries: the eight values of the joined low three bits under each of the four wants, at place 8 × wants + joined value":
-- in rows, wants 0, 1 (concat), 2 (tatweel) and 3 (both)
unfoldable pub flag_table : List ℕ
flag_table =
    0 ∷ 1 ∷ 0 ∷ 1 ∷ 4 ∷ 5 ∷ 4 ∷ 5 ∷
    0 ∷ 1 ∷ 2 ∷ 3 ∷ 4 ∷ 5 ∷ 6 ∷ 7 ∷
    0 ∷ 1 ∷ 0 ∷ 1 ∷ 5 ∷ 1 ∷ 5 ∷ 1 ∷
    0 ∷ 1 ∷ 2 ∷ 3 ∷ 7 ∷ 1 ∷ 7 ∷ 3 ∷ []

-- "Every entry is proved to be what document 01's formula gives." A state that is handed in may have any wants: its two lowest bits count
unfoldable pub EveryEntry : Type 0
EveryEntry = (length flag_table ≡ 32) × ((wants joined : ℕ) → joined < 8 → get_or flag_table (8 * (wants % 4) + joined) 0 ≡ settled_mask wants joined)

-- The calls on a whole run leave the count of pushes, and each origin within it; `push` draws a number.
use mathlib.Core.{Path.◌≡◌, Path.refl, Bool.Bool, Bool.true, Bool.false, Bool.cond, List.List, List.[], List.◌∷◌, List.◌++◌}
use Rattle.std.proofs.Common.{ℕ, zero, suc, ◌+◌, ◌≤◌, min, zero-le, arith}
use lib.{Dec.eqb, ListN.length-append}
use borrow.Author.Tests.{eqb-false}
use Rattle.records.specs.{InputPlace, Refusal, Limits, Counters.next_push, Counters.counted, Counters.grown, Glyphs.Glyph, Glyphs.Info, Glyphs.change, Glyphs.with_mask, Glyphs.with_cluster, Glyphs.with_position, Glyphs.with_origin, Glyphs.blank, Ranges.copies, Ranges.infos, Ranges.is}
use Rattle.records.proofs.Apart.{origin-cond}
use Rattle.lists.specs.{Account.Account, Account.len, Account.with_limits, Account.limiting, Account.sized, Account.failing, Account.with_rest, Account.Result, Account.refused, Account.accepted, Account.refuse◌when◌else◌, Account.needing}
use Rattle.lists.proofs.OriginLaws.{Within, none, more, Drawn, Leaves, within-larger, within-append, within-copies, drawn-failing, drawn-rest, drawn-cond}
use Rattle.edits.specs.WholeRun.{push, set_length, place, set_position, set_masks, masked, reverse_run, reverse_range, numbered, reset_clusters, rotated, inserted, sorted, sort}
use Rattle.edits.specs.Groups.{group_sizes, continues, regrouped, merged_each, propagated, reverse_clusters, reverse_graphemes, form_clusters, propagate_flags}
use Rattle.edits.proofs.OriginCalls.{drawing, drawn-merge}

module _ (i : Info) where
  same-position : (xa ya xo yo : ℕ) → (set_position xa ya xo yo i).origin ≡ i.origin
  unfolding set_position with_position
  same-position xa ya xo yo = refl

  same-masked : (value mask start stop : ℕ) → (masked value mask start stop i).origin ≡ i.origin
  unfolding masked with_mask
  same-masked value mask start stop = search origin-cond

module _ {G : Type 0} {n : ℕ} where
  -- ---- lists
  numbered_within : (k : ℕ) {l : List (Glyph G)} → Within n l → Within n (numbered k l)
  unfolding numbered change with_cluster
  numbered_within k none = none
  numbered_within k (more {g = g} h w) = more {g = change (with_cluster k) g} h (numbered_within (suc k) w)

  rotated-within : (j i : ℕ) {l : List (Glyph G)} → Within n l → Within n (rotated j i l)
  unfolding rotated
  rotated-within j i w = search drawing

  regrouped-within : (ns : List ℕ) {l : List (Glyph G)} → Within n l → Within n (regrouped ns l)
  unfolding regrouped
  regrouped-within [] w = w
  regrouped-within (k ∷ ns) w = within-append (regrouped-within ns (search drawing)) (search drawing)

  propagated-within : (wants : ℕ) (ns : List ℕ) (s : ℕ) {l : List (Glyph G)} → Within n l → Within n (propagated wants ns s l)
  unfolding propagated
  propagated-within wants [] s w = w
  propagated-within wants (k ∷ ns) s w = propagated-within wants ns (s + k) (search drawing)

  -- ---- accounts
  drawn-merged-each : (b : Bool) (ns : List ℕ) (s : ℕ) {a : Account G} → Drawn n a → Drawn n (merged_each b ns s a)
  unfolding merged_each
  drawn-merged-each b [] s d = d
  drawn-merged-each b (k ∷ ns) s d = drawn-merged-each b ns (s + k) (drawn-merge d b s (s + k))

  drawn-regrouped : (ns : List ℕ) {a : Account G} → Drawn n a → Drawn n (with_rest (regrouped ns a.rest) a)
  drawn-regrouped ns d = drawn-rest d (regrouped-within ns d.rest)

  rest-within : {a : Account G} → Drawn n a → Within n a.rest
  rest-within d = d.rest

  drawn-inserted : (j i : ℕ) {a : Account G} → Drawn n a → Drawn n (inserted j i a)
  unfolding inserted
  drawn-inserted j i d = search (drawing, rotated-within, rest-within, drawn-merge)

  drawn-sorted : (slot mask s k i : ℕ) {a : Account G} → Drawn n a → Drawn n (sorted slot mask s k i a)
  unfolding sorted
  drawn-sorted slot mask s zero i d = d
  drawn-sorted slot mask s (suc k) i d = drawn-sorted slot mask s k (suc i) (drawn-inserted _ i d)

  -- ---- calls
  module _ {a : Account G} (d : Drawn n a) where
    pub length-leaves : (z : G) (capacity k : ℕ) → Leaves n (set_length z capacity k a)
    unfolding set_length blank
    length-leaves z capacity k = search (drawing, within-copies, zero-le) depth 9

    pub place-leaves : (i : InputPlace) (xa ya xo yo : ℕ) → Leaves n (place i xa ya xo yo a)
    unfolding place
    place-leaves i xa ya xo yo = search (drawing, same-position) depth 9

    pub masks-leaves : (value mask s e : ℕ) → Leaves n (set_masks value mask s e a)
    unfolding set_masks
    masks-leaves value mask s e = search (drawing, same-masked) depth 9

    pub reverse-leaves : Leaves n (reverse_run a)
    unfolding reverse_run
    reverse-leaves = search drawing

    pub range-leaves : (s e : InputPlace) → Leaves n (reverse_range s e a)
    unfolding reverse_range
    range-leaves s e = search drawing depth 9

    pub reset-leaves : Leaves n (reset_clusters a)
    unfolding reset_clusters
    reset-leaves = search (drawing, numbered_within)

    pub sort-leaves : (s e : InputPlace) (slot mask : ℕ) → Leaves n (sort s e slot mask a)
    unfolding sort
    sort-leaves s e slot mask = search (drawing, drawn-sorted)

    pub groups-leaves : Leaves n (reverse_clusters a)
    unfolding reverse_clusters
    groups-leaves = search (drawing, drawn-regrouped)

    pub propagate-leaves : Leaves n (propagate_flags a)
    unfolding propagate_flags
    propagate-leaves = search (drawing, propagated-within)

    module _ (slot mask : ℕ) where
      pub graphemes-leaves : Leaves n (reverse_graphemes slot mask a)
      unfolding reverse_graphemes
      graphemes-leaves =
          let e = drawn-cond (is 1 a.state.level) (drawn-merged-each true (group_sizes (continues slot mask) (infos a.rest)) 0 d) d in
          search (drawing, drawn-regrouped)

      pub form-leaves : Leaves n (form_clusters slot mask a)
      unfolding form_clusters
      form-leaves = search (drawing, drawn-merged-each)

-- ---- `push`
-- after n pushes that stored a glyph: it is refused, or stores one more, or gives up; `len` shows which
module _ {G : Type 0} where
  pub data Pushes (n : ℕ) (a : Account G) : Result G → Type 0 where
    turned : {r : Refusal} → Pushes n a (refused r)
    stores : {b : Account G} → Drawn (min (suc n) 4294967295) b → len b ≡ suc (len a) → Pushes n a (accepted b)
    fails : {b : Account G} → Drawn (min n 4294967295) b → len b ≡ len a → Pushes n a (accepted b)

  pushes-cond : {n : ℕ} {a : Account G} (b : Bool) {x y : Result G} → Pushes n a x → Pushes n a y → Pushes n a (cond b x y)
  pushes-cond true v w = v
  pushes-cond false v w = w

next-within : (n : ℕ) (l : Limits) → l.pushes ≡ min n 4294967295 → next_push l ≤ min (suc n) 4294967295
unfolding next_push
next-within n l e = by (eqb l.pushes 4294967295) refl
  where
    by : (x : Bool) → eqb l.pushes 4294967295 ≡ x → cond x 0 (suc l.pushes) ≤ min (suc n) 4294967295
    by true h = zero-le
    by false h = omega (arith, eqb-false l.pushes 4294967295 h)

module _ {G : Type 0} (capacity : ℕ) (g : G) (cluster : ℕ) (a : Account G) where
  -- the account with one more glyph
  stored : ℕ → Account G
  stored size = with_rest (a.rest ++ copies (with_origin (next_push a.state.limits) (blank cluster)) (g ∷ [])) (limiting counted (sized size a))

  stored-len : (size : ℕ) → len (stored size) ≡ suc (len a)
  unfolding stored len with_rest limiting with_limits sized copies
  stored-len size = simp length-append (omega arith)

  failed-len : len (failing a) ≡ len a
  unfolding len failing limiting with_limits
  failed-len = refl

  module _ (n : ℕ) (d : Drawn (min n 4294967295) a) where
    drawn-stored : (size : ℕ) → Drawn (min (suc n) 4294967295) (stored size)
    unfolding stored with_rest limiting with_limits counted sized grown with_origin
    drawn-stored size =
        let on : min n 4294967295 ≤ min (suc n) 4294967295 = omega arith in
        record {
          count = omega (arith, d.count);
          done = within-larger on d.done;
          passed = within-larger on d.passed;
          rest = within-append (within-larger on d.rest) (within-copies _ _ (next-within n a.state.limits d.count));
        }

    pub push-pushes : Pushes n a (push capacity g cluster a)
    unfolding push stored refuse◌when◌else◌ needing
    push-pushes = search (pushes-cond, turned, stores, fails, drawn-stored, stored-len, failed-len, drawn-failing) depth 9

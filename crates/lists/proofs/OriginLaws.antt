-- Origins and the count of pushes: n were drawn, and each origin is within n. The calls of this crate keep it so.
use mathlib.Core.{Path.◌≡◌, Path.refl, Bool.Bool, Bool.true, Bool.false, Bool.cond, List.List, List.[], List.◌∷◌, List.◌++◌, List.map, List.reverse_aux}
use Prim.Native.Nat.{ℕ, zero, suc, ◌≤◌, zero-le}
use native.Mathlib.Nat.{le_trans}
use lib.ListN.{take, drop, get_or}
use Rattle.records.specs.{Refusal, Glyphs.Glyph, Glyphs.Info, Glyphs.change, Glyphs.with_position, Glyphs.blank, Ranges.infos, Ranges.edit, Ranges.copies}
use Rattle.records.specs.Counters.{fresh_limits, costs, failed, grown, limited, after_enter, after_leave, with_serial}
use Rattle.lists.specs.Account.{Account, in_phase, with_gone, with_limits, input, fresh_account, limiting, paying, failing, sized, with_input, with_done, with_rest}
use Rattle.lists.specs.Account.{Result, refused, accepted, answered, outcome, refuse◌when◌else◌, needing}
use Rattle.lists.specs.Cursor.{fresh, enter, leave, allocate_lig_id, moved, dropping, back, cursor_at, growing, output_as_run, spoiling, without_positions, opened, positioned, clear_output, clear_positions, next_glyphs, skip_glyph, sync, pays_for, forward, goes_back, backward, move_to}

module _ {G : Type 0} where
  -- each origin of a list
  pub data Within (n : ℕ) : List (Glyph G) → Type 0 where
    none : Within n []
    more : {g : Glyph G} {l : List (Glyph G)} → g.info.origin ≤ n → Within n l → Within n (g ∷ l)

  -- an account
  pub record Drawn (n : ℕ) (a : Account G) : Type 0 where
    pub count : a.state.limits.pushes ≡ n
    pub done : Within n a.done
    pub passed : Within n a.passed
    pub rest : Within n a.rest

  -- what a call comes to
  pub data Leaves (n : ℕ) : Result G → Type 0 where
    refuses : {r : Refusal} → Leaves n (refused r)
    accepts : {b : Account G} → Drawn n b → Leaves n (accepted b)
    answers : {v : ℕ} {b : Account G} → Drawn n b → Leaves n (answered v b)

module _ {G : Type 0} {n : ℕ} where
  -- ---- lists
  pub within-append : {k l : List (Glyph G)} → Within n k → Within n l → Within n (k ++ l)
  within-append none w = w
  within-append (more h v) w = more h (within-append v w)

  pub within-take : (i : ℕ) {l : List (Glyph G)} → Within n l → Within n (take i l)
  within-take zero w = none
  within-take (suc i) none = none
  within-take (suc i) (more h w) = more h (within-take i w)

  pub within-drop : (i : ℕ) {l : List (Glyph G)} → Within n l → Within n (drop i l)
  within-drop zero w = w
  within-drop (suc i) none = none
  within-drop (suc i) (more h w) = within-drop i w

  pub within-reverse : {k l : List (Glyph G)} → Within n k → Within n l → Within n (reverse_aux k l)
  within-reverse none w = w
  within-reverse (more h v) w = within-reverse v (more h w)

  pub within-larger : {m : ℕ} {l : List (Glyph G)} → m ≤ n → Within m l → Within n l
  within-larger h none = none
  within-larger h (more p w) = more (le_trans p h) (within-larger h w)

  pub within-cond : (b : Bool) {k l : List (Glyph G)} → Within n k → Within n l → Within n (cond b k l)
  within-cond true v w = v
  within-cond false v w = w

  pub within-change : (h : Info → Info) {l : List (Glyph G)} → ((i : Info) → (h i).origin ≡ i.origin) → Within n l → Within n (map (change h) l)
  unfolding change
  within-change h keep none = none
  within-change h keep (more {g = g} p w) = more {g = change h g} (rw (keep g.info) p) (within-change h keep w)

  pub ruleset listed = (none, within-append, within-take, within-drop, within-reverse, within-cond, within-change)

  pub within-edit : (i j : ℕ) (h : Info → Info) {l : List (Glyph G)} → ((i : Info) → (h i).origin ≡ i.origin) → Within n l → Within n (edit i j h l)
  unfolding edit
  within-edit i j h keep w = search listed

  pub within-copies : (i : Info) (gs : List G) → i.origin ≤ n → Within n (copies i gs)
  unfolding copies
  within-copies i [] h = none
  within-copies i (g ∷ gs) h = more h (within-copies i gs h)

  -- the words of the first glyph, or of none
  pub first-within : {l : List (Glyph G)} → Within n l → (get_or (infos l) 0 (blank 0)).origin ≤ n
  unfolding infos blank
  first-within none = zero-le
  first-within (more h w) = h

  -- ---- accounts
  pub drawn-cond : (b : Bool) {x y : Account G} → Drawn n x → Drawn n y → Drawn n (cond b x y)
  drawn-cond true v w = v
  drawn-cond false v w = w

  module _ {a : Account G} (d : Drawn n a) where
    pub input-within : Within n (input a)
    unfolding input
    input-within = search listed

    pub drawn-paying : (k : ℕ) → Drawn n (paying k a)
    unfolding paying limiting with_limits costs
    drawn-paying k = search

    pub drawn-failing : Drawn n (failing a)
    unfolding failing limiting with_limits failed
    drawn-failing = search

    pub drawn-sized : (k : ℕ) → Drawn n (sized k a)
    unfolding sized limiting with_limits grown
    drawn-sized k = search

    module _ {l : List (Glyph G)} (w : Within n l) where
      pub drawn-input : Drawn n (with_input l a)
      unfolding with_input
      drawn-input = search listed

      pub drawn-done : Drawn n (with_done l a)
      unfolding with_done
      drawn-done = search

      pub drawn-rest : Drawn n (with_rest l a)
      unfolding with_rest
      drawn-rest = search

    pub drawn-moved : (k : ℕ) → Drawn n (moved k a)
    unfolding moved with_gone
    drawn-moved k = search listed

    pub drawn-dropping : (k : ℕ) → Drawn n (dropping k a)
    unfolding dropping with_gone
    drawn-dropping k = search listed

    drawn-back : (k : ℕ) → Drawn n (back k a)
    unfolding back with_gone
    drawn-back k = search listed

    drawn-cursor : (i : ℕ) → Drawn n (cursor_at i a)
    unfolding cursor_at input
    drawn-cursor i = search listed

    drawn-growing : (k : ℕ) → Drawn n (growing k a)
    unfolding growing with_gone
    drawn-growing k = search

    drawn-run : Drawn n (output_as_run a)
    unfolding output_as_run in_phase with_gone
    drawn-run = search listed

    drawn-spoiling : Drawn n (spoiling a)
    unfolding spoiling in_phase with_gone
    drawn-spoiling = search listed

    drawn-opened : Drawn n (opened a)
    unfolding opened without_positions input in_phase with_gone with_position
    drawn-opened = search listed

    drawn-positioned : Drawn n (positioned a)
    unfolding positioned without_positions in_phase with_position
    drawn-positioned = search listed

  -- ---- what a call comes to
  pub leaves-cond : (b : Bool) {x y : Result G} → Leaves n x → Leaves n y → Leaves n (cond b x y)
  leaves-cond true v w = v
  leaves-cond false v w = w

  pub leaves-refuse : (r : Refusal) (b : Bool) {x : Result G} → Leaves n x → Leaves n (refuse r when b else x)
  unfolding refuse◌when◌else◌
  leaves-refuse r b w = leaves-cond b refuses w

  pub leaves-needing : (capacity k : ℕ) (a : Account G) {x y : Result G} → Leaves n x → Leaves n y → Leaves n (needing capacity k a x y)
  unfolding needing
  leaves-needing capacity k a v w = search (leaves-cond, refuses)

  pub leaves_after : {a : Account G} {x : Result G} → Drawn n a → Leaves n x → Drawn n (outcome a x).after
  unfolding outcome
  leaves_after d refuses = d
  leaves_after d (accepts e) = e
  leaves_after d (answers e) = e

  pub ruleset drawing = (drawn-cond, drawn-paying, drawn-failing, drawn-sized, drawn-input, drawn-done, drawn-rest, drawn-moved, drawn-dropping, accepts, answers, leaves-cond, leaves-refuse, leaves-needing, input-within, within-edit, listed)

  -- ---- calls
  module _ {a : Account G} (d : Drawn n a) where
    pub enter-leaves : Leaves n (enter a)
    unfolding enter limiting with_limits after_enter limited
    enter-leaves = search drawing

    pub leave-leaves : Leaves n (leave a)
    unfolding leave limiting with_limits after_leave limited
    leave-leaves = search drawing

    pub allocate-leaves : Leaves n (allocate_lig_id a)
    unfolding allocate_lig_id limiting with_limits with_serial
    allocate-leaves = search drawing

    pub clear-leaves : Leaves n (clear_output a)
    unfolding clear_output
    clear-leaves = search (drawing, drawn-opened)

    pub positions-leaves : Leaves n (clear_positions a)
    unfolding clear_positions
    positions-leaves = search (drawing, drawn-positioned)

    pub next-leaves : (capacity k : ℕ) → Leaves n (next_glyphs capacity k a)
    unfolding next_glyphs
    next-leaves capacity k = search (drawing, drawn-cursor) depth 9

    pub skip-leaves : Leaves n (skip_glyph a)
    unfolding skip_glyph
    skip-leaves = search (drawing, drawn-cursor)

    pub sync-leaves : (capacity : ℕ) → Leaves n (sync capacity a)
    unfolding sync
    sync-leaves capacity = search (drawing, drawn-run, drawn-spoiling) depth 9

    pays-leaves : (k : ℕ) {x : Result G} → Leaves n x → Leaves n (pays_for k a x)
    unfolding pays_for
    pays-leaves k w = search drawing

  module _ {a : Account G} (d : Drawn n a) where
    forward-leaves : (capacity k : ℕ) → Leaves n (forward capacity k a)
    unfolding forward
    forward-leaves capacity k = search (drawing, pays-leaves) depth 9

    back-leaves : (k : ℕ) → Leaves n (goes_back k a)
    unfolding goes_back
    back-leaves k = search (drawing, pays-leaves, drawn-back)

  module _ {a : Account G} (d : Drawn n a) where
    backward-leaves : (capacity k : ℕ) → Leaves n (backward capacity k a)
    unfolding backward
    backward-leaves capacity k = search (drawing, pays-leaves, back-leaves, drawn-growing) depth 9

    pub move-leaves : (capacity i : ℕ) → Leaves n (move_to capacity i a)
    unfolding move_to
    move-leaves capacity i = search (drawing, forward-leaves, backward-leaves, drawn-cursor) depth 9

-- nothing was drawn in a fresh account
module _ {G : Type 0} where
  pub fresh-drawn : (level wants : ℕ) → Drawn {G = G} 0 (fresh_account level wants)
  unfolding fresh_account fresh_limits
  fresh-drawn level wants = record { count = refl; done = none; passed = none; rest = none }

  pub fresh-leaves : (level wants : ℕ) (a : Account G) → Leaves 0 (fresh level wants a)
  unfolding fresh
  fresh-leaves level wants a = search (drawing, fresh-drawn)

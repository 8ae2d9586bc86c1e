-- Renaming an account: the calls of this crate commute with it. Each law takes the renaming outwards.
use mathlib.Core.{Path.◌≡◌, Path.refl, Path.sym, Path.ap, Path.◌∙◌, Bool.Bool, Bool.true, Bool.false, Bool.cond, List.List, List.map}
use Prim.Native.Nat.{ℕ}
use lib.Dec.{ltb}
use Rattle.records.specs.{Refusal, BadOperand, Limits, Glyphs.Glyph, Glyphs.rename}
use Rattle.records.proofs.Renaming as records
use Rattle.lists.specs.declared.Reply.{Reply}
use Rattle.lists.specs.Contract.{account}
use Rattle.lists.specs.Contract.{Begins}
use Rattle.lists.specs.Account.{Account, has_output, has_positions, is_spoiled, input, len, idx, out_length, positions, fresh_account, limiting, paying, failing, sized, with_input, with_done, with_rest, renamed}
use Rattle.lists.specs.Account.{Result, Outcome, refused, accepted, answered, outcome, refuse◌when◌else◌, needing}
use Rattle.lists.specs.Cursor.{fresh, enter, leave, allocate_lig_id, moved, dropping, back, cursor_at, growing, output_as_run, spoiling, without_positions, opened, positioned, clear_output, clear_positions, next_glyphs, skip_glyph, sync, pays_for, forward, goes_back, backward, move_to}

unfoldable pub renamed_result : {G H : Type 0} → (G → H) → Result G → Result H
renamed_result f (refused r) = refused r
renamed_result f (accepted a) = accepted (renamed f a)
renamed_result f (answered v a) = answered v (renamed f a)

module _ {G H : Type 0} (f : G → H) where
  -- ---- the parts of an account
  module _ (a : Account G) where
    pub done-rename : (renamed f a).done ≡ map (rename f) a.done
    unfolding renamed
    done-rename = refl

    pub passed-rename : (renamed f a).passed ≡ map (rename f) a.passed
    unfolding renamed
    passed-rename = refl

    pub rest-rename : (renamed f a).rest ≡ map (rename f) a.rest
    unfolding renamed
    rest-rename = refl

    pub state-rename : (renamed f a).state ≡ a.state
    unfolding renamed
    state-rename = refl

    pub has_output-rename : has_output (renamed f a) ≡ has_output a
    unfolding renamed has_output
    has_output-rename = refl

    pub has_positions-rename : has_positions (renamed f a) ≡ has_positions a
    unfolding renamed has_positions
    has_positions-rename = refl

    pub is_spoiled-rename : is_spoiled (renamed f a) ≡ is_spoiled a
    unfolding renamed is_spoiled
    is_spoiled-rename = refl

  ruleset parts = (records.renaming, done-rename, passed-rename, rest-rename, state-rename, has_output-rename, has_positions-rename, is_spoiled-rename)

  module _ (a : Account G) where
    pub input-rename : input (renamed f a) ≡ map (rename f) (input a)
    unfolding input
    input-rename = simp parts

    pub len-rename : len (renamed f a) ≡ len a
    unfolding len
    len-rename = simp parts

    pub idx-rename : idx (renamed f a) ≡ idx a
    unfolding idx
    idx-rename = simp parts

    pub out_length-rename : out_length (renamed f a) ≡ out_length a
    unfolding out_length
    out_length-rename = simp parts

    pub positions-rename : positions (renamed f a) ≡ positions a
    unfolding positions
    positions-rename = simp (parts, input-rename, records.words-rename f (λ i. i.position))

    pub limiting-rename : (h : Limits → Limits) → limiting h (renamed f a) ≡ renamed f (limiting h a)
    unfolding renamed limiting
    limiting-rename h = refl

    pub paying-rename : (n : ℕ) → paying n (renamed f a) ≡ renamed f (paying n a)
    unfolding paying
    paying-rename n = simp limiting-rename

    pub failing-rename : failing (renamed f a) ≡ renamed f (failing a)
    unfolding failing
    failing-rename = simp limiting-rename

    pub sized-rename : (n : ℕ) → sized n (renamed f a) ≡ renamed f (sized n a)
    unfolding sized
    sized-rename n = simp limiting-rename

    -- ---- what moves
    pub moved-rename : (n : ℕ) → moved n (renamed f a) ≡ renamed f (moved n a)
    unfolding renamed moved
    moved-rename n = simp parts

    pub dropping-rename : (n : ℕ) → dropping n (renamed f a) ≡ renamed f (dropping n a)
    unfolding renamed dropping
    dropping-rename n = simp parts

    back-rename : (n : ℕ) → back n (renamed f a) ≡ renamed f (back n a)
    unfolding renamed back
    back-rename n = simp parts

    pub cursor_at-rename : (n : ℕ) → cursor_at n (renamed f a) ≡ renamed f (cursor_at n a)
    unfolding renamed cursor_at input
    cursor_at-rename n = simp parts

    growing-rename : (n : ℕ) → growing n (renamed f a) ≡ renamed f (growing n a)
    unfolding renamed growing
    growing-rename n = refl

    swapped-rename : output_as_run (renamed f a) ≡ renamed f (output_as_run a)
    unfolding renamed output_as_run
    swapped-rename = refl

    spoiling-rename : spoiling (renamed f a) ≡ renamed f (spoiling a)
    unfolding renamed spoiling len
    spoiling-rename = simp parts

  module _ (a : Account G) (l : List (Glyph G)) where
    pub with_input-rename : with_input (map (rename f) l) (renamed f a) ≡ renamed f (with_input l a)
    unfolding renamed with_input
    with_input-rename = simp parts

    pub with_done-rename : with_done (map (rename f) l) (renamed f a) ≡ renamed f (with_done l a)
    unfolding renamed with_done
    with_done-rename = refl

    pub with_rest-rename : with_rest (map (rename f) l) (renamed f a) ≡ renamed f (with_rest l a)
    unfolding renamed with_rest
    with_rest-rename = refl

  -- renamed again
  pub renamed-twice : {K : Type 0} (g : H → K) (a : Account G) → renamed g (renamed f a) ≡ renamed (λ x. g (f x)) a
  unfolding renamed
  renamed-twice g a = simp (records.rename-twice f g)

  -- a fresh account holds no glyph
  pub fresh-renamed : (level wants : ℕ) → renamed f (fresh_account level wants) ≡ fresh_account level wants
  unfolding renamed fresh_account
  fresh-renamed level wants = refl

  without_positions-rename : (l : List (Glyph G)) → without_positions (map (rename f) l) ≡ map (rename f) (without_positions l)
  unfolding without_positions
  without_positions-rename l = simp parts

  opened-rename : (a : Account G) → opened (renamed f a) ≡ renamed f (opened a)
  unfolding renamed opened input
  opened-rename a = simp (parts, without_positions-rename)

  positioned-rename : (a : Account G) → positioned (renamed f a) ≡ renamed f (positioned a)
  unfolding renamed positioned
  positioned-rename a = simp (parts, without_positions-rename)

  -- ---- results
  pub cond-rename : (b : Bool) (x y : Account G) → cond b (renamed f x) (renamed f y) ≡ renamed f (cond b x y)
  cond-rename true x y = refl
  cond-rename false x y = refl

  pub choice-rename : (b : Bool) (x y : Result G) → cond b (renamed_result f x) (renamed_result f y) ≡ renamed_result f (cond b x y)
  choice-rename true x y = refl
  choice-rename false x y = refl

  pub accepted-rename : (a : Account G) → accepted (renamed f a) ≡ renamed_result f (accepted a)
  unfolding renamed_result
  accepted-rename a = refl

  pub answered-rename : (v : ℕ) (a : Account G) → answered v (renamed f a) ≡ renamed_result f (answered v a)
  unfolding renamed_result
  answered-rename v a = refl

  pub refused-rename : (r : Refusal) → refused r ≡ renamed_result f (refused r)
  unfolding renamed_result
  refused-rename r = refl

  pub refuse-rename : (r : Refusal) (b : Bool) (x : Result G) → (refuse r when b else renamed_result f x) ≡ renamed_result f (refuse r when b else x)
  unfolding refuse◌when◌else◌ renamed_result
  refuse-rename r true x = refl
  refuse-rename r false x = refl

  pub needing-rename : (capacity n : ℕ) (a : Account G) (x y : Result G) → needing capacity n (renamed f a) (renamed_result f x) (renamed_result f y) ≡ renamed_result f (needing capacity n a x y)
  unfolding needing
  needing-rename capacity n a x y = simp (state-rename, refused-rename, choice-rename)

pub ruleset renaming = (records.renaming, done-rename, passed-rename, rest-rename, state-rename, has_output-rename, has_positions-rename, is_spoiled-rename, input-rename, len-rename, idx-rename, out_length-rename, limiting-rename, paying-rename, failing-rename, sized-rename, moved-rename, dropping-rename, cursor_at-rename, with_input-rename, with_done-rename, with_rest-rename, cond-rename, choice-rename, accepted-rename, answered-rename, refuse-rename, needing-rename)

-- nor does the first buffer, whichever slices are lent
begun : (level wants : ℕ) → Account ℕ
begun level wants = (outcome (fresh_account level 0) (fresh level wants (fresh_account level 0))).after

begun-empty : (f : ℕ → ℕ) (level wants : ℕ) → renamed f (begun level wants) ≡ begun level wants
unfolding begun fresh refuse◌when◌else◌ outcome
begun-empty f level wants = by (ltb 7 wants)
  where
    by : (x : Bool) → renamed f (outcome (fresh_account level 0) (cond x (refused BadOperand) (accepted (fresh_account level wants)))).after ≡ (outcome (fresh_account level 0) (cond x (refused BadOperand) (accepted (fresh_account level wants)))).after
    by true = fresh-renamed f level 0
    by false = fresh-renamed f level wants

module _ {level wants : ℕ} {r : Reply} (v : Begins level wants r) where
  begun-account : (first second : List ℕ) → account r.buffer first second ≡ begun level wants
  unfolding begun
  begun-account first second = ap (λ (o : Outcome ℕ). o.after) (v.is first second)

  -- it is the same in other slices
  pub begun-same : (first second first' second' : List ℕ) → account r.buffer first' second' ≡ account r.buffer first second
  begun-same first second first' second' = begun-account first' second' ∙ sym (begun-account first second)

  pub begun-renamed : (f : ℕ → ℕ) (first second first' second' : List ℕ) → account r.buffer first' second' ≡ renamed f (account r.buffer first second)
  begun-renamed f first second first' second' = begun-account first' second' ∙ (sym (begun-empty f level wants) ∙ ap (renamed f) (sym (begun-account first second)))

-- ---- calls
module _ {G H : Type 0} (f : G → H) (a : Account G) where
  pub fresh-rename : (level wants : ℕ) → fresh level wants (renamed f a) ≡ renamed_result f (fresh level wants a)
  unfolding fresh renamed renamed_result fresh_account
  fresh-rename level wants = refuse-rename f _ _ (accepted (fresh_account level wants))

  pub enter-rename : enter (renamed f a) ≡ renamed_result f (enter a)
  unfolding enter
  enter-rename = simp renaming

  pub leave-rename : leave (renamed f a) ≡ renamed_result f (leave a)
  unfolding leave
  leave-rename = simp renaming

  pub allocate_lig_id-rename : allocate_lig_id (renamed f a) ≡ renamed_result f (allocate_lig_id a)
  unfolding allocate_lig_id
  allocate_lig_id-rename = simp renaming

  pub clear_output-rename : clear_output (renamed f a) ≡ renamed_result f (clear_output a)
  unfolding clear_output
  clear_output-rename = simp (renaming, opened-rename)

  pub clear_positions-rename : clear_positions (renamed f a) ≡ renamed_result f (clear_positions a)
  unfolding clear_positions
  clear_positions-rename = simp (renaming, positioned-rename)

  pub next_glyphs-rename : (capacity n : ℕ) → next_glyphs capacity n (renamed f a) ≡ renamed_result f (next_glyphs capacity n a)
  unfolding next_glyphs
  next_glyphs-rename capacity n = simp renaming

  pub skip_glyph-rename : skip_glyph (renamed f a) ≡ renamed_result f (skip_glyph a)
  unfolding skip_glyph
  skip_glyph-rename = simp renaming

  pub sync-rename : (capacity : ℕ) → sync capacity (renamed f a) ≡ renamed_result f (sync capacity a)
  unfolding sync
  sync-rename capacity = simp (renaming, swapped-rename, spoiling-rename)

  pays_for-rename : (n : ℕ) (x : Result G) → pays_for n (renamed f a) (renamed_result f x) ≡ renamed_result f (pays_for n a x)
  unfolding pays_for
  pays_for-rename n x = simp renaming

module _ {G H : Type 0} (f : G → H) where
  forward-rename : (capacity n : ℕ) (a : Account G) → forward capacity n (renamed f a) ≡ renamed_result f (forward capacity n a)
  unfolding forward
  forward-rename capacity n a = simp (renaming, pays_for-rename)

  goes_back-rename : (n : ℕ) (a : Account G) → goes_back n (renamed f a) ≡ renamed_result f (goes_back n a)
  unfolding goes_back
  goes_back-rename n a = simp (renaming, pays_for-rename, back-rename)

  backward-rename : (capacity n : ℕ) (a : Account G) → backward capacity n (renamed f a) ≡ renamed_result f (backward capacity n a)
  unfolding backward
  backward-rename capacity n a = simp (renaming, pays_for-rename, goes_back-rename, growing-rename)

  pub move_to-rename : (a : Account G) (capacity i : ℕ) → move_to capacity i (renamed f a) ≡ renamed_result f (move_to capacity i a)
  unfolding move_to
  move_to-rename a capacity i = simp (renaming, forward-rename, backward-rename)

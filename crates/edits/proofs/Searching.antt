-- By which level clusters are sought and marked: bit 2 of wants switches level 3 to level 2's way (document 02, N11).
use mathlib.Core.{Path.◌≡◌, Path.refl, Path.ap, Path.ap₂, Path.sym, Path.◌∙◌, Bool.Bool, Bool.true, Bool.false, Bool.cond, Bool.◌&&◌, List.List}
use Rattle.std.proofs.Common.{ℕ, ◌-◌, ◌/◌, ◌%◌, min, arith, le-ltb, eq-eqb, eqb-true, leb-false, leb-true}
use lib.{Dec.eqb, Dec.leb, Dec.ltb, ListN.take, ListN.drop, Seq.slice}
use Rattle.records.specs.{Glyphs.Glyph, Ranges.clusters}
use Rattle.lists.specs.declared.Buffer.{Buffer}
use Rattle.lists.specs.{Account.Account, Account.State, Account.read_level, Account.input, Account.out_length, Account.with_input, Account.with_done, Contract.state_of}
use Rattle.lists.proofs.{Changed.state-level, Changed.state-wants, Simple.low-level, Simple.high-level}
use Rattle.edits.specs.Flags.{search_level, sought, interior, flag_interior, flag_out_interior, SearchesWhole, SearchesAsBefore, Searches}
use Rattle.edits.specs.inner.Holding.{holds}

-- ---- of a state
abbrev pub searching : State → ℕ
searching k = search_level k.level k.wants

pub searching-held : (run out : List (Glyph ℕ)) (gone idx len out_length : ℕ) (k : State) → searching (holds run out gone idx len out_length k).state ≡ searching k
unfolding holds
searching-held run out gone idx len out_length k = refl

pub state-searching : (b : Buffer) → searching (state_of b) ≡ search_level (read_level b.level) b.wants
state-searching b = ap₂ search_level (state-level b) (state-wants b)

-- ---- of a level and wants
module _ (level wants : ℕ) where
  switched : level ≡ 3 → wants / 4 % 2 ≡ 1 → search_level level wants ≡ 2
  unfolding search_level
  switched e w = rw (eq-eqb level 3 e, eq-eqb (wants / 4 % 2) 1 w)

  not-switched : (level ≡ 3 → wants / 4 % 2 ≡ 1 → ⊥) → search_level level wants ≡ level
  unfolding search_level
  not-switched n = by (eqb level 3) (eqb (wants / 4 % 2) 1) refl refl
    where
      by : (x y : Bool) → eqb level 3 ≡ x → eqb (wants / 4 % 2) 1 ≡ y → cond (x && y) 2 level ≡ level
      by true true h k = absurd (n (eqb-true level 3 h) (eqb-true (wants / 4 % 2) 1 k))
      by true false h k = refl
      by false y h k = refl

-- what the code's tests say of them
module _ (level wants : ℕ) where
  pub search-switched : level ≡ 3 → wants / 4 % 2 ≡ 1 → read_level 2 ≡ search_level (read_level level) wants
  search-switched e w = sym (low-level 2 (omega arith)) ∙ sym (switched (read_level level) wants (sym (low-level level (omega (arith, e))) ∙ e) w)

  pub search-clear : (wants / 4 % 2 ≡ 1 → ⊥) → read_level level ≡ search_level (read_level level) wants
  search-clear w = sym (not-switched (read_level level) wants (λ e. w))

  pub search-other : (level ≡ 3 → ⊥) → read_level level ≡ search_level (read_level level) wants
  search-other n = sym (not-switched (read_level level) wants (λ e w. n (by (leb level 3) refl e)))
    where
      by : (x : Bool) → leb level 3 ≡ x → read_level level ≡ 3 → level ≡ 3
      by true h e = low-level level (leb-true level 3 h) ∙ e
      by false h e = omega (arith, high-level level (leb-false level 3 h), e)

-- ---- the theorem: with the bit at level 3, the whole range; else as it was
module _ {G : Type 0} (a : Account G) where
  -- the two definitions at any level
  abbrev plain_at : (bits i j level : ℕ) → Account G
  plain_at bits i j level = cond (ltb (j - i) 2) a (with_input (interior level (sought level (slice i j (clusters (input a)))) bits i j (input a)) a)

  abbrev outbuffer_at : (bits i j level : ℕ) → Account G
  outbuffer_at bits i j level =
      let m = min (sought level (drop i (clusters a.done))) (sought level (take j (clusters (input a)))) in
      with_done (interior level m bits i (out_length a) a.done) (with_input (interior level m bits 0 j (input a)) a)

  searches-whole : searching a.state ≡ 2 → SearchesWhole a
  unfolding flag_interior flag_out_interior interior sought
  searches-whole e = record { plain = λ bits i j two. ap (plain_at bits i j) e ∙ rw (le-ltb (j - i) 2 two); outbuffer = λ bits i j. ap (outbuffer_at bits i j) e }

  as_before : searching a.state ≡ a.state.level → SearchesAsBefore a
  unfolding flag_interior flag_out_interior
  as_before e = record { plain = λ bits i j. ap (plain_at bits i j) e; outbuffer = λ bits i j. ap (outbuffer_at bits i j) e }

  pub searches : Searches a
  searches = record { set = λ e w. searches-whole (switched a.state.level a.state.wants e w); clear = λ n. as_before (not-switched a.state.level a.state.wants n) }

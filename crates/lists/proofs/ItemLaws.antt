-- What a buffer shows, one thing after the other: where each thing lies, and how many there are.
use mathlib.Core.{Path.◌≡◌, Path.refl, Path.sym, Path.ap, Path.◌∙◌, Bool.Bool, Bool.true, Bool.false, Bool.cond, Bool.false≢true, List.List, List.[], List.◌∷◌, List.◌++◌, List.map}
use Prim.Native.Nat.{ℕ, zero, suc, ◌+◌, ◌-◌, ◌^◌, ◌≤◌, ◌<◌}
use native.Mathlib.Omega.{arith}
use Rattle.std.specs.Prelude.{Option, None, Some, slice_get}
use Rattle.std.specs.Option.{option_map}
use Rattle.std.proofs.lemmas.Option.{slice_get-get_or, slice_get-map, slice_get_past}
use lib.{ListN.length, ListN.get_or, ListN.take, ListN.length-map, ListN.length-append, Seq.slice, Seq.get_or-take, Seq.get_or-drop, Seq.length-take-le}
use Rattle.records.specs.{Phase, Plain, Output, Positions, Spoiled, Position, Glyphs.Glyph, Glyphs.zero_position, View.glyphs, View.positions_in, View.paired, View.seen, View.stored, inner.Stores.zero_glyph}
use Rattle.records.proofs.{View.stored-seen, View.glyphs-same, View.positions-glyphs, Pairs.paired-stored, Pairs.paired-positions, Renaming.take-map}
use Rattle.records.specs.declared.GlyphInfo.{GlyphInfo}
use Rattle.lists.specs.{declared.Buffer.Buffer, declared.Item.Item, declared.Item.TheVariants.OfDone, declared.Item.TheVariants.OfPassed, declared.Item.TheVariants.OfRest, declared.Item.TheVariants.OfPosition}
use Rattle.lists.specs.Account.{Account, output_phase, positions_phase, spoiled_phase, input, positions, out_length}
use Rattle.lists.specs.{Contract.shown, Contract.gone_of, Contract.account_of, Contract.account, Contract.sound, inner.Held.Soundness, inner.Held.Held}
use Rattle.lists.specs.Contract.{items}
use Rattle.lists.proofs.Accounts.{positions-of, length-shown, out_of, rest_of, gone-in, passed-of, gone-spoiled, places_in, gone-within, input-length}
use Rattle.lists.proofs.SoundLaws.{held_first, held-second, out-fits, sound-held, is-sound, is-unsound, soundness}
use Rattle.lists.proofs.Outputs.{gone-without}
use Rattle.records.proofs.Made.{map_at}
use Rattle.lists.proofs.Simple.{input_of, on-account}

-- ---- lists one after the other, each of its own kind
module _ {A B : Type 0} (f : A → B) where
  map-within : (l : List A) (m : List B) (k : ℕ) (d : A) → k < length l → slice_get (map f l ++ m) k ≡ Some (f (get_or l k d))
  map-within [] m k d h = absurd (omega arith)
  map-within (x ∷ l) m zero d h = refl
  map-within (x ∷ l) m (suc k) d h = map-within l m k d (omega arith)

  map-past : (l : List A) (m : List B) (k i : ℕ) → length l + k ≡ i → slice_get (map f l ++ m) i ≡ slice_get m k
  map-past [] m k i e = let at : i ≡ k = omega arith in ap (slice_get m) at
  map-past (x ∷ l) m k zero e = absurd (omega arith)
  map-past (x ∷ l) m k (suc i) e = map-past l m k i (omega arith)

empty : {A : Type 0} (l : List A) → length l ≡ 0 → l ≡ []
empty [] e = refl
empty (x ∷ l) e = absurd (omega (arith, e))

slice_at : {A : Type 0} (f t : ℕ) (l : List A) (i : ℕ) (d : A) → f + i < t → get_or (slice f t l) i d ≡ get_or l (f + i) d
slice_at f t l i d h = get_or-drop f (take t l) i d ∙ get_or-take t l (f + i) d h

-- ---- phases
spoiled-clean : (p : Phase) → spoiled_phase p ≡ true → (positions_phase p ≡ false) × (output_phase p ≡ false)
spoiled-clean Plain h = absurd (false≢true h)
spoiled-clean Output h = absurd (false≢true h)
spoiled-clean Positions h = absurd (false≢true h)
spoiled-clean Spoiled h = (refl, refl)

placed-clean : (p : Phase) → positions_phase p ≡ true → (output_phase p ≡ false) × (spoiled_phase p ≡ false) × (p ≡ Positions)
placed-clean Plain h = absurd (false≢true h)
placed-clean Output h = absurd (false≢true h)
placed-clean Positions h = (refl, refl, refl)
placed-clean Spoiled h = absurd (false≢true h)

-- a position is no word of a glyph
shown-stored : (p : Phase) (run other : List ℕ) → spoiled_phase p ≡ false → map stored (shown p run other) ≡ map stored (glyphs run)
unfolding shown
shown-stored Plain run other h = refl
shown-stored Output run other h = refl
shown-stored Positions run other h = paired-stored (glyphs run) (positions_in other)
shown-stored Spoiled run other h = absurd (false≢true (sym h))

stored_at : (p : Phase) (run other : List ℕ) (i : ℕ) → spoiled_phase p ≡ false → i < length (glyphs run) → stored (get_or (shown p run other) i zero_glyph) ≡ stored (get_or (glyphs run) i zero_glyph)
stored_at p run other i h k =
    let e : length (shown p run other) ≡ length (glyphs run) = length-shown p run other h in
    sym (map_at stored (shown p run other) i zero_glyph (stored zero_glyph) (omega arith))
    ∙ (ap (λ (l : List GlyphInfo). get_or l i (stored zero_glyph)) (shown-stored p run other h) ∙ map_at stored (glyphs run) i zero_glyph (stored zero_glyph) k)

-- ---- positions by themselves
module _ (p : Phase) {t : Bool} (ps : List Position) {n k : ℕ} (l : n ≤ length ps) (e : t ≡ positions_phase p) (h : t ≡ true) where
  pub place_at : {q : Position} → k < n → q ≡ get_or ps k zero_position → Some (OfPosition q) ≡ slice_get (map OfPosition (cond (positions_phase p) (take n ps) [])) k
  place_at i eq =
      let m : length (take n ps) ≡ n = length-take-le n ps l in
      rw (sym e ∙ h) (sym (slice_get-map OfPosition (take n ps) k ∙ ap (option_map OfPosition) (slice_get-get_or (take n ps) k zero_position (omega arith) ∙ ap Some (get_or-take n ps k zero_position i ∙ sym eq))))

  pub place-past : n ≤ k → None ≡ slice_get (map OfPosition (cond (positions_phase p) (take n ps) [])) k
  place-past i =
      let m : length (map OfPosition (take n ps)) ≡ n = length-map (take n ps) OfPosition ∙ length-take-le n ps l in
      rw (sym e ∙ h) (sym (slice_get_past (map OfPosition (take n ps)) k (omega arith)))

pub place_none : (p : Phase) {t : Bool} (ps : List Position) (n k : ℕ) → t ≡ positions_phase p → t ≡ false → None ≡ slice_get (map OfPosition (cond (positions_phase p) (take n ps) [])) k
place_none p ps n k e h = rw (sym e ∙ h)

-- ---- where each thing lies
module _ (b : Buffer) (run other : List ℕ) (v : Held b run other) where
  clean : gone_of b < b.len.0 → spoiled_phase b.phase ≡ false
  clean h = by-test (spoiled_phase b.phase) refl
    where
      by-test : (t : Bool) → spoiled_phase b.phase ≡ t → spoiled_phase b.phase ≡ false
      by-test true e = absurd (omega (arith, gone-spoiled b e))
      by-test false e = e

  -- the positions are those of the other slice
  pub positions-are : positions (account_of b run other) ≡ cond (positions_phase b.phase) (take b.len.0 (positions_in other)) []
  unfolding positions shown
  positions-are = rw (positions-of b run other) (by-test (positions_phase b.phase) refl)
    where
      by-test : (t : Bool) → positions_phase b.phase ≡ t → cond t (map (λ g. g.info.position) (input (account_of b run other))) [] ≡ cond t (take b.len.0 (positions_in other)) []
      by-test true h =
          let p = placed-clean b.phase h in
          let n : length (glyphs run) ≡ length (positions_in other) = glyphs-same run other v.same ∙ sym (positions-glyphs other) in
          ap (map (λ (g : Glyph ℕ). g.info.position)) (input_of b run other v p.0 p.1 ∙ ap (λ (q : Phase). take b.len.0 (shown q run other)) p.2)
          ∙ (sym (take-map (λ (g : Glyph ℕ). g.info.position) b.len.0 (paired (glyphs run) (positions_in other)))
          ∙ ap (take b.len.0) (paired-positions (glyphs run) (positions_in other) n))
      by-test false h = refl

  abbrev shows : Account ℕ
  shows = account_of b run other

  -- what is shown after the output
  abbrev after : List Item
  after = map (λ g. OfPassed (stored g)) shows.passed ++ (map (λ g. OfRest (stored g)) shows.rest ++ map OfPosition (positions shows))

  glyphs_of : (x : Bool) → glyphs (cond x other run) ≡ cond x (glyphs other) (glyphs run)
  glyphs_of true = refl
  glyphs_of false = refl

  module _ (k : ℕ) where
    done_at : k < b.out_len.0 → slice_get (items shows) k ≡ Some (OfDone (stored (get_or shows.done k zero_glyph)))
    unfolding items out_length
    done_at h = let e : length shows.done ≡ b.out_len.0 = out_of b run other v in map-within (λ g. OfDone (stored g)) shows.done _ k zero_glyph (omega arith)

    module _ {o : List ℕ} (eo : o ≡ cond b.have_separate_output other run) (h : k < b.out_len.0) where
      done-of : {g : GlyphInfo} → seen g ≡ get_or (cond b.have_separate_output (glyphs other) (glyphs run)) k zero_glyph → Some (OfDone g) ≡ slice_get (items shows) k
      unfolding account_of
      done-of {g} e = sym (done_at h ∙ ap Some (ap OfDone (ap stored (get_or-take b.out_len.0 _ k zero_glyph h ∙ sym e) ∙ stored-seen g)))

      pub done-room : k < length (glyphs o)
      done-room = rw (eo, glyphs_of b.have_separate_output) (omega (arith, out-fits v b.have_separate_output))

      pub done-shown : {g : GlyphInfo} → seen g ≡ get_or (glyphs o) k zero_glyph → Some (OfDone g) ≡ slice_get (items shows) k
      done-shown e = done-of (e ∙ ap (λ (l : List (Glyph ℕ)). get_or l k zero_glyph) (ap glyphs eo ∙ glyphs_of b.have_separate_output))

    past-done : slice_get (items shows) (b.out_len.0 + k) ≡ slice_get after k
    unfolding items out_length
    past-done = let e : length shows.done ≡ b.out_len.0 = out_of b run other v in map-past (λ g. OfDone (stored g)) shows.done _ k _ (omega arith)

    pub item-after : {r : Option Item} → b.out_len.0 ≤ k → r ≡ slice_get (items shows) (b.out_len.0 + (k - b.out_len.0)) → r ≡ slice_get (items shows) k
    item-after h e = let at : b.out_len.0 + (k - b.out_len.0) ≡ k = omega arith in e ∙ ap (slice_get (items shows)) at

    module _ {from : ℕ} (ef : from ≡ gone_of b) where
      module _ {g : GlyphInfo} (e : seen g ≡ get_or (glyphs run) (from + k) zero_glyph) where
        pub passed-at : k < b.len.0 - from → from + k < b.idx.0 → Some (OfPassed g) ≡ slice_get (items shows) (b.out_len.0 + k)
        unfolding account_of
        passed-at n h =
            let c : spoiled_phase b.phase ≡ false = clean (omega arith) in
            let l : length shows.passed ≡ b.idx.0 - gone_of b = passed-of b run other v c in
            let w : stored (get_or shows.passed k zero_glyph) ≡ g =
            ap stored (slice_at (gone_of b) b.idx.0 (shown b.phase run other) k zero_glyph (omega arith))
            ∙ (stored_at b.phase run other (gone_of b + k) c (omega arith) ∙ (rw (← ef) (ap stored (sym e)) ∙ stored-seen g)) in
            sym (past-done ∙ (map-within (λ x. OfPassed (stored x)) shows.passed _ k zero_glyph (omega arith) ∙ ap Some (ap OfPassed w)))

        pub rest_at : k < b.len.0 - from → b.idx.0 ≤ from + k → Some (OfRest g) ≡ slice_get (items shows) (b.out_len.0 + k)
        unfolding account_of
        rest_at n h =
            let c : spoiled_phase b.phase ≡ false = clean (omega arith) in
            let l : length shows.passed ≡ b.idx.0 - gone_of b = passed-of b run other v c in
            let m : length shows.rest ≡ b.len.0 - b.idx.0 = rest_of b run other v c in
            let i : gone_of b ≤ b.idx.0 = gone-in b run other v c in
            let j : ℕ = k - (b.idx.0 - gone_of b) in
            let w : stored (get_or shows.rest j zero_glyph) ≡ g =
            ap stored (slice_at b.idx.0 b.len.0 (shown b.phase run other) j zero_glyph (omega arith))
            ∙ (stored_at b.phase run other (b.idx.0 + j) c (omega arith)
            ∙ (ap (λ (x : ℕ). stored (get_or (glyphs run) x zero_glyph)) (omega arith) ∙ (ap stored (sym e) ∙ stored-seen g))) in
            sym (past-done
            ∙ (map-past (λ x. OfPassed (stored x)) shows.passed _ j k (omega arith)
            ∙ (map-within (λ x. OfRest (stored x)) shows.rest _ j zero_glyph (omega arith) ∙ ap Some (ap OfRest w))))

      -- past the glyphs
      pub placed_at : {r : Option Item} → b.len.0 - from ≤ k → r ≡ slice_get (map OfPosition (cond (positions_phase b.phase) (take b.len.0 (positions_in other)) [])) (k - (b.len.0 - from)) → r ≡ slice_get (items shows) (b.out_len.0 + k)
      placed_at h e =
          let l : length shows.passed + length shows.rest ≡ b.len.0 - gone_of b = input-length b run other v in
          let j : ℕ = k - (b.len.0 - from) in
          e ∙ sym (past-done
          ∙ (map-past (λ x. OfPassed (stored x)) shows.passed _ (length shows.rest + j) k (omega arith)
          ∙ (map-past (λ x. OfRest (stored x)) shows.rest _ j _ refl
          ∙ ap (λ (ps : List Position). slice_get (map OfPosition ps) j) positions-are)))

  -- ---- how many
  items-length : length (items shows) ≡ b.out_len.0 + (b.len.0 - gone_of b) + length (cond (positions_phase b.phase) (take b.len.0 (positions_in other)) [])
  unfolding items out_length
  items-length =
      let n : length shows.done ≡ b.out_len.0 = out_of b run other v in
      let l : length shows.passed + length shows.rest ≡ b.len.0 - gone_of b = input-length b run other v in
      simp (length-append, length-map) (rw positions-are (omega arith))

  count-placed : positions_phase b.phase ≡ true → length (items shows) ≡ b.len.0 - gone_of b + (b.len.0 - gone_of b)
  count-placed h =
      let p = placed-clean b.phase h in
      let none : b.out_len.0 ≡ 0 = v.none p.0 in
      let gone : gone_of b ≡ 0 = gone-without b p.0 p.1 in
      let n : length (take b.len.0 (positions_in other)) ≡ b.len.0 = length-take-le b.len.0 (positions_in other) (places_in b run other v) in
      items-length ∙ rw h (omega arith)

  count-plain : positions_phase b.phase ≡ false → length (items shows) ≡ b.out_len.0 + (b.len.0 - gone_of b)
  count-plain h = items-length ∙ rw h (omega arith)

-- ---- of a sound buffer
module _ (b : Buffer) (f s : List ℕ) (h : sound b f s ≡ true) where
  v : Held b f s
  v = sound-held b f s h

  counted-placed : positions_phase b.phase ≡ true → length (items (account b f s)) ≡ b.len.0 - gone_of b + (b.len.0 - gone_of b)
  counted-placed p = on-account b f s (λ a. length (items a) ≡ b.len.0 - gone_of b + (b.len.0 - gone_of b)) v (λ run other w. count-placed b run other w p)

  counted-plain : positions_phase b.phase ≡ false → length (items (account b f s)) ≡ b.out_len.0 + (b.len.0 - gone_of b)
  counted-plain p = on-account b f s (λ a. length (items a) ≡ b.out_len.0 + (b.len.0 - gone_of b)) v (λ run other w. count-plain b run other w p)

  -- a spoiled buffer shows nothing
  pub items-spoiled : spoiled_phase b.phase ≡ true → items (account b f s) ≡ []
  items-spoiled p = let q = spoiled-clean b.phase p in empty (items (account b f s)) (omega (arith, counted-plain q.0, gone-spoiled b p, v.none q.1))

  -- at most twice as many as glyphs have room
  pub items-few : length (items (account b f s)) ≤ length (glyphs f) + length (glyphs f)
  items-few = by-test (positions_phase b.phase) refl
    where
      by-test : (t : Bool) → positions_phase b.phase ≡ t → length (items (account b f s)) ≤ length (glyphs f) + length (glyphs f)
      by-test true p = omega (arith, counted-placed p, v.len-in, v.all_in)
      by-test false p = omega (arith, counted-plain p, v.len-in, v.out-in, v.all_in)

  pub items-most : length (items (account b f s)) ≤ 2097152
  items-most = omega (arith, items-few, v.most)

-- ---- as the code tests: of a sound buffer, and of one that is not
module _ {b : Buffer} {f s : List ℕ} {t : Bool} (w : Soundness b f s t) where
  pub none-unsound : {A : Type 0} (x : A) {z : A} → t ≡ false → z ≡ cond (sound b f s) x z
  none-unsound x h = rw (is-unsound w h)

  module _ (h : t ≡ true) where
    module _ (k : ℕ) where
      module _ {run other : List ℕ} (er : run ≡ cond b.swapped s f) (eo : other ≡ cond b.swapped f s) where
        pub item-held : Held b run other
        item-held = rw (er, eo) (by_side b.swapped)
          where
            by_side : (x : Bool) → Held b (cond x s f) (cond x f s)
            by_side true = held-second w h
            by_side false = held_first w h

        pub item-shown : {r : Option Item} → r ≡ slice_get (items (account_of b run other)) k → r ≡ cond (sound b f s) (slice_get (items (account b f s)) k) None
        unfolding account
        item-shown e = rw (is-sound w h) (e ∙ (rw (er, eo) (by_side b.swapped)))
          where
            by_side : (x : Bool) → slice_get (items (account_of b (cond x s f) (cond x f s))) k ≡ slice_get (items (cond x (account_of b s f) (account_of b f s))) k
            by_side true = refl
            by_side false = refl

    module _ {gone : ℕ} (e : gone ≡ gone_of b) where
      pub gone-below : gone ≤ b.len.0
      gone-below = omega (arith, e, gone-within b f s (held_first w h))

      pub twice-fits : b.len.0 - gone + (b.len.0 - gone) < 2 ^ 64
      twice-fits = let v = held_first w h in omega arith

      pub both-fit : b.out_len.0 + (b.len.0 - gone) < 2 ^ 64
      both-fit = let v = held_first w h in omega arith

      module _ {p : Bool} (ep : p ≡ positions_phase b.phase) where
        pub count-with-positions : p ≡ true → b.len.0 - gone + (b.len.0 - gone) ≡ cond (sound b f s) (length (items (account b f s))) 0
        count-with-positions q = rw (is-sound w h, e) (sym (counted-placed b f s (is-sound w h) (sym ep ∙ q)))

        pub count-without : p ≡ false → b.out_len.0 + (b.len.0 - gone) ≡ cond (sound b f s) (length (items (account b f s))) 0
        count-without q = rw (is-sound w h, e) (sym (counted-plain b f s (is-sound w h) (sym ep ∙ q)))

-- for the proofs of functions
pub ruleset placing = (place_at, place-past, place_none)

pub ruleset showing = (soundness, done-room, done-shown, item-after, passed-at, rest_at, placed_at, item-held, item-shown, none-unsound, gone-below, twice-fits, both-fit, count-with-positions, count-without, places_in)

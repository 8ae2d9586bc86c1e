-- Flags: calls 15 to 19.
use Rattle.std.specs.Prelude.{◌+◌, ◌-◌, ◌/◌, ◌%◌, ◌≤◌, ◌&&◌, ◌||◌, ◌≡◌, Option, None, Some}
use Rattle.records.specs.Library.{ℕ, min, Bool, false, cond, not, ltb, List, take, drop}
use Rattle.records.specs.Library.{slice}
use Rattle.records.specs.{DonePlace, InputPlace, WrongPhase, OutOfRange, Glyphs.Glyph, Glyphs.flagged, Glyphs.flagged_unless, Ranges.clusters, Ranges.edit}
use Rattle.records.specs.{Ranges.is, Ranges.isnt, Ranges.least, Ranges.first_cluster, Ranges.last_cluster, Ranges.heads, Ranges.tails}
use Rattle.lists.specs.Account.{Account, has_output, is_spoiled, input, len, idx, out_length, with_input, with_done, Result, accepted, refuse◌when◌else◌}

-- "wants (bit 0 unsafe-to-concat, bit 1 tatweel)"; "Wants bit 2 switches level 3 to the search that level 2 has." (document 02, N11)
abbrev pub wants_concat : ℕ → Bool
wants_concat wants = is 1 (wants % 2)

abbrev pub wants_tatweel : ℕ → Bool
wants_tatweel wants = is 1 (wants / 2 % 2)

abbrev pub switches : (level wants : ℕ) → Bool
switches level wants = is 3 level && is 1 (wants / 4 % 2)

-- the level that searches, and marks: "Marking every cluster but the least follows level 2's rule in full there."
unfoldable pub search_level : (level wants : ℕ) → ℕ
search_level level wants = cond (switches level wants) 2 level

-- "m is the least cluster, which only level 2 seeks in the whole range, others at first and last"
abbrev pub seeks_all : ℕ → Bool
seeks_all level = is 2 level

unfoldable pub sought : ℕ → List ℕ → ℕ
sought level r = cond (seeks_all level) (least r) (min (first_cluster r) (last_cluster r))

-- a bound, given or open, as a number
unfoldable pub place_number : {P : Type 0} → (P → ℕ) → Option P → Option ℕ
place_number h None = None
place_number h (Some p) = Some (h p)

-- "both bounds given and end − start, modulo 2^64, over 255". "A place in *done* and a place in the input are counted apart and never stand for each
-- other.": here alone the one is subtracted from the other
unfoldable pub too_far : (start end : Option ℕ) → Bool
too_far None e = false
too_far (Some s) None = false
too_far (Some s) (Some e) = ltb 255 ((e + 18446744073709551616 - s) % 18446744073709551616)

-- "An open start reads as 0, an end open or past `len` then as `len`."
unfoldable pub start_of : Option ℕ → ℕ
start_of None = 0
start_of (Some s) = s

unfoldable pub end_of : Option ℕ → ℕ → ℕ
end_of None n = n
end_of (Some e) n = min e n

module _ {G : Type 0} where
  -- "At level 2, or if m is neither the range's first nor its last cluster, every glyph not of m is marked. Else glyphs are marked from the end back to
  -- the nearest of m if the first has m, otherwise from the start up to it."
  unfoldable pub interior : (level m bits i j : ℕ) → List (Glyph G) → List (Glyph G)
  interior level m bits i j l =
      let r = slice i j (clusters l) in
      cond (seeks_all level || (isnt m (first_cluster r) && isnt m (last_cluster r))) (edit i j (flagged_unless m bits) l)
      (cond (is m (first_cluster r)) (edit (j - tails (isnt m) r) j (flagged bits) l) (edit i (i + heads (isnt m) r) (flagged bits) l))

  -- "a plain range under two glyphs does nothing". i and j are places in the list `input`, `gone` taken off
  unfoldable pub flag_interior : (bits i j : ℕ) → Account G → Account G
  flag_interior bits i j a =
      let level = search_level a.state.level a.state.wants in
      cond (ltb (j - i) 2) a (with_input (interior level (sought level (slice i j (clusters (input a)))) bits i j (input a)) a)

  -- "the outbuffer form takes both lists' ranges together, then marks each alone": from place i of *done* up to place j of *rest*; but at level 2 m is the
  -- least of four, the first and last of each range
  unfoldable pub flag_out_interior : (bits i j : ℕ) → Account G → Account G
  flag_out_interior bits i j a =
      let level = search_level a.state.level a.state.wants in
      let m = min (sought level (drop i (clusters a.done))) (sought level (take j (clusters (input a)))) in
      with_done (interior level m bits i (out_length a) a.done) (with_input (interior level m bits 0 j (input a)) a)

  -- "Concat forms mark the whole range."
  unfoldable pub flag_all : (bits i j : ℕ) → Account G → Account G
  flag_all bits i j a = with_input (edit i j (flagged bits) (input a)) a

  unfoldable pub flag_out_all : (bits i j : ℕ) → Account G → Account G
  flag_out_all bits i j a = with_done (edit i (out_length a) (flagged bits) a.done) (flag_all bits 0 j a)

  -- "In this order: refusal 2; an unwanted concat form does nothing; both bounds given and end − start, modulo 2^64, over 255, nothing happens; refusal 3."
  -- "Plain forms need start ≤ that end and, with output, start ≥ `idx`"
  unfoldable pub plain_form : (interiorly wanted : Bool) (bits : ℕ) (s e : Option InputPlace) → Account G → Result G  -- 15, 16, 17
  plain_form interiorly wanted bits s e a =
      let s' = place_number (λ p. p.0) s in let e' = place_number (λ p. p.0) e in
      let start = start_of s' in let stop = end_of e' (len a) in
      let i = start - a.state.gone in let j = stop - a.state.gone in
      refuse WrongPhase when is_spoiled a else
      cond (not wanted || too_far s' e') (accepted a)
      (refuse OutOfRange when ltb stop start || ltb start a.state.gone else
      accepted (cond interiorly (flag_interior bits i j a) (flag_all bits i j a)))

  -- "outbuffer forms need output, start ≤ `out_len`, `idx` ≤ that end"
  unfoldable pub outbuffer_form : (interiorly wanted : Bool) (bits : ℕ) (s : Option DonePlace) (e : Option InputPlace) → Account G → Result G  -- 18, 19
  outbuffer_form interiorly wanted bits s e a =
      let s' = place_number (λ p. p.0) s in let e' = place_number (λ p. p.0) e in
      let start = start_of s' in let stop = end_of e' (len a) in
      let j = stop - idx a in
      refuse WrongPhase when not (has_output a) else
      cond (not wanted || too_far s' e') (accepted a)
      (refuse OutOfRange when ltb (out_length a) start || ltb stop (idx a) else
      accepted (cond interiorly (flag_out_interior bits start j a) (flag_out_all bits start j a)))

-- ---- what wants bit 2 changes, and that nothing else changes (document 02, N11)
module _ {G : Type 0} (a : Account G) where
  -- "every glyph not of m is marked", where m is the least cluster of the whole range, or of both ranges
  pub record SearchesWhole : Type 0 where
    pub plain : (bits i j : ℕ) → 2 ≤ j - i
        → flag_interior bits i j a ≡ with_input (edit i j (flagged_unless (least (slice i j (clusters (input a)))) bits) (input a)) a
    pub outbuffer : (bits i j : ℕ) → let m = min (least (drop i (clusters a.done))) (least (take j (clusters (input a)))) in
        flag_out_interior bits i j a
        ≡ with_done (edit i (out_length a) (flagged_unless m bits) a.done) (with_input (edit 0 j (flagged_unless m bits) (input a)) a)

  -- the two definitions as they were, word for word
  pub record SearchesAsBefore : Type 0 where
    pub plain : (bits i j : ℕ) → let level = a.state.level in
        flag_interior bits i j a ≡ cond (ltb (j - i) 2) a (with_input (interior level (sought level (slice i j (clusters (input a)))) bits i j (input a)) a)
    pub outbuffer : (bits i j : ℕ) → let level = a.state.level in
        let m = min (sought level (drop i (clusters a.done))) (sought level (take j (clusters (input a)))) in
        flag_out_interior bits i j a ≡ with_done (interior level m bits i (out_length a) a.done) (with_input (interior level m bits 0 j (input a)) a)

  -- "With the bit clear harfrust stays the measure; with it set the rewritten account is.": level 3 with the bit, and every other case
  pub record Searches : Type 0 where
    pub set : a.state.level ≡ 3 → a.state.wants / 4 % 2 ≡ 1 → SearchesWhole
    pub clear : (a.state.level ≡ 3 → a.state.wants / 4 % 2 ≡ 1 → ⊥) → SearchesAsBefore

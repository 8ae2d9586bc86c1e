-- The words of a glyph and of a position that the functions read and write.
use mathlib.Core.{Path.◌≡◌, Path.sym, Path.ap, Path.◌∙◌, Bool.true, Bool.false, List.List}
use Rattle.std.proofs.Common.{ℕ, ◌+◌, ◌*◌, ◌/◌, ◌%◌, ◌<◌, eq-eqb, ne_eqb}
use lib.{ListN.length, ListN.get_or, ListN.set, Seq.set-get_or, Dec.eqb, Bits.bit_and, Bits.bit_or}
use Rattle.records.specs.{declared.Position.Position, declared.GlyphInfo.GlyphInfo}
use Rattle.records.specs.Counters.{capacity_of}
use Rattle.records.specs.Glyphs.{Glyph, change, set_cluster, with_mask, with_cluster, flagged, flagged_unless, key, zero_position}
use Rattle.records.specs.Ranges.{clusters}
use Rattle.records.specs.{View.word, View.up_to, View.made, View.glyph_of, View.glyphs, View.position_of, View.positions_in, View.seen, inner.Stores.zero_glyph, inner.Stores.Put}
use Rattle.records.proofs.Places.{put-place}
use Rattle.records.proofs.Tests.{tested}
use Rattle.records.proofs.View.{length-glyphs, length-positions, cluster-of}
use Rattle.records.proofs.Made.{get_or-made, put-made, two_made, six-made}

-- ---- a place of a glyph is one of the slice, and of a position too
pub glyph_place : (ws : List ℕ) (i : ℕ) → i < length (glyphs ws) → i < capacity_of (length ws)
glyph_place ws i h = rw (length-glyphs ws) at h

pub position_place : (ws : List ℕ) (i : ℕ) → i < length (positions_in ws) → i < capacity_of (length ws)
position_place ws i h = rw (length-positions ws) at h

-- ---- the words that the functions read
module _ (ws : List ℕ) (i : ℕ) (h : i < length (glyphs ws)) where
  get_or-glyphs : get_or (glyphs ws) i zero_glyph ≡ glyph_of (word ws 0 i) (word ws 1 i) (word ws 2 i) (word ws 3 i) (word ws 4 i) (word ws 5 i)
  unfolding glyphs made up_to
  get_or-glyphs = get_or-made glyph_of ws i zero_glyph (glyph_place ws i h)

  mask_word : word ws 1 i ≡ (get_or (glyphs ws) i zero_glyph).info.mask
  unfolding glyph_of
  mask_word = sym (ap (λ (g : Glyph ℕ). g.info.mask) get_or-glyphs)

  cluster-word : word ws 2 i ≡ get_or (clusters (glyphs ws)) i 4294967295
  unfolding glyph_of
  cluster-word = sym (cluster-of (glyphs ws) i ∙ ap (λ (g : Glyph ℕ). g.info.cluster) get_or-glyphs)

  pub got-mask : {w : ℕ} → w ≡ word ws 1 i → w ≡ (get_or (glyphs ws) i zero_glyph).info.mask
  got-mask e = e ∙ mask_word

  pub got-cluster : {w : ℕ} → w ≡ word ws 2 i → w ≡ get_or (clusters (glyphs ws)) i 4294967295
  got-cluster e = e ∙ cluster-word

  pub key-first : {w : ℕ} (slot m : ℕ) → w ≡ word ws 3 i → slot ≡ 0 → bit_and m w ≡ key slot m (get_or (glyphs ws) i zero_glyph).info
  unfolding key glyph_of
  key-first slot m p e = rw (p, get_or-glyphs, eq-eqb slot 0 e)

  pub key-second : {w : ℕ} (slot m : ℕ) → w ≡ word ws 4 i → (slot ≡ 0 → ⊥) → bit_and m w ≡ key slot m (get_or (glyphs ws) i zero_glyph).info
  unfolding key glyph_of
  key-second slot m p n = rw (p, get_or-glyphs, ne_eqb slot 0 n)

  -- `set_cluster` where the cluster is there already
  pub same-cluster : (c m : ℕ) → word ws 2 i ≡ c → glyphs ws ≡ set (glyphs ws) i (change (set_cluster c m) (get_or (glyphs ws) i zero_glyph))
  unfolding change set_cluster
  same-cluster c m e =
      let t : eqb (get_or (glyphs ws) i zero_glyph).info.cluster c ≡ true = eq-eqb _ _ (sym (cluster-of (glyphs ws) i) ∙ (sym cluster-word ∙ e)) in
      rw t (sym (set-get_or (glyphs ws) i zero_glyph))

-- what `get` gives
pub got-glyph : (ws : List ℕ) (i : ℕ) {a b c d e f : ℕ} → i < length (glyphs ws) → a ≡ word ws 0 i → b ≡ word ws 1 i → c ≡ word ws 2 i → d ≡ word ws 3 i → e ≡ word ws 4 i → f ≡ word ws 5 i
    → seen (record { glyph = a; mask = b; cluster = c; var0 = d; var1 = e; origin = f }) ≡ get_or (glyphs ws) i zero_glyph
unfolding seen
got-glyph ws i h p₀ p₁ p₂ p₃ p₄ p₅ = sym (get_or-glyphs ws i h ∙ rw (p₀, p₁, p₂, p₃, p₄, p₅))

-- ---- the words that they write
pub new-mask : {ws ws' : List ℕ} {i m : ℕ} → Put ws ws' 1 i m → glyphs ws' ≡ set (glyphs ws) i (change (with_mask m) (get_or (glyphs ws) i zero_glyph))
unfolding glyphs change with_mask glyph_of made up_to
new-mask {ws} {ws'} {i} {m} p = put-made glyph_of p ∙ rw (get_or-made glyph_of ws i zero_glyph p.inside)

pub other-cluster : {ws ws' : List ℕ} {i c : ℕ} → Put ws ws' 2 i c → glyphs ws' ≡ set (glyphs ws) i (change (with_cluster c) (get_or (glyphs ws) i zero_glyph))
unfolding glyphs change with_cluster glyph_of made up_to
other-cluster {ws} {ws'} {i} {c} p = put-made glyph_of p ∙ rw (get_or-made glyph_of ws i zero_glyph p.inside)

pub more-bits : {ws ws' : List ℕ} {i m : ℕ} (bits : ℕ) → i < length (glyphs ws) → m ≡ word ws 1 i → Put ws ws' 1 i (bit_or bits m) → glyphs ws' ≡ set (glyphs ws) i (change (flagged bits) (get_or (glyphs ws) i zero_glyph))
unfolding change flagged
more-bits {ws} {ws'} {i} {m} bits h e p = new-mask p ∙ rw (e, mask_word ws i h)

-- `set_cluster` where the cluster is another
pub new-cluster : {ws ws₁ ws₂ : List ℕ} {i c w x : ℕ} (m : ℕ) → w ≡ word ws 2 i → (w ≡ c → ⊥) → x ≡ word ws 1 i → Put ws ws₁ 1 i (x / 8 * 8 + m % 8) → Put ws₁ ws₂ 2 i c
    → glyphs ws₂ ≡ set (glyphs ws) i (change (set_cluster c m) (get_or (glyphs ws) i zero_glyph))
unfolding glyphs change set_cluster with_cluster with_mask glyph_of made up_to
new-cluster {ws} {ws₁} {ws₂} {i} {c} {w} {x} m ew n ex p q =
    let other : eqb (word ws 2 i) c ≡ false = ne_eqb (word ws 2 i) c (λ e. n (ew ∙ e)) in
    two_made glyph_of p q ∙ rw (get_or-made glyph_of ws i zero_glyph p.inside, other, ex)

-- all six
pub put-glyphs : {w₀ w₁ w₂ w₃ w₄ w₅ w₆ : List ℕ} {i : ℕ} {g : GlyphInfo} → Put w₀ w₁ 0 i g.glyph → Put w₁ w₂ 1 i g.mask → Put w₂ w₃ 2 i g.cluster → Put w₃ w₄ 3 i g.var0 → Put w₄ w₅ 4 i g.var1 → Put w₅ w₆ 5 i g.origin
    → glyphs w₆ ≡ set (glyphs w₀) i (seen g)
unfolding glyphs seen
put-glyphs p₀ p₁ p₂ p₃ p₄ p₅ = six-made glyph_of p₀ p₁ p₂ p₃ p₄ p₅

-- a change with a test of the cluster
module _ (l : List (Glyph ℕ)) (i c bits : ℕ) where
  pub unless-same : get_or (clusters l) i 4294967295 ≡ c → l ≡ set l i (change (flagged_unless c bits) (get_or l i zero_glyph))
  unfolding change flagged_unless
  unless-same e = rw (eq-eqb (get_or l i zero_glyph).info.cluster c (sym (cluster-of l i) ∙ e)) (sym (set-get_or l i zero_glyph))

  pub unless-other : {x : ℕ} {l' : List (Glyph ℕ)} → x ≡ get_or (clusters l) i 4294967295 → (x ≡ c → ⊥) → l' ≡ set l i (change (flagged bits) (get_or l i zero_glyph)) → l' ≡ set l i (change (flagged_unless c bits) (get_or l i zero_glyph))
  unfolding change flagged_unless
  unless-other ex n e = e ∙ rw (ne_eqb (get_or l i zero_glyph).info.cluster c (λ (q : (get_or l i zero_glyph).info.cluster ≡ c). n (ex ∙ (cluster-of l i ∙ q))))

-- ---- positions
pub got-position : (ws : List ℕ) (i : ℕ) {a b c d e f : ℕ} → i < length (positions_in ws) → a ≡ word ws 0 i → b ≡ word ws 1 i → c ≡ word ws 2 i → d ≡ word ws 3 i → e ≡ word ws 4 i → f ≡ word ws 5 i
    → record { x_advance = a; y_advance = b; x_offset = c; y_offset = d; var = e; free = f } ≡ get_or (positions_in ws) i zero_position
unfolding positions_in position_of made up_to
got-position ws i h p₀ p₁ p₂ p₃ p₄ p₅ = sym (get_or-made position_of ws i zero_position (position_place ws i h) ∙ rw (p₀, p₁, p₂, p₃, p₄, p₅))

pub put-positions : {w₀ w₁ w₂ w₃ w₄ w₅ w₆ : List ℕ} {i : ℕ} {p : Position} → Put w₀ w₁ 0 i p.x_advance → Put w₁ w₂ 1 i p.y_advance → Put w₂ w₃ 2 i p.x_offset → Put w₃ w₄ 3 i p.y_offset → Put w₄ w₅ 4 i p.var → Put w₅ w₆ 5 i p.free
    → positions_in w₆ ≡ set (positions_in w₀) i p
unfolding positions_in position_of
put-positions p₀ p₁ p₂ p₃ p₄ p₅ = six-made position_of p₀ p₁ p₂ p₃ p₄ p₅

-- for the proofs of functions
pub ruleset glyph_words = (length-glyphs, glyph_place, put-place, got-mask, got-cluster, key-first, key-second, same-cluster, got-glyph, new-mask, other-cluster, more-bits, new-cluster, put-glyphs, unless-same, unless-other, tested)

pub ruleset position_words = (length-positions, position_place, put-place, got-position, put-positions)

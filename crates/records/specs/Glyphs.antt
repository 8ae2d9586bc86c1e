-- A glyph: its number, and the rest of its words.
-- The number's type is a parameter, G. A definition made for every G cannot test, compare or compute a glyph number: it can only hand it on.
use Rattle.std.specs.Prelude.{◌+◌, ◌*◌, ◌/◌, ◌%◌}
use Rattle.records.specs.Library.{ℕ, cond, eqb, bit_and, bit_or}
use Rattle.records.specs.declared.Position.{Position}

unfoldable pub zero_position : Position
zero_position = record { x_advance = 0; y_advance = 0; x_offset = 0; y_offset = 0; var = 0; free = 0 }

-- all of a glyph but its number. `position` is its position in phase positions, and `zero_position` in the others
pub record Info : Type 0 where
  pub mask : ℕ
  pub cluster : ℕ
  pub var0 : ℕ
  pub var1 : ℕ
  pub origin : ℕ  -- the number of a push, or 0: "The record gets a sixth word, origin." (document 02, N8)
  pub position : Position

pub record Glyph (G : Type 0) : Type 0 where
  pub glyph : G
  pub info : Info

-- the same glyph under another number: the one definition of this crate that turns a glyph number into another
unfoldable pub rename : {G H : Type 0} → (G → H) → Glyph G → Glyph H
rename f g = record { glyph = f g.glyph; info = g.info }

-- the same number with other words
unfoldable pub change : {G : Type 0} → (Info → Info) → Glyph G → Glyph G
change h g = record { glyph = g.glyph; info = h g.info }

unfoldable pub with_mask : ℕ → Info → Info
with_mask m i = record { mask = m; cluster = i.cluster; var0 = i.var0; var1 = i.var1; origin = i.origin; position = i.position }

unfoldable pub with_cluster : ℕ → Info → Info
with_cluster c i = record { mask = i.mask; cluster = c; var0 = i.var0; var1 = i.var1; origin = i.origin; position = i.position }

unfoldable pub with_position : Position → Info → Info
with_position p i = record { mask = i.mask; cluster = i.cluster; var0 = i.var0; var1 = i.var1; origin = i.origin; position = p }

unfoldable pub with_origin : ℕ → Info → Info
with_origin o i = record { mask = i.mask; cluster = i.cluster; var0 = i.var0; var1 = i.var1; origin = o; position = i.position }

-- "`set_cluster` takes the low three bits of the given mask only where the cluster changes."
unfoldable pub set_cluster : (cluster mask : ℕ) → Info → Info
set_cluster c m i = cond (eqb i.cluster c) i (with_cluster c (with_mask (i.mask / 8 * 8 + m % 8) i))

unfoldable pub flagged : (bits : ℕ) → Info → Info  -- these mask bits are set
flagged bits i = with_mask (bit_or bits i.mask) i

unfoldable pub flagged_unless : (cluster bits : ℕ) → Info → Info  -- the same, but for glyphs of this cluster
flagged_unless c bits i = cond (eqb i.cluster c) i (flagged bits i)

-- "Closures become slot k and mask m (added): key = var k AND m."
unfoldable pub key : (slot mask : ℕ) → Info → ℕ
key slot m i = bit_and m (cond (eqb slot 0) i.var0 i.var1)

-- a cluster, and 0 elsewhere: what a filled glyph has, and a pushed one but for its origin
unfoldable pub blank : (cluster : ℕ) → Info
blank c = record { mask = 0; cluster = c; var0 = 0; var1 = 0; origin = 0; position = zero_position }

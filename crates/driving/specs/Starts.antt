-- The buffer that a run begins with.
use Rattle.std.specs.Prelude.{ℕ, true, false}
use Rattle.records.specs.{Plain}
use Rattle.lists.specs.declared.Buffer.{Buffer}

-- n glyphs with so many allocated, at a level
unfoldable pub started : (n allocated level : ℕ) → Buffer
started n allocated level = record {
  idx = record { 0 = 0 };
  len = record { 0 = n };
  out_len = record { 0 = 0 };
  phase = Plain;
  limits = record { allocated = allocated; max_len = 1073741823; max_ops = 536870911; successful = true; serial = 0; pushes = 0 };
  level = level;
  wants = 0;
  swapped = false;
  have_separate_output = false;
}

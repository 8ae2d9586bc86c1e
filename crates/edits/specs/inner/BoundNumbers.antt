-- Bounds of the flag forms as numbers.
use Rattle.std.specs.Prelude.{Option, ℕ}
use Rattle.records.specs.{DonePlace, InputPlace}
use Rattle.edits.specs.{Flags.place_number}

abbrev pub input_number : Option InputPlace → Option ℕ
input_number b = place_number (λ p. p.0) b

abbrev pub done_number : Option DonePlace → Option ℕ
done_number b = place_number (λ p. p.0) b

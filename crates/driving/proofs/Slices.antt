-- What the test of a place says of a slice as glyphs; a store past the end changes nothing.
use Rattle.std.proofs.lemmas.List.{set_past}
use Rattle.records.proofs.{View.length-glyphs, Tests.tested}

pub ruleset in_slice = (length-glyphs, tested, set_past)

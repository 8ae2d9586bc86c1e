-- What `set_masks` comes to.
use Rattle.lists.specs.inner.States.{Decision}
use Rattle.lists.specs.inner.Verdicts.{acts_of}
use mathlib.Core.{List.List}
use Rattle.std.specs.Prelude.{ℕ}
use Rattle.records.specs.{Ranges.edit}
use Rattle.lists.specs.{declared.Buffer.Buffer}
use Rattle.lists.specs.{inner.Verdicts.settled, inner.Verdicts.Decided}
use Rattle.edits.specs.{WholeRun.masked, WholeRun.set_masks, inner.Wholes.RunOf, inner.Wholes.RunBecomes}

pub record SetsMasks (mask : ℕ) (b : Buffer) (f s : List ℕ) (d : Decision) : Type 0 where
  pub is : (value start stop : ℕ) → Decided (λ capacity a. set_masks value mask start stop a) b f s (settled b d) (acts_of d) (RunOf b.phase b.len.0 f s) (RunBecomes (edit 0 b.len.0 (masked value mask start stop)))

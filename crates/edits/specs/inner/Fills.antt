-- What `push`, `set_length` and `place` come to, and what the functions below them leave.
use Rattle.lists.specs.inner.States.{Decision}
use Rattle.lists.specs.inner.Verdicts.{acts_of}
use Rattle.std.specs.Prelude.{Ok, Err, Option}
use Rattle.lists.specs.inner.Held.{Room}
use mathlib.Core.{Path.◌≡◌, Bool.true, Bool.false, Bool.cond, List.List, List.◌++◌}
use Rattle.std.specs.Prelude.{ℕ, ◌-◌, ◌<◌, length, take, drop, replicate, slice_index_or, slice_set}
use Rattle.records.specs.{Phase, InputPlace, Position, Limits, Counters.next_push, Glyphs.with_origin, Glyphs.blank, Glyphs.zero_position, Ranges.copies, View.glyphs, View.positions_in}
use Rattle.lists.specs.{declared.Buffer.Buffer}
use Rattle.lists.specs.{Contract.shown, inner.Held.room_for, inner.States.at_places, inner.States.with_limits_of, inner.Verdicts.leaving, inner.Verdicts.failed_buffer, inner.Verdicts.settled, inner.Verdicts.Decided}
use Rattle.edits.specs.{WholeRun.push, WholeRun.set_length, WholeRun.place, inner.Wholes.RunOf}

-- a run of n glyphs, with other limits
unfoldable pub longer_buffer : ℕ → Limits → Buffer → Buffer
longer_buffer n l b = at_places b.idx.0 n b.out_len.0 (with_limits_of l b)

-- the run gets n glyphs, by what was found of their size, and limits l where it is there
abbrev pub by_length : Room → ℕ → Limits → (there short : Option ℕ) → Buffer → Decision
by_length room n l there short b = elim room [ Ok fits ↦ cond fits (leaving (longer_buffer n l b) true there) (leaving (failed_buffer b) false short) | Err why ↦ Err why ]

pub record Lengthens (capacity n : ℕ) (l : Limits) (there short : Option ℕ) (b : Buffer) (d : Decision) : Type 0 where
  pub is : d ≡ by_length (room_for capacity n b.limits) n l there short b

-- ---- push
pub record Puttable (at : ℕ) (f s : List ℕ) : Type 0 where
  pub in-first : at < length (glyphs f)
  pub in-second : at < length (glyphs s)

pub record Put (at number cluster origin : ℕ) (run other run' other' : List ℕ) : Type 0 where
  pub run_is : glyphs run' ≡ slice_set (glyphs run) at (record { glyph = number; info = with_origin origin (blank cluster) })
  pub other-is : other' ≡ other

pub record Pushes (b : Buffer) (f s : List ℕ) (d : Decision) : Type 0 where
  pub is : (g c : ℕ) {o : ℕ} → o ≡ next_push b.limits → Decided (λ capacity a. push capacity g c a) b f s (settled b d) (acts_of d) (Puttable b.len.0 f s) (Put b.len.0 g c o)

-- ---- set_length
-- the first n glyphs of a run of m, with zeros for those that it does not have
pub record Lengthened (phase : Phase) (m n : ℕ) (run other run' other' : List ℕ) : Type 0 where
  pub is : take n (shown phase run' other') ≡ take n (take m (shown phase run other)) ++ copies (blank 0) (replicate (n - m) 0)
  pub behind : drop n (glyphs run') ≡ drop n (glyphs run)
  pub other-behind : drop n (positions_in other') ≡ drop n (positions_in other)

pub record SetsLength (n : ℕ) (b : Buffer) (f s : List ℕ) (d : Decision) : Type 0 where
  pub is : Decided (λ capacity a. set_length 0 capacity n a) b f s (settled b d) (acts_of d) (RunOf b.phase n f s) (Lengthened b.phase b.len.0 n)

-- ---- place
-- four numbers of a position; its other words stay
unfoldable pub repositioned : ℕ → ℕ → ℕ → ℕ → Position → Position
repositioned xa ya xo yo p = record { x_advance = xa; y_advance = ya; x_offset = xo; y_offset = yo; var = p.var; free = p.free }

pub record Placeable (i : ℕ) (f s : List ℕ) : Type 0 where
  pub in-first : i < length (positions_in f)
  pub in-second : i < length (positions_in s)

pub record Placed (i xa ya xo yo : ℕ) (run other run' other' : List ℕ) : Type 0 where
  pub run_is : run' ≡ run
  pub other-is : positions_in other' ≡ slice_set (positions_in other) i (repositioned xa ya xo yo (slice_index_or (positions_in other) i zero_position))

pub record Places (i : InputPlace) (b : Buffer) (f s : List ℕ) (d : Decision) : Type 0 where
  pub is : (xa ya xo yo : ℕ) → Decided (λ capacity a. place i xa ya xo yo a) b f s (settled b d) (acts_of d) (Placeable i.0 f s) (Placed i.0 xa ya xo yo)

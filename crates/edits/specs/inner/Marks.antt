-- What the functions that flag ask for and leave, over the glyphs of whole slices, and what is promised of the verdicts. Places count in the slices.
use Rattle.lists.specs.inner.States.{Decision}
use Rattle.lists.specs.inner.Verdicts.{leaving}
use mathlib.Core.{Path.◌≡◌, Bool.Bool, Bool.true, Bool.false, Bool.cond, Bool.◌||◌, List.List}
use Rattle.std.specs.Prelude.{Option, None, Some, Err, ℕ, ◌-◌, ◌≤◌, min}
use lib.{Dec.ltb, ListN.length, Seq.slice}
use Rattle.records.specs.{DonePlace, InputPlace, Contradiction, WrongPhase, OutOfRange, Glyphs.Glyph, Glyphs.flagged, Ranges.clusters, Ranges.edit, View.glyphs}
use Rattle.lists.specs.{declared.Buffer.Buffer, declared.Lists.Lists, declared.Reply.Reply}
use Rattle.lists.specs.{Account.Account, Contract.Meets, Contract.sound}
use Rattle.edits.specs.Flags.{interior, sought, wants_concat, plain_form, outbuffer_form, flag_out_interior, flag_out_all}

-- the run after a plain form
unfoldable pub flagged_run : (interiorly : Bool) → ℕ → ℕ → ℕ → ℕ → List (Glyph ℕ) → List (Glyph ℕ)
flagged_run interiorly level bits s e l =
    cond interiorly (cond (ltb (e - s) 2) l (interior level (sought level (slice s e (clusters l))) bits s e l)) (edit s e (flagged bits) l)

-- one of the two ranges after an outbuffer form, which sought m
unfoldable pub flagged_part : (interiorly : Bool) → (level m bits i j : ℕ) → List (Glyph ℕ) → List (Glyph ℕ)
flagged_part interiorly level m bits i j l = cond interiorly (interior level m bits i j l) (edit i j (flagged bits) l)

-- the same by what it sought, if anything
unfoldable pub marked_part : Option ℕ → (level bits i j : ℕ) → List (Glyph ℕ) → List (Glyph ℕ)
marked_part (Some m) level bits i j l = interior level m bits i j l
marked_part None level bits i j l = edit i j (flagged bits) l

-- the cluster that an outbuffer form seeks: from place s of the output on, and from the cursor to place e of the run
unfoldable pub sought_out : (level s out_length idx e : ℕ) → (run out : List (Glyph ℕ)) → ℕ
sought_out level s out_length idx e run out = min (sought level (slice s out_length (clusters out))) (sought level (slice idx e (clusters run)))

unfoldable pub flag_out : (interiorly : Bool) → ℕ → ℕ → ℕ → Account ℕ → Account ℕ
flag_out interiorly bits i j a = cond interiorly (flag_out_interior bits i j a) (flag_out_all bits i j a)

-- i..j is a range of either slice
pub record Flaggable (i j : ℕ) (f s : List ℕ) : Type 0 where
  pub order : i ≤ j
  pub same : length (glyphs f) ≡ length (glyphs s)
  pub fits : j ≤ length (glyphs f)

-- s to the output's end and the cursor to e are
pub record OutFlaggable (at : Lists) (s e : ℕ) (run other : List ℕ) : Type 0 where
  pub order : s ≤ at.out_len
  pub start : at.idx ≤ e
  pub same : length (glyphs run) ≡ length (glyphs other)
  pub out-fits : at.out_len ≤ length (glyphs run)
  pub fits : e ≤ length (glyphs run)

-- a plain form went over the places i..j of the run
pub record Flagged (interiorly : Bool) (level bits i j : ℕ) (run other run' other' : List ℕ) : Type 0 where
  pub run_is : glyphs run' ≡ flagged_run interiorly level bits i j (glyphs run)
  pub other-is : other' ≡ other

-- an outbuffer form: the output's glyphs, then the run's
pub record OutFlagged (interiorly : Bool) (level bits : ℕ) (at : Lists) (s e : ℕ) (run other run' other' : List ℕ) : Type 0 where
  pub m : Option ℕ
  pub m-is : m ≡ cond interiorly (Some (sought_out level s at.out_len at.idx e (glyphs run) (cond at.separate (glyphs other) (glyphs run)))) None
  pub apart : at.separate ≡ true → (glyphs run' ≡ marked_part m level bits at.idx e (glyphs run)) × (glyphs other' ≡ marked_part m level bits s at.out_len (glyphs other))
  pub within : at.separate ≡ false → (glyphs run' ≡ marked_part m level bits at.idx e (marked_part m level bits s at.out_len (glyphs run))) × (other' ≡ other)

-- the decision of a form, by its tests: whether the phase is wrong, whether it does nothing, and whether a place lies outside
unfoldable pub flag_verdict : Buffer → (first second : List ℕ) → (wrong_phase idle outside : Bool) → Decision
flag_verdict b f s wrong_phase idle outside =
    cond (sound b f s) (cond wrong_phase (Err WrongPhase) (cond idle (leaving b false None) (cond outside (Err OutOfRange) (leaving b true None)))) (Err Contradiction)

pub record FlagVerdict (b : Buffer) (f s : List ℕ) (wrong_phase idle outside : Bool) (d : Decision) : Type 0 where
  pub is : d ≡ flag_verdict b f s wrong_phase idle outside

-- what is promised of a plain form: `bits` is what some function of wants has at the buffer's
pub record PlainMeets (interiorly : Bool) (bits : ℕ) (start end : Option InputPlace) (b : Buffer) (f s : List ℕ) (r : Reply) (f' s' : List ℕ) : Type 0 where
  pub is : (g : ℕ → ℕ) → bits ≡ g b.wants → Meets (λ capacity a. plain_form interiorly (interiorly || wants_concat a.state.wants) (g a.state.wants) start end a) b f s r f' s'

-- and of an outbuffer form
pub record OutMeets (interiorly : Bool) (bits : ℕ) (start : Option DonePlace) (end : Option InputPlace) (b : Buffer) (f s : List ℕ) (r : Reply) (f' s' : List ℕ) : Type 0 where
  pub is : (g : ℕ → ℕ) → bits ≡ g b.wants → Meets (λ capacity a. outbuffer_form interiorly (interiorly || wants_concat a.state.wants) (g a.state.wants) start end a) b f s r f' s'

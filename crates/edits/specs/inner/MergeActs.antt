-- Merges by places: what they ask for and leave, and what is promised of a verdict on a merge.
use Rattle.lists.specs.inner.States.{Decision}
use Rattle.lists.specs.inner.Verdicts.{acts_of}
use mathlib.Core.{Path.◌≡◌, Bool.Bool, Bool.false, Bool.cond, Bool.◌&&◌, List.List}
use Rattle.std.specs.Prelude.{ℕ, ◌-◌, ◌≤◌}
use lib.{Dec.leb, ListN.length}
use Rattle.records.specs.{DonePlace, InputPlace, Limits, Counters.costs, View.glyphs}
use Rattle.lists.specs.{declared.Buffer.Buffer, declared.Reply.Reply}
use Rattle.lists.specs.{Account.output_phase, Account.read_level, Contract.gone_of, Contract.Meets, inner.States.with_limits_of, inner.Verdicts.settled, inner.Verdicts.Decided}
use Rattle.edits.specs.{inner.Acts.Acts, inner.Acts.Mergeful, inner.Acts.OutMergeful, Merging.merge, Merging.merge_input, Merging.merge_out, Merging.merge_done}

-- what a merge of n glyphs leaves of the limits
unfoldable pub merge_limits : Bool → ℕ → Limits → Limits
merge_limits merges n l = cond merges (cond (leb 2 n) (costs n l) l) l

-- there is an output and the other slice holds it
abbrev pub lies_apart : Buffer → Bool
lies_apart b = output_phase b.phase && b.have_separate_output

-- a buffer at other places, with this level and wants
abbrev pub placed : (idx len out_length level wants : ℕ) → Buffer → Buffer
placed i l o level wants b = record { idx = record { 0 = i }; len = record { 0 = l }; out_len = record { 0 = o }; limits = b.limits; wants = wants; phase = b.phase; swapped = b.swapped; have_separate_output = b.have_separate_output; level = level }

-- s..e is a range of the run, in slices that are large enough
pub record MergeRoom (len out_length s e : ℕ) (run other : List ℕ) : Type 0 where
  pub order : s ≤ e
  pub end : e ≤ len
  pub fits : len ≤ length (glyphs run)
  pub out-fits : out_length ≤ length (glyphs run)
  pub same : length (glyphs run) ≡ length (glyphs other)

-- s..e is merged, or flagged: that is a merge on the account of every buffer at these places
pub record Merges (apart merges : Bool) (level wants idx len out_length s e : ℕ) (run other run' other' : List ℕ) : Type 0 where
  pub acts : (b : Buffer) → lies_apart b ≡ apart → Mergeful (placed idx len out_length level wants b) s e run other
      → Acts (merge merges (s - gone_of (placed idx len out_length level wants b)) (e - gone_of (placed idx len out_length level wants b))) (placed idx len out_length level wants b) run other (with_limits_of (merge_limits merges (e - s) b.limits) (placed idx len out_length level wants b)) run' other'
  pub apart-only : apart ≡ false → other' ≡ other

-- 11 and 13, of a call that merges at the levels `at`
pub record MergesInput (merges : Bool) (s e : InputPlace) (b : Buffer) (f g : List ℕ) (d : Decision) : Type 0 where
  pub is : (at : ℕ → Bool) → merges ≡ at (read_level b.level) → (apart : Bool) → apart ≡ lies_apart b → Decided (λ capacity a. merge_input at s e a) b f g (settled b d) (acts_of d) (MergeRoom b.len.0 b.out_len.0 s.0 e.0 f g) (Merges apart merges b.level b.wants b.idx.0 b.len.0 b.out_len.0 s.0 e.0)

-- and the call itself
pub record MeetsInput (merges : Bool) (s e : InputPlace) (b : Buffer) (f g : List ℕ) (r : Reply) (f' g' : List ℕ) : Type 0 where
  pub is : (at : ℕ → Bool) → merges ≡ at (read_level b.level) → Meets (λ capacity a. merge_input at s e a) b f g r f' g'

-- s..e is a range of the output, in slices that are large enough
pub record OutMergeRoom (idx len out_length s e : ℕ) (run other : List ℕ) : Type 0 where
  pub order : s ≤ e
  pub end : e ≤ out_length
  pub out-fits : out_length ≤ length (glyphs run)
  pub inside : idx ≤ len
  pub fits : len ≤ length (glyphs run)
  pub same : length (glyphs run) ≡ length (glyphs other)

-- s..e of the output is merged, on the account of every buffer at these places
pub record OutMerges (separate merges : Bool) (idx len out_length s e : ℕ) (run other run' other' : List ℕ) : Type 0 where
  pub acts : (b : Buffer) → b.have_separate_output ≡ separate → OutMergeful (placed idx len out_length b.level b.wants b) s e run other
      → Acts (merge_out merges s e) (placed idx len out_length b.level b.wants b) run other (with_limits_of (merge_limits merges (e - s) b.limits) (placed idx len out_length b.level b.wants b)) run' other'

-- 12 and 14
pub record MergesDone (merges : Bool) (s e : DonePlace) (b : Buffer) (f g : List ℕ) (d : Decision) : Type 0 where
  pub is : (at : ℕ → Bool) → merges ≡ at (read_level b.level) → Decided (λ capacity a. merge_done at s e a) b f g (settled b d) (acts_of d) (OutMergeRoom b.idx.0 b.len.0 b.out_len.0 s.0 e.0 f g) (OutMerges b.have_separate_output merges b.idx.0 b.len.0 b.out_len.0 s.0 e.0)

pub record MeetsDone (merges : Bool) (s e : DonePlace) (b : Buffer) (f g : List ℕ) (r : Reply) (f' g' : List ℕ) : Type 0 where
  pub is : (at : ℕ → Bool) → merges ≡ at (read_level b.level) → Meets (λ capacity a. merge_done at s e a) b f g r f' g'

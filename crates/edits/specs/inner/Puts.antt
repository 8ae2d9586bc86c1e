-- Glyphs that go behind the output: what is decided of them, and what the acts by places ask for and leave.
use Rattle.lists.specs.inner.States.{Decision}
use Rattle.lists.specs.inner.Verdicts.{acts_of, apart_of, amended, limiting_verdict}
use mathlib.Core.{Path.◌≡◌, Bool.Bool, Bool.false, Bool.cond, Bool.not, Bool.◌&&◌, Bool.◌||◌, List.List, List.[], List.◌∷◌}
use Rattle.std.specs.Option.{unwrap_or}
use Rattle.std.specs.Prelude.{ℕ, Option, ◌+◌, ◌-◌, ◌<◌, ◌≤◌}
use lib.{Dec.ltb, ListN.length, ListN.get_or}
use Rattle.records.specs.{Limits, Glyphs.Glyph, Glyphs.change, Glyphs.with_origin, Ranges.copies, View.glyphs, View.seen, inner.Stores.zero_glyph}
use Rattle.records.specs.declared.GlyphInfo.{GlyphInfo}
use Rattle.lists.specs.{declared.Buffer.Buffer, declared.Verdict.Verdict}
use Rattle.lists.specs.{declared.Lists.Lists, Account.Account, Account.read_level, inner.Copied.copied, Account.Result, inner.Held.room_for, inner.Verdicts.by_size, inner.Verdicts.Sided, inner.Verdicts.settled, inner.Verdicts.Decided}
use Rattle.lists.specs.inner.States.{lists_of}
use Rattle.edits.specs.{inner.MergeActs.Merges, Merging.clusters_merge, Writing.output_info, Writing.replace_glyphs}

-- whether o glyphs behind the output, in place of i of the input, would overtake the cursor: then the output moves to the other slice
unfoldable pub overtakes : Buffer → ℕ → ℕ → Bool
overtakes b i o = not b.have_separate_output && ltb (b.idx.0 + i) (b.out_len.0 + o)

-- the same verdict, with the output in this slice or that
abbrev pub lying : Bool → Verdict → Verdict
lying x v = record { idx = v.idx; len = v.len; out_len = v.out_len; limits = v.limits; apart = x; acts = v.acts; value = v.value }

-- the same, for an output that moves where glyphs are written
abbrev pub moving : Bool → Verdict → Verdict
moving x v = lying (cond v.acts x v.apart) v

-- the same at a cost, where glyphs are written
abbrev pub costing : (Limits → Limits) → Verdict → Verdict
costing paid v = limiting_verdict (cond v.acts (paid v.limits) v.limits) v

-- the same where there is no glyph to be written
abbrev pub size_alone : Verdict → Verdict
size_alone v = record { idx = v.idx; len = v.len; out_len = 0; limits = v.limits; apart = v.apart; acts = v.acts; value = v.value }

-- i glyphs taken and o written, if their size is there
pub record Writes (capacity : ℕ) (b : Buffer) (i o : ℕ) (acts : Bool) (d : Decision) : Type 0 where
  pub is : d ≡ amended (moving (overtakes b i o)) (by_size (room_for capacity (b.out_len.0 + o) b.limits) b i o acts)

-- n glyphs have room behind an output of `to`, in either slice
pub record Puttable (to n : ℕ) (f s : List ℕ) : Type 0 where
  pub same : length (glyphs f) ≡ length (glyphs s)
  pub fits : to + n ≤ length (glyphs f)

-- the output lies in the other slice, or went there where it is to be `apart`: whether it lies there
pub record Brought (at : Lists) (apart : Bool) (run other other' : List ℕ) (x : Bool) : Type 0 where
  pub lies : x ≡ (at.separate || apart)
  pub other-is : glyphs other' ≡ cond at.separate (glyphs other) (cond apart (copied (glyphs other) 0 (glyphs run) 0 at.out_len) (glyphs other))

-- the first n of these glyphs stand there: in the other slice where the output lies in it or moved to it
pub record Wrote (at : Lists) (apart : Bool) (new : List (Glyph ℕ)) (n : ℕ) (run other run' other' : List ℕ) : Type 0 where
  pub run_is : glyphs run' ≡ cond (at.separate || apart) (glyphs run) (copied (glyphs run) at.out_len new 0 n)
  pub other-is : glyphs other' ≡ cond at.separate (copied (glyphs other) at.out_len new 0 n) (cond apart (copied (copied (glyphs other) 0 (glyphs run) 0 at.out_len) at.out_len new 0 n) (glyphs other))

-- the glyph at the cursor, or the last of the output where there is none
unfoldable pub model_at : Lists → (run other : List ℕ) → Glyph ℕ
model_at at run other = cond (ltb at.idx at.len) (get_or (glyphs run) at.idx zero_glyph) (get_or (cond at.separate (glyphs other) (glyphs run)) (at.out_len - 1) zero_glyph)

pub record Modelled (at : Lists) (run other : List ℕ) (g : Glyph ℕ) : Type 0 where
  pub is : g ≡ model_at at run other

-- there is one, and room for a copy
pub record Outputable (at : Lists) (f s : List ℕ) : Type 0 where
  pub same : length (glyphs f) ≡ length (glyphs s)
  pub len-in : at.len ≤ length (glyphs f)
  pub fits : at.out_len + 1 ≤ length (glyphs f)
  pub some : at.idx < at.len + at.out_len

-- a copy of it stands there, under another number or, with none, its own
pub record Outputs (at : Lists) (apart : Bool) (number : Option ℕ) (run other run' other' : List ℕ) : Type 0 where
  pub is : Wrote at apart (copies (model_at at run other).info (unwrap_or number (model_at at run other).glyph ∷ [])) 1 run other run' other'

-- there is a glyph at the cursor, and num-in from there on, and room for num-out, of `given` numbers
pub record Replaceable (at : Lists) (num-in num-out given : ℕ) (f s : List ℕ) : Type 0 where
  pub same : length (glyphs f) ≡ length (glyphs s)
  pub len-in : at.len ≤ length (glyphs f)
  pub fits : at.out_len + num-out ≤ length (glyphs f)
  pub some : at.idx < at.len
  pub in_len : at.idx + num-in ≤ at.len
  pub enough : num-out ≤ given

-- the inputs merged, which left run₁ and other₁, and then copies of the first stand behind the output
pub record Replaces (at : Lists) (apart merges : Bool) (level wants num-in num-out : ℕ) (gs : List ℕ) (run other run' other' : List ℕ) : Type 0 where
  pub run₁ : List ℕ
  pub other₁ : List ℕ
  pub run_long : length run₁ ≡ length run
  pub other-long : length other₁ ≡ length other
  pub merged : Sided false (Merges at.separate merges level wants at.idx at.len at.out_len at.idx (at.idx + num-in)) run other run₁ other₁
  pub first : Glyph ℕ
  pub first-is : first ≡ get_or (glyphs run₁) at.idx zero_glyph
  pub wrote : Wrote at apart (copies first.info gs) num-out run₁ other₁ run' other'

-- what is promised of a verdict on 0A, 0B and 0D, by whether its output moves
pub record OutputDecided (call : ℕ → Account ℕ → Result ℕ) (number : Option ℕ) (apart : Bool) (b : Buffer) (f s : List ℕ) (d : Decision) : Type 0 where
  pub is : Decided call b f s (settled b d) (acts_of d) (Outputable (lists_of b) f s) (Outputs (lists_of b) apart number)

-- and of one on 0C
pub record InfoDecided (g : GlyphInfo) (b : Buffer) (f s : List ℕ) (d : Decision) : Type 0 where
  pub is : Decided (λ capacity a. output_info capacity (seen g).glyph (seen g).info a) b f s (settled b d) (acts_of d) (Puttable b.out_len.0 1 f s) (Wrote (lists_of b) (apart_of d) (change (with_origin 0) (seen g) ∷ []) 1)

-- and of one on 0E
pub record ReplaceDecided (num-in num-out : ℕ) (gs : List ℕ) (b : Buffer) (f s : List ℕ) (d : Decision) : Type 0 where
  pub is : Decided (λ capacity a. replace_glyphs capacity num-in num-out gs a) b f s (settled b d) (acts_of d) (Replaceable (lists_of b) num-in num-out (length gs) f s) (Replaces (lists_of b) (apart_of d) (clusters_merge (read_level b.level)) b.level b.wants num-in num-out gs)

-- The outbuffer forms of flags, to the account.
use mathlib.Core.{Path.◌≡◌, Path.refl, Path.sym, Path.◌∙◌, Bool.Bool, Bool.true, Bool.false, List.List}
use Rattle.std.proofs.Common.{ℕ, ◌-◌, ◌≤◌, length, take, drop, zero-le, le_refl, arith, length-take-le}
use native.Mathlib.Nat.{sub-zero}
use lib.Seq.{slice}
use Rattle.records.specs.{Glyphs.Glyph, Glyphs.flagged, Ranges.clusters}
use Rattle.records.proofs.Edited.{edit-take-before, edit-drop-behind}
use Rattle.lists.specs.Account.{Account, State, input, out_length as out_length_of}
use Rattle.lists.proofs.{Copying.drop-take, Editing.edit-length}
use Rattle.edits.specs.Flags.{flag_all, flag_out_interior, flag_out_all}
use Rattle.edits.specs.inner.Marks.{flagged_part, sought_out, flag_out}
use Rattle.edits.specs.inner.Holding.{holds, cut}
use Rattle.edits.proofs.Searching.{searching, searching-held}
use Rattle.edits.proofs.MergeForms.{OutRange}
use Rattle.edits.proofs.Holding.{slice-take}
use Rattle.edits.proofs.Bridge.{input-is, input-clusters, done-is, done-clusters, holds-with, input-edit}
use Rattle.edits.proofs.FlagLaws.{interior-in, interior-length, interior-behind, interior-before}

-- ---- one range: its length, what is not reached, and the range seen from a part of the list
part_length : (interiorly : Bool) (level m bits i j : ℕ) (l : List (Glyph ℕ)) → i ≤ j → length (flagged_part interiorly level m bits i j l) ≡ length l
unfolding flagged_part
part_length true level m bits i j l o = interior-length level m bits i j l o
part_length false level m bits i j l o = edit-length (flagged bits) i j l o

pub part-behind : (interiorly : Bool) (level m bits n i j : ℕ) (l : List (Glyph ℕ)) → i ≤ j → j ≤ length l → j ≤ n → drop n (flagged_part interiorly level m bits i j l) ≡ drop n l
unfolding flagged_part
part-behind true level m bits n i j l o b f = interior-behind level m bits n i j l o b f
part-behind false level m bits n i j l o b f = edit-drop-behind (flagged bits) i j n l o f

part-before : (interiorly : Bool) (level m bits n i j : ℕ) (l : List (Glyph ℕ)) → i ≤ j → j ≤ length l → n ≤ i → take n (flagged_part interiorly level m bits i j l) ≡ take n l
unfolding flagged_part
part-before true level m bits n i j l o b a = interior-before level m bits n i j l o b a
part-before false level m bits n i j l o b a = edit-take-before (flagged bits) i j n l a o

part_in : (interiorly : Bool) (level m bits from to i j : ℕ) (l : List (Glyph ℕ)) → from ≤ i → i ≤ j → j ≤ to → to ≤ length l → slice from to (flagged_part interiorly level m bits i j l) ≡ flagged_part interiorly level m bits (i - from) (j - from) (slice from to l)
unfolding flagged_part
part_in true level m bits from to i j l a o b f = interior-in level m bits from to i j l a o b f
part_in false level m bits from to i j l a o b f = input-edit (flagged bits) from to i j l a o b

zero_of : (n : ℕ) → n - n ≡ 0
zero_of n = omega arith

slice-behind : {A : Type 0} (f t : ℕ) (l l' : List A) → drop f l' ≡ drop f l → slice f t l' ≡ slice f t l
slice-behind f t l l' e = rw (drop-take f t l', drop-take f t l, e)

module _ {run out : List (Glyph ℕ)} {idx len out_length s e : ℕ} (v : OutRange run out idx len out_length s e) (bits : ℕ) (k : State) where
  inside : idx ≤ len
  inside = omega (arith, v.start, v.end)

  -- what is held after the form, from the part of the run that is input and from the output
  out-held : (interiorly : Bool) (level m : ℕ) (run' out' : List (Glyph ℕ)) → searching k ≡ level → (interiorly ≡ true → m ≡ sought_out level s out_length idx e run out)
      → slice idx len run' ≡ flagged_part interiorly level m bits 0 (e - idx) (slice idx len run) → take out_length out' ≡ flagged_part interiorly level m bits s out_length (take out_length out)
      → holds run' out' idx idx len out_length k ≡ flag_out interiorly bits s (e - idx) (holds run out idx idx len out_length k)
  unfolding flagged_part flag_out flag_out_interior flag_out_all flag_all sought_out out_length_of
  out-held true level m run' out' el em er eo =
      let a : Account ℕ = holds run out idx idx len out_length k in
      let in_is : input a ≡ slice idx len run = input-is run out idx idx len out_length k (le_refl idx) inside v.fits in
      let cs-is : clusters (input a) ≡ drop idx (cut len run) = input-clusters run out idx idx len out_length k (le_refl idx) inside v.fits in
      let d-is : a.done ≡ take out_length out = done-is run out idx idx len out_length k (le_refl idx) inside v.fits in
      let ds-is : clusters a.done ≡ cut out_length out = done-clusters run out idx idx len out_length k (le_refl idx) inside v.fits in
      let n-is : length (take out_length out) ≡ out_length = length-take-le out_length out v.out-fits in
      let r-is : take (e - idx) (drop idx (cut len run)) ≡ slice idx e (clusters run) = sym (drop-take idx e (cut len run)) ∙ slice-take idx e len (clusters run) v.end in
      let lv : searching a.state ≡ level = searching-held run out idx idx len out_length k ∙ el in
      holds-with run out idx idx len out_length k (le_refl idx) inside v.fits run' out' _ _
      (er ∙ rw (cs-is, ds-is, in_is, lv, r-is, em refl))
      (eo ∙ rw (cs-is, ds-is, d-is, lv, n-is, r-is, em refl))
  out-held false level m run' out' el em er eo =
      let a : Account ℕ = holds run out idx idx len out_length k in
      let in_is : input a ≡ slice idx len run = input-is run out idx idx len out_length k (le_refl idx) inside v.fits in
      let d-is : a.done ≡ take out_length out = done-is run out idx idx len out_length k (le_refl idx) inside v.fits in
      let n-is : length (take out_length out) ≡ out_length = length-take-le out_length out v.out-fits in
      holds-with run out idx idx len out_length k (le_refl idx) inside v.fits run' out' _ _ (er ∙ rw in_is) (eo ∙ rw (d-is, n-is))

-- a range of the input, seen from the input; a range of the output, seen from the output
input-part : (interiorly : Bool) (level m bits idx len e : ℕ) (run : List (Glyph ℕ)) → idx ≤ e → e ≤ len → len ≤ length run → slice idx len (flagged_part interiorly level m bits idx e run) ≡ flagged_part interiorly level m bits 0 (e - idx) (slice idx len run)
input-part interiorly level m bits idx len e run a b f = rw (zero_of idx) at (part_in interiorly level m bits idx len idx e run (le_refl idx) a b f)

output-part : (interiorly : Bool) (level m bits n s : ℕ) (out : List (Glyph ℕ)) → s ≤ n → n ≤ length out → take n (flagged_part interiorly level m bits s n out) ≡ flagged_part interiorly level m bits s n (take n out)
output-part interiorly level m bits n s out a f = rw (sub-zero s, sub-zero n) at (part_in interiorly level m bits 0 n s n out zero-le a (le_refl n) f)

-- THE LAWS of the outbuffer forms: with the output apart, of any two lists; and in the run, where first the output is written, then the input
module _ {run out : List (Glyph ℕ)} {idx len out_length s e : ℕ} (v : OutRange run out idx len out_length s e) (interiorly : Bool) (bits : ℕ) (k : State) where
  pub out-flagged-apart : (level : ℕ) {m : ℕ} {run' out' : List (Glyph ℕ)} → searching k ≡ level → (interiorly ≡ true → m ≡ sought_out level s out_length idx e run out)
      → run' ≡ flagged_part interiorly level m bits idx e run → out' ≡ flagged_part interiorly level m bits s out_length out
      → holds run' out' idx idx len out_length k ≡ flag_out interiorly bits s (e - idx) (holds run out idx idx len out_length k)
  out-flagged-apart level {m} {run'} {out'} el em er eo =
      out-held v bits k interiorly level m run' out' el em
      (rw er (input-part interiorly level m bits idx len e run v.start v.end v.fits))
      (rw eo (output-part interiorly level m bits out_length s out v.order v.out-fits))

module _ {run : List (Glyph ℕ)} {idx len out_length s e : ℕ} (v : OutRange run run idx len out_length s e) (low : out_length ≤ idx) (interiorly : Bool) (level m bits : ℕ) where
  abbrev pub middle : List (Glyph ℕ)
  middle = flagged_part interiorly level m bits s out_length run

  pub middle-fits : len ≤ length middle
  middle-fits = rw (part_length interiorly level m bits s out_length run v.order) v.fits

  pub out-flagged-within : (k : State) {run' : List (Glyph ℕ)} → searching k ≡ level → (interiorly ≡ true → m ≡ sought_out level s out_length idx e run run) → run' ≡ flagged_part interiorly level m bits idx e middle
      → holds run' run' idx idx len out_length k ≡ flag_out interiorly bits s (e - idx) (holds run run idx idx len out_length k)
  out-flagged-within k {run'} el em er =
      let kept : slice idx len middle ≡ slice idx len run = slice-behind idx len run middle (part-behind interiorly level m bits idx s out_length run v.order v.out-fits low) in
      out-held v bits k interiorly level m run' run' el em
      (rw er (input-part interiorly level m bits idx len e middle v.start v.end middle-fits ∙ rw kept))
      (rw er (part-before interiorly level m bits out_length idx e middle v.start (omega (arith, v.end, middle-fits)) low ∙ output-part interiorly level m bits out_length s run v.order v.out-fits))

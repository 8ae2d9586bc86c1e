-- From slices to the account that they hold, for any call that edits the output and the input.
use mathlib.Core.{Path.◌≡◌, Path.refl, Path.ap, Path.sym, Path.◌∙◌, List.List}
use Rattle.std.proofs.Common.{ℕ, ◌-◌, ◌≤◌, length, take, drop, arith, take-take, drop-drop}
use lib.Seq.{slice, length-slice}
use Rattle.records.specs.{Glyphs.Glyph, Glyphs.Info, Ranges.edit, Ranges.clusters}
use Rattle.records.proofs.Edited.{clusters-take, clusters-drop, edit-take, edit-drop, edit-drop-behind}
use Rattle.lists.specs.Account.{State, input, with_input, with_done, limiting, paying}
use Rattle.edits.specs.inner.Holding.{holds, paid, cut}
use Rattle.lists.proofs.Copying.{drop-take}
use Rattle.edits.proofs.Holding.{slice-join, there_and_back, same-account}

-- the input of the account held, and its clusters
module _ (run out : List (Glyph ℕ)) (gone idx len out_length : ℕ) (k : State) (cursor : gone ≤ idx) (inside : idx ≤ len) (fits : len ≤ length run) where
  pub input-is : input (holds run out gone idx len out_length k) ≡ slice gone len run
  unfolding input holds
  input-is = slice-join gone idx len run cursor inside fits

  pub input-clusters : clusters (input (holds run out gone idx len out_length k)) ≡ drop gone (cut len run)
  input-clusters = rw input-is (clusters-drop gone (take len run) ∙ ap (drop gone) (clusters-take len run))

  pub done-is : (holds run out gone idx len out_length k).done ≡ take out_length out
  unfolding holds
  done-is = refl

  pub done-clusters : clusters (holds run out gone idx len out_length k).done ≡ cut out_length out
  done-clusters = rw done-is (clusters-take out_length out)

  -- what is held afterwards is the account with the new output D and the new input L
  pub holds-with : (run' out' D L : List (Glyph ℕ)) → slice gone len run' ≡ L → take out_length out' ≡ D
      → holds run' out' gone idx len out_length k ≡ with_done D (with_input L (holds run out gone idx len out_length k))
  unfolding holds with_done with_input
  holds-with run' out' D L el ed =
      let n : length (slice gone idx run) ≡ idx - gone = length-slice gone idx run (omega arith) in
      same-account ed
      (rw (n, ← el) (sym (sym (drop-take gone idx (take len run')) ∙ ap (drop gone) (take-take idx len run' inside))))
      (rw (n, ← el) (sym (drop-drop (idx - gone) gone (take len run') ∙ ap (λ (j : ℕ). drop j (take len run')) (there_and_back gone idx cursor))))
      refl

  -- an edit of the input alone
  keeps-done : (L : List (Glyph ℕ)) → with_done (take out_length out) (with_input L (holds run out gone idx len out_length k)) ≡ with_input L (holds run out gone idx len out_length k)
  unfolding holds with_done with_input
  keeps-done L = refl

  pub holds-input : (run' out' L : List (Glyph ℕ)) → slice gone len run' ≡ L → take out_length out' ≡ take out_length out → holds run' out' gone idx len out_length k ≡ with_input L (holds run out gone idx len out_length k)
  holds-input run' out' L el ed = holds-with run' out' (take out_length out) L el ed ∙ keeps-done L

  -- other limits, and nothing else
  held-paid : (n : ℕ) (r o : List (Glyph ℕ)) → holds r o gone idx len out_length (paid n k) ≡ paying n (holds r o gone idx len out_length k)
  unfolding holds paying limiting
  held-paid n r o = refl

  pub holds-paying : (n : ℕ) (run' out' D L : List (Glyph ℕ)) → slice gone len run' ≡ L → take out_length out' ≡ D
      → holds run' out' gone idx len out_length (paid n k) ≡ paying n (with_done D (with_input L (holds run out gone idx len out_length k)))
  holds-paying n run' out' D L el ed = held-paid n run' out' ∙ ap (paying n) (holds-with run' out' D L el ed)

-- an edit within the input, seen from the input
pub input-edit : (h : Info → Info) (gone len i j : ℕ) (run : List (Glyph ℕ)) → gone ≤ i → i ≤ j → j ≤ len
    → slice gone len (edit i j h run) ≡ edit (i - gone) (j - gone) h (slice gone len run)
input-edit h gone len i j run a b c = ap (drop gone) (edit-take h i j len run b c) ∙ edit-drop h gone i j (take len run) a b

-- an edit of the output in the same slice does not reach the input
pub input-kept : (h : Info → Info) (gone len i j : ℕ) (run : List (Glyph ℕ)) → i ≤ j → j ≤ gone → gone ≤ len → slice gone len (edit i j h run) ≡ slice gone len run
input-kept h gone len i j run a b c = ap (drop gone) (edit-take h i j len run a (omega arith)) ∙ edit-drop-behind h i j gone (take len run) a b

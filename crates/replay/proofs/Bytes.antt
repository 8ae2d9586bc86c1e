-- A line in a text.
use mathlib.Core.{Path.◌≡◌, Path.refl, Path.sym, Path.ap, Path.◌∙◌, Bool.Bool, Bool.true, Bool.false, List.List, List.◌++◌}
use Rattle.std.proofs.Common.{ℕ, ◌+◌, ◌≤◌, length, take, drop, arith, length-drop, length-append}
use Rattle.std.specs.Prelude.{Some, None}
use Rattle.std.specs.List.{starts_with, between}
use Rattle.std.proofs.lemmas.Bool.Decides.{Decides-eqb}
use Rattle.std.proofs.lemmas.Slice.{between_to_end}
use Rattle.std.proofs.lemmas.Slice.Eq.{starts_is}
use lib.{Dec.eqb, ListN.take-append-drop, Seq.take-append_seam, Seq.sets-eq}
use Rattle.commands.specs.Texts.{Prints}
use Rattle.commands.proofs.Writes.{printed-length}
use Rattle.replay.specs.Lines.{Finds}

-- what the text from a place on begins with
module _ (line text rest : List ℕ) (at : ℕ) (within : at ≤ length text) (e : rest ≡ between at (length text) text) where
  is_rest : rest ≡ drop at text
  is_rest = e ∙ between_to_end text at (length text) (omega arith)

  pub stands_there : {r : Bool} → r ≡ starts_with eqb rest line → r ≡ true → Finds line text at (Some (at + length line))
  stands_there {r} h is =
      let begins : rest ≡ line ++ drop (length line) rest = (starts_is Decides-eqb rest line r h).0 is in
      let fits : at + length line ≤ length text = omega (arith, ap length begins, length-append line (drop (length line) rest), ap length is_rest, length-drop at text) in
      ((fits, ap (take (length line)) (sym is_rest ∙ begins) ∙ take-append_seam line (drop (length line) rest)), refl)

  pub stands_nowhere : {r : Bool} → r ≡ starts_with eqb rest line → r ≡ false → Finds line text at None
  stands_nowhere {r} h not stands =
      let begins : rest ≡ line ++ drop (length line) rest
      = sym (take-append-drop (length line) rest) ∙ ap (λ (l : List ℕ). l ++ drop (length line) rest) (ap (take (length line)) is_rest ∙ stands.1) in
      let begun : r ≡ true = (starts_is Decides-eqb rest line r h).1 (drop (length line) rest) begins in
      cc

-- a line that was printed at the start of a room
pub printed : {line before : List ℕ} {r : ℕ} {after : List ℕ} → Prints line before 0 r after → 81 ≤ length before → take r after ≡ line
printed {line} {before} {r} {after} p h =
    let wrote = p.room (omega arith) in
    let next : r ≡ length line = printed-length p h in
    let short : 0 + length line ≤ length before = omega (arith, wrote.next, p.short) in
    rw (wrote.list, next, sets-eq line before 0 short) (take-append_seam line (drop (0 + length line) before))

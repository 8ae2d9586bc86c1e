-- Document 01's first example, as the bytes that it prints, with document 02's last line; two wordings that exam tells apart and desk does not; what the line `sum` says of other lists; and numbers at their limits.
use mathlib.Core.{Path.◌≡◌, Path.refl, Path.sym, Path.ap, Path.◌∙◌, List.List, List.[], List.◌∷◌, List.◌++◌, List.flat_map}
use Prim.Native.Nat.{ℕ}
use native.Mathlib.Omega.{arith}
use lib.ListN.{get_or}
use Rattle.records.specs.{Unreadable, Counters.words_for, Answers.no, Answers.refusal_number}
use Rattle.lists.specs.{Account.fresh_account}
use Rattle.commands.specs.Calls.{run_bytes}
use Rattle.commands.specs.Claims.{renamed_bytes}
use Rattle.commands.specs.Texts.{exam_text, desk_text}
use Rattle.commands.specs.Lines.{answer_line, position_line, sum_line, last_line}
use Rattle.commands.specs.declared.Totals.{Totals}
use Rattle.commands.specs.Table.{bytes_of}
use Rattle.commands.proofs.Examples.{left_by, word, bytes-1}
use Rattle.commands.proofs.Executable.{executable}
use Rattle.commands.proofs.DeskLaws.{desk-alike}

-- ---- two wordings: a push of glyph 41, and of glyph 42
unfoldable pub wording-41 : List ℕ
wording-41 = 1 ∷ (word 41 ++ word 0)

unfoldable pub wording-42 : List ℕ
wording-42 = 1 ∷ (word 42 ++ word 0)

-- they differ in glyph numbers only
pub numbers-only : renamed_bytes (λ w. 0) wording-41 ≡ renamed_bytes (λ w. 0) wording-42
unfolding wording-41 wording-42 word executable
numbers-only = refl

-- exam tells them apart, by the last digit of the number, which is byte 31 of what it prints
pub exam-differs : exam_text 2048 wording-41 ≡ exam_text 2048 wording-42 → ⊥
unfolding wording-41 wording-42 word flat_map executable
exam-differs e = let digit : ◌≡◌ {A = ℕ} 49 50 = ap (λ (l : List ℕ). get_or l 31 0) e in omega (arith, digit)

-- desk does not, and prints this of the one and of the other
desk-prints : List ℕ
desk-prints = bytes_of "01 ok\nend 1 0 0 536870911 1\ni 0 0 0 0 1\nsum 1 1 0\n"

desk-41 : desk_text 2048 wording-41 ≡ desk-prints
unfolding wording-41 word desk-prints bytes_of flat_map executable
desk-41 = refl

desk-42 : desk_text 2048 wording-42 ≡ desk-prints
desk-42 = sym (desk-alike 2048 wording-41 wording-42 numbers-only) ∙ desk-41

-- ---- the line `sum`
-- wants, a list of commands, and the three numbers of its line `sum`
record Case : Type 0 where
  wants : ℕ
  commands : List ℕ
  says : Totals

Right : Case → Type 0
Right c = let start = fresh_account 0 c.wants in last_line (left_by (run_bytes (words_for 2048) (words_for 2048) c.commands start) start) ≡ sum_line c.says

abbrev AllRight : List Case → Type 0
AllRight [] = Unit {0}
AllRight (c ∷ cs) = Right c × AllRight cs

on : ℕ → List ℕ → ℕ → ℕ → ℕ → Case
on wants commands lines groups marked = record { wants = wants; commands = commands; says = record { lines = lines; groups = groups; marked = marked } }

-- pushes of glyph 65 with these clusters
pushes : List ℕ → List ℕ
pushes [] = []
pushes (c ∷ cs) = 1 ∷ (word 65 ++ (word c ++ pushes cs))

table : List Case
table =
    -- ★1
    on 0 bytes-1 2 2 0
    -- no command at all; a spoiled buffer, whose `len` is 1; and after `no 6`
    ∷ on 0 [] 0 0 0
    ∷ on 0 (pushes (0 ∷ []) ++ (2 ∷ 0 ∷ 0 ∷ 0 ∷ 64 ∷ 3 ∷ 4 ∷ [])) 0 0 0
    ∷ on 0 (pushes (7 ∷ []) ++ (255 ∷ [])) 1 1 0
    -- `x` is no glyph line
    ∷ on 0 (pushes (0 ∷ 0 ∷ []) ++ (5 ∷ [])) 2 1 0
    -- *passed* and *rest* are two lists, and so are *done* and *rest*
    ∷ on 0 (pushes (5 ∷ 5 ∷ []) ++ (9 ∷ [])) 2 2 0
    ∷ on 0 (pushes (5 ∷ 5 ∷ []) ++ (3 ∷ 7 ∷ [])) 2 2 0
    -- a group is of neighbours
    ∷ on 0 (pushes (0 ∷ 1 ∷ 0 ∷ [])) 3 3 0
    -- 15 marks by bits 0 and 1, 16 by bit 1 alone
    ∷ on 0 (pushes (0 ∷ 1 ∷ []) ++ (21 ∷ (word 0 ++ word 2))) 2 2 1
    ∷ on 1 (pushes (0 ∷ 1 ∷ []) ++ (22 ∷ (word 0 ++ word 2))) 2 2 0
    ∷ []

every-sum : AllRight table
unfolding table Right on word pushes bytes-1 left_by executable
every-sum = (refl, (refl, (refl, (refl, (refl, (refl, (refl, (refl, (refl, (refl, tt))))))))))

-- ---- numbers at their limits
no-6 : answer_line 255 (no (refusal_number Unreadable)) ≡ bytes_of "FF no 6\n"
unfolding bytes_of executable
no-6 = refl

signs : position_line (record { x_advance = 1; y_advance = 4294967295; x_offset = 2147483647; y_offset = 2147483648; var = 4294967295; free = 7 }) ≡
    bytes_of "x 1 -1 2147483647 -2147483648 4294967295\n"
unfolding bytes_of executable
signs = refl

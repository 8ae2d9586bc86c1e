-- Document 01's starred examples, "proved together as one table". A glyph line ends with its origin, and a report with the line `sum` (document 02).
use Rattle.std.specs.Prelude.{◌∷◌, ◌++◌, ◌≡◌}
use Prim.Native.{Char.code, String.String, String.[] as ended, String.◌∷◌ as ◌then◌}
use Rattle.records.specs.Library.{ℕ, List, [], map, flat_map, replicate}
use Rattle.records.specs.{Answers.Said, Answers.ok, Answers.ok_with, Counters.words_for}
use Rattle.lists.specs.Account.{fresh_account, Outcome}
use Rattle.commands.specs.{Calls.Call, Calls.run, Calls.c02-set-length, Calls.c24-enter, Calls.c26-allocate-lig-id, Runs.last_of, Texts.last_account}
use Rattle.commands.specs.{Texts.exam_text}

-- the bytes of a text
unfoldable pub bytes_of : String → List ℕ
bytes_of ended = []
bytes_of (c then s) = code c ∷ bytes_of s

-- the bytes of commands: each its command byte and operands below 256
unfoldable pub sheet : List (List ℕ) → List ℕ
sheet [] = []
sheet ([] ∷ cs) = sheet cs
sheet ((byte ∷ operands) ∷ cs) = byte ∷ (flat_map (λ n. n ∷ 0 ∷ 0 ∷ 0 ∷ []) operands ++ sheet cs)

-- what direct calls without glyph numbers on a fresh buffer, in slices for so many glyphs, come to
unfoldable pub ran : (capacity : ℕ) → List Call → List (Outcome ℕ)
ran n cs = run 0 (words_for n) (words_for n) (map (λ c. record { call = c; glyphs = [] }) cs) (fresh_account 0 0)

-- `max_ops` after `enter` on a run of n glyphs, in the largest buffer
unfoldable pub enters_with : ℕ → ℕ
enters_with n = (last_account (ran 1048576 (c02-set-length n ∷ c24-enter ∷ []))).state.limits.max_ops

-- what the last of n draws answers, and the serial after it
unfoldable pub draw : ℕ → Said × ℕ
draw n =
    let draws : List Call = replicate n c26-allocate-lig-id in
    (last_of ok (map (λ o. o.answer) (ran 2048 draws)), (last_account (ran 2048 draws)).state.limits.serial)

-- command bytes are in decimal here: 12 is 0C, 14 is 0E, 16 is 10, 17 is 11, 32 is 20, 35 is 23
pub record Starred : Type 0 where
  -- "★1. The exam program, capacity 2,048, level and wants 0, reads commands from standard input."
  pub one : exam_text 2048 (sheet ((1 ∷ 41 ∷ 0 ∷ []) ∷ (1 ∷ 42 ∷ 1 ∷ []) ∷ (1 ∷ 43 ∷ 2 ∷ []) ∷ (3 ∷ []) ∷ (14 ∷ 2 ∷ 1 ∷ 99 ∷ []) ∷ (4 ∷ []) ∷ [])) ≡
      bytes_of "01 ok\n01 ok\n01 ok\n03 ok\n0E ok\n04 ok 1\nend 2 0 0 536870909 1\ni 99 0 0 0 0 1\ni 43 2 0 0 0 3\nsum 2 2 0\n"
  -- "★2. `enter`, len 16, 17: max_ops 65,536, 69,632. ★4. len 524,287: 2,147,479,552; 524,288: kept."
  pub two : (enters_with 16 ≡ 65536) × (enters_with 17 ≡ 69632)
  pub four : (enters_with 524287 ≡ 2147479552) × (enters_with 524288 ≡ 536870911)
  -- "★5. Serial 7: id 1, serial 9; 255: id 1, serial 1.": the 8th draw follows serial 7, the 225th serial 255
  pub five : (((draw 7).1 ≡ 7) × (draw 8 ≡ (ok_with 1, 9))) × (((draw 224).1 ≡ 255) × (draw 225 ≡ (ok_with 1, 1)))
  -- "★6. Clusters 2 3 3, merge 0..2: all 2."
  pub six : exam_text 2048 (sheet ((1 ∷ 1 ∷ 2 ∷ []) ∷ (1 ∷ 2 ∷ 3 ∷ []) ∷ (1 ∷ 3 ∷ 3 ∷ []) ∷ (17 ∷ 0 ∷ 2 ∷ []) ∷ [])) ≡
      bytes_of "01 ok\n01 ok\n01 ok\n11 ok\nend 3 0 0 536870909 1\ni 1 2 0 0 0 1\ni 2 2 0 0 0 2\ni 3 2 0 0 0 3\nsum 3 1 0\n"
  -- "★7. Run A, `03`, `output_info` B, C, `move_to` 0: rest B C A, cost 3."
  pub seven : exam_text 2048 (sheet ((1 ∷ 65 ∷ 0 ∷ []) ∷ (3 ∷ []) ∷ (12 ∷ 66 ∷ 0 ∷ 7 ∷ 0 ∷ 0 ∷ []) ∷ (12 ∷ 67 ∷ 0 ∷ 8 ∷ 0 ∷ 0 ∷ []) ∷ (16 ∷ 0 ∷ []) ∷ [])) ≡
      bytes_of "01 ok\n03 ok\n0C ok\n0C ok\n10 ok 1\nend 3 0 0 536870908 1\ni 66 7 0 0 0 0\ni 67 8 0 0 0 0\ni 65 0 0 0 0 1\nsum 3 3 0\n"
  -- "★8. Keys 2 1 1, clusters 0 1 2, level 0, `sort` 0..3: order second, third, first, all cluster 0, cost 4."
  pub eight : exam_text 2048 (sheet ((3 ∷ []) ∷ (12 ∷ 1 ∷ 0 ∷ 0 ∷ 2 ∷ 0 ∷ []) ∷ (12 ∷ 2 ∷ 0 ∷ 1 ∷ 1 ∷ 0 ∷ []) ∷ (12 ∷ 3 ∷ 0 ∷ 2 ∷ 1 ∷ 0 ∷ []) ∷ (4 ∷ [])
      ∷ (32 ∷ 0 ∷ 3 ∷ 0 ∷ 255 ∷ []) ∷ [])) ≡
      bytes_of "03 ok\n0C ok\n0C ok\n0C ok\n04 ok 1\n20 ok\nend 3 0 0 536870907 1\ni 2 0 0 1 0 0\ni 3 0 0 1 0 0\ni 1 0 0 2 0 0\nsum 3 1 0\n"
  -- "★9. Propagated group masks 1 and 4, wants 3: 1."
  pub nine : exam_text 2048 (sheet ((0 ∷ 0 ∷ 3 ∷ []) ∷ (3 ∷ []) ∷ (12 ∷ 1 ∷ 1 ∷ 5 ∷ 0 ∷ 0 ∷ []) ∷ (12 ∷ 2 ∷ 4 ∷ 5 ∷ 0 ∷ 0 ∷ []) ∷ (4 ∷ []) ∷ (35 ∷ []) ∷ [])) ≡
      bytes_of "00 ok\n03 ok\n0C ok\n0C ok\n04 ok 1\n23 ok\nend 2 0 0 536870911 1\ni 1 5 1 0 0 0\ni 2 5 1 0 0 0\nsum 2 1 2\n"

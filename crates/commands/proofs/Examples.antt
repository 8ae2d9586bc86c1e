-- Document 01's traps, and points where it can be misread, as one table beside that of its starred examples (specs/Table). A case is a script for a fresh buffer, and what it prints.
use mathlib.Core.{Path.◌≡◌, Path.refl, Bool.cond, List.List, List.[], List.◌∷◌, List.◌++◌, List.map}
use Rattle.std.specs.Prelude.{None as none, Some as some}
use Prim.Native.Nat.{ℕ, zero, suc}
use Rattle.records.specs.{Position, Answers.Said, Answers.ok, Answers.ok_with, Answers.no, Counters.words_for, Glyphs.Glyph}
use Rattle.lists.specs.{Account.Account, Account.len, Account.idx, Account.out_length, Account.positions, Account.fresh_account, Account.Outcome}
use Rattle.commands.specs.Calls.{Call, Worded, run, c00-fresh, c01-push, c02-set-length, c03-clear-output, c04-sync, c05-clear-positions, c06-place, c07-next-glyph, c08-next-glyphs, c09-skip-glyph, c0A-copy-glyph, c0B-output-glyph, c0C-output-info, c0D-replace-glyph, c0E-replace-glyphs, c0F-delete-glyph, c10-move-to, c11-merge-clusters, c12-merge-out-clusters, c13-merge-grapheme-clusters, c14-merge-out-grapheme-clusters, c15-unsafe-to-break, c16-unsafe-to-concat, c17-safe-to-insert-tatweel, c18-unsafe-to-break-from-outbuffer, c19-unsafe-to-concat-from-outbuffer, c1A-set-masks, c1B-reverse, c1C-reverse-range, c1D-reverse-clusters, c1E-reverse-graphemes, c1F-reset-clusters, c20-sort, c21-delete-glyphs-inplace, c22-form-clusters, c23-propagate-flags, c24-enter, c25-leave, c26-allocate-lig-id}
use Rattle.commands.specs.Calls.{run_bytes, input_place, done_place}
use Rattle.commands.proofs.Executable.{executable}

-- ---- what is printed
-- "`end` len, idx, out_len, max_ops, successful; then done `o`, passed `p`, input `i`: glyph, cluster, mask, var0, var1; positions `x`, five words". The serial is not printed, but starred
record Page : Type 0 where
  answers : List Said
  end : List ℕ
  serial : ℕ
  o : List (List ℕ)
  p : List (List ℕ)
  i : List (List ℕ)
  x : List (List ℕ)

glyph_line : Glyph ℕ → List ℕ
glyph_line g = g.glyph ∷ g.info.cluster ∷ g.info.mask ∷ g.info.var0 ∷ g.info.var1 ∷ []

position_line : Position → List ℕ
position_line p = p.x_advance ∷ p.y_advance ∷ p.x_offset ∷ p.y_offset ∷ p.var ∷ []

end_line : Account ℕ → List ℕ
end_line a = len a ∷ idx a ∷ out_length a ∷ a.state.limits.max_ops ∷ cond a.state.limits.successful 1 0 ∷ []

page : List (Outcome ℕ) → Account ℕ → Page
page os a = record {
  answers = map (λ o. o.answer) os;
  end = end_line a;
  serial = a.state.limits.serial;
  o = map glyph_line a.done;
  p = map glyph_line a.passed;
  i = map glyph_line a.rest;
  x = map position_line (positions a);
}

-- the account that a run leaves
unfoldable pub left_by : List (Outcome ℕ) → Account ℕ → Account ℕ
left_by [] a = a
left_by (o ∷ os) a = left_by os o.after

-- ---- cases
data Script : Type 0 where
  calls : List (Worded ℕ) → Script
  bytes : List ℕ → Script

ran : ℕ → ℕ → Script → Account ℕ → List (Outcome ℕ)
ran first second (calls cs) a = run 0 first second cs a
ran first second (bytes bs) a = run_bytes first second bs a

-- lent slices of these lengths, a level and wants; calls whose answers are not looked at, then a script
record Case : Type 0 where
  first : ℕ
  second : ℕ
  level : ℕ
  wants : ℕ
  set_up : List (Worded ℕ)
  script : Script
  prints : Page

Right : Case → Type 0
Right c =
    let start = fresh_account c.level c.wants in
    let a = left_by (run 0 c.first c.second c.set_up start) start in
    let os = ran c.first c.second c.script a in
    page os (left_by os a) ≡ c.prints

abbrev AllRight : List Case → Type 0
AllRight [] = Unit {0}
AllRight (c ∷ cs) = Right c × AllRight cs

-- ---- short forms for the rows
-- the exam program's buffer, of 2,048 glyphs
on : ℕ → ℕ → List (Worded ℕ) → List (Worded ℕ) → Page → Case
on level wants set_up cs prints = record { first = words_for 2048; second = words_for 2048; level = level; wants = wants; set_up = set_up; script = calls cs; prints = prints }

lent : ℕ → ℕ → List (Worded ℕ) → List (Worded ℕ) → Page → Case
lent first second set_up cs prints = record { first = first; second = second; level = 0; wants = 0; set_up = set_up; script = calls cs; prints = prints }

read : List ℕ → Page → Case
read bs prints = record { first = words_for 2048; second = words_for 2048; level = 0; wants = 0; set_up = []; script = bytes bs; prints = prints }

-- o, p and i lines
shows : List Said → List ℕ → List (List ℕ) → List (List ℕ) → List (List ℕ) → Page
shows answers end o p i = record { answers = answers; end = end; serial = 0; o = o; p = p; i = i; x = [] }

drew : List Said → ℕ → Page
drew answers serial = record { answers = answers; end = 0 ∷ 0 ∷ 0 ∷ 536870911 ∷ 1 ∷ []; serial = serial; o = []; p = []; i = []; x = [] }

places : List Said → List ℕ → List (List ℕ) → List (List ℕ) → Page
places answers end i x = record { answers = answers; end = end; serial = 0; o = []; p = []; i = i; x = x }

-- glyph, cluster, mask; and with var0
g : ℕ → ℕ → ℕ → List ℕ
g n c m = n ∷ c ∷ m ∷ 0 ∷ 0 ∷ []

gv : ℕ → ℕ → ℕ → ℕ → List ℕ
gv n c m v = n ∷ c ∷ m ∷ v ∷ 0 ∷ []

end : ℕ → ℕ → ℕ → ℕ → ℕ → List ℕ
end l i o m s = l ∷ i ∷ o ∷ m ∷ s ∷ []

-- calls with no glyph number, and with them
call : Call → Worded ℕ
call c = record { call = c; glyphs = [] }

push : ℕ → ℕ → Worded ℕ
push n c = record { call = c01-push c; glyphs = n ∷ [] }

replace_glyphs : ℕ → ℕ → List ℕ → Worded ℕ
replace_glyphs num-in num-out gs = record { call = c0E-replace-glyphs num-in num-out; glyphs = gs }

-- pushes of glyphs n, n + 1, .. with these clusters
pushes : ℕ → List ℕ → List (Worded ℕ)
pushes n [] = []
pushes n (c ∷ cs) = push n c ∷ pushes (suc n) cs

-- a run of glyphs with all their words: output, and sync
made : List (Worded ℕ) → List (Worded ℕ)
made cs = call c03-clear-output ∷ (cs ++ (call c04-sync ∷ []))

-- glyph, mask, cluster, var0
info : ℕ → ℕ → ℕ → ℕ → Worded ℕ
info n m c v = record { call = c0C-output-info m c v 0; glyphs = n ∷ [] }

-- n glyphs 0 with clusters from c on and this mask
rows : ℕ → ℕ → ℕ → List (List ℕ)
rows c m zero = []
rows c m (suc n) = g 0 c m ∷ rows (suc c) m n

-- the four bytes of a small word
unfoldable pub word : ℕ → List ℕ
word n = n ∷ 0 ∷ 0 ∷ 0 ∷ []

unfoldable pub bytes-1 : List ℕ
bytes-1 = 1 ∷ (word 41 ++ (word 0 ++ (1 ∷ (word 42 ++ (word 1 ++ (1 ∷ (word 43 ++ (word 2 ++ (3 ∷ 14 ∷ (word 2 ++ (word 1 ++ (word 99 ++ (4 ∷ [])))))))))))))

page-1 : Page
page-1 = shows (ok ∷ ok ∷ ok ∷ ok ∷ ok ∷ ok_with 1 ∷ []) (end 2 0 0 536870909 1) [] [] (g 99 0 0 ∷ g 43 2 0 ∷ [])

table : List Case
table =
    -- ★1, by direct calls
    on 0 0 [] (push 41 0 ∷ push 42 1 ∷ push 43 2 ∷ call c03-clear-output ∷ replace_glyphs 2 1 (99 ∷ []) ∷ call c04-sync ∷ []) page-1
    -- trap: clamping before the 255 test
    ∷ on 0 0 (pushes 1 (0 ∷ 1 ∷ [])) (call (c15-unsafe-to-break (some (input_place 0)) (some (input_place 300))) ∷ []) (shows (ok ∷ []) (end 2 0 0 536870911 1) [] [] (g 1 0 0 ∷ g 2 1 0 ∷ []))
    ∷ on 0 0 (pushes 1 (0 ∷ 1 ∷ [])) (call (c15-unsafe-to-break (some (input_place 0)) (some (input_place 255))) ∷ []) (shows (ok ∷ []) (end 2 0 0 536870911 1) [] [] (g 1 0 0 ∷ g 2 1 3 ∷ []))
    -- trap: growing e in a merge whose last cluster is least. It would change nothing: what it grows over has that cluster already
    ∷ on 0 0 (made (info 1 7 3 0 ∷ info 2 7 2 0 ∷ info 3 7 2 0 ∷ [])) (call (c11-merge-clusters (input_place 0) (input_place 2)) ∷ []) (shows (ok ∷ []) (end 3 0 0 536870909 1) [] [] (g 1 2 0 ∷ g 2 2 7 ∷ g 3 2 7 ∷ []))
    -- trap: cluster 4,294,967,295 in a `set_masks` range that starts above 0
    ∷ on 0 0 (pushes 1 (5 ∷ 4294967295 ∷ [])) (call (c1A-set-masks 1 1 1 4294967295) ∷ []) (shows (ok ∷ []) (end 2 0 0 536870909 1) [] [] (g 1 5 1 ∷ g 2 4294967295 0 ∷ []))
    -- refusal 1: unequal, not whole glyphs, too long; it comes before the call's own
    ∷ lent 12 18 [] (push 1 0 ∷ call (c00-fresh 0 9) ∷ []) (shows (no 1 ∷ no 1 ∷ []) (end 0 0 0 536870911 1) [] [] [])
    ∷ lent 10 10 [] (call c04-sync ∷ []) (shows (no 1 ∷ []) (end 0 0 0 536870911 1) [] [] [])
    ∷ lent (words_for 1048577) (words_for 1048577) [] (call c03-clear-output ∷ []) (shows (no 1 ∷ []) (end 0 0 0 536870911 1) [] [] [])
    -- `clear_output` takes back what was passed; its idx 0 is no condition
    ∷ on 0 0 (pushes 1 (0 ∷ 1 ∷ [])) (call c09-skip-glyph ∷ call c03-clear-output ∷ []) (shows (ok ∷ ok ∷ []) (end 2 0 0 536870911 1) [] [] (g 1 0 0 ∷ g 2 1 0 ∷ []))
    -- giving up: over max_len 0 is answered, within it and over capacity is refusal 5; then `move_to` without output is true, with output 3 comes before false
    ∷ on 0 0 [] (call (c02-set-length 1073741823) ∷ call (c02-set-length 1073741824) ∷ call (c10-move-to 0) ∷ call (c10-move-to 1) ∷ call c03-clear-output ∷ call (c10-move-to 1) ∷ call (c10-move-to 0) ∷ []) (shows (no 5 ∷ ok_with 0 ∷ ok_with 1 ∷ no 3 ∷ ok ∷ no 3 ∷ ok_with 0 ∷ []) (end 0 0 0 536870911 0) [] [] [])
    -- a `sync` whose size gives up is true, and *rest* is lost
    ∷ lent (words_for 65536) (words_for 65536) (call c24-enter ∷ call (c02-set-length 65536) ∷ call c03-clear-output ∷ info 9 0 0 0 ∷ []) (call c04-sync ∷ []) (shows (ok_with 1 ∷ []) (end 1 0 0 65536 0) [] [] (g 9 0 0 ∷ []))
    -- a failed `sync` keeps len and spoils: then 2, but for 00, which may be 4
    ∷ on 0 0 (pushes 1 (0 ∷ 1 ∷ [])) (call (c02-set-length 1073741824) ∷ call c03-clear-output ∷ call c07-next-glyph ∷ call c04-sync ∷ call c26-allocate-lig-id ∷ call (c16-unsafe-to-concat none none) ∷ call (c00-fresh 0 8) ∷ []) (shows (ok_with 0 ∷ ok ∷ ok ∷ ok_with 0 ∷ no 2 ∷ no 2 ∷ no 4 ∷ []) (end 2 0 0 536870911 0) [] [] [])
    -- a back move past the cursor grows len and idx first
    ∷ on 0 0 (pushes 1 (0 ∷ 1 ∷ [])) (call c03-clear-output ∷ call c07-next-glyph ∷ info 3 0 5 0 ∷ info 4 0 6 0 ∷ call (c10-move-to 1) ∷ []) (shows (ok ∷ ok ∷ ok ∷ ok ∷ ok_with 1 ∷ []) (end 3 0 1 536870908 1) (g 1 0 0 ∷ []) [] (g 3 5 0 ∷ g 4 6 0 ∷ g 2 1 0 ∷ []))
    -- its growth stays where the second cost fails; `max_ops` is below 0 then, and merges and masks still work
    ∷ lent (words_for 65536) (words_for 65536) (call c24-enter ∷ call (c02-set-length 65534) ∷ call (c1A-set-masks 0 1 0 1) ∷ call (c02-set-length 2) ∷ call c03-clear-output ∷ call c07-next-glyph ∷ info 3 0 5 0 ∷ info 4 0 6 0 ∷ []) (call (c10-move-to 1) ∷ call (c12-merge-out-clusters (done_place 1) (done_place 3)) ∷ call (c10-move-to 2) ∷ []) (shows (ok_with 0 ∷ ok ∷ ok_with 0 ∷ []) (end 3 2 3 4294967293 0) (g 0 0 0 ∷ g 3 5 0 ∷ g 4 5 0 ∷ []) [] (g 0 0 0 ∷ []))
    -- 0B with both lists empty makes its size; 0E with *rest* empty is 3
    ∷ lent 0 0 [] (call c03-clear-output ∷ record { call = c0B-output-glyph; glyphs = 7 ∷ [] } ∷ replace_glyphs 0 0 [] ∷ []) (shows (ok ∷ no 5 ∷ no 3 ∷ []) (end 0 0 0 536870911 1) [] [] [])
    -- 0E: 3 before 4 before 5; more numbers than stated are left
    ∷ lent (words_for 1) (words_for 1) (pushes 1 (7 ∷ [])) (call c03-clear-output ∷ replace_glyphs 2 9 [] ∷ replace_glyphs 1 2 (8 ∷ []) ∷ replace_glyphs 1 2 (8 ∷ 9 ∷ []) ∷ replace_glyphs 1 1 (8 ∷ 9 ∷ []) ∷ []) (shows (ok ∷ no 3 ∷ no 4 ∷ no 5 ∷ ok ∷ []) (end 1 1 1 536870911 1) (g 8 7 0 ∷ []) [] [])
    -- positions: `place` writes four words; a push is then refusal 2, and `clear_positions` is not
    ∷ on 0 0 (pushes 1 (0 ∷ 1 ∷ [])) (call (c06-place (input_place 0) 1 2 3 4) ∷ call c05-clear-positions ∷ call (c06-place (input_place 2) 1 2 3 4) ∷ call (c06-place (input_place 0) 1 2 3 4294967295) ∷ call c1B-reverse ∷ push 3 2 ∷ []) (places (no 2 ∷ ok ∷ no 3 ∷ ok ∷ ok ∷ no 2 ∷ []) (end 2 0 0 536870911 1) (g 2 1 0 ∷ g 1 0 0 ∷ []) ((0 ∷ 0 ∷ 0 ∷ 0 ∷ 0 ∷ []) ∷ (1 ∷ 2 ∷ 3 ∷ 4294967295 ∷ 0 ∷ []) ∷ []))
    -- the whole run is not to be had behind the cursor; `clear_positions` is, and all are 0 again
    ∷ record { first = words_for 2048; second = words_for 2048; level = 0; wants = 0; set_up = pushes 1 (0 ∷ 1 ∷ []); script = calls (call c05-clear-positions ∷ call (c06-place (input_place 1) 5 6 7 8) ∷ call c07-next-glyph ∷ call c1B-reverse ∷ call c05-clear-positions ∷ []); prints = record { answers = ok ∷ ok ∷ ok ∷ no 2 ∷ ok ∷ []; end = end 2 1 0 536870911 1; serial = 0; o = []; p = g 1 0 0 ∷ []; i = g 2 1 0 ∷ []; x = (0 ∷ 0 ∷ 0 ∷ 0 ∷ 0 ∷ []) ∷ (0 ∷ 0 ∷ 0 ∷ 0 ∷ 0 ∷ []) ∷ [] } }
    -- without output a merge may start below the cursor; then s does not fall
    ∷ on 0 0 (pushes 1 (4 ∷ 4 ∷ 3 ∷ 9 ∷ [])) (call (c08-next-glyphs 2) ∷ call (c11-merge-clusters (input_place 1) (input_place 3)) ∷ []) (shows (ok ∷ ok ∷ []) (end 4 2 0 536870909 1) [] (g 1 4 0 ∷ g 2 3 0 ∷ []) (g 3 3 0 ∷ g 4 9 0 ∷ []))
    -- a level above 3 reads as 0; s falls over the equals of the first
    ∷ on 4 0 (pushes 1 (7 ∷ 5 ∷ 5 ∷ 3 ∷ [])) (call (c11-merge-clusters (input_place 2) (input_place 4)) ∷ []) (shows (ok ∷ []) (end 4 0 0 536870909 1) [] [] (g 1 7 0 ∷ g 2 3 0 ∷ g 3 3 0 ∷ g 4 3 0 ∷ []))
    -- a merge at the cursor takes the equal tail of *done* with it
    ∷ on 0 0 (pushes 1 (1 ∷ 4 ∷ 4 ∷ 3 ∷ [])) (call c03-clear-output ∷ call (c08-next-glyphs 2) ∷ call (c11-merge-clusters (input_place 2) (input_place 4)) ∷ []) (shows (ok ∷ ok ∷ ok ∷ []) (end 4 2 2 536870909 1) (g 1 1 0 ∷ g 2 3 0 ∷ []) [] (g 3 3 0 ∷ g 4 3 0 ∷ []))
    -- at levels 2 and 3 a merge flags, with its rule of 255
    ∷ on 2 0 (call (c02-set-length 256) ∷ call c1F-reset-clusters ∷ []) (call (c11-merge-clusters (input_place 0) (input_place 256)) ∷ []) (shows (ok ∷ []) (end 256 0 0 536870911 1) [] [] (rows 0 0 256))
    ∷ on 2 0 (call (c02-set-length 256) ∷ call c1F-reset-clusters ∷ []) (call (c11-merge-clusters (input_place 0) (input_place 255)) ∷ []) (shows (ok ∷ []) (end 256 0 0 536870911 1) [] [] (g 0 0 0 ∷ (rows 1 3 254 ++ (g 0 255 0 ∷ []))))
    -- the grapheme kinds merge at levels 0 and 3, and flag at 1 and 2
    ∷ on 3 0 (pushes 1 (0 ∷ 1 ∷ [])) (call (c13-merge-grapheme-clusters (input_place 0) (input_place 2)) ∷ []) (shows (ok ∷ []) (end 2 0 0 536870909 1) [] [] (g 1 0 0 ∷ g 2 0 0 ∷ []))
    ∷ on 1 0 (pushes 1 (0 ∷ 1 ∷ [])) (call (c13-merge-grapheme-clusters (input_place 0) (input_place 2)) ∷ []) (shows (ok ∷ []) (end 2 0 0 536870911 1) [] [] (g 1 0 0 ∷ g 2 1 3 ∷ []))
    -- a deleted glyph hands its mask on with its cluster
    ∷ on 0 0 (pushes 1 (5 ∷ [])) (call c03-clear-output ∷ info 8 7 9 0 ∷ info 9 7 9 0 ∷ call c0F-delete-glyph ∷ []) (shows (ok ∷ ok ∷ ok ∷ ok ∷ []) (end 1 1 2 536870911 1) (g 8 5 0 ∷ g 9 5 0 ∷ []) [] [])
    ∷ on 0 0 (made (info 1 6 5 0 ∷ [])) (call c03-clear-output ∷ info 8 1 9 0 ∷ call c0F-delete-glyph ∷ []) (shows (ok ∷ ok ∷ ok ∷ []) (end 1 1 1 536870911 1) (g 8 5 6 ∷ []) [] [])
    -- deletion compares v with the masked key as it is
    ∷ on 0 0 (made (info 1 0 0 3 ∷ info 2 0 1 2 ∷ [])) (call (c21-delete-glyphs-inplace 0 1 3) ∷ []) (shows (ok ∷ []) (end 2 0 0 536870911 1) [] [] (gv 1 0 0 3 ∷ gv 2 1 0 2 ∷ []))
    ∷ on 0 0 (made (info 1 0 0 3 ∷ info 2 0 1 2 ∷ [])) (call (c21-delete-glyphs-inplace 0 1 1) ∷ []) (shows (ok ∷ []) (end 1 0 0 536870909 1) [] [] (gv 2 0 0 2 ∷ []))
    -- 18 seeks m among the ends of both ranges, and has no rule of two glyphs
    ∷ on 0 0 (pushes 1 (3 ∷ [])) (call c03-clear-output ∷ info 8 0 5 0 ∷ info 9 0 1 0 ∷ call (c18-unsafe-to-break-from-outbuffer (some (done_place 0)) (some (input_place 1))) ∷ []) (shows (ok ∷ ok ∷ ok ∷ ok ∷ []) (end 1 0 2 536870911 1) (g 8 5 3 ∷ g 9 1 0 ∷ []) [] (g 1 3 3 ∷ []))
    -- bounds: a start past its end is too far; over len it is 3, unless too far; an unwanted concat is accepted, after 2
    ∷ on 0 0 (pushes 1 (0 ∷ 1 ∷ [])) (call (c15-unsafe-to-break (some (input_place 3)) (some (input_place 1))) ∷ call (c15-unsafe-to-break (some (input_place 3)) (some (input_place 4))) ∷ call (c15-unsafe-to-break (some (input_place 3)) (some (input_place 300))) ∷ call (c16-unsafe-to-concat (some (input_place 3)) (some (input_place 4))) ∷ call (c19-unsafe-to-concat-from-outbuffer none none) ∷ []) (shows (ok ∷ no 3 ∷ ok ∷ ok ∷ no 2 ∷ []) (end 2 0 0 536870911 1) [] [] (g 1 0 0 ∷ g 2 1 0 ∷ []))
    -- with output and idx over 0 an open start is 3
    ∷ on 0 1 (pushes 1 (0 ∷ 1 ∷ 2 ∷ [])) (call c03-clear-output ∷ call c07-next-glyph ∷ call (c15-unsafe-to-break none none) ∷ call (c16-unsafe-to-concat (some (input_place 1)) none) ∷ []) (shows (ok ∷ ok ∷ no 3 ∷ ok ∷ []) (end 3 1 1 536870911 1) (g 1 0 0 ∷ []) [] (g 2 1 2 ∷ g 3 2 2 ∷ []))
    -- tatweel wanted, concat unwanted: a joined 4 becomes 5
    ∷ on 0 2 (made (info 1 4 5 0 ∷ [])) (call c23-propagate-flags ∷ []) (shows (ok ∷ []) (end 1 0 0 536870911 1) [] [] (g 1 5 5 ∷ []))
    -- at level 1 each grapheme is merged, then the groups turn
    ∷ on 1 0 (made (info 1 0 4 0 ∷ info 2 0 5 1 ∷ info 3 0 6 0 ∷ [])) (call (c1E-reverse-graphemes 2 1) ∷ call (c1E-reverse-graphemes 0 1) ∷ []) (shows (no 4 ∷ ok ∷ []) (end 3 0 0 536870909 1) [] [] (gv 3 6 0 0 ∷ gv 1 4 0 0 ∷ gv 2 4 0 1 ∷ []))
    -- copies and replacements are of the first of *rest*
    ∷ on 0 0 (pushes 1 (4 ∷ [])) (call c03-clear-output ∷ call c0A-copy-glyph ∷ record { call = c0D-replace-glyph; glyphs = 9 ∷ [] } ∷ []) (shows (ok ∷ ok ∷ ok ∷ []) (end 1 1 2 536870911 1) (g 1 4 0 ∷ g 9 4 0 ∷ []) [] [])
    -- 14 merges at levels 0 and 3, and does nothing at 1 and 2
    ∷ on 3 0 [] (call c03-clear-output ∷ info 1 0 5 0 ∷ info 2 0 4 0 ∷ call (c12-merge-out-clusters (done_place 0) (done_place 2)) ∷ call (c14-merge-out-grapheme-clusters (done_place 0) (done_place 2)) ∷ []) (shows (ok ∷ ok ∷ ok ∷ ok ∷ ok ∷ []) (end 0 0 2 536870909 1) (g 1 4 0 ∷ g 2 4 0 ∷ []) [] [])
    -- 17, wanted and unwanted
    ∷ on 0 2 (pushes 1 (0 ∷ 1 ∷ [])) (call (c17-safe-to-insert-tatweel none none) ∷ []) (shows (ok ∷ []) (end 2 0 0 536870911 1) [] [] (g 1 0 0 ∷ g 2 1 4 ∷ []))
    ∷ on 0 1 (pushes 1 (0 ∷ 1 ∷ [])) (call (c17-safe-to-insert-tatweel none none) ∷ []) (shows (ok ∷ []) (end 2 0 0 536870911 1) [] [] (g 1 0 0 ∷ g 2 1 3 ∷ []))
    -- reversals: of a range, of clusters
    ∷ on 0 0 (pushes 1 (0 ∷ 1 ∷ 1 ∷ [])) (call (c1C-reverse-range (input_place 0) (input_place 2)) ∷ call (c1C-reverse-range (input_place 2) (input_place 4)) ∷ call c1D-reverse-clusters ∷ []) (shows (ok ∷ no 3 ∷ ok ∷ []) (end 3 0 0 536870911 1) [] [] (g 3 1 0 ∷ g 1 0 0 ∷ g 2 1 0 ∷ []))
    -- `form_clusters` merges each grapheme; `leave` gives the limits back
    ∷ on 0 0 (made (info 1 0 4 0 ∷ info 2 0 5 1 ∷ info 3 0 6 0 ∷ [])) (call c24-enter ∷ call (c22-form-clusters 0 1) ∷ call c25-leave ∷ []) (shows (ok ∷ ok ∷ ok ∷ []) (end 3 0 0 536870911 1) [] [] (gv 1 4 0 0 ∷ gv 2 4 0 1 ∷ gv 3 6 0 0 ∷ []))
    -- bytes: numbers cut off are refusal 6, which ends the reading
    ∷ read (1 ∷ (word 41 ++ (word 7 ++ (3 ∷ 14 ∷ (word 1 ++ (word 2 ++ word 99)))))) (shows (ok ∷ ok ∷ no 6 ∷ []) (end 1 0 0 536870911 1) [] [] (g 41 7 0 ∷ []))
    -- bytes: an open bound
    ∷ read (2 ∷ (word 2 ++ (31 ∷ 21 ∷ 255 ∷ 255 ∷ 255 ∷ 255 ∷ 255 ∷ 255 ∷ 255 ∷ 255 ∷ []))) (shows (ok_with 1 ∷ ok ∷ ok ∷ []) (end 2 0 0 536870911 1) [] [] (g 0 0 0 ∷ g 0 1 3 ∷ []))
    -- bytes: an unknown command, with a known one behind it
    ∷ read (39 ∷ 3 ∷ []) (shows (no 6 ∷ []) (end 0 0 0 536870911 1) [] [] [])
    -- wants bit 2 (document 02, N11): level 3 seeks the least in the whole range, and marks all that is not of it; without the bit, at the ends
    ∷ on 3 0 (pushes 1 (5 ∷ 1 ∷ 7 ∷ [])) (call (c15-unsafe-to-break (some (input_place 0)) (some (input_place 3))) ∷ []) (shows (ok ∷ []) (end 3 0 0 536870911 1) [] [] (g 1 5 0 ∷ g 2 1 3 ∷ g 3 7 3 ∷ []))
    ∷ on 3 4 (pushes 1 (5 ∷ 1 ∷ 7 ∷ [])) (call (c15-unsafe-to-break (some (input_place 0)) (some (input_place 3))) ∷ []) (shows (ok ∷ []) (end 3 0 0 536870911 1) [] [] (g 1 5 3 ∷ g 2 1 0 ∷ g 3 7 3 ∷ []))
    ∷ on 3 0 (pushes 1 (1 ∷ 5 ∷ 1 ∷ 5 ∷ [])) (call (c15-unsafe-to-break (some (input_place 0)) (some (input_place 4))) ∷ []) (shows (ok ∷ []) (end 4 0 0 536870911 1) [] [] (g 1 1 0 ∷ g 2 5 0 ∷ g 3 1 0 ∷ g 4 5 3 ∷ []))
    ∷ on 3 4 (pushes 1 (1 ∷ 5 ∷ 1 ∷ 5 ∷ [])) (call (c15-unsafe-to-break (some (input_place 0)) (some (input_place 4))) ∷ []) (shows (ok ∷ []) (end 4 0 0 536870911 1) [] [] (g 1 1 0 ∷ g 2 5 3 ∷ g 3 1 0 ∷ g 4 5 3 ∷ []))
    -- at other levels it does nothing; a wants of 8, which only a state by value has, has it clear
    ∷ on 0 4 (pushes 1 (5 ∷ 1 ∷ 7 ∷ [])) (call (c15-unsafe-to-break (some (input_place 0)) (some (input_place 3))) ∷ []) (shows (ok ∷ []) (end 3 0 0 536870911 1) [] [] (g 1 5 0 ∷ g 2 1 3 ∷ g 3 7 3 ∷ []))
    ∷ on 1 4 (pushes 1 (5 ∷ 1 ∷ 7 ∷ [])) (call (c15-unsafe-to-break (some (input_place 0)) (some (input_place 3))) ∷ []) (shows (ok ∷ []) (end 3 0 0 536870911 1) [] [] (g 1 5 0 ∷ g 2 1 3 ∷ g 3 7 3 ∷ []))
    ∷ on 2 4 (pushes 1 (5 ∷ 1 ∷ 7 ∷ [])) (call (c15-unsafe-to-break (some (input_place 0)) (some (input_place 3))) ∷ []) (shows (ok ∷ []) (end 3 0 0 536870911 1) [] [] (g 1 5 3 ∷ g 2 1 0 ∷ g 3 7 3 ∷ []))
    ∷ on 3 8 (pushes 1 (5 ∷ 1 ∷ 7 ∷ [])) (call (c15-unsafe-to-break (some (input_place 0)) (some (input_place 3))) ∷ []) (shows (ok ∷ []) (end 3 0 0 536870911 1) [] [] (g 1 5 0 ∷ g 2 1 3 ∷ g 3 7 3 ∷ []))
    -- 17, 18, 11 and the merges in 0E and 20 follow it
    ∷ on 3 6 (pushes 1 (5 ∷ 1 ∷ 7 ∷ [])) (call (c17-safe-to-insert-tatweel (some (input_place 0)) (some (input_place 3))) ∷ []) (shows (ok ∷ []) (end 3 0 0 536870911 1) [] [] (g 1 5 4 ∷ g 2 1 0 ∷ g 3 7 4 ∷ []))
    ∷ on 3 4 (pushes 1 (7 ∷ [])) (call c03-clear-output ∷ info 8 0 5 0 ∷ info 9 0 1 0 ∷ info 10 0 6 0 ∷ call (c18-unsafe-to-break-from-outbuffer (some (done_place 0)) (some (input_place 1))) ∷ []) (shows (ok ∷ ok ∷ ok ∷ ok ∷ ok ∷ []) (end 1 0 3 536870911 1) (g 8 5 3 ∷ g 9 1 0 ∷ g 10 6 3 ∷ []) [] (g 1 7 3 ∷ []))
    ∷ on 3 4 (pushes 1 (5 ∷ 1 ∷ 7 ∷ [])) (call (c11-merge-clusters (input_place 0) (input_place 3)) ∷ []) (shows (ok ∷ []) (end 3 0 0 536870911 1) [] [] (g 1 5 3 ∷ g 2 1 0 ∷ g 3 7 3 ∷ []))
    ∷ on 3 4 (pushes 1 (5 ∷ 1 ∷ 7 ∷ [])) (call c03-clear-output ∷ replace_glyphs 3 1 (99 ∷ []) ∷ []) (shows (ok ∷ ok ∷ []) (end 3 3 1 536870911 1) (g 99 5 3 ∷ []) [] [])
    ∷ on 3 4 (made (info 1 0 5 1 ∷ info 2 0 1 1 ∷ info 3 0 7 0 ∷ [])) (call (c20-sort (input_place 0) (input_place 3) 0 1) ∷ []) (shows (ok ∷ []) (end 3 0 0 536870911 1) [] [] (gv 3 7 3 0 ∷ gv 1 5 3 1 ∷ gv 2 1 0 1 ∷ []))
    -- 16 and 13 do not; nor does the table of 23, which goes by bits 0 and 1
    ∷ on 3 5 (pushes 1 (5 ∷ 1 ∷ 7 ∷ [])) (call (c16-unsafe-to-concat (some (input_place 0)) (some (input_place 3))) ∷ []) (shows (ok ∷ []) (end 3 0 0 536870911 1) [] [] (g 1 5 2 ∷ g 2 1 2 ∷ g 3 7 2 ∷ []))
    ∷ on 3 4 (pushes 1 (5 ∷ 1 ∷ 7 ∷ [])) (call (c13-merge-grapheme-clusters (input_place 0) (input_place 3)) ∷ []) (shows (ok ∷ []) (end 3 0 0 536870908 1) [] [] (g 1 1 0 ∷ g 2 1 0 ∷ g 3 1 0 ∷ []))
    ∷ on 3 7 (made (info 1 4 5 0 ∷ [])) (call c23-propagate-flags ∷ []) (shows (ok ∷ []) (end 1 0 0 536870911 1) [] [] (g 1 5 7 ∷ []))
    -- 00 takes wants up to 7
    ∷ on 0 0 [] (call (c00-fresh 3 8) ∷ call (c00-fresh 3 7) ∷ []) (shows (no 4 ∷ ok ∷ []) (end 0 0 0 536870911 1) [] [] [])
    ∷ []

-- every row of the table prints what it says
examples : AllRight table
unfolding table Right page left_by ran on lent read shows drew places glyph_line position_line end_line g gv end pushes call push replace_glyphs made info rows word bytes-1 page-1 executable
examples = (refl, (refl, (refl, (refl, (refl, (refl, (refl, (refl, (refl, (refl, (refl, (refl, (refl, (refl, (refl, (refl, (refl, (refl, (refl, (refl, (refl, (refl, (refl, (refl, (refl, (refl, (refl, (refl, (refl, (refl, (refl, (refl, (refl, (refl, (refl, (refl, (refl, (refl, (refl, (refl, (refl, (refl, (refl, (refl, (refl, (refl, (refl, (refl, (refl, (refl, (refl, (refl, (refl, (refl, (refl, (refl, (refl, (refl, (refl, (refl, tt))))))))))))))))))))))))))))))))))))))))))))))))))))))))))))

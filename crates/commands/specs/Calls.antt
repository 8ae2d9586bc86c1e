-- The calls 00 to 26, what each comes to, and a list of them.
use Rattle.std.specs.Prelude.{◌∷◌}
use Rattle.records.specs.Library.{ℕ, zero, suc, true, false, cond, not, eqb, List, [], length, take, drop, get_or}
use Rattle.std.specs.Prelude.{Option, None as none, Some as some}
use Rattle.records.specs.{DonePlace, InputPlace, Contradiction, Unreadable, Bytes.word, Counters.capacity_of, Counters.rightly_lent, Glyphs.zero_position}
use Rattle.lists.specs.{Account.Account, Account.Result, Account.Outcome, Account.refused, Account.outcome, Account.refuse◌when◌else◌}
use Rattle.lists.specs.Cursor.{fresh, enter, leave, allocate_lig_id, clear_output, clear_positions, next_glyphs, skip_glyph, sync, move_to}
use Rattle.edits.specs.Writing.{copy_glyph, output_glyph, output_info, replace_glyphs}
use Rattle.edits.specs.Merging.{merge_input, merge_done, clusters_merge, graphemes_merge}
use Rattle.edits.specs.{Deleting.delete_glyph, Deleting.delete_glyphs_inplace, Flags.plain_form, Flags.outbuffer_form, Flags.wants_concat, Flags.wants_tatweel}
use Rattle.edits.specs.Groups.{reverse_clusters, reverse_graphemes, form_clusters, propagate_flags}
use Rattle.edits.specs.WholeRun.{push, set_length, place, set_masks, reverse_run, reverse_range, reset_clusters, sort}

-- a call, with all its operands but its glyph numbers
pub data Call : Type 0 where
  c00-fresh : (level wants : ℕ) → Call
  c01-push : (cluster : ℕ) → Call
  c02-set-length : (length : ℕ) → Call
  c03-clear-output c04-sync c05-clear-positions : Call
  c06-place : (i : InputPlace) (x-advance y-advance x-offset y-offset : ℕ) → Call
  c07-next-glyph : Call
  c08-next-glyphs : (n : ℕ) → Call
  c09-skip-glyph c0A-copy-glyph c0B-output-glyph : Call
  c0C-output-info : (mask cluster var0 var1 : ℕ) → Call
  c0D-replace-glyph : Call
  c0E-replace-glyphs : (num-in num-out : ℕ) → Call
  c0F-delete-glyph : Call
  c10-move-to : (i : ℕ) → Call
  c11-merge-clusters : (start end : InputPlace) → Call
  c12-merge-out-clusters : (start end : DonePlace) → Call
  c13-merge-grapheme-clusters : (start end : InputPlace) → Call
  c14-merge-out-grapheme-clusters : (start end : DonePlace) → Call
  c15-unsafe-to-break c16-unsafe-to-concat c17-safe-to-insert-tatweel : (start end : Option InputPlace) → Call
  c18-unsafe-to-break-from-outbuffer c19-unsafe-to-concat-from-outbuffer : (start : Option DonePlace) (end : Option InputPlace) → Call
  c1A-set-masks : (value mask start end : ℕ) → Call
  c1B-reverse : Call
  c1C-reverse-range : (start end : InputPlace) → Call
  c1D-reverse-clusters : Call
  c1E-reverse-graphemes : (slot mask : ℕ) → Call
  c1F-reset-clusters : Call
  c20-sort : (start end : InputPlace) (slot mask : ℕ) → Call
  c21-delete-glyphs-inplace : (slot mask v : ℕ) → Call
  c22-form-clusters : (slot mask : ℕ) → Call
  c23-propagate-flags c24-enter c25-leave c26-allocate-lig-id : Call

-- the command byte of a call: "one byte in hexadecimal"
unfoldable pub command_byte : Call → ℕ
command_byte c =
    elim c [
      | c00-fresh a b ↦ 0
      | c01-push a ↦ 1
      | c02-set-length a ↦ 2
      | c03-clear-output ↦ 3
      | c04-sync ↦ 4
      | c05-clear-positions ↦ 5
      | c06-place a b c d e ↦ 6
      | c07-next-glyph ↦ 7
      | c08-next-glyphs a ↦ 8
      | c09-skip-glyph ↦ 9
      | c0A-copy-glyph ↦ 10
      | c0B-output-glyph ↦ 11
      | c0C-output-info a b c d ↦ 12
      | c0D-replace-glyph ↦ 13
      | c0E-replace-glyphs a b ↦ 14
      | c0F-delete-glyph ↦ 15
      | c10-move-to a ↦ 16
      | c11-merge-clusters a b ↦ 17
      | c12-merge-out-clusters a b ↦ 18
      | c13-merge-grapheme-clusters a b ↦ 19
      | c14-merge-out-grapheme-clusters a b ↦ 20
      | c15-unsafe-to-break a b ↦ 21
      | c16-unsafe-to-concat a b ↦ 22
      | c17-safe-to-insert-tatweel a b ↦ 23
      | c18-unsafe-to-break-from-outbuffer a b ↦ 24
      | c19-unsafe-to-concat-from-outbuffer a b ↦ 25
      | c1A-set-masks a b c d ↦ 26
      | c1B-reverse ↦ 27
      | c1C-reverse-range a b ↦ 28
      | c1D-reverse-clusters ↦ 29
      | c1E-reverse-graphemes a b ↦ 30
      | c1F-reset-clusters ↦ 31
      | c20-sort a b c d ↦ 32
      | c21-delete-glyphs-inplace a b c ↦ 33
      | c22-form-clusters a b ↦ 34
      | c23-propagate-flags ↦ 35
      | c24-enter ↦ 36
      | c25-leave ↦ 37
      | c26-allocate-lig-id ↦ 38
    ]

-- a call and its glyph numbers: "the first operands of 01, 0B, 0C, 0D and the out numbers of 0E"
pub record Worded (G : Type 0) : Type 0 where
  pub call : Call
  pub glyphs : List G

module _ {G : Type 0} (z : G) where
  -- what a call with glyph numbers gs comes to, refusals 2 to 5; z is the glyph number 0, and `get_or gs 0 z` the first of gs
  unfoldable pub perform : (capacity : ℕ) → Call → List G → Account G → Result G
  perform capacity (c00-fresh level wants) gs a = fresh level wants a
  perform capacity (c01-push cluster) gs a = push capacity (get_or gs 0 z) cluster a
  perform capacity (c02-set-length n) gs a = set_length z capacity n a
  perform capacity c03-clear-output gs a = clear_output a
  perform capacity c04-sync gs a = sync capacity a
  perform capacity c05-clear-positions gs a = clear_positions a
  perform capacity (c06-place i xa ya xo yo) gs a = place i xa ya xo yo a
  perform capacity c07-next-glyph gs a = next_glyphs capacity 1 a
  perform capacity (c08-next-glyphs n) gs a = next_glyphs capacity n a
  perform capacity c09-skip-glyph gs a = skip_glyph a
  perform capacity c0A-copy-glyph gs a = copy_glyph capacity a
  perform capacity c0B-output-glyph gs a = output_glyph capacity (get_or gs 0 z) a
  perform capacity (c0C-output-info mask cluster var0 var1) gs a =
      output_info capacity (get_or gs 0 z) (record { mask = mask; cluster = cluster; var0 = var0; var1 = var1; origin = 0; position = zero_position }) a
  perform capacity c0D-replace-glyph gs a = replace_glyphs capacity 1 1 (get_or gs 0 z ∷ []) a
  perform capacity (c0E-replace-glyphs num-in num-out) gs a = replace_glyphs capacity num-in num-out gs a
  perform capacity c0F-delete-glyph gs a = delete_glyph a
  perform capacity (c10-move-to i) gs a = move_to capacity i a
  perform capacity (c11-merge-clusters s e) gs a = merge_input clusters_merge s e a
  perform capacity (c12-merge-out-clusters s e) gs a = merge_done clusters_merge s e a
  perform capacity (c13-merge-grapheme-clusters s e) gs a = merge_input graphemes_merge s e a
  perform capacity (c14-merge-out-grapheme-clusters s e) gs a = merge_done graphemes_merge s e a
  -- "Break forms set mask bits 0 and 1, concat 1, tatweel 2. Concat forms mark the whole range. The others are interior";
  -- "Tatweel unwanted, its form is `unsafe_to_break`."
  perform capacity (c15-unsafe-to-break s e) gs a = plain_form true true 3 s e a
  perform capacity (c16-unsafe-to-concat s e) gs a = plain_form false (wants_concat a.state.wants) 2 s e a
  perform capacity (c17-safe-to-insert-tatweel s e) gs a = plain_form true true (cond (wants_tatweel a.state.wants) 4 3) s e a
  perform capacity (c18-unsafe-to-break-from-outbuffer s e) gs a = outbuffer_form true true 3 s e a
  perform capacity (c19-unsafe-to-concat-from-outbuffer s e) gs a = outbuffer_form false (wants_concat a.state.wants) 2 s e a
  perform capacity (c1A-set-masks value mask s e) gs a = set_masks value mask s e a
  perform capacity c1B-reverse gs a = reverse_run a
  perform capacity (c1C-reverse-range s e) gs a = reverse_range s e a
  perform capacity c1D-reverse-clusters gs a = reverse_clusters a
  perform capacity (c1E-reverse-graphemes slot mask) gs a = reverse_graphemes slot mask a
  perform capacity c1F-reset-clusters gs a = reset_clusters a
  perform capacity (c20-sort s e slot mask) gs a = sort s e slot mask a
  perform capacity (c21-delete-glyphs-inplace slot mask v) gs a = delete_glyphs_inplace slot mask v a
  perform capacity (c22-form-clusters slot mask) gs a = form_clusters slot mask a
  perform capacity c23-propagate-flags gs a = propagate_flags a
  perform capacity c24-enter gs a = enter a
  perform capacity c25-leave gs a = leave a
  perform capacity c26-allocate-lig-id gs a = allocate_lig_id a

  -- a call with two lent slices of these lengths, in words: refusal 1, then the call's own
  unfoldable pub step : (m n : ℕ) → Worded G → Account G → Outcome G
  step m n w a = outcome a (refuse Contradiction when not (rightly_lent m n) else perform (capacity_of m) w.call w.glyphs a)

  -- the outcome of each call of a list: "Each gets the state the last one returned or left, and the same slices"
  unfoldable pub run : (m n : ℕ) → List (Worded G) → Account G → List (Outcome G)
  run m n [] a = []
  run m n (w ∷ ws) a = let o = step m n w a in o ∷ run m n ws o.after

-- ---- commands from bytes: "one byte in hexadecimal, operands of four bytes, low byte first; an open bound (15 to 19) is FFFFFFFF"
-- what was read, and the bytes after it; or refusal 6, "unknown command byte, operands cut off"
pub data Read (A : Type 0) : Type 0 where
  unreadable : Read A
  got : A → List ℕ → Read A

unfoldable pub mapped : {A B : Type 0} → (A → B) → Read A → Read B
mapped h unreadable = unreadable
mapped h (got a l) = got (h a) l

-- n operands
unfoldable pub words : ℕ → List ℕ → Read (List ℕ)
words zero l = got [] l
words (suc n) [] = unreadable
words (suc n) (a ∷ []) = unreadable
words (suc n) (a ∷ (b ∷ [])) = unreadable
words (suc n) (a ∷ (b ∷ (c ∷ []))) = unreadable
words (suc n) (a ∷ (b ∷ (c ∷ (d ∷ l)))) = mapped (λ ws. word a b c d ∷ ws) (words n l)

-- an operand as a number, a place, a bound
unfoldable pub operand : ℕ → List ℕ → ℕ
operand i ws = get_or ws i 0

unfoldable pub input_place : ℕ → InputPlace
input_place n = record { 0 = n }

unfoldable pub done_place : ℕ → DonePlace
done_place n = record { 0 = n }

unfoldable pub bound : {P : Type 0} → (ℕ → P) → ℕ → Option P
bound place n = cond (eqb n 4294967295) none (some (place n))

-- what a command is made of: n plain operands; a glyph number and n plain operands; two plain ones, and as many glyph numbers as the second says
pub data Form : Type 0 where
  unknown : Form
  operands glyph_and : ℕ → (List ℕ → Call) → Form
  listed : (List ℕ → Call) → Form

-- the form of each command byte, from 00 on; "operands unnamed are the Rust's"
unfoldable pub forms : List Form
forms =
    operands 2 (λ w. c00-fresh (operand 0 w) (operand 1 w)) ∷ glyph_and 1 (λ w. c01-push (operand 0 w)) ∷ operands 1 (λ w. c02-set-length (operand 0 w))
    ∷ operands 0 (λ w. c03-clear-output) ∷ operands 0 (λ w. c04-sync) ∷ operands 0 (λ w. c05-clear-positions)
    ∷ operands 5 (λ w. c06-place (input_place (operand 0 w)) (operand 1 w) (operand 2 w) (operand 3 w) (operand 4 w))
    ∷ operands 0 (λ w. c07-next-glyph) ∷ operands 1 (λ w. c08-next-glyphs (operand 0 w)) ∷ operands 0 (λ w. c09-skip-glyph)
    ∷ operands 0 (λ w. c0A-copy-glyph) ∷ glyph_and 0 (λ w. c0B-output-glyph)
    ∷ glyph_and 4 (λ w. c0C-output-info (operand 0 w) (operand 1 w) (operand 2 w) (operand 3 w))
    ∷ glyph_and 0 (λ w. c0D-replace-glyph) ∷ listed (λ w. c0E-replace-glyphs (operand 0 w) (operand 1 w))
    ∷ operands 0 (λ w. c0F-delete-glyph) ∷ operands 1 (λ w. c10-move-to (operand 0 w))
    ∷ operands 2 (λ w. c11-merge-clusters (input_place (operand 0 w)) (input_place (operand 1 w)))
    ∷ operands 2 (λ w. c12-merge-out-clusters (done_place (operand 0 w)) (done_place (operand 1 w)))
    ∷ operands 2 (λ w. c13-merge-grapheme-clusters (input_place (operand 0 w)) (input_place (operand 1 w)))
    ∷ operands 2 (λ w. c14-merge-out-grapheme-clusters (done_place (operand 0 w)) (done_place (operand 1 w)))
    ∷ operands 2 (λ w. c15-unsafe-to-break (bound input_place (operand 0 w)) (bound input_place (operand 1 w)))
    ∷ operands 2 (λ w. c16-unsafe-to-concat (bound input_place (operand 0 w)) (bound input_place (operand 1 w)))
    ∷ operands 2 (λ w. c17-safe-to-insert-tatweel (bound input_place (operand 0 w)) (bound input_place (operand 1 w)))
    ∷ operands 2 (λ w. c18-unsafe-to-break-from-outbuffer (bound done_place (operand 0 w)) (bound input_place (operand 1 w)))
    ∷ operands 2 (λ w. c19-unsafe-to-concat-from-outbuffer (bound done_place (operand 0 w)) (bound input_place (operand 1 w)))
    ∷ operands 4 (λ w. c1A-set-masks (operand 0 w) (operand 1 w) (operand 2 w) (operand 3 w))
    ∷ operands 0 (λ w. c1B-reverse) ∷ operands 2 (λ w. c1C-reverse-range (input_place (operand 0 w)) (input_place (operand 1 w)))
    ∷ operands 0 (λ w. c1D-reverse-clusters) ∷ operands 2 (λ w. c1E-reverse-graphemes (operand 0 w) (operand 1 w)) ∷ operands 0 (λ w. c1F-reset-clusters)
    ∷ operands 4 (λ w. c20-sort (input_place (operand 0 w)) (input_place (operand 1 w)) (operand 2 w) (operand 3 w))
    ∷ operands 3 (λ w. c21-delete-glyphs-inplace (operand 0 w) (operand 1 w) (operand 2 w)) ∷ operands 2 (λ w. c22-form-clusters (operand 0 w) (operand 1 w))
    ∷ operands 0 (λ w. c23-propagate-flags) ∷ operands 0 (λ w. c24-enter) ∷ operands 0 (λ w. c25-leave) ∷ operands 0 (λ w. c26-allocate-lig-id)
    ∷ []

abbrev pub form_of : ℕ → Form
form_of byte = get_or forms byte unknown

unfoldable pub read_form : Form → List ℕ → Read (Worded ℕ)
read_form unknown l = unreadable
read_form (operands n k) l = mapped (λ ws. record { call = k ws; glyphs = [] }) (words n l)
read_form (glyph_and n k) l = mapped (λ ws. record { call = k (drop 1 ws); glyphs = take 1 ws }) (words (suc n) l)
read_form (listed k) l = elim (words 2 l) [ unreadable ↦ unreadable | got ws r ↦ mapped (λ gs. record { call = k ws; glyphs = gs }) (words (operand 1 ws) r) ]

-- the first command of what is left of a string, and the bytes after it
unfoldable pub front : List ℕ → Read (Worded ℕ)
front [] = unreadable
front (byte ∷ l) = read_form (form_of byte) l

unfoldable pub behind : Read (Worded ℕ) → List ℕ
behind unreadable = []
behind (got w l) = l

-- the calls of a string, at most n, and `none` where refusal 6 ends the reading
unfoldable pub read_up_to : ℕ → List ℕ → List (Option (Worded ℕ))
read_up_to zero l = []
read_up_to (suc n) [] = []
read_up_to (suc n) (byte ∷ l) = elim (read_form (form_of byte) l) [ unreadable ↦ none ∷ [] | got w r ↦ some w ∷ read_up_to n r ]

-- the outcome of each call read, by what a call comes to; "Bytes end at their first refusal 6", which comes before refusal 1
unfoldable pub run_read : (Worded ℕ → Account ℕ → Outcome ℕ) → List (Option (Worded ℕ)) → Account ℕ → List (Outcome ℕ)
run_read call [] a = []
run_read call (none ∷ ws) a = outcome a (refused Unreadable) ∷ []
run_read call (some w ∷ ws) a = let o = call w a in o ∷ run_read call ws o.after

-- a string has at most as many commands as bytes
unfoldable pub run_bytes : (m n : ℕ) → List ℕ → Account ℕ → List (Outcome ℕ)
run_bytes m n bytes a = run_read (step 0 m n) (read_up_to (length bytes) bytes) a

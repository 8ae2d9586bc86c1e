-- Counters and the cursor: calls 00, 03, 04, 05, 07, 08, 09, 10, 24, 25, 26.
use Rattle.std.specs.Prelude.{◌+◌, ◌-◌, ◌%◌, ◌||◌, ◌++◌}
use Rattle.records.specs.Library.{ℕ, cond, not, ltb, List, [], map, length, take, drop}
use Rattle.records.specs.{Plain, Output, Positions, Spoiled, WrongPhase, OutOfRange, BadOperand, Counters.is_negative, Counters.after_enter, Glyphs.Glyph}
use Rattle.records.specs.{Counters.after_leave, Counters.lig_serial, Counters.with_serial, Glyphs.change, Glyphs.with_position, Glyphs.zero_position}
use Rattle.lists.specs.Account.{Account, in_phase, with_gone, has_output, is_spoiled, input, len, idx, out_length, fresh_account, limiting, paying, failing}
use Rattle.lists.specs.Account.{sized, Result, accepted, answered, refuse◌when◌else◌, needing}

module _ {G : Type 0} where
  -- spoiled, "only 00 is then accepted, no list shown": the others test `is_spoiled`, or a phase that it is not
  unfoldable pub fresh : (level wants : ℕ) → Account G → Result G  -- 00. "Refusal 4 now starts at wants over 7" (document 02, N11)
  fresh level wants a = refuse BadOperand when ltb 7 wants else accepted (fresh_account level wants)

  unfoldable pub enter : Account G → Result G  -- 24
  enter a = refuse WrongPhase when is_spoiled a else accepted (limiting (after_enter (len a)) a)

  unfoldable pub leave : Account G → Result G  -- 25
  leave a = refuse WrongPhase when is_spoiled a else accepted (limiting after_leave a)

  -- "the low three bits, the id"
  unfoldable pub allocate_lig_id : Account G → Result G  -- 26
  allocate_lig_id a =
      let s = lig_serial a.state.limits.serial in
      refuse WrongPhase when is_spoiled a else answered (s % 8) (limiting (with_serial s) a)

  -- n glyphs of *rest* move to *done*
  unfoldable pub moved : ℕ → Account G → Account G
  moved n a = record { done = a.done ++ take n a.rest; passed = a.passed; rest = drop n a.rest; state = with_gone (a.state.gone + n) a.state }

  -- n glyphs of *rest* are dropped
  unfoldable pub dropping : ℕ → Account G → Account G
  dropping n a = record { done = a.done; passed = a.passed; rest = drop n a.rest; state = with_gone (a.state.gone + n) a.state }

  -- the last n glyphs of *done* go back to the head of *rest*
  unfoldable pub back : ℕ → Account G → Account G
  back n a =
      let k = length a.done - n in
      record { done = take k a.done; passed = a.passed; rest = drop k a.done ++ a.rest; state = with_gone (a.state.gone - n) a.state }

  unfoldable pub cursor_at : ℕ → Account G → Account G  -- without output
  cursor_at i a = record { done = a.done; passed = take i (input a); rest = drop i (input a); state = a.state }

  unfoldable pub growing : ℕ → Account G → Account G  -- "`len` and `idx` grow": by n glyphs of the input that no list shows
  growing n a = record { done = a.done; passed = a.passed; rest = a.rest; state = with_gone (a.state.gone + n) a.state }

  unfoldable pub output_as_run : Account G → Account G  -- *done* becomes the run, `idx` 0
  output_as_run a = record { done = []; passed = []; rest = a.done; state = in_phase Plain (with_gone 0 a.state) }

  -- "keeps `len`, zeroes `idx` and `out_len`, and the phase is spoiled"
  unfoldable pub spoiling : Account G → Account G
  spoiling a = record { done = []; passed = []; rest = []; state = in_phase Spoiled (with_gone (len a) a.state) }

  unfoldable pub without_positions : List (Glyph G) → List (Glyph G)  -- all positions 0
  without_positions l = map (change (with_position zero_position)) l

  unfoldable pub opened : Account G → Account G  -- after `clear_output`: the whole run is *rest*
  opened a = record { done = []; passed = []; rest = without_positions (input a); state = in_phase Output (with_gone 0 a.state) }

  unfoldable pub positioned : Account G → Account G  -- after `clear_positions`
  positioned a = record { done = a.done; passed = without_positions a.passed; rest = without_positions a.rest; state = in_phase Positions a.state }

  -- "`clear_output` (`idx` 0, no positions) and `clear_positions` (all 0, `idx` kept) are refusal 2 with output."
  unfoldable pub clear_output : Account G → Result G  -- 03
  clear_output a = refuse WrongPhase when has_output a || is_spoiled a else accepted (opened a)

  unfoldable pub clear_positions : Account G → Result G  -- 05
  clear_positions a = refuse WrongPhase when has_output a || is_spoiled a else accepted (positioned a)

  -- "`next_glyph(s)` moves *rest* to *done* (*passed* without output). With output it needs size `out_len` + glyphs moved; if that gives up, nothing moves."
  unfoldable pub next_glyphs : (capacity n : ℕ) → Account G → Result G  -- 08; 07 is that of one
  next_glyphs capacity n a =
      let size = out_length a + n in
      refuse WrongPhase when is_spoiled a else
      refuse OutOfRange when ltb (length a.rest) n else
      cond (has_output a) (needing capacity size a (accepted (moved n (sized size a))) (accepted (failing a))) (accepted (cursor_at (idx a + n) a))

  -- "`skip_glyph` drops (without output, passes)."
  unfoldable pub skip_glyph : Account G → Result G  -- 09
  skip_glyph a =
      refuse WrongPhase when is_spoiled a else
      refuse OutOfRange when ltb (length a.rest) 1 else
      accepted (cond (has_output a) (dropping 1 a) (cursor_at (idx a + 1) a))

  -- "`sync` needs output; unsuccessful returns false", "before 5". "Otherwise true: *rest* moves over (lost if the size gives up) and *done* becomes the run"
  unfoldable pub sync : (capacity : ℕ) → Account G → Result G  -- 04
  sync capacity a =
      let n = length a.rest in let size = out_length a + n in
      refuse WrongPhase when not (has_output a) else
      cond (not a.state.limits.successful) (answered 0 (spoiling a))
      (needing capacity size a (answered 1 (output_as_run (moved n (sized size a)))) (answered 1 (output_as_run (failing a))))

  -- "A failed cost, or a size given up, returns false there, earlier growth kept.": n is paid, and x follows
  unfoldable pub pays_for : ℕ → Account G → (x : Result G) → Result G
  pays_for n a x = cond (is_negative (paying n a).state.limits.max_ops) (answered 0 (paying n a)) x

  -- "Forward by n: size `out_len` + n, cost n."
  unfoldable pub forward : (capacity n : ℕ) → Account G → Result G
  forward capacity n a =
      let size = out_length a + n in let b = sized size a in
      needing capacity size a (pays_for n b (answered 1 (moved n (paying n b)))) (answered 0 (failing a))

  unfoldable pub goes_back : ℕ → Account G → Result G  -- "cost n", and n glyphs go back
  goes_back n a = pays_for n a (answered 1 (back n (paying n a)))

  -- "Back by n: if `idx` < n first size `len` + n − `idx`, cost `len` − `idx`, then `len` and `idx` grow by n − `idx`; cost n."
  unfoldable pub backward : (capacity n : ℕ) → Account G → Result G
  backward capacity n a =
      let size = len a + n - idx a in let b = sized size a in let k = len a - idx a in
      cond (ltb (idx a) n) (needing capacity size a (pays_for k b (goes_back n (growing (n - idx a) (paying k b)))) (answered 0 (failing a))) (goes_back n a)

  -- "`move_to` i: without output the cursor is i ≤ `len`. With output i ≤ `out_len` + rest; *done* then *rest* is conserved, also if given up."
  -- "With output, `move_to` and `sync` on an unsuccessful buffer return false before 5."
  unfoldable pub move_to : (capacity i : ℕ) → Account G → Result G  -- 10
  move_to capacity i a =
      refuse WrongPhase when is_spoiled a else
      refuse OutOfRange when ltb (cond (has_output a) (out_length a + length a.rest) (len a)) i else
      cond (not (has_output a)) (answered 1 (cursor_at i a))
      (cond (not a.state.limits.successful) (answered 0 a)
      (cond (ltb (out_length a) i) (forward capacity (i - out_length a) a)
      (cond (ltb i (out_length a)) (backward capacity (out_length a - i) a) (answered 1 a))))

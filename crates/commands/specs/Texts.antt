-- What programs print, whole, as bytes: the answers, then the report of exam or the record of desk.
use Rattle.std.specs.Prelude.{◌+◌, ◌≤◌, ◌<◌, ◌∷◌, ◌++◌, ◌≡◌}
use Rattle.records.specs.Library.{ℕ, zero, suc, cond, eqb, List, [], flat_map, length, take, drop, sets}
use Rattle.records.specs.{Answers.ok, Counters.words_for}
use Rattle.lists.specs.{Account.Account, Account.fresh_account, Account.Outcome, Contract.account, Contract.outcome_of, Contract.LeavesAlone}
use Rattle.lists.specs.{declared.Buffer.Buffer}
use Rattle.commands.specs.{Calls.unreadable, Calls.got, Calls.form_of, Calls.read_form, Calls.run_bytes, Runs.last_of, Runs.all_no, Runs.largest}
use Rattle.commands.specs.{Runs.outcomes, declared.Played.Played, Totals.is_glyph_kind, Lines.answer_line, Lines.report_lines, Lines.report}

-- ---- the layout record: "lengths, clusters, flags and counters, with the glyph column removed"
-- some bytes from the next space on
unfoldable pub from_space : List ℕ → List ℕ
from_space [] = []
from_space (c ∷ l) = cond (eqb c 32) (c ∷ l) (from_space l)

-- the line of a glyph without its first number, the glyph number; any other line as it is
unfoldable pub without_glyph : List ℕ → List ℕ
without_glyph [] = []
without_glyph (kind ∷ l) = kind ∷ cond (is_glyph_kind kind) (from_space (drop 1 l)) l

-- made of the lines of the report themselves, so that whatever a line gains later is in it
unfoldable pub layout_record : Account ℕ → List ℕ
layout_record a = flat_map without_glyph (report_lines a)

-- ---- the answers
-- the command bytes of a string, at most n. "Refusal 6 prints `no 6` and goes to `end`."
unfoldable pub command_bytes : (n : ℕ) → List ℕ → List ℕ
command_bytes zero l = []
command_bytes (suc n) [] = []
command_bytes (suc n) (byte ∷ l) = byte ∷ elim (read_form (form_of byte) l) [ unreadable ↦ [] | got w r ↦ command_bytes n r ]

-- the line of each command, of its byte and its outcome
unfoldable pub answer_lines : List ℕ → List (Outcome ℕ) → List (List ℕ)
answer_lines [] os = []
answer_lines (byte ∷ bytes) [] = []
answer_lines (byte ∷ bytes) (o ∷ os) = answer_line byte o.answer ∷ answer_lines bytes os

-- of all commands of a string that came to these outcomes
unfoldable pub answers : List ℕ → List (Outcome ℕ) → List ℕ
answers script os = flat_map (λ l. l) (answer_lines (command_bytes (length script) script) os)

-- ---- the programs: "level and wants 0", over slices for n glyphs
unfoldable pub exam_run : (n : ℕ) (script : List ℕ) → List (Outcome ℕ)
exam_run n script = run_bytes (words_for n) (words_for n) script (fresh_account 0 0)

unfoldable pub last_account : List (Outcome ℕ) → Account ℕ
last_account os = (last_of (record { answer = ok; after = fresh_account 0 0 }) os).after

unfoldable pub exam_text : (n : ℕ) (script : List ℕ) → List ℕ
exam_text n script = let os = exam_run n script in answers script os ++ report (last_account os)

unfoldable pub desk_text : (n : ℕ) (script : List ℕ) → List ℕ
desk_text n script = let os = exam_run n script in answers script os ++ layout_record (last_account os)

-- ---- where texts are written: these bytes stand from `at` on, nothing else is changed, and r is the place after them
pub record Wrote (bytes before : List ℕ) (at r : ℕ) (after : List ℕ) : Type 0 where
  pub list : after ≡ sets before at bytes
  pub next : r ≡ at + length bytes

-- no line is longer: `end`, three numbers of 20 digits, a signed one, and 0 or 1
abbrev pub longest : ℕ
longest = 81

-- a line is written where the longest has room; else nothing is
pub record Prints (line before : List ℕ) (at r : ℕ) (after : List ℕ) : Type 0 where
  pub room : at + longest ≤ length before → Wrote line before at r after
  pub none : length before < at + longest → (r ≡ at) × (after ≡ before)
  pub short : r ≤ at + longest

-- a text in a lent slice: r bytes are needed; where there is no room nothing is written
pub record Fills (text before : List ℕ) (r : ℕ) (after : List ℕ) : Type 0 where
  pub needs : r ≡ length text
  pub room : length text ≤ length before → after ≡ sets before 0 text
  pub none : length before < length text → after ≡ before

-- the lines of a string's commands on a buffer
abbrev pub lines_of : List ℕ → Buffer → (first second : List ℕ) → List (List ℕ)
lines_of script b f s = answer_lines (command_bytes (length script) script) (outcomes script b f s)

-- some of the commands of a string from a place on, up to its end or as many as have room for their lines, and what is left (`Played`: src/lib.rt)
pub record Plays (script : List ℕ) (at : ℕ) (b : Buffer) (f s out : List ℕ) (r : Played) (f' s' out' : List ℕ) : Type 0 where
  pub some : r.commands ≤ length (outcomes (drop at script) b f s)
  pub last : outcome_of r.reply f' s' ≡ last_of (record { answer = ok; after = account b f s }) (take r.commands (outcomes (drop at script) b f s))
  pub text : Wrote (flat_map (λ l. l) (take r.commands (lines_of (drop at script) b f s))) out 0 r.written out'
  pub rest : outcomes (drop r.next script) r.reply.buffer f' s' ≡ drop r.commands (outcomes (drop at script) b f s)
  pub rest_lines : lines_of (drop r.next script) r.reply.buffer f' s' ≡ drop r.commands (lines_of (drop at script) b f s)
  pub alone : let made = take r.commands (outcomes (drop at script) b f s) in LeavesAlone (all_no made) (largest made) b f s r.reply.buffer f' s'
  -- places: no more commands than bytes; after them stands the end, or there is no room for a longest line more
  pub inside : r.written ≤ length out
  pub few : at + r.commands ≤ r.next
  pub none : r.commands ≡ 0 → r.next ≡ at
  pub next-in : at ≤ length script → r.next ≤ length script
  pub full : r.next < length script → length out < r.written + longest
  pub onward : at < length script → longest ≤ length out → at < r.next

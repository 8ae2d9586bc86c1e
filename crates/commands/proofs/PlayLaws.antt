-- What is left of a string after a command: its outcomes, and its lines.
use mathlib.Core.{Path.◌≡◌, Path.refl, Path.ap, Path.ap₂, Path.sym, Path.◌∙◌, List.List, List.[], List.◌∷◌}
use Rattle.std.specs.Prelude.{Option, Some as some}
use Prim.Native.Nat.{ℕ, zero, suc, ◌+◌, ◌-◌, ◌<◌, ◌≤◌}
use native.Mathlib.Omega.{arith}
use lib.{ListN.length, ListN.get_or, ListN.drop, ListN.length-drop}
use Rattle.records.specs.{Answers.said}
use Rattle.lists.specs.{declared.Buffer.Buffer}
use Rattle.lists.specs.{Contract.account, Contract.sound, Contract.outcome_of}
use Rattle.commands.specs.Calls.{Call, Worded}
use Rattle.commands.specs.Calls.{Read, unreadable, got, mapped, words, operand, Form, unknown, operands, glyph_and, listed, forms, read_form, read_up_to, run_read}
use Rattle.commands.specs.Calls.{form_of}
use Rattle.commands.specs.{Calls.front, Calls.behind, Runs.called, Runs.Steps}
use Rattle.commands.specs.Runs.{outcomes}
use Rattle.commands.specs.{Lines.answer_line}
use Rattle.commands.specs.Texts.{command_bytes, answer_lines, lines_of}
use Rattle.commands.specs.{declared.Step.Step}
use Rattle.commands.proofs.Bytes.{continued, listed_read}
use Rattle.commands.proofs.Readings.{next}
use Rattle.commands.proofs.RunLaws.{goes_on}

-- ---- a command takes bytes, so as many commands as there are bytes are enough
Shorter : {A : Type 0} → ℕ → Read A → Type 0
Shorter n unreadable = Unit {0}
Shorter n (got a l) = length l ≤ n

shorter-mapped : {A B : Type 0} (h : A → B) (n : ℕ) (r : Read A) → Shorter n r → Shorter n (mapped h r)
unfolding mapped Shorter
shorter-mapped h n unreadable s = tt
shorter-mapped h n (got a l) s = s

shorter-more : {A : Type 0} (m n : ℕ) (r : Read A) → m ≤ n → Shorter m r → Shorter n r
unfolding Shorter
shorter-more m n unreadable h s = tt
shorter-more m n (got a l) h s = omega arith

shorter-words : (k : ℕ) (l : List ℕ) → Shorter (length l) (words k l)
unfolding words Shorter
shorter-words zero l = omega arith
shorter-words (suc k) [] = tt
shorter-words (suc k) (a ∷ []) = tt
shorter-words (suc k) (a ∷ (b ∷ [])) = tt
shorter-words (suc k) (a ∷ (b ∷ (c ∷ []))) = tt
shorter-words (suc k) (a ∷ (b ∷ (c ∷ (d ∷ l)))) = shorter-mapped _ _ (words k l) (shorter-more (length l) _ (words k l) (omega arith) (shorter-words k l))

shorter-listed : (k : List ℕ → Call) (n : ℕ) (r : Read (List ℕ)) → Shorter n r → Shorter n (listed_read k r)
unfolding listed_read Shorter
shorter-listed k n unreadable s = tt
shorter-listed k n (got ws l) s = shorter-mapped _ n (words (operand 1 ws) l) (shorter-more (length l) n (words (operand 1 ws) l) s (shorter-words (operand 1 ws) l))

shorter-form : (form : Form) (l : List ℕ) → Shorter (length l) (read_form form l)
unfolding read_form listed_read Shorter
shorter-form unknown l = tt
shorter-form (operands n k) l = shorter-mapped _ _ (words n l) (shorter-words n l)
shorter-form (glyph_and n k) l = shorter-mapped _ _ (words (suc n) l) (shorter-words (suc n) l)
shorter-form (listed k) l = shorter-listed k (length l) (words 2 l) (shorter-words 2 l)

on-continued : (m n k : ℕ) (x : Read (Worded ℕ)) → Shorter k x → ((r : List ℕ) → length r ≤ k → read_up_to m r ≡ read_up_to n r) → continued m x ≡ continued n x
unfolding continued Shorter
on-continued m n k unreadable s same = refl
on-continued m n k (got w r) s same = ap (λ (l : List (Option (Worded ℕ))). some w ∷ l) (same r s)

enough-read : (m n : ℕ) (l : List ℕ) → length l ≤ m → length l ≤ n → read_up_to m l ≡ read_up_to n l
unfolding read_up_to continued
enough-read zero zero l h k = refl
enough-read zero (suc n) [] h k = refl
enough-read zero (suc n) (byte ∷ l) h k = absurd (omega arith)
enough-read (suc m) zero [] h k = refl
enough-read (suc m) zero (byte ∷ l) h k = absurd (omega arith)
enough-read (suc m) (suc n) [] h k = refl
enough-read (suc m) (suc n) (byte ∷ l) h k = on-continued m n (length l) (read_form (get_or forms byte unknown) l) (shorter-form (get_or forms byte unknown) l) (λ r s. enough-read m n r (omega arith) (omega arith))

-- the command bytes behind a command
bytes_behind : ℕ → Read (Worded ℕ) → List ℕ
bytes_behind n r = elim r [ unreadable ↦ [] | got w l ↦ command_bytes n l ]

on-bytes : (m n k : ℕ) (x : Read (Worded ℕ)) → Shorter k x → ((r : List ℕ) → length r ≤ k → command_bytes m r ≡ command_bytes n r) → bytes_behind m x ≡ bytes_behind n x
unfolding bytes_behind Shorter
on-bytes m n k unreadable s same = refl
on-bytes m n k (got w r) s same = same r s

enough-bytes : (m n : ℕ) (l : List ℕ) → length l ≤ m → length l ≤ n → command_bytes m l ≡ command_bytes n l
unfolding command_bytes bytes_behind
enough-bytes zero zero l h k = refl
enough-bytes zero (suc n) [] h k = refl
enough-bytes zero (suc n) (byte ∷ l) h k = absurd (omega arith)
enough-bytes (suc m) zero [] h k = refl
enough-bytes (suc m) zero (byte ∷ l) h k = absurd (omega arith)
enough-bytes (suc m) (suc n) [] h k = refl
enough-bytes (suc m) (suc n) (byte ∷ l) h k = ap (λ (j : List ℕ). byte ∷ j) (on-bytes m n (length l) (read_form (get_or forms byte unknown) l) (shorter-form (get_or forms byte unknown) l) (λ r s. enough-bytes m n r (omega arith) (omega arith)))

bytes-behind : (m : ℕ) (x : Read (Worded ℕ)) → bytes_behind m x ≡ command_bytes m (behind x)
unfolding bytes_behind behind command_bytes
bytes-behind zero unreadable = refl
bytes-behind (suc m) unreadable = refl
bytes-behind m (got w l) = refl

-- the first command byte of what is left
bytes-front : (m : ℕ) (t : List ℕ) (at : ℕ) → at < length t → command_bytes (suc m) (drop at t) ≡ get_or t at 0 ∷ command_bytes m (behind (front (drop at t)))
unfolding command_bytes bytes_behind front
bytes-front m t at h = rw (next t at (at + 1) h (omega arith)) (ap (λ (j : List ℕ). get_or t at 0 ∷ j) (bytes-behind m (read_form (form_of (get_or t at 0)) (drop (at + 1) t))))

-- ---- a step: its outcome and its line are the first of what is left
module _ {t : List ℕ} {at : ℕ} {b : Buffer} {f s : List ℕ} {r : Step} {f' s' : List ℕ} (w : Steps t at b f s r f' s') (h : at < length t) (ef : length f' ≡ length f) (es : length s' ≡ length s) where
  more-is : length (drop at t) ≡ suc (length t - at - 1)
  more-is = rw (length-drop at t) (omega arith)

  less-is : length (drop r.next t) ≤ length t - at - 1
  less-is = rw (length-drop r.next t) (omega (arith, w.onward h))

  pub outcomes-on : outcomes (drop at t) b f s ≡ outcome_of r.reply f' s' ∷ outcomes (drop r.next t) r.reply.buffer f' s'
  outcomes-on =
      let m : ℕ = length t - at - 1 in
      let call = called (sound b f s) (length f) (length s) in
      let fewer : read_up_to m (drop r.next t) ≡ read_up_to (length (drop r.next t)) (drop r.next t) = enough-read m (length (drop r.next t)) (drop r.next t) less-is (omega arith) in
      ap (λ (k : ℕ). run_read call (read_up_to k (drop at t)) (account b f s)) more-is
      ∙ (goes_on w m h ∙ rw (w.alone.sounds, ef, es, fewer))

  pub lines-on : lines_of (drop at t) b f s ≡ answer_line (get_or t at 0) (said r.reply.answer) ∷ lines_of (drop r.next t) r.reply.buffer f' s'
  unfolding answer_lines
  lines-on =
      let m : ℕ = length t - at - 1 in
      let bytes : command_bytes (length (drop at t)) (drop at t) ≡ get_or t at 0 ∷ command_bytes (length (drop r.next t)) (drop r.next t)
      = ap (λ (k : ℕ). command_bytes k (drop at t)) more-is
      ∙ (bytes-front m t at h
      ∙ ap (λ (j : List ℕ). get_or t at 0 ∷ j) (ap (command_bytes m) (sym w.next-is) ∙ enough-bytes m (length (drop r.next t)) (drop r.next t) less-is (omega arith))) in
      ap₂ answer_lines bytes outcomes-on

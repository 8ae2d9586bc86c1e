-- What the functions' contracts come to for a whole program: the answers, then the report or the record.
use mathlib.Core.{Path.◌≡◌, Path.refl, Path.ap, Path.ap₂, Path.sym, Path.◌∙◌, Bool.true, List.List, List.[], List.◌∷◌, List.◌++◌, List.append_assoc, List.flat_map}
use Prim.Native.Nat.{ℕ, ◌*◌, ◌≤◌}
use native.Mathlib.Omega.{arith}
use lib.{ListN.length, ListN.take, ListN.drop, ListN.take-append-drop, ListN.drop_of_length-le, Seq.sets, Seq.length-sets}
use Rattle.records.specs.{Answers.ok, Counters.words_for, View.glyphs}
use Rattle.records.proofs.View.{length-glyphs, capacity-for, lent-for}
use Rattle.lists.specs.{declared.Buffer.Buffer, declared.Reply.Reply}
use Rattle.lists.specs.{Account.fresh_account, Account.Outcome, Contract.account, Contract.sound, Contract.outcome_of, Contract.Begins}
use Rattle.lists.proofs.Simple.{begun_fresh}
use Rattle.commands.specs.Runs.{called}
use Rattle.commands.specs.Runs.{last_of, outcomes, Runs}
use Rattle.commands.specs.{Texts.longest, Lines.reported, Lines.report_lines, Lines.report}
use Rattle.commands.specs.Texts.{without_glyph, layout_record, command_bytes, answer_lines, answers, exam_run, last_account, exam_text, desk_text, lines_of, Fills}
use Rattle.commands.specs.inner.Programs.{RunsFresh, Holds, Part, text_of, InParts, account_after}
use Rattle.commands.specs.declared.Ran.{Ran}
use Rattle.commands.proofs.RunLaws.{ends, outcomes-are}
use Rattle.commands.proofs.ReportLaws.{lines-few}
use Rattle.commands.proofs.TextLaws.{taken-text}

-- ---- from the first buffer over slices of 2,048 glyphs, a string comes to the account's own run
module _ {b : Reply} (v : Begins 0 0 b) (f s : List ℕ) (ef : words_for 2048 ≡ length f) (es : words_for 2048 ≡ length s) where
  start-sound : sound b.buffer f s ≡ true
  start-sound = v.is-sound f s ∙ rw (← ef, ← es) (lent-for 2048 (omega arith))

  start-account : account b.buffer f s ≡ fresh_account 0 0
  start-account = begun_fresh (omega arith) v f s

  starts : (t : List ℕ) → outcomes t b.buffer f s ≡ exam_run 2048 t
  unfolding exam_run
  starts t = outcomes-are t b.buffer f s start-sound ∙ rw (← ef, ← es, start-account)

pub runs-fresh : {b : Reply} {t f s : List ℕ} {r : Ran} {f' s' : List ℕ} → Begins 0 0 b → Runs t b.buffer f s r f' s' → words_for 2048 ≡ length f → words_for 2048 ≡ length s → RunsFresh 2048 t r f' s'
runs-fresh {b} {t} {f} {s} v w ef es = record {
  last = w.last ∙ rw (starts v f s ef es t, start-account v f s ef es);
  all = w.all ∙ ap (λ (l : List (Outcome ℕ)). length l) (starts v f s ef es t);
  is-sound = w.alone.sounds ∙ start-sound v f s ef es;
}

-- ---- the text at the end, in a room for 4,098 longest lines
abbrev pub text_room : ℕ
text_room = 331938

pub filled : {text before after : List ℕ} {r : ℕ} → Fills text before r after → r ≤ length before → Holds text r after
filled {text} {before} {after} {r} v h =
    let fits : length text ≤ length before = omega (arith, v.needs) in
    let is : after ≡ sets before 0 text = v.room fits in
    record { is = rw (is, v.needs) (taken-text text before fits); inside = rw (is, length-sets) (omega arith) }

module _ {t : List ℕ} {r : Ran} {f s : List ℕ} (v : RunsFresh 2048 t r f s) where
  pub last-account : account r.reply.buffer f s ≡ last_account (exam_run 2048 t)
  unfolding last_account
  last-account = ap (λ (o : Outcome ℕ). o.after) v.last

  lines_are : reported r.reply.buffer f s ≡ report_lines (last_account (exam_run 2048 t))
  unfolding reported
  lines_are = rw (v.is-sound, ← last-account)

  few-lines : words_for 2048 ≡ length f → length (reported r.reply.buffer f s) ≤ 4098
  few-lines ef =
      let many : length (glyphs f) ≡ 2048 = length-glyphs f ∙ rw (← ef) (capacity-for 2048) in
      omega (arith, lines-few r.reply.buffer f s v.is-sound)

  module _ (ef : words_for 2048 ≡ length f) {before after : List ℕ} {k : ℕ} where
    pub holds-report : text_room ≡ length before → Fills (flat_map (λ l. l) (reported r.reply.buffer f s)) before k after × (k ≤ longest * length (reported r.reply.buffer f s)) → Holds (report (last_account (exam_run 2048 t))) k after
    unfolding report
    holds-report room w = rw lines_are at (filled w.0 (omega (arith, w.1, few-lines ef)))

    pub holds-record : text_room ≡ length before → Fills (flat_map without_glyph (reported r.reply.buffer f s)) before k after × (k ≤ longest * length (reported r.reply.buffer f s)) → Holds (layout_record (last_account (exam_run 2048 t))) k after
    unfolding layout_record
    holds-record room w = rw lines_are at (filled w.0 (omega (arith, w.1, few-lines ef)))

-- ---- parts one after the other
flat-both : (l m : List (List ℕ)) → flat_map (λ x. x) (l ++ m) ≡ flat_map (λ x. x) l ++ flat_map (λ x. x) m
unfolding flat_map
flat-both [] m = refl
flat-both (x ∷ l) m = ap (λ (k : List ℕ). x ++ k) (flat-both l m) ∙ sym (append_assoc x (flat_map (λ y. y) l) (flat_map (λ y. y) m))

no-lines-left : (t : List ℕ) (at : ℕ) (b : Buffer) (f s : List ℕ) → length t ≤ at → lines_of (drop at t) b f s ≡ []
unfolding answer_lines command_bytes
no-lines-left t at b f s h = ap (λ (l : List ℕ). lines_of l b f s) (drop_of_length-le t h)

-- what they write is the lines of all commands
pub parts-text : (t : List ℕ) (ps : List Part) (at : ℕ) (b : Buffer) (f s : List ℕ) → InParts t at b f s ps → flat_map text_of ps ≡ flat_map (λ l. l) (lines_of (drop at t) b f s)
unfolding flat_map
parts-text t [] at b f s h = sym (ap (λ (l : List (List ℕ)). flat_map (λ x. x) l) (no-lines-left t at b f s h))
parts-text t (p ∷ ps) at b f s c =
    let v = c.0 in
    let n = p.played.commands in
    let ls = lines_of (drop at t) b f s in
    let long : p.played.written ≡ length (flat_map (λ l. l) (take n ls)) = omega (arith, v.text.next) in
    let text : text_of p ≡ flat_map (λ l. l) (take n ls)
    = ap₂ (λ (k : ℕ) (l : List ℕ). take k l) long v.text.list ∙ taken-text (flat_map (λ l. l) (take n ls)) p.room (omega (arith, v.inside, v.text.next)) in
    let more = parts-text t ps p.played.next p.played.reply.buffer p.first p.second c.2 in
    ap₂ (λ (x y : List ℕ). x ++ y) text (more ∙ ap (λ (l : List (List ℕ)). flat_map (λ x. x) l) v.rest_lines)
    ∙ (sym (flat-both (take n ls) (drop n ls)) ∙ ap (λ (l : List (List ℕ)). flat_map (λ x. x) l) (take-append-drop n ls))

last-both : (o : Outcome ℕ) (l m : List (Outcome ℕ)) → last_of o (l ++ m) ≡ last_of (last_of o l) m
unfolding last_of
last-both o [] m = refl
last-both o (x ∷ l) m = last-both x l m

last-after : (o q : Outcome ℕ) (l : List (Outcome ℕ)) → o.after ≡ q.after → (last_of o l).after ≡ (last_of q l).after
unfolding last_of
last-after o q [] e = e
last-after o q (x ∷ l) e = refl

-- and the state that the last of them leaves is that after all commands
pub parts-account : (t : List ℕ) (ps : List Part) (at : ℕ) (b : Buffer) (f s : List ℕ) → InParts t at b f s ps
    → account_after b f s ps ≡ (last_of (record { answer = ok; after = account b f s }) (outcomes (drop at t) b f s)).after
unfolding last_of
parts-account t [] at b f s h = sym (ap (λ (l : List (Outcome ℕ)). (last_of (record { answer = ok; after = account b f s }) l).after) (ends (called (sound b f s) (length f) (length s)) (length (drop at t)) t at (account b f s) h))
parts-account t (p ∷ ps) at b f s c =
    let v = c.0 in
    let n = p.played.commands in
    let os = outcomes (drop at t) b f s in
    let start : Outcome ℕ = record { answer = ok; after = account b f s } in
    let b' = p.played.reply.buffer in
    let rest = outcomes (drop p.played.next t) b' p.first p.second in
    let on : Outcome ℕ = record { answer = ok; after = account b' p.first p.second } in
    let whole : last_of start os ≡ last_of (outcome_of p.played.reply p.first p.second) rest
    = ap (last_of start) (sym (take-append-drop n os)) ∙ (last-both start (take n os) (drop n os) ∙ ap₂ last_of (sym v.last) (sym v.rest)) in
    parts-account t ps p.played.next b' p.first p.second c.2
    ∙ (last-after on (outcome_of p.played.reply p.first p.second) rest refl ∙ ap (λ (o : Outcome ℕ). o.after) (sym whole))

-- ---- a whole program: the bytes of the parts from the first buffer on, then those of the report or the record
module _ {b : Reply} (v : Begins 0 0 b) (f s : List ℕ) (ef : words_for 2048 ≡ length f) (es : words_for 2048 ≡ length s) (t : List ℕ) (ps : List Part) (c : InParts t 0 b.buffer f s ps) where
  pub parts-answers : flat_map text_of ps ≡ answers t (exam_run 2048 t)
  unfolding answers
  parts-answers = parts-text t ps 0 b.buffer f s c ∙ ap (λ (os : List (Outcome ℕ)). flat_map (λ l. l) (answer_lines (command_bytes (length t) t) os)) (starts v f s ef es t)

  pub parts-left : account_after b.buffer f s ps ≡ last_account (exam_run 2048 t)
  unfolding last_account
  parts-left = parts-account t ps 0 b.buffer f s c ∙ rw (starts v f s ef es t, start-account v f s ef es)

  module _ {k : ℕ} {out : List ℕ} where
    pub exam-prints : Holds (report (last_account (exam_run 2048 t))) k out → flat_map text_of ps ++ take k out ≡ exam_text 2048 t
    unfolding exam_text
    exam-prints w = ap₂ (λ (x y : List ℕ). x ++ y) parts-answers w.is

    pub desk-prints : Holds (layout_record (last_account (exam_run 2048 t))) k out → flat_map text_of ps ++ take k out ≡ desk_text 2048 t
    unfolding desk_text
    desk-prints w = ap₂ (λ (x y : List ℕ). x ++ y) parts-answers w.is

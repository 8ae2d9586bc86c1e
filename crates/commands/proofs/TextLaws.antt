-- Lines one after the other in a lent slice.
use mathlib.Core.{Path.◌≡◌, Path.refl, Path.ap, Path.sym, Path.◌∙◌, List.List, List.[], List.◌++◌, List.flat_map}
use Prim.Native.Nat.{ℕ, suc, ◌+◌, ◌-◌, ◌*◌, ◌<◌, ◌≤◌, ◌^◌}
use native.Mathlib.Omega.{arith}
use lib.{ListN.length, ListN.take, ListN.drop, ListN.length-append, ListN.length-drop, ListN.drop_of_length-le, Seq.sets, Seq.sets-eq, Seq.take-append_seam, Seq.take_at, Seq.drop-append-le, Seq.drop-cons}
use Rattle.commands.specs.{Lines.line_of, Texts.longest, Texts.Wrote, Texts.Prints, inner.Writes.Puts, declared.writer.Writer.Writer, declared.texts.Source.Source}
use Rattle.commands.specs.{inner.TextParts.report_of, inner.TextParts.Cut, inner.TextParts.Stands, inner.TextParts.Long, inner.TextParts.Room, inner.TextParts.Together}
use Rattle.commands.proofs.Writes.{sets-append}
use Rattle.commands.proofs.ReportLaws.{lines-most}

-- ---- a line in a room
-- what was written from the start on is read from there
pub taken-text : (text l : List ℕ) → length text ≤ length l → take (length text) (sets l 0 text) ≡ text
taken-text text l h = ap (take (length text)) (sets-eq text l 0 (omega arith)) ∙ take-append_seam text _

module _ {line l : List ℕ} {to : ℕ} {m : List ℕ} (p : Prints line l 0 to m) (room : longest ≤ length l) where
  w : Wrote line l 0 to m
  w = p.room (omega arith)

  long : to ≡ length line
  long = omega (arith, w.next)

  pub line_taken : take to m ≡ line
  line_taken = rw (long, w.list) (taken-text line l (omega (arith, p.short, long)))

  pub line-counted : to ≡ length (take to m)
  line-counted = long ∙ ap (λ (k : List ℕ). length k) (sym line_taken)

  pub stands_cut : {shown : List ℕ → List ℕ} {from : ℕ} {part : List ℕ} → Cut shown (take to m) from part → length part ≡ length (take to m) → Stands (shown line) from to (part ++ drop to m)
  stands_cut {shown} {from} {part} c same =
      let all : length part ≡ to = same ∙ sym line-counted in
      let order : from ≤ to = omega (arith, c.inside, line-counted) in
      let here : drop from (part ++ drop to m) ≡ drop from part ++ drop to m = drop-append-le from part (drop to m) (omega arith) in
      let some : length (drop from part) ≡ to - from = rw (length-drop from part, all) in
      record {
        is = ap (take (to - from)) here ∙ (take_at (drop from part) (drop to m) (to - from) some ∙ (c.is ∙ ap shown line_taken));
        order = order;
        inside = rw length-append (omega arith);
        short = omega (arith, p.short);
      }

-- ---- the lines of a report: k of them counted, or written up to `at`
module _ (shown : List ℕ → List ℕ) (ls : List (List ℕ)) where
  joined-on : (k : ℕ) → k < length ls → flat_map shown (drop k ls) ≡ shown (line_of k ls) ++ flat_map shown (drop (k + 1) ls)
  unfolding flat_map
  joined-on k h =
      let one : suc k ≡ k + 1 = omega arith in
      ap (λ (l : List (List ℕ)). flat_map shown l) (drop-cons ls k [] h) ∙ ap (λ (j : ℕ). shown (line_of k ls) ++ flat_map shown (drop j ls)) one

  joined_end : (k : ℕ) → length ls ≤ k → flat_map shown (drop k ls) ≡ []
  unfolding flat_map
  joined_end k h = ap (λ (l : List (List ℕ)). flat_map shown l) (drop_of_length-le ls h)

  left-on : (k : ℕ) → k < length ls → length (flat_map shown (drop k ls)) ≡ length (shown (line_of k ls)) + length (flat_map shown (drop (k + 1) ls))
  left-on k h = ap (λ (l : List ℕ). length l) (joined-on k h) ∙ length-append (shown (line_of k ls)) (flat_map shown (drop (k + 1) ls))

pub record Adding (shown : List ℕ → List ℕ) (s : Source) (k total : ℕ) : Type 0 where
  pub few : total ≤ longest * k
  pub in_lines : k ≤ length (report_of s)
  pub ends : total + length (flat_map shown (drop k (report_of s))) ≡ length (flat_map shown (report_of s))

module _ {shown : List ℕ → List ℕ} {s : Source} {k total : ℕ} (v : Adding shown s k total) {n : ℕ} (e : n ≡ length (report_of s)) where
  pub adding-fits : {x : ℕ} → k < n → Long (shown (line_of k (report_of s))) x → total + x < 2 ^ 64
  adding-fits h p = omega (arith, v.few, p.short, lines-most s.b s.first.now s.second.now)

  pub adding-more : {x : ℕ} → k < n → Long (shown (line_of k (report_of s))) x → Adding shown s (k + 1) (total + x)
  adding-more {x} h p = record {
    few = omega (arith, v.few, p.short);
    in_lines = omega arith;
    ends = (let more = left-on shown (report_of s) k (omega arith) in omega (arith, p.is, v.ends));
  }

  pub adding-all : n ≤ k → Together (flat_map shown (report_of s)) (length (report_of s)) total
  adding-all h = record {
    is = (let none = ap (λ (l : List ℕ). length l) (joined_end shown (report_of s) k (omega arith)) in omega (arith, v.ends));
    short = omega (arith, v.few, v.in_lines);
  }

pub record Filling (shown : List ℕ → List ℕ) (ls : List (List ℕ)) (before : List ℕ) (start w : Writer) (k : ℕ) : Type 0 where
  pub left : sets before 0 (flat_map shown ls) ≡ sets w.out.now w.at (flat_map shown (drop k ls))
  pub ends : w.at + length (flat_map shown (drop k ls)) ≡ length (flat_map shown ls)
  pub size : length w.out.now ≡ length before
  pub same : w.out.ghost_name ≡ start.out.ghost_name

pub filling-none : {shown : List ℕ → List ℕ} {ls : List (List ℕ)} {before : List ℕ} {w : Writer} → w.out.now ≡ before → w.at ≡ 0 → Filling shown ls before w w 0
filling-none {shown} {ls} {before} {w} e z = record { left = rw (e, z) refl; ends = omega (arith, z); size = ap (λ (l : List ℕ). length l) e; same = refl }

module _ {shown : List ℕ → List ℕ} {ls : List (List ℕ)} {before : List ℕ} {start w : Writer} {k : ℕ} (v : Filling shown ls before start w k) {n : ℕ} (e : n ≡ length ls) where
  pub filling-room : k < n → Room (flat_map shown ls) 0 before → Room (shown (line_of k ls)) w.at w.out.now
  filling-room h room = record { fits = (let more = left-on shown ls k (omega arith) in omega (arith, room.fits, v.ends, v.size)) }

  pub filling-more : {w' : Writer} → k < n → Puts (shown (line_of k ls)) w w' → Filling shown ls before start w' (k + 1)
  filling-more {w'} h p =
      let line = shown (line_of k ls) in
      let rest = flat_map shown (drop (k + 1) ls) in
      let on : flat_map shown (drop k ls) ≡ line ++ rest = joined-on shown ls k (omega arith) in
      record {
        left = v.left ∙ (ap (sets w.out.now w.at) on ∙ (sets-append w.out.now line rest w.at ∙ rw (p.wrote.list, p.wrote.next)));
        ends = (let more = left-on shown ls k (omega arith) in omega (arith, v.ends, p.wrote.next));
        size = p.size ∙ v.size;
        same = p.same ∙ v.same;
      }

  pub filling-all : n ≤ k → Wrote (flat_map shown ls) before 0 w.at w.out.now
  filling-all h =
      let none : flat_map shown (drop k ls) ≡ [] = joined_end shown ls k (omega arith) in
      record {
        list = sym (v.left ∙ ap (sets w.out.now w.at) none);
        next = (let long = ap (λ (l : List ℕ). length l) none in omega (arith, v.ends));
      }

pub ruleset filling = (filling-none, filling-room, filling-all)

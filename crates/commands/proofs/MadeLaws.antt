-- Commands that were made, and what is left: one after the other, and parts one after the other.
use Rattle.std.specs.Prelude.{Ok, None}
use mathlib.Core.{Path.◌≡◌, Path.refl, Path.ap, Path.sym, Path.◌∙◌, Bool.Bool, Bool.true, Bool.false, Bool.cond, Bool.and-eq-true_iff, List.List, List.[], List.◌∷◌, List.◌++◌, List.append_assoc, List.append-nil}
use Prim.Native.Nat.{ℕ, ◌+◌, ◌-◌, ◌<◌, ◌≤◌, ◌^◌}
use native.Mathlib.Omega.{arith}
use lib.{Dec.leb, ListN.length, ListN.take, ListN.drop, ListN.length-append, ListN.take-append-drop, Seq.length-take-le}
use borrow.Author.Tests.{leb-true, leb-false}
use Rattle.records.specs.{Answers.ok, View.words_from}
use Rattle.records.proofs.View.{beyond-more}
use Rattle.lists.proofs.Counted.{account-limits}
use Rattle.lists.specs.{declared.Buffer.Buffer, declared.Reply.Reply}
use Rattle.lists.specs.{Account.Outcome, Contract.account, Contract.sound, inner.States.reply, Contract.outcome_of, Contract.is_no}
use Rattle.commands.specs.Runs.{called, Steps}
use Rattle.commands.specs.Runs.{last_of, all_no, largest, outcomes, Runs}
use Rattle.commands.specs.Texts.{longest}
use Rattle.commands.specs.Texts.{Plays}
use Rattle.commands.specs.{declared.Step.Step, declared.Played.Played}
use Rattle.commands.proofs.RunLaws.{ends, running-less}
use Rattle.commands.proofs.PlayLaws.{outcomes-on}

-- ---- outcomes in two lists
last-join : {A : Type 0} (d e : A) (l m : List A) → (length m ≡ 0 → ⊥) → last_of d (l ++ m) ≡ last_of e m
unfolding last_of
last-join d e [] [] some = absurd (some refl)
last-join d e [] (x ∷ m) some = refl
last-join d e (x ∷ l) m some = last-join x e l m some

all_no-parts : (l m : List (Outcome ℕ)) → all_no (l ++ m) ≡ true → (all_no l ≡ true) × (all_no m ≡ true)
unfolding all_no
all_no-parts [] m h = (refl, h)
all_no-parts (x ∷ l) m h =
    let p = (and-eq-true_iff (is_no x.answer) (all_no (l ++ m))).0 h in
    let q = all_no-parts l m p.1 in
    ((and-eq-true_iff (is_no x.answer) (all_no l)).1 (p.0, q.0), q.1)

-- the size that a call leaves
abbrev size : Outcome ℕ → ℕ
size o = o.after.state.limits.allocated

largest-parts : (o : Outcome ℕ) (l : List (Outcome ℕ)) (m : ℕ) → largest (o ∷ l) ≤ m → (size o ≤ m) × (largest l ≤ m)
unfolding largest
largest-parts o l m h = by (leb (size o) (largest l)) refl h
  where
    by : (x : Bool) → leb (size o) (largest l) ≡ x → cond x (largest l) (size o) ≤ m → (size o ≤ m) × (largest l ≤ m)
    by true e k = let low : size o ≤ largest l = leb-true _ _ e in (omega arith, k)
    by false e k = let low : largest l < size o = leb-false _ _ e in (k, omega arith)

largest-join : (o : Outcome ℕ) (l : List (Outcome ℕ)) (m : ℕ) → size o ≤ m → largest l ≤ m → largest (o ∷ l) ≤ m
unfolding largest
largest-join o l m h k = by (leb (size o) (largest l))
  where
    by : (x : Bool) → cond x (largest l) (size o) ≤ m
    by true = k
    by false = h

largest-both : (l k : List (Outcome ℕ)) (m : ℕ) → largest (l ++ k) ≤ m → (largest l ≤ m) × (largest k ≤ m)
unfolding largest
largest-both [] k m h = (omega arith, h)
largest-both (x ∷ l) k m h =
    let p = largest-parts x (l ++ k) m h in
    let q = largest-both l k m p.1 in
    (largest-join x l m p.0 q.0, q.1)

-- ---- k commands from a place on: r is the last reply, and next the place after them
pub record Made (t : List ℕ) (at : ℕ) (b₀ : Buffer) (f₀ s₀ f s : List ℕ) (r : Reply) (next k : ℕ) : Type 0 where
  pub few : at + k ≤ next
  pub none : k ≡ 0 → next ≡ at
  pub in-string : at ≤ length t → next ≤ length t
  pub first-len : length f ≡ length f₀
  pub second-len : length s ≡ length s₀
  pub sounds : sound r.buffer f s ≡ sound b₀ f₀ s₀
  -- the outcomes, of all; and those that are left
  pub made : List (Outcome ℕ)
  pub many : length made ≡ k
  pub all : outcomes (drop at t) b₀ f₀ s₀ ≡ made ++ outcomes (drop next t) r.buffer f s
  pub last : outcome_of r f s ≡ last_of (record { answer = ok; after = account b₀ f₀ s₀ }) made
  pub stays : all_no made ≡ true → (r.buffer ≡ b₀) × (f ≡ f₀) × (s ≡ s₀)
  pub beyond : (m : ℕ) → largest made ≤ m → (words_from m f ≡ words_from m f₀) × (words_from m s ≡ words_from m s₀)

pub made_none : {t : List ℕ} {at : ℕ} {f₀ s₀ : List ℕ} {r : Reply} → r.answer ≡ Ok None → Made t at r.buffer f₀ s₀ f₀ s₀ r at 0
unfolding last_of
made_none e = record {
  few = omega arith;
  none = λ z. refl;
  in-string = λ h. h;
  first-len = refl;
  second-len = refl;
  sounds = refl;
  made = [];
  many = refl;
  all = refl;
  last = rw e refl;
  stays = λ h. (refl, refl, refl);
  beyond = λ m h. (refl, refl);
}

-- one command
module _ {t : List ℕ} {at : ℕ} {b : Buffer} {f s : List ℕ} {r : Step} {f' s' : List ℕ} (w : Steps t at b f s r f' s') (h : at < length t) (ef : length f' ≡ length f) (es : length s' ≡ length s) where
  size_is : {m : ℕ} → size (outcome_of r.reply f' s') ≤ m → r.reply.buffer.limits.allocated ≤ m
  size_is {m} e = rw (account-limits r.reply.buffer f' s') at e

  made_one : Made t at b f s f' s' r.reply r.next 1
  unfolding last_of all_no
  made_one = record {
    few = omega (arith, w.onward h);
    none = λ z. absurd (omega arith);
    in-string = λ k. w.next-in;
    first-len = ef;
    second-len = es;
    sounds = w.alone.sounds;
    made = outcome_of r.reply f' s' ∷ [];
    many = refl;
    all = outcomes-on w h ef es;
    last = refl;
    stays = λ e. w.alone.stays ((and-eq-true_iff _ true).0 e).0;
    beyond = λ m e.
        let low = size_is (largest-parts (outcome_of r.reply f' s') [] m e).0 in
        (beyond-more f' f low w.alone.first-beyond, beyond-more s' s low w.alone.second-beyond);
  }

-- some, and then some more
module _ {t : List ℕ} {at : ℕ} {b₀ : Buffer} {f₀ s₀ f s : List ℕ} {r : Reply} {next k : ℕ} (v : Made t at b₀ f₀ s₀ f s r next k) where
  made_then : {f' s' : List ℕ} {r' : Reply} {next' j : ℕ} → Made t next r.buffer f s f' s' r' next' j → (j ≡ 0 → ⊥) → Made t at b₀ f₀ s₀ f' s' r' next' (k + j)
  made_then w some = record {
    few = omega (arith, v.few, w.few);
    none = λ z. absurd (some (omega arith));
    in-string = λ h. w.in-string (v.in-string h);
    first-len = w.first-len ∙ v.first-len;
    second-len = w.second-len ∙ v.second-len;
    sounds = w.sounds ∙ v.sounds;
    made = v.made ++ w.made;
    many = length-append v.made w.made ∙ omega (arith, v.many, w.many);
    all = v.all ∙ (ap (λ (l : List (Outcome ℕ)). v.made ++ l) w.all ∙ sym (append_assoc v.made w.made _));
    last = w.last ∙ sym (last-join _ _ v.made w.made (λ z. some (sym w.many ∙ z)));
    stays = λ e.
        let no = all_no-parts v.made w.made e in
        let p = v.stays no.0 in
        let q = w.stays no.1 in
        (q.0 ∙ p.0, q.1 ∙ p.1, q.2 ∙ p.2);
    beyond = λ m e.
        let sizes = largest-both v.made w.made m e in
        let p = v.beyond m sizes.0 in
        let q = w.beyond m sizes.1 in
        (q.0 ∙ p.0, q.1 ∙ p.1);
  }

  pub made_more : {f' s' : List ℕ} {x : Step} → next < length t → Steps t next r.buffer f s x f' s' → length f' ≡ length f → length s' ≡ length s → Made t at b₀ f₀ s₀ f' s' x.reply x.next (k + 1)
  made_more h w ef es = made_then (made_one w h ef es) (λ z. absurd (omega arith))

  pub made-fits : next < length t → length t < 2 ^ 64 → k + 1 < 2 ^ 64
  made-fits h fits = omega (arith, v.few)

-- a part, where it has room for a line
module _ {t : List ℕ} {at : ℕ} {b : Buffer} {f s out : List ℕ} {x : Played} {f' s' out' : List ℕ} (w : Plays t at b f s out x f' s' out') where
  made-plays : length f' ≡ length f → length s' ≡ length s → Made t at b f s f' s' x.reply x.next x.commands
  made-plays ef es =
      let os = outcomes (drop at t) b f s in
      record {
        few = w.few;
        none = w.none;
        in-string = w.next-in;
        first-len = ef;
        second-len = es;
        sounds = w.alone.sounds;
        made = take x.commands os;
        many = length-take-le x.commands os w.some;
        all = sym (take-append-drop x.commands os) ∙ ap (λ (l : List (Outcome ℕ)). take x.commands os ++ l) (sym w.rest);
        last = w.last;
        stays = w.alone.stays;
        beyond = λ m e. (beyond-more f' f e w.alone.first-beyond, beyond-more s' s e w.alone.second-beyond);
      }

  pub part-less : at < length t → longest ≤ length out → length t - x.next < length t - at
  part-less h room = omega (arith, w.onward h room)

module _ {t : List ℕ} {b₀ : Buffer} {f₀ s₀ f s : List ℕ} {r : Reply} {next k : ℕ} (v : Made t 0 b₀ f₀ s₀ f s r next k) (h : next < length t) where
  pub part-fits : {b : Buffer} {f₁ s₁ out : List ℕ} {x : Played} {f' s' out' : List ℕ} → Plays t next b f₁ s₁ out x f' s' out' → length t < 2 ^ 64 → k + x.commands < 2 ^ 64
  part-fits w fits = omega (arith, v.few, w.few, w.next-in (omega arith))

  pub part-more : {out : List ℕ} {x : Played} {f' s' out' : List ℕ} → Plays t next r.buffer f s out x f' s' out' → longest ≤ length out → length f' ≡ length f → length s' ≡ length s → Made t 0 b₀ f₀ s₀ f' s' x.reply x.next (k + x.commands)
  part-more w room ef es = made_then v (made-plays w ef es) (λ z. omega (arith, w.none z, w.onward h room))

-- all of a string
pub made-runs : {t : List ℕ} {b₀ : Buffer} {f₀ s₀ f s : List ℕ} {r r₀ : Reply} {next k : ℕ} → r₀ ≡ reply b₀ (Ok None) → Made t 0 r₀.buffer f₀ s₀ f s r next k → length t ≤ next → Runs t b₀ f₀ s₀ (record { reply = r; commands = k }) f s
made-runs {t} {b₀} {f₀} {s₀} {f} {s} {r} {r₀} {next} {k} e u h =
    let v : Made t 0 b₀ f₀ s₀ f s r next k = rw e at u in
    let none : outcomes (drop next t) r.buffer f s ≡ [] = ends (called (sound r.buffer f s) (length f) (length s)) (length (drop next t)) t next (account r.buffer f s) h in
    let made-is : outcomes t b₀ f₀ s₀ ≡ v.made = v.all ∙ (ap (λ (l : List (Outcome ℕ)). v.made ++ l) none ∙ append-nil v.made) in
    let start : Outcome ℕ = record { answer = ok; after = account b₀ f₀ s₀ } in
    let words = v.beyond (largest v.made) (omega arith) in
    record {
      last = v.last ∙ ap (last_of start) (sym made-is);
      all = sym (ap (λ (l : List (Outcome ℕ)). length l) made-is ∙ v.many);
      alone = record {
        stays = λ a. v.stays (sym (ap all_no made-is) ∙ a);
        first-beyond = rw made-is words.0;
        second-beyond = rw made-is words.1;
        sounds = v.sounds;
      };
    }

pub ruleset running = (made_none, made-fits, made_more, running-less)

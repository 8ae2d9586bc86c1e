-- Laws of the run in parts: what is done so far, and what is left.
use Rattle.std.specs.Prelude.{Ok, None}
use mathlib.Core.{Path.◌≡◌, Path.refl, Path.ap, Path.sym, Path.◌∙◌, Bool.Bool, Bool.true, Bool.false, Bool.and-eq-true_iff, List.List, List.[], List.◌∷◌, List.◌++◌, List.append_assoc, List.append-nil, List.flat_map}
use Prim.Native.Nat.{ℕ, zero, suc, ◌+◌, ◌-◌, ◌<◌, ◌≤◌, ◌^◌}
use native.Mathlib.Omega.{arith}
use lib.{Dec.ltb, Dec.leb, ListN.length, ListN.get_or, ListN.take, ListN.drop, ListN.length-append, Seq.length-sets, Seq.take_at, Seq.drop_at}
use borrow.Author.Tests.{ltb-true, leb-true, leb-false, lt-ltb, le-ltb}
use Rattle.records.specs.{Answers.ok, Answers.said}
use Rattle.lists.specs.{declared.Buffer.Buffer, declared.Reply.Reply}
use Rattle.lists.specs.{Account.Outcome, Contract.account, inner.States.reply}
use Rattle.commands.specs.Runs.{Steps}
use Rattle.commands.specs.Runs.{last_of, all_no, largest, outcomes}
use Rattle.commands.specs.{Lines.answer_line, Texts.longest, Texts.Wrote, Texts.Prints}
use Rattle.commands.specs.{Texts.lines_of, inner.TextParts.Follows, Texts.Plays}
use Rattle.commands.specs.{declared.Step.Step}
use Rattle.commands.proofs.MadeLaws.{Made, made_none, made_more, made-fits}
use Rattle.commands.proofs.RunLaws.{running-less}
use Rattle.commands.proofs.PlayLaws.{lines-on}
use Rattle.commands.proofs.Writes.{and_then}

-- ---- whether a command more is made
module _ {next len written room : ℕ} where
  pub next-room : {r : Bool} → next < len → r ≡ leb (written + longest) room → Follows next len written room r
  next-room h e = record { is = e ∙ rw (lt-ltb next len h) }

  pub next-none : len ≤ next → Follows next len written room false
  next-none h = record { is = rw (le-ltb next len h) }

  module _ {r : Bool} (v : Follows next len written room r) where
    both : r ≡ true → (ltb next len ≡ true) × (leb (written + longest) room ≡ true)
    both e = (and-eq-true_iff (ltb next len) (leb (written + longest) room)).0 (sym v.is ∙ e)

    pub goes-more : r ≡ true → next < len
    goes-more e = ltb-true _ _ (both e).0

    pub goes-fits : r ≡ true → written + longest ≤ room
    goes-fits e = leb-true _ _ (both e).1

    pub goes-not : r ≡ false → next < len → room < written + longest
    goes-not e h = leb-false _ _ (rw (lt-ltb next len h) at (sym v.is ∙ e))

-- ---- one line more
flat-snoc : (ls : List (List ℕ)) (x : List ℕ) → flat_map (λ l. l) (ls ++ (x ∷ [])) ≡ flat_map (λ l. l) ls ++ x
unfolding flat_map
flat-snoc [] x = append-nil x
flat-snoc (y ∷ ls) x = ap (λ (l : List ℕ). y ++ l) (flat-snoc ls x) ∙ sym (append_assoc y (flat_map (λ l. l) ls) x)

-- ---- the part so far: x is the last step, k commands are done, and their lines have w bytes
pub record Playing (t : List ℕ) (at : ℕ) (b₀ : Buffer) (f₀ s₀ out₀ f s out : List ℕ) (x : Step) (k w : ℕ) : Type 0 where
  pub state : Made t at b₀ f₀ s₀ f s x.reply x.next k
  pub bytes : length t < 2 ^ 64
  pub no_bytes : k ≡ 0 → w ≡ 0
  pub out-len : length out ≡ length out₀
  -- the lines, of all
  pub lines : List (List ℕ)
  pub each : length lines ≡ k
  pub all_lines : lines_of (drop at t) b₀ f₀ s₀ ≡ lines ++ lines_of (drop x.next t) x.reply.buffer f s
  pub text : Wrote (flat_map (λ l. l) lines) out₀ 0 w out
  pub inside : w ≤ length out₀

pub playing-none : {t : List ℕ} {at : ℕ} {f₀ s₀ out₀ : List ℕ} {r : Reply} → r.answer ≡ Ok None → length t < 2 ^ 64 → Playing t at r.buffer f₀ s₀ out₀ f₀ s₀ out₀ (record { reply = r; next = at }) 0 0
unfolding flat_map
playing-none e fits = record {
  state = made_none e;
  bytes = fits;
  no_bytes = λ z. refl;
  out-len = refl;
  lines = [];
  each = refl;
  all_lines = refl;
  text = record { list = refl; next = refl };
  inside = omega arith;
}

module _ {t : List ℕ} {at : ℕ} {b₀ : Buffer} {f₀ s₀ out₀ : List ℕ} where
  module _ {f s out : List ℕ} {x : Step} {k w : ℕ} (v : Playing t at b₀ f₀ s₀ out₀ f s out x k w) where
    module _ {go : Bool} (g : Follows x.next (length t) w (length out) go) (on : go ≡ true) where
      pub playing-fits : k + 1 < 2 ^ 64
      playing-fits = made-fits v.state (goes-more g on) v.bytes

      pub playing-more : {f' s' out' : List ℕ} {r : Step} {w' : ℕ} → Steps t x.next x.reply.buffer f s r f' s'
          → Prints (answer_line (get_or t x.next 0) (said r.reply.answer)) out w w' out'
          → length f' ≡ length f → length s' ≡ length s → Playing t at b₀ f₀ s₀ out₀ f' s' out' r (k + 1) w'
      playing-more {f'} {s'} {out'} {r} {w'} u p ef es =
          let line : List ℕ = answer_line (get_or t x.next 0) (said r.reply.answer) in
          let wrote : Wrote line out w w' out' = p.room (goes-fits g on) in
          let left = lines_of (drop r.next t) r.reply.buffer f' s' in
          record {
            state = made_more v.state (goes-more g on) u ef es;
            bytes = v.bytes;
            no_bytes = λ z. absurd (omega arith);
            out-len = ap (λ (l : List ℕ). length l) wrote.list ∙ (length-sets out w line ∙ v.out-len);
            lines = v.lines ++ (line ∷ []);
            each = length-append v.lines (line ∷ []) ∙ omega (arith, v.each);
            all_lines = v.all_lines ∙ (ap (λ (l : List (List ℕ)). v.lines ++ l) (lines-on u (goes-more g on) ef es) ∙ sym (append_assoc v.lines (line ∷ []) left));
            text = rw (flat-snoc v.lines line) (and_then v.text wrote);
            inside = omega (arith, p.short, goes-fits g on, v.out-len);
          }

  -- it ends where no command more is made
  pub playing-done : {f s out : List ℕ} {x : Step} {k w : ℕ} {r : Reply} {go : Bool} → r ≡ reply b₀ (Ok None) → Playing t at r.buffer f₀ s₀ out₀ f s out x k w
      → Follows x.next (length t) w (length out) go → go ≡ false
      → Plays t at b₀ f₀ s₀ out₀ (record { reply = x.reply; next = x.next; written = w; commands = k }) f s out
  playing-done {f} {s} {out} {x} {k} {w} {r} {go} e u test stop =
      let p : Playing t at b₀ f₀ s₀ out₀ f s out x k w = rw e at u in
      let v = p.state in
      let os = outcomes (drop at t) b₀ f₀ s₀ in
      let ls = lines_of (drop at t) b₀ f₀ s₀ in
      let start : Outcome ℕ = record { answer = ok; after = account b₀ f₀ s₀ } in
      let rest = outcomes (drop x.next t) x.reply.buffer f s in
      let rest_lines = lines_of (drop x.next t) x.reply.buffer f s in
      let made-is : take k os ≡ v.made = ap (take k) v.all ∙ take_at v.made rest k v.many in
      let lines_are : take k ls ≡ p.lines = ap (take k) p.all_lines ∙ take_at p.lines rest_lines k p.each in
      let words = v.beyond (largest v.made) (omega arith) in
      let full : x.next < length t → length out₀ < w + longest = λ h. omega (arith, p.out-len, goes-not test stop h) in
      record {
        some = omega (arith, v.many, ap (λ (l : List (Outcome ℕ)). length l) v.all, length-append v.made rest);
        last = v.last ∙ ap (last_of start) (sym made-is);
        text = rw lines_are p.text;
        inside = p.inside;
        rest = sym (ap (drop k) v.all ∙ drop_at v.made rest k v.many);
        rest_lines = sym (ap (drop k) p.all_lines ∙ drop_at p.lines rest_lines k p.each);
        alone = record {
          stays = λ a. v.stays (sym (ap all_no made-is) ∙ a);
          first-beyond = rw made-is words.0;
          second-beyond = rw made-is words.1;
          sounds = v.sounds;
        };
        few = v.few;
        none = v.none;
        next-in = v.in-string;
        full = full;
        onward = λ h room. moves k refl v.few v.none p.no_bytes h room full;
      }
    where
      moves : (j : ℕ) → k ≡ j → at + k ≤ x.next → (k ≡ 0 → x.next ≡ at) → (k ≡ 0 → w ≡ 0) → at < length t → longest ≤ length out₀ → (x.next < length t → length out₀ < w + longest) → at < x.next
      moves zero e few none written h room full = let no = full (omega (arith, none e)) in absurd (omega (arith, written e))
      moves (suc j) e few none written h room full = omega arith

pub playing-less : {t : List ℕ} {b : Buffer} {f s f' s' : List ℕ} {at w n : ℕ} {r : Step} {go : Bool} → Steps t at b f s r f' s' → Follows at (length t) w n go → go ≡ true → length t - r.next < length t - at
playing-less u g on = running-less u (goes-more g on)

pub ruleset playing = (playing-none, goes-more, playing-fits, playing-less, playing-more, playing-done)

-- A merge of each grapheme: no merge changes a key, so the groups of the rest stay.
use Rattle.lists.specs.inner.Verdicts.{limiting_verdict}
use Rattle.lists.specs.inner.States.{Decision}
use mathlib.Core.{Path.◌≡◌, Path.refl, Path.ap, Path.ap₂, Path.sym, Path.◌∙◌, Bool.Bool, Bool.true, Bool.false, Bool.cond, Bool.◌&&◌, Bool.◌||◌, List.List, List.[], List.◌∷◌, List.◌++◌, List.map}
use Rattle.std.proofs.Common.{ℕ, ◌+◌, ◌-◌, ◌<◌, ◌≤◌, arith}
use lib.{Dec.ltb, ListN.take, ListN.drop, ListN.length, Seq.slice, Seq.drop-append_seam}
use Rattle.records.specs.{Limits, Plain, WrongPhase, BadOperand, Glyphs.Glyph, Glyphs.Info, Glyphs.set_cluster, Glyphs.flagged, Glyphs.flagged_unless, Glyphs.key, Ranges.infos, Ranges.clusters, Ranges.edit, Ranges.is, Ranges.isnt, Ranges.least, Ranges.first_cluster, Ranges.last_cluster, Ranges.heads, Ranges.tails, View.glyphs}
use Rattle.records.proofs.View.{glyphs-same}
use Rattle.records.proofs.Apart.{key_set, key-flagged, key-unless}
use Rattle.lists.specs.{declared.Buffer.Buffer}
use Rattle.lists.specs.{Account.read_level, Account.Account, Account.input, Account.with_input, Account.with_done, Account.paying, Account.limiting, Account.refused, Account.accepted, Contract.shown, Contract.account_of}
use Rattle.lists.proofs.{Accounts.level-of, Infos.words-drop, Infos.words-edit}
use Rattle.lists.proofs.Refusing.{refusing}
use Rattle.edits.specs.{inner.Acts.Acts, inner.Charges.DecidedBy, inner.Charges.running, inner.Charges.MergesRun, inner.Charges.MergesEach, inner.Charges.TakesKeyed, Flags.interior, Flags.sought, Flags.flag_interior, Groups.group_sizes, Groups.continues, Groups.merged_each, Groups.form_clusters, Merging.merge, Merging.merged, Merging.merge_start, Merging.merge_end, Merging.graphemes_merge, inner.MergeActs.merge_limits, inner.MergeActs.MergeRoom, WholeRun.not_whole, inner.Wholes.WholeInput, inner.Wholes.RunRoom}
use Rattle.edits.specs.inner.Reversals.{Group, EndsGroup}
use Rattle.edits.proofs.{Chaining.acts-as, Chaining.acts-then, Searching.searching, Charging.OnKeyed, Charging.charges-acts, Charging.settles-left, Charging.keyed-decided, Charging.whole-after, MergeCalls.in-acts, MergeLaws.merge-order, WholeCalls.whole_room, WholeCalls.room-lengths, WholeInputs.account-whole, WholeInputs.not-not-whole, GroupLaws.no-group, GroupLaws.graphemes-same}

-- ---- the edits
module _ {G : Type 0} (slot mask : ℕ) where
  abbrev keys : List (Glyph G) → List ℕ
  keys l = map (key slot mask) (infos l)

  keys-interior : (level m bits i j : ℕ) (l : List (Glyph G)) → i ≤ j → keys (interior level m bits i j l) ≡ keys l
  unfolding interior
  keys-interior level m bits i j l o =
      let r : List ℕ = slice i j (clusters l) in
      pick (is 2 level || (isnt m (first_cluster r) && isnt m (last_cluster r))) (is m (first_cluster r)) (tails (isnt m) r) (heads (isnt m) r)
    where
      pick : (b c : Bool) (t h : ℕ) → keys (cond b (edit i j (flagged_unless m bits) l) (cond c (edit (j - t) j (flagged bits) l) (edit i (i + h) (flagged bits) l))) ≡ keys l
      pick true c t h = words-edit (key slot mask) (flagged_unless m bits) (key-unless slot mask m bits) i j l o
      pick false true t h = words-edit (key slot mask) (flagged bits) (key-flagged slot mask bits) (j - t) j l (omega arith)
      pick false false t h = words-edit (key slot mask) (flagged bits) (key-flagged slot mask bits) i (i + h) l (omega arith)

  -- other glyphs with the same keys for those of the input
  keys-input : (l : List (Glyph G)) (a : Account G) → keys l ≡ keys (input a) → keys (with_input l a).rest ≡ keys a.rest
  unfolding with_input input
  keys-input l a e =
      let n : ℕ = length a.passed in
      words-drop (key slot mask) n l
      ∙ (ap (drop n) e
      ∙ (sym (words-drop (key slot mask) n (a.passed ++ a.rest))
      ∙ ap keys (drop-append_seam a.passed a.rest)))

  keys-merged : (s e : ℕ) (a : Account G) → s ≤ e → keys (merged s e a).rest ≡ keys a.rest
  unfolding merged paying limiting with_done
  keys-merged s e a o =
      let cs : List ℕ = clusters (input a) in
      let m : ℕ = least (slice s e cs) in
      let from : ℕ = merge_start (length a.passed) s e cs in
      let to : ℕ = merge_end s e cs in
      keys-input (edit from to (set_cluster m 0) (input a)) a (words-edit (key slot mask) (set_cluster m 0) (key_set slot mask m 0) from to (input a) (merge-order (length a.passed) s e cs o))

  keys-flagged : (bits s e : ℕ) (a : Account G) → s ≤ e → keys (flag_interior bits s e a).rest ≡ keys a.rest
  unfolding flag_interior
  keys-flagged bits s e a o = pick (ltb (e - s) 2)
    where
      pick : (b : Bool) → keys (cond b a (with_input (interior (searching a.state) (sought (searching a.state) (slice s e (clusters (input a)))) bits s e (input a)) a)).rest ≡ keys a.rest
      pick true = refl
      pick false = keys-input (interior (searching a.state) (sought (searching a.state) (slice s e (clusters (input a)))) bits s e (input a)) a (keys-interior (searching a.state) (sought (searching a.state) (slice s e (clusters (input a)))) bits s e (input a) o)

  -- THE LAW: a merge keeps keys
  pub keys-merge : (merges : Bool) (s e : ℕ) (a : Account G) → s ≤ e → keys (merge merges s e a).rest ≡ keys a.rest
  unfolding merge
  keys-merge merges s e a o = pick (ltb (e - s) 2) merges (ltb 255 (e - s))
    where
      pick : (b c d : Bool) → keys (cond b a (cond c (merged s e a) (cond d a (flag_interior 3 s e a)))).rest ≡ keys a.rest
      pick true c d = refl
      pick false true d = keys-merged s e a o
      pick false false true = refl
      pick false false false = keys-flagged 3 s e a o

-- ---- the loop: graphemes before s are merged, those from s on are still to be
pub record Each (merges : Bool) (slot mask level wants n : ℕ) (l₀ : Limits) (run₀ other₀ : List ℕ) (l : Limits) (run other : List ℕ) (s : ℕ) (b : Buffer) : Type 0 where
  pub whole : WholeInput (running level wants n l b) run other
  pub acts : Acts (λ a. account_of (running level wants n l b) run other) (running level wants n l₀ b) run₀ other₀ (running level wants n l b) run other
  pub is : merged_each merges (group_sizes (continues slot mask) (drop s (infos (account_of (running level wants n l b) run other).rest))) s (account_of (running level wants n l b) run other)
      ≡ merged_each merges (group_sizes (continues slot mask) (infos (account_of (running level wants n l₀ b) run₀ other₀).rest)) 0 (account_of (running level wants n l₀ b) run₀ other₀)

-- on every buffer whose run lies here
pub record EachOf (merges : Bool) (slot mask level wants n : ℕ) (l₀ : Limits) (run₀ other₀ : List ℕ) (l : Limits) (run other : List ℕ) (s : ℕ) : Type 0 where
  pub room : RunRoom n run other
  pub same-run : length run ≡ length run₀
  pub same-other : length other ≡ length other₀
  pub high : s ≤ n
  pub each : (b : Buffer) → WholeInput (running level wants n l₀ b) run₀ other₀ → Each merges slot mask level wants n l₀ run₀ other₀ l run other s b

one_merge : (merges : Bool) (n : ℕ) (ns : List ℕ) (s : ℕ) (x : Account ℕ) → merged_each merges (n ∷ ns) s x ≡ merged_each merges ns (s + n) (merge merges s (s + n) x)
unfolding merged_each
one_merge merges n ns s x = refl

no-merge : (merges : Bool) (s : ℕ) (x : Account ℕ) → merged_each merges [] s x ≡ x
unfolding merged_each
no-merge merges s x = refl

module _ {merges : Bool} {slot mask level wants n : ℕ} {l₀ l : Limits} {run₀ other₀ run other : List ℕ} {s : ℕ} {b : Buffer} (v : Each merges slot mask level wants n l₀ run₀ other₀ l run other s b) where
  rest-is : (account_of (running level wants n l b) run other).rest ≡ take n (shown b.phase run other)
  rest-is = ap (λ (a : Account ℕ). a.rest) (account-whole v.whole)

  fits : n ≤ length (glyphs run)
  fits = (whole_room v.whole).fits

  one-more : {e : ℕ} {l' : Limits} {run' other' : List ℕ} → length run ≡ length run₀ → length other ≡ length other₀ → length run' ≡ length run → length other' ≡ length other → Group (continues slot mask) (shown b.phase run other) n s e
      → Acts (merge merges s e) (running level wants n l b) run other (running level wants n l' b) run' other' → Each merges slot mask level wants n l₀ run₀ other₀ l' run' other' e b
  one-more {e} {l'} {run'} {other'} mr mo lr lo g u =
      let P : Info → Info → Bool = continues slot mask in
      let a : Account ℕ = account_of (running level wants n l b) run other in
      let a' : Account ℕ = account_of (running level wants n l' b) run' other' in
      let after : s < e = g.after in
      let order : s ≤ e = omega arith in
      let on : s + (e - s) ≡ e = omega arith in
      let groups : group_sizes P (drop s (infos a.rest)) ≡ (e - s) ∷ group_sizes P (drop e (infos a.rest)) = rw rest-is g.is in
      let later : group_sizes P (drop e (infos a'.rest)) ≡ group_sizes P (drop e (infos a.rest)) =
      graphemes-same slot mask e (infos a'.rest) (infos a.rest) (ap (λ (y : Account ℕ). map (key slot mask) (infos y.rest)) u.is ∙ keys-merge slot mask merges s e a order) in
      let turned : merged_each merges (group_sizes P (drop s (infos a.rest))) s a ≡ merged_each merges (group_sizes P (drop e (infos a.rest))) (s + (e - s)) (merge merges s (s + (e - s)) a) =
      ap (λ (ns : List ℕ). merged_each merges ns s a) groups ∙ one_merge merges (e - s) (group_sizes P (drop e (infos a.rest))) s a in
      record {
        whole = whole-after b v.whole u lr lo;
        acts = acts-as (acts-then v.acts mr mo u) (sym u.is);
        is = ap₂ (λ (ns : List ℕ) (y : Account ℕ). merged_each merges ns e y) later u.is
            ∙ (ap (λ (m : ℕ). merged_each merges (group_sizes P (drop e (infos a.rest))) m (merge merges s m a)) (sym on)
            ∙ (sym turned ∙ v.is));
      }

  all_done : s ≡ n → Acts (λ a. merged_each merges (group_sizes (continues slot mask) (infos a.rest)) 0 a) (running level wants n l₀ b) run₀ other₀ (running level wants n l b) run other
  all_done end =
      let P : Info → Info → Bool = continues slot mask in
      let a : Account ℕ = account_of (running level wants n l b) run other in
      let none : group_sizes P (drop s (infos a.rest)) ≡ [] = rw (rest-is, end) (no-group b.phase run other v.whole.clean fits P) in
      acts-as v.acts (sym (ap (λ (ns : List ℕ). merged_each merges ns s a) none ∙ no-merge merges s a) ∙ v.is)

module _ {merges : Bool} {slot mask level wants n : ℕ} {l₀ : Limits} {run₀ other₀ : List ℕ} where
  pub each_none : RunRoom n run₀ other₀ → EachOf merges slot mask level wants n l₀ run₀ other₀ l₀ run₀ other₀ 0
  each_none r = record {
    room = r;
    same-run = refl;
    same-other = refl;
    high = omega arith;
    each = λ b w. record { whole = w; acts = record { is = refl; size = refl; side = refl; run-beyond = refl; other-beyond = refl; held = w.held }; is = refl };
  }

  module _ {l : Limits} {run other : List ℕ} {s : ℕ} (v : EachOf merges slot mask level wants n l₀ run₀ other₀ l run other s) where
    pub each-fits : n ≤ length (glyphs run)
    each-fits = v.room.fits

    module _ {e : ℕ} (w : EndsGroup (continues slot mask) run s n e) where
      -- whatever the phase
      inside : Group (continues slot mask) (shown Plain run other) n s e
      inside = w.is Plain other refl

      pub each-order : s ≤ e
      each-order = omega (arith, inside.after)

      pub each-merge : MergeRoom n 0 s e run other
      each-merge = record { order = each-order; end = inside.inside; fits = v.room.fits; out-fits = omega arith; same = glyphs-same run other v.room.same }

      pub each-less : n - e < n - s
      each-less = omega (arith, inside.after, inside.inside)

      pub each_more : {l' : Limits} {run' other' : List ℕ} → MergesRun merges level wants n s e run other run' other' → l' ≡ merge_limits merges (e - s) l → length run' ≡ length run → length other' ≡ length other → EachOf merges slot mask level wants n l₀ run₀ other₀ l' run' other' e
      each_more {l'} {run'} {other'} c el lr lo = record {
        room = room-lengths v.room lr lo;
        same-run = lr ∙ v.same-run;
        same-other = lo ∙ v.same-other;
        high = inside.inside;
        each = λ b h.
            let u = v.each b h in
            one-more u v.same-run v.same-other lr lo (w.is b.phase other u.whole.clean) (rw el ((c.is l).acts b u.whole));
      }

    pub each-done : n ≤ s → MergesEach merges level wants n slot mask l₀ l run₀ other₀ run other
    each-done o = record { is = record { acts = λ b w. all_done (v.each b w) (omega (arith, v.high)) } }

-- ---- call 22
module _ (slot mask : ℕ) (a : Account ℕ) where
  form-not-whole : not_whole a ≡ true → form_clusters slot mask a ≡ refused WrongPhase
  unfolding form_clusters
  form-not-whole h = simp (h, refusing)

  form-bad : not_whole a ≡ false → ltb 1 slot ≡ true → form_clusters slot mask a ≡ refused BadOperand
  unfolding form_clusters
  form-bad h k = simp (h, k, refusing)

  forms : not_whole a ≡ false → ltb 1 slot ≡ false → form_clusters slot mask a ≡ accepted (merged_each (graphemes_merge a.state.level) (group_sizes (continues slot mask) (infos a.rest)) 0 a)
  unfolding form_clusters
  forms h k = simp (h, k, refusing)

module _ {slot : ℕ} (mask : ℕ) {b : Buffer} {merging : Bool} (em : merging ≡ graphemes_merge (read_level b.level)) where
  form-on : OnKeyed Limits limiting_verdict (λ capacity a. form_clusters slot mask a) slot b (MergesEach merging b.level b.wants b.len.0 slot mask b.limits)
  form-on = record {
    whole = record { refuses = λ capacity a h. form-not-whole slot mask a h };
    refuses = λ capacity a h k. form-bad slot mask a h k;
    done = λ l run other run' other' w k lr lo c.
        in-acts (charges-acts w w c.is)
        (forms slot mask _ (not-not-whole w) k
        ∙ ap (λ (y : Bool). accepted (merged_each y (group_sizes (continues slot mask) (infos (account_of b run other).rest)) 0 (account_of b run other))) (ap graphemes_merge (level-of b run other) ∙ sym em)) (settles-left b l);
  }

  pub form-decided : {f s : List ℕ} {v : Decision} → TakesKeyed slot b f s v
      → DecidedBy Limits limiting_verdict (λ capacity a. form_clusters slot mask a) b f s v (RunRoom b.len.0 f s) (MergesEach merging b.level b.wants b.len.0 slot mask b.limits)
  form-decided w = keyed-decided form-on w

-- for the proofs of functions
pub ruleset merging_each = (each_none, each-fits, each-done)

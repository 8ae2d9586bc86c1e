-- Reversal of graphemes: the merges before it, and the call.
use Rattle.lists.specs.inner.Verdicts.{limiting_verdict}
use Rattle.lists.specs.inner.States.{Decision}
use mathlib.Core.{Path.◌≡◌, Path.refl, Path.sym, Path.ap, Path.◌∙◌, Path.subst, Bool.Bool, Bool.true, Bool.false, List.List, List.[], List.◌∷◌, List.map}
use Rattle.std.proofs.Common.{ℕ, ◌+◌, arith}
use lib.{Dec.eqb, Dec.ltb, ListN.length}
use Rattle.records.specs.{Phase, Limits, WrongPhase, BadOperand, Glyphs.key, Ranges.infos, Ranges.is}
use Rattle.lists.specs.{declared.Buffer.Buffer}
use Rattle.lists.specs.{Account.read_level, Account.Account, Account.with_rest, Account.refused, Account.accepted, Contract.account_of}
use Rattle.lists.proofs.Accounts.{level-of}
use Rattle.lists.proofs.Refusing.{refusing}
use Rattle.edits.specs.{inner.Charges.DecidedBy, inner.Charges.running, inner.Charges.MergesEach, inner.Charges.TakesKeyed, WholeRun.not_whole, Merging.merge, Groups.group_sizes, Groups.continues, Groups.regrouped, Groups.merged_each, Groups.reverse_graphemes, inner.Wholes.RunRoom, inner.Reversals.Rearranges, inner.Reversals.Regroups, inner.Reversals.regroups}
use Rattle.edits.proofs.{Chaining.acts-as, Chaining.acts-then, Charging.OnKeyed, Charging.charges-acts, Charging.settles-left, Charging.keyed-decided, Charging.whole-after, GroupLaws.graphemes-same, MergeEach.keys-merge, WholeInputs.not-not-whole, MergeCalls.in-acts, ReverseCalls.rearranged, WholeCalls.run-lengths}

-- ---- merges leave the keys of *rest* alone
module _ (slot mask : ℕ) where
  each-keys : (ns : List ℕ) (s : ℕ) (a : Account ℕ) → map (key slot mask) (infos (merged_each true ns s a).rest) ≡ map (key slot mask) (infos a.rest)
  unfolding merged_each
  each-keys [] s a = refl
  each-keys (n ∷ ns) s a = each-keys ns (s + n) (merge true s (s + n) a) ∙ keys-merge slot mask true s (s + n) a (omega arith)

  -- so the graphemes are the same
  each-sizes : (ns : List ℕ) (a : Account ℕ) → group_sizes (continues slot mask) (infos (merged_each true ns 0 a).rest) ≡ group_sizes (continues slot mask) (infos a.rest)
  each-sizes ns a = graphemes-same slot mask 0 (infos (merged_each true ns 0 a).rest) (infos a.rest) (each-keys ns 0 a)

-- ---- the act, with merges and without
in-phase : {phase : Phase} {n : ℕ} (slot mask : ℕ) (b : Buffer) {run other run' other' : List ℕ} → b.phase ≡ phase → Rearranges (λ k. regrouped (group_sizes (continues slot mask) (infos k)) k) phase n run other run' other' → Rearranges (λ k. regrouped (group_sizes (continues slot mask) (infos k)) k) b.phase n run other run' other'
in-phase {phase} {n} slot mask b {run} {other} {run'} {other'} e v = subst (λ (p : Phase). Rearranges (λ k. regrouped (group_sizes (continues slot mask) (infos k)) k) p n run other run' other') (sym e) v

module _ {phase : Phase} {slot mask level wants n : ℕ} {merging : Bool} {l : Limits} {run other : List ℕ} where
  pub regroup-plain : {run' other' : List ℕ} → Rearranges (λ k. regrouped (group_sizes (continues slot mask) (infos k)) k) phase n run other run' other' → merging ≡ false → length run' ≡ length run → length other' ≡ length other
      → Regroups phase merging level wants n slot mask l l run other run' other'
  unfolding regroups
  regroup-plain v h lr lo = record { is = record { acts = λ b w. rw h (rearranged w.whole lr lo (in-phase slot mask b w.is v)) } }

  pub regroup-merged : {l' : Limits} {run₁ other₁ run₂ other₂ : List ℕ} → Rearranges (λ k. regrouped (group_sizes (continues slot mask) (infos k)) k) phase n run₁ other₁ run₂ other₂
      → MergesEach merging level wants n slot mask l l' run other run₁ other₁ → merging ≡ true
      → length run₁ ≡ length run → length other₁ ≡ length other → length run₂ ≡ length run₁ → length other₂ ≡ length other₁ → Regroups phase merging level wants n slot mask l l' run other run₂ other₂
  unfolding regroups
  regroup-merged {l'} {run₁} {other₁} {run₂} {other₂} v c h lr lo lr' lo' = record {
    is = record {
      acts = λ b w.
          let a : Account ℕ = account_of (running level wants n l b) run other in
          let ns : List ℕ = group_sizes (continues slot mask) (infos a.rest) in
          let m : Account ℕ = merged_each true ns 0 a in
          let u = (rw h at c).is.acts b w.whole in
          rw h (acts-as (acts-then u lr lo (rearranged (whole-after b w.whole u lr lo) lr' lo' (in-phase slot mask b w.is v))) (ap (λ (k : List ℕ). with_rest (regrouped k m.rest) m) (each-sizes slot mask ns a)));
    };
  }

-- ---- the call
module _ (slot mask : ℕ) (a : Account ℕ) where
  graphemes-refused : not_whole a ≡ true → reverse_graphemes slot mask a ≡ refused WrongPhase
  unfolding reverse_graphemes
  graphemes-refused h = simp (h, refusing)

  graphemes-bad : not_whole a ≡ false → ltb 1 slot ≡ true → reverse_graphemes slot mask a ≡ refused BadOperand
  unfolding reverse_graphemes
  graphemes-bad h k = simp (h, k, refusing)

  graphemes-turned : not_whole a ≡ false → ltb 1 slot ≡ false → reverse_graphemes slot mask a ≡ accepted (regroups (is 1 a.state.level) slot mask a)
  unfolding reverse_graphemes regroups
  graphemes-turned h k = simp (h, k, refusing)

module _ {slot : ℕ} (mask : ℕ) {b : Buffer} {merging : Bool} {level : ℕ} (el : level ≡ read_level b.level) (em : merging ≡ eqb level 1) where
  graphemes-on : OnKeyed Limits limiting_verdict (λ capacity a. reverse_graphemes slot mask a) slot b (Regroups b.phase merging b.level b.wants b.len.0 slot mask b.limits)
  graphemes-on = record {
    whole = record { refuses = λ capacity a h. graphemes-refused slot mask a h };
    refuses = λ capacity a h k. graphemes-bad slot mask a h k;
    done = λ l run other run' other' w k lr lo c.
        in-acts (charges-acts w (record { whole = w; is = refl }) c.is)
        (graphemes-turned slot mask _ (not-not-whole w) k
        ∙ ap (λ (y : Bool). accepted (regroups y slot mask (account_of b run other))) (ap (is 1) (level-of b run other) ∙ sym (em ∙ ap (is 1) el))) (settles-left b l);
  }

  pub graphemes-decided : {f s : List ℕ} {v : Decision} → TakesKeyed slot b f s v
      → DecidedBy Limits limiting_verdict (λ capacity a. reverse_graphemes slot mask a) b f s v (RunRoom b.len.0 f s) (Regroups b.phase merging b.level b.wants b.len.0 slot mask b.limits)
  graphemes-decided w = keyed-decided graphemes-on w

-- for the proofs of functions
pub ruleset grapheme_calls = (run-lengths, regroup-plain, regroup-merged)

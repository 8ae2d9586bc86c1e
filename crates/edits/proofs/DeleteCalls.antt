-- Deletion by places, and what 0F comes to, outcome by outcome.
use Rattle.lists.specs.inner.Verdicts.{amended, Sided}
use Rattle.std.specs.Prelude.{Ok}
use Rattle.lists.proofs.Decisions.{turned}
use Rattle.lists.specs.inner.States.{Decision}
use Rattle.lists.specs.inner.Verdicts.{Turned}
use Rattle.std.specs.Prelude.{None}
use mathlib.Core.{Path.◌≡◌, Path.refl, Path.sym, Path.ap, Path.◌∙◌, Bool.Bool, Bool.true, Bool.false, Bool.cond, Bool.false≢true, List.List}
use Rattle.std.proofs.Common.{ℕ, ◌+◌, ◌-◌, ◌<◌, ◌≤◌, arith, le-ltb}
use lib.{Dec.eqb, Dec.ltb, ListN.length, ListN.take, ListN.get_or}
use Rattle.records.specs.{Contradiction, WrongPhase, OutOfRange, Glyphs.set_cluster, Ranges.clusters, Ranges.edit, Ranges.tails, Ranges.is, View.glyphs, View.seen, inner.Stores.zero_glyph}
use Rattle.records.specs.declared.GlyphInfo.{GlyphInfo}
use Rattle.records.proofs.View.{glyphs-same}
use Rattle.lists.specs.{declared.Buffer.Buffer}
use Rattle.lists.specs.{Account.Account, Account.read_level, Account.output_phase, Account.has_output, Cursor.dropping, Account.refused, Account.accepted, Contract.account_of, Contract.gone_of, Contract.sound, inner.States.reply, inner.States.at_places, inner.States.with_limits_of, inner.Verdicts.Leaves, inner.Verdicts.settled}
use Rattle.lists.proofs.{Accounts.output-of, SoundLaws.sound-held}
use Rattle.lists.proofs.Decisions.{near-placed, settled_is, acts-is, settles-refused, meets-sided}
use Rattle.lists.proofs.SoundLaws.{soundness}
use Rattle.lists.proofs.Refusing.{refusing}
use Rattle.records.proofs.Tests.{tested}
use Rattle.lists.proofs.Changed.{own-limits, other-limits, other-places}
use Rattle.edits.specs.{inner.Acts.Acts, inner.Charges.DecidedBy, Deleting.deleted, Deleting.delete_glyph, Merging.merge, Merging.clusters_merge, inner.MergeActs.merge_limits, inner.MergeActs.Merges}
use Rattle.edits.specs.inner.Deletes.{Deletable, laid, DeleteRoom, NextFound, LastFound, Surviving, Inherits, Deletes, merged_with}
use Rattle.edits.proofs.Writings.{rest-short, rest-long}
use Rattle.edits.proofs.{Charging.by-turned, Charging.by-unsound, MergeCalls.in-acts}
use Rattle.edits.proofs.Deletions.{next-is, next-none, last-is, last_none, survives-next, survives-last, deletes-survived, deletes-inherited, deletes-alone, deletes, stays, next-mergeful, merge-deletes, inherit-none, inherit-apart, inherit-within}

-- ---- what is found
module _ {idx len : ℕ} {run : List ℕ} where
  pub next-found : {c d : ℕ} → 1 < len - idx → c ≡ get_or (clusters (glyphs run)) idx 4294967295 → d ≡ get_or (clusters (glyphs run)) (idx + 1) 4294967295 → NextFound idx len run (eqb d c)
  next-found h ec ed = record { is = λ b other v. next-is v h ec ed }

  pub next-lacks : len - idx ≤ 1 → NextFound idx len run false
  next-lacks h = record { is = λ b other v. next-none v h }

module _ {separate : Bool} {idx out_length : ℕ} {run other : List ℕ} where
  pub last_found : {c : ℕ} (d : GlyphInfo) → 0 < out_length → c ≡ get_or (clusters (glyphs run)) idx 4294967295 → seen d ≡ get_or (cond separate (glyphs other) (glyphs run)) (out_length - 1) zero_glyph → LastFound separate idx out_length run other (eqb d.cluster c)
  last_found d h ec ed = record { is = λ b v. last-is v d h ec ed }

  pub last-lacks : out_length ≤ 0 → LastFound separate idx out_length run other (ltb 0 out_length)
  last-lacks h = rw (le-ltb 0 out_length h) (record { is = λ b v. last_none v h })

module _ {separate t : Bool} {idx len out_length : ℕ} {run other : List ℕ} (w : NextFound idx len run t) where
  pub surviving-next : t ≡ true → Surviving separate idx len out_length run other true
  surviving-next h = record { is = λ b v. survives-next v (sym (w.is (laid separate b.level b.wants idx len out_length b) other v) ∙ h) }

  pub surviving-last : {u : Bool} → t ≡ false → LastFound separate idx out_length run other u → Surviving separate idx len out_length run other u
  surviving-last h x = record { is = λ b v. survives-last v (sym (w.is (laid separate b.level b.wants idx len out_length b) other v) ∙ h) (x.is (laid separate b.level b.wants idx len out_length b) v) }

-- ---- the cluster goes to the tail of the output
module _ {separate : Bool} {idx out_length : ℕ} {run other : List ℕ} (g d : GlyphInfo) (Some-out : 0 < out_length) (eg : seen g ≡ get_or (glyphs run) idx zero_glyph) (ed : seen d ≡ get_or (cond separate (glyphs other) (glyphs run)) (out_length - 1) zero_glyph) where
  pub inherits-none : d.cluster ≤ g.cluster → Inherits separate idx out_length run other run other
  inherits-none h = record { acts = λ b v. inherit-none v Some-out g d eg ed h; own = λ z. refl }

  module _ {at : ℕ} (h : g.cluster < d.cluster) where
    pub inherits-apart : {other' : List ℕ} → separate ≡ true → at ≡ out_length - tails (is d.cluster) (take out_length (clusters (glyphs other))) → glyphs other' ≡ edit at out_length (set_cluster g.cluster g.mask) (glyphs other) → length other' ≡ length other → Inherits separate idx out_length run other run other'
    inherits-apart s ea eo lo = record { acts = λ b v. inherit-apart v Some-out g d eg ed h s ea eo lo; own = λ z. absurd (false≢true (sym z ∙ s)) }

    pub inherits-within : {run' : List ℕ} → separate ≡ false → at ≡ out_length - tails (is d.cluster) (take out_length (clusters (glyphs run))) → glyphs run' ≡ edit at out_length (set_cluster g.cluster g.mask) (glyphs run) → length run' ≡ length run → Inherits separate idx out_length run other run' other
    inherits-within s ea er lr = record { acts = λ b v. inherit-within v Some-out g d eg ed h s ea er lr; own = λ z. refl }

-- the tail of one slice, and nothing of the other
pub record Retailed (n old c m : ℕ) (out rest out' rest' : List ℕ) : Type 0 where
  pub is : glyphs out' ≡ edit (n - tails (is old) (take n (clusters (glyphs out)))) n (set_cluster c m) (glyphs out)
  pub rest-is : rest' ≡ rest

module _ {separate : Bool} {idx out_length : ℕ} {run other run' other' : List ℕ} (g d : GlyphInfo) (Some-out : 0 < out_length) (eg : seen g ≡ get_or (glyphs run) idx zero_glyph) (ed : seen d ≡ get_or (cond separate (glyphs other) (glyphs run)) (out_length - 1) zero_glyph) where
  pub inherits-tail : g.cluster < d.cluster → Sided separate (Retailed out_length d.cluster g.cluster g.mask) run other run' other' → length run' ≡ length run → length other' ≡ length other → Inherits separate idx out_length run other run' other'
  inherits-tail h w lr lo = by separate refl
    where
      by : (x : Bool) → separate ≡ x → Inherits separate idx out_length run other run' other'
      by true k = let q = w.second k in rw q.rest-is (inherits-apart g d Some-out eg ed h k refl q.is lo)
      by false k = let q = w.first k in rw q.rest-is (inherits-within g d Some-out eg ed h k refl q.is lr)

-- ---- the act
module _ {separate t : Bool} {level wants idx len out_length : ℕ} {run other : List ℕ} (w : Surviving separate idx len out_length run other t) where
  -- without a cost
  free : {x : Account ℕ → Account ℕ} {run' other' : List ℕ} (b : Buffer) → let y = laid separate level wants idx len out_length b in Deletable y run other → Acts x y run other y run' other' → length run' ≡ length run → length other' ≡ length other
      → deleted (account_of y run other) ≡ dropping 1 (x (account_of y run other)) → Acts (λ a. deleted a) y run other (at_places (idx + 1) len out_length (with_limits_of (merge_limits false 2 b.limits) y)) run' other'
  unfolding merge_limits
  free {x} b v u lr lo e = deletes v {x = x} b.limits (rw (own-limits (laid separate level wants idx len out_length b)) u) lr lo e

  pub deletes-kept : t ≡ true → Deletes separate level wants idx len out_length false run other run other
  deletes-kept h = record { acts = λ b v. free b v (stays v) refl refl (deletes-survived v (sym (w.is (laid separate level wants idx len out_length b) v) ∙ h)); own = λ z. refl }

  module _ (h : t ≡ false) where
    pub deletes-inherits : {run' other' : List ℕ} → 0 < out_length → Inherits separate idx out_length run other run' other' → length run' ≡ length run → length other' ≡ length other → Deletes separate level wants idx len out_length false run other run' other'
    deletes-inherits k u lr lo = record { acts = λ b v. free b v (u.acts (laid separate level wants idx len out_length b) v) lr lo (deletes-inherited v (sym (w.is (laid separate level wants idx len out_length b) v) ∙ h) k); own = u.own }

    pub deletes-single : out_length ≤ 0 → len - idx < 2 → Deletes separate level wants idx len out_length false run other run other
    deletes-single k l = record { acts = λ b v. free b v (stays v) refl refl (deletes-alone v (sym (w.is (laid separate level wants idx len out_length b) v) ∙ h) k (omega arith)); own = λ z. refl }

    pub deletes-merges : {merges : Bool} {run' other' : List ℕ} → out_length ≤ 0 → 2 ≤ len - idx → merges ≡ clusters_merge (read_level level) → Merges separate merges level wants idx len out_length idx (idx + 2) run other run' other' → length run' ≡ length run → length other' ≡ length other
        → Deletes separate level wants idx len out_length merges run other run' other'
    deletes-merges {merges} {run'} {other'} k l em m lr lo = record {
      acts = λ b v.
          let y = laid separate level wants idx len out_length b in
          let two : idx + 2 - idx ≡ 2 = omega arith in
          deletes v (merge_limits merges 2 b.limits) (rw two at (m.acts y (rw v.output) (next-mergeful v (omega arith)))) lr lo
          (merge-deletes v (sym (w.is y v) ∙ h) k (omega arith) ∙ ap (λ (z : Bool). dropping 1 (merge z (idx - gone_of y) (idx + 2 - gone_of y) (account_of y run other))) (sym em));
      own = m.apart-only;
    }

-- at the places of a buffer
pub delete-room : {b : Buffer} {run other : List ℕ} → Deletable b run other → DeleteRoom b.idx.0 b.len.0 b.out_len.0 run other
delete-room {b} {run} {other} v = record { some = v.some; fits = omega (arith, v.held.len-in, v.held.all_in); out-fits = omega (arith, v.held.out-in, v.held.all_in); same = glyphs-same run other v.held.same }

pub delete-turned : {idx len out_length : ℕ} {run other : List ℕ} → DeleteRoom idx len out_length run other → DeleteRoom idx len out_length other run
delete-turned w = record { some = w.some; fits = omega (arith, w.fits, w.same); out-fits = omega (arith, w.out-fits, w.same); same = sym w.same }

-- ---- 0F
module _ (a : Account ℕ) where
  delete-none : has_output a ≡ false → delete_glyph a ≡ refused WrongPhase
  unfolding delete_glyph
  delete-none h = simp (h, refusing)

  delete-outside : has_output a ≡ true → ltb (length a.rest) 1 ≡ true → delete_glyph a ≡ refused OutOfRange
  unfolding delete_glyph
  delete-outside h k = simp (h, k, refusing)

  delete-accepts : has_output a ≡ true → ltb (length a.rest) 1 ≡ false → delete_glyph a ≡ accepted (deleted a)
  unfolding delete_glyph
  delete-accepts h k = simp (h, k, refusing)

due-is : (b : Buffer) {b' : Buffer} {v : Decision} (merged : Bool) → b' ≡ at_places (b.idx.0 + 1) b.len.0 b.out_len.0 b → Leaves b' true None v → settled b (amended (merged_with merged) v) ≡ reply (at_places (b.idx.0 + 1) b.len.0 b.out_len.0 (with_limits_of (merge_limits merged 2 b.limits) b)) (Ok None)
due-is b merged eb w = settled_is {acts = true} (near-placed b _ _ _ _) (record { is = rw (w.is, eb) (simp (other-limits, other-places)) })

abbrev DeleteDecided : Buffer → (f s : List ℕ) → Decision → Type 0
DeleteDecided b f s v = DecidedBy Bool merged_with (λ capacity a. delete_glyph a) b f s v (DeleteRoom b.idx.0 b.len.0 b.out_len.0 f s) (Deletes b.have_separate_output b.level b.wants b.idx.0 b.len.0 b.out_len.0)

module _ {b : Buffer} {f s : List ℕ} {v : Decision} where
  pub delete-unsound : sound b f s ≡ false → Turned Contradiction v → DeleteDecided b f s v
  delete-unsound = by-unsound

  module _ (h : sound b f s ≡ true) where
    pub delete-phase : output_phase b.phase ≡ false → Turned WrongPhase v → DeleteDecided b f s v
    delete-phase o w = by-turned w (settles-refused h (record { law = λ run other l. delete-none _ (output-of b run other ∙ o) }) w)

    module _ (o : output_phase b.phase ≡ true) where
      pub delete-ended : b.len.0 ≤ b.idx.0 → Turned OutOfRange v → DeleteDecided b f s v
      delete-ended k w = by-turned w (settles-refused h (record { law = λ run other l. delete-outside _ (output-of b run other ∙ o) (rest-short l.held o k) }) w)

      pub delete-goes : {b' : Buffer} → b.idx.0 < b.len.0 → b' ≡ at_places (b.idx.0 + 1) b.len.0 b.out_len.0 b → Leaves b' true None v → DeleteDecided b f s v
      delete-goes k eb w = record {
        still = λ t. absurd (false≢true (sym t ∙ acts-is w));
        asked = λ t. delete-room (record { held = sound-held b f s h; output = o; some = k });
        acted = λ t merged lf ls act. meets-sided h lf ls act (λ run other run' other' l lr lo d.
            in-acts (d.acts b (record { held = l.held; output = o; some = k })) (delete-accepts _ (output-of b run other ∙ o) (rest-long l.held o k)) (due-is b merged eb w));
      }

-- for the proofs of functions
pub ruleset delete_calls = (turned, soundness, tested, delete-unsound, delete-phase, delete-ended, delete-goes)

pub ruleset delete_acting = (next-found, next-lacks, last_found, last-lacks, surviving-next, surviving-last, inherits-none, deletes-kept, deletes-inherits, deletes-single, deletes-merges)

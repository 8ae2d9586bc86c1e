-- Deletion, of a buffer's lists: from what the code tests and what its parts promise to the call on the account.
use mathlib.Core.{Path.◌≡◌, Path.refl, Path.sym, Path.ap, Path.◌∙◌, Bool.Bool, Bool.true, Bool.false, Bool.cond, Bool.◌&&◌, Bool.◌||◌, List.List, List.[], List.◌∷◌, List.reverse-append}
use Rattle.std.proofs.Common.{ℕ, suc, ◌+◌, ◌-◌, ◌<◌, ◌≤◌, arith, le-ltb, lt-ltb}
use lib.{Dec.eqb, Dec.ltb, ListN.length, ListN.take, ListN.drop, ListN.get_or, Seq.slice, Seq.slice-cons}
use Rattle.records.specs.{Limits, Glyphs.Glyph, Glyphs.Info, Glyphs.blank, Glyphs.set_cluster, Ranges.clusters, Ranges.edit, Ranges.tails, Ranges.infos, Ranges.is, Ranges.first_cluster, Ranges.last_cluster, View.glyphs, View.seen, inner.Stores.zero_glyph}
use Rattle.records.specs.declared.GlyphInfo.{GlyphInfo}
use Rattle.records.proofs.{View.length-clusters, View.cluster-of, View.seen-mask, View.seen-cluster, Renaming.append-map}
use Rattle.lists.proofs.Changed.{limits-limits, other-limits, other-places, held-placed}
use Rattle.lists.proofs.Showing.{done-list}
use Rattle.records.proofs.Edited.{edit-take, edit-drop-behind, clusters-take}
use Rattle.lists.specs.declared.Buffer.{Buffer}
use Rattle.lists.specs.{Account.read_level, Account.Account, Account.out_length, Account.with_done, Cursor.dropping, Contract.account_of, Contract.gone_of, inner.Held.Held, inner.States.at_places, inner.States.with_limits_of}
use Rattle.lists.proofs.{Accounts.output-clean, Accounts.out_of, Accounts.rest_of, SoundLaws.held-lengths, Copying.range_same, Simple.dropping-of}
use Rattle.edits.specs.{inner.Acts.Acts, inner.Acts.Mergeful, inner.Deletes.Deletable, inner.Deletes.next_has, inner.Deletes.last_has, inner.Deletes.inheriting, Deleting.current, Deleting.inherited, Deleting.survives, Deleting.deleted, Deleting.merged_forward, Merging.merge, Merging.clusters_merge}
use Rattle.records.proofs.View.{beyond-glyphs}
use Rattle.lists.proofs.Outputs.{output-cong, gone-output, output-account}
use Rattle.edits.proofs.Writings.{rest-first, done-last}
use Rattle.edits.proofs.Replacements.{merge-places}

-- ---- whether the cluster survives
module _ {b : Buffer} {run other : List ℕ} (v : Deletable b run other) where
  abbrev here : Account ℕ
  here = account_of b run other

  abbrev at-cursor : Glyph ℕ
  at-cursor = get_or (glyphs run) b.idx.0 zero_glyph

  abbrev at-end : Glyph ℕ
  at-end = get_or (cond b.have_separate_output (glyphs other) (glyphs run)) (b.out_len.0 - 1) zero_glyph

  rest-one : here.rest ≡ at-cursor ∷ slice (suc b.idx.0) b.len.0 (glyphs run)
  rest-one = rest-first v.held v.output v.some

  rest-two : 1 < b.len.0 - b.idx.0 → here.rest ≡ at-cursor ∷ (get_or (glyphs run) (suc b.idx.0) zero_glyph ∷ slice (suc (suc b.idx.0)) b.len.0 (glyphs run))
  rest-two h = rest-one ∙ ap {B = List (Glyph ℕ)} (λ r. at-cursor ∷ r) (slice-cons (suc b.idx.0) b.len.0 (glyphs run) zero_glyph (omega arith) (omega (arith, v.held.len-in, v.held.all_in)))

  many : length (clusters here.rest) ≡ b.len.0 - b.idx.0
  many = length-clusters here.rest ∙ rest_of b run other v.held (output-clean b.phase v.output)

  done-many : length (clusters here.done) ≡ b.out_len.0
  unfolding out_length
  done-many = length-clusters here.done ∙ out_of b run other v.held

  next-yes : 1 < b.len.0 - b.idx.0 → next_has here ≡ eqb (get_or (glyphs run) (suc b.idx.0) zero_glyph).info.cluster at-cursor.info.cluster
  unfolding next_has first_cluster clusters
  next-yes h =
      let t : ltb 1 (length (clusters here.rest)) ≡ true = lt-ltb 1 (length (clusters here.rest)) (omega (arith, many)) in
      ap (λ (x : Bool). x && is (first_cluster (clusters here.rest)) (get_or (clusters here.rest) 1 0)) t
      ∙ ap (λ (r : List (Glyph ℕ)). is (first_cluster (clusters r)) (get_or (clusters r) 1 0)) (rest-two h)

  pub next-is : {c d : ℕ} → 1 < b.len.0 - b.idx.0 → c ≡ get_or (clusters (glyphs run)) b.idx.0 4294967295 → d ≡ get_or (clusters (glyphs run)) (b.idx.0 + 1) 4294967295 → eqb d c ≡ next_has here
  next-is {c} {d} h ec ed =
      let n : b.idx.0 + 1 ≡ suc b.idx.0 = omega arith in
      let e : d ≡ (get_or (glyphs run) (suc b.idx.0) zero_glyph).info.cluster = ed ∙ (ap (λ (k : ℕ). get_or (clusters (glyphs run)) k 4294967295) n ∙ cluster-of (glyphs run) (suc b.idx.0)) in
      let f : c ≡ at-cursor.info.cluster = ec ∙ cluster-of (glyphs run) b.idx.0 in
      (λ k. eqb (e k) (f k)) ∙ sym (next-yes h)

  pub next-none : b.len.0 - b.idx.0 ≤ 1 → false ≡ next_has here
  unfolding next_has
  next-none h =
      let t : ltb 1 (length (clusters here.rest)) ≡ false = le-ltb 1 (length (clusters here.rest)) (omega (arith, many)) in
      sym (ap (λ (x : Bool). x && is (first_cluster (clusters here.rest)) (get_or (clusters here.rest) 1 0)) t)

  first_of : first_cluster (clusters here.rest) ≡ at-cursor.info.cluster
  unfolding first_cluster clusters
  first_of = ap (λ (r : List (Glyph ℕ)). first_cluster (clusters r)) rest-one

  last_of : 0 < b.out_len.0 → last_cluster (clusters here.done) ≡ at-end.info.cluster
  unfolding last_cluster clusters
  last_of h =
      let l : List (Glyph ℕ) = take (b.out_len.0 - 1) (cond b.have_separate_output (glyphs other) (glyphs run)) in
      ap (λ (r : List (Glyph ℕ)). last_cluster (clusters r)) (done-last v.held v.output h)
      ∙ (ap (λ (r : List ℕ). last_cluster r) (sym (append-map (λ g. g.info.cluster) l (at-end ∷ [])))
      ∙ ap (λ (r : List ℕ). get_or r 0 4294967295) (reverse-append (clusters l) (at-end.info.cluster ∷ [])))

  pub last-is : {c : ℕ} (d : GlyphInfo) → 0 < b.out_len.0 → c ≡ get_or (clusters (glyphs run)) b.idx.0 4294967295 → seen d ≡ at-end → eqb d.cluster c ≡ last_has here
  unfolding last_has
  last-is {c} d h ec ed =
      let t : ltb 0 (length (clusters here.done)) ≡ true = lt-ltb 0 (length (clusters here.done)) (omega (arith, done-many)) in
      let f : c ≡ first_cluster (clusters here.rest) = ec ∙ (cluster-of (glyphs run) b.idx.0 ∙ sym first_of) in
      let e : d.cluster ≡ last_cluster (clusters here.done) = sym (seen-cluster d) ∙ (ap (λ (x : Glyph ℕ). x.info.cluster) ed ∙ sym (last_of h)) in
      (λ k. eqb (e k) (f k)) ∙ sym (ap (λ (x : Bool). x && is (first_cluster (clusters here.rest)) (last_cluster (clusters here.done))) t)

  pub last_none : b.out_len.0 ≤ 0 → false ≡ last_has here
  unfolding last_has
  last_none h =
      let t : ltb 0 (length (clusters here.done)) ≡ false = le-ltb 0 (length (clusters here.done)) (omega (arith, done-many)) in
      sym (ap (λ (x : Bool). x && is (first_cluster (clusters here.rest)) (last_cluster (clusters here.done))) t)

  pub survives-next : next_has here ≡ true → true ≡ survives (clusters here.rest) (clusters here.done)
  unfolding survives next_has last_has
  survives-next q = ap (λ (x : Bool). x || last_has here) (sym q)

  pub survives-last : {t : Bool} → next_has here ≡ false → t ≡ last_has here → t ≡ survives (clusters here.rest) (clusters here.done)
  unfolding survives next_has last_has
  survives-last q e = e ∙ ap (λ (x : Bool). x || last_has here) (sym q)

  -- ---- what is deleted
  pub deletes-survived : survives (clusters here.rest) (clusters here.done) ≡ true → deleted here ≡ dropping 1 here
  unfolding deleted
  deletes-survived h = rw h

  module _ (h : survives (clusters here.rest) (clusters here.done) ≡ false) where
    pub deletes-inherited : 0 < b.out_len.0 → deleted here ≡ dropping 1 (inheriting here)
    unfolding deleted inheriting out_length
    deletes-inherited k =
        let t : ltb 0 (length here.done) ≡ true = lt-ltb 0 (length here.done) (omega (arith, out_of b run other v.held)) in
        rw (h, t)

    forward : b.out_len.0 ≤ 0 → deleted here ≡ dropping 1 (merged_forward here)
    unfolding deleted out_length
    forward k =
        let t : ltb 0 (length here.done) ≡ false = le-ltb 0 (length here.done) (omega (arith, out_of b run other v.held)) in
        rw (h, t)

    pub deletes-alone : b.out_len.0 ≤ 0 → b.len.0 - b.idx.0 ≤ 1 → deleted here ≡ dropping 1 here
    unfolding merged_forward
    deletes-alone k l =
        let t : ltb 1 (length here.rest) ≡ false = le-ltb 1 (length here.rest) (omega (arith, rest_of b run other v.held (output-clean b.phase v.output))) in
        forward k ∙ rw t

    pub deletes-merged : b.out_len.0 ≤ 0 → 1 < b.len.0 - b.idx.0 → deleted here ≡ dropping 1 (merge (clusters_merge here.state.level) 0 2 here)
    unfolding merged_forward
    deletes-merged k l =
        let t : ltb 1 (length here.rest) ≡ true = lt-ltb 1 (length here.rest) (omega (arith, rest_of b run other v.held (output-clean b.phase v.output))) in
        let p : length here.passed ≡ 0 = ap (λ (a : Account ℕ). length a.passed) (output-account b run other v.output) in
        forward k ∙ rw (t, p)

-- ---- the drop
dropped-held : {b : Buffer} {run other : List ℕ} → Deletable b run other → (l : Limits) → l.allocated ≡ b.limits.allocated → Held (at_places (b.idx.0 + 1) b.len.0 b.out_len.0 (with_limits_of l b)) run other
dropped-held {b} v l e =
    let h = v.held in
    held-placed h _ _ _ l (omega (arith, v.some)) (omega (arith, e)) (omega (arith, e)) (omega (arith, e)) (λ p s. let k : b.out_len.0 ≤ b.idx.0 = h.behind p s in omega arith) h.none

-- x was done, at the cost of the limits l
module _ {b : Buffer} {run other : List ℕ} (v : Deletable b run other) {x : Account ℕ → Account ℕ} (l : Limits) {run₁ other₁ : List ℕ}
    (u : Acts x b run other (with_limits_of l b) run₁ other₁) (lr : length run₁ ≡ length run) (lo : length other₁ ≡ length other) where
  pub deletes : deleted (account_of b run other) ≡ dropping 1 (x (account_of b run other)) → Acts (λ a. deleted a) b run other (at_places (b.idx.0 + 1) b.len.0 b.out_len.0 (with_limits_of l b)) run₁ other₁
  deletes e = record {
    is = simp other-limits at (dropping-of (with_limits_of l b) run₁ other₁ (held-lengths (with_limits_of l b) run other run₁ other₁ lr lo u.held) (simp other-limits v.output) 1) ∙ (ap (dropping 1) u.is ∙ sym e);
    size = simp other-places u.size;
    side = simp other-places u.side;
    run-beyond = u.run-beyond;
    other-beyond = u.other-beyond;
    held = dropped-held v l (simp limits-limits at u.size);
  }

module _ {b : Buffer} {run other : List ℕ} (v : Deletable b run other) where
  pub stays : Acts (λ a. a) b run other b run other
  stays = record { is = refl; size = refl; side = refl; run-beyond = refl; other-beyond = refl; held = v.held }

  pub next-mergeful : 1 < b.len.0 - b.idx.0 → Mergeful b b.idx.0 (b.idx.0 + 2) run other
  next-mergeful h = record {
    held = v.held;
    whole = output-clean b.phase v.output;
    start = let e : gone_of b ≡ b.idx.0 = gone-output b v.output in omega arith;
    order = omega arith;
    end = omega arith;
  }

  pub merge-deletes : survives (clusters (account_of b run other).rest) (clusters (account_of b run other).done) ≡ false → b.out_len.0 ≤ 0 → 1 < b.len.0 - b.idx.0
      → deleted (account_of b run other) ≡ dropping 1 (merge (clusters_merge (read_level b.level)) (b.idx.0 - gone_of b) (b.idx.0 + 2 - gone_of b) (account_of b run other))
  merge-deletes h k l = deletes-merged v h k l ∙ ap (dropping 1) (sym (merge-places b run other v.output 2))

-- ---- the cluster goes to the tail of the output
module _ {b : Buffer} {run other : List ℕ} (v : Deletable b run other) (Some-out : 0 < b.out_len.0) (g d : GlyphInfo) (eg : seen g ≡ get_or (glyphs run) b.idx.0 zero_glyph)
    (ed : seen d ≡ get_or (cond b.have_separate_output (glyphs other) (glyphs run)) (b.out_len.0 - 1) zero_glyph) where
  abbrev outs : List (Glyph ℕ)
  outs = cond b.have_separate_output (glyphs other) (glyphs run)

  abbrev becomes : Info → Info
  becomes = set_cluster g.cluster g.mask

  current-is : current (account_of b run other) ≡ (seen g).info
  unfolding current infos
  current-is = ap (λ (r : List (Glyph ℕ)). get_or (infos r) 0 (blank 0)) (rest-one v) ∙ ap (λ (x : Glyph ℕ). x.info) (sym eg)

  current-cluster : (current (account_of b run other)).cluster ≡ g.cluster
  current-cluster = ap (λ (x : Info). x.cluster) current-is ∙ seen-cluster g

  current-mask : (current (account_of b run other)).mask ≡ g.mask
  current-mask = ap (λ (x : Info). x.mask) current-is ∙ seen-mask g

  last-cluster : last_cluster (clusters (account_of b run other).done) ≡ d.cluster
  last-cluster = last_of v Some-out ∙ (ap (λ (x : Glyph ℕ). x.info.cluster) (sym ed) ∙ seen-cluster d)

  inherits-none : d.cluster ≤ g.cluster → inheriting (account_of b run other) ≡ account_of b run other
  unfolding inheriting inherited
  inherits-none h =
      let t : ltb (current (account_of b run other)).cluster (last_cluster (clusters (account_of b run other).done)) ≡ false =
      le-ltb (current (account_of b run other)).cluster (last_cluster (clusters (account_of b run other).done)) (omega (arith, current-cluster, last-cluster)) in
      rw t

  pub inherit-none : d.cluster ≤ g.cluster → Acts inheriting b run other b run other
  inherit-none h = record { is = sym (inherits-none h); size = refl; side = refl; run-beyond = refl; other-beyond = refl; held = v.held }

  tail-clusters : clusters (account_of b run other).done ≡ take b.out_len.0 (clusters outs)
  tail-clusters = ap clusters (done-list b run other) ∙ clusters-take b.out_len.0 outs

  module _ (h : g.cluster < d.cluster) where
    inherits-some : inheriting (account_of b run other) ≡ with_done (edit (b.out_len.0 - tails (is d.cluster) (take b.out_len.0 (clusters outs))) b.out_len.0 becomes (take b.out_len.0 outs)) (account_of b run other)
    unfolding inheriting inherited
    inherits-some =
        let t : ltb (current (account_of b run other)).cluster (last_cluster (clusters (account_of b run other).done)) ≡ true =
        lt-ltb (current (account_of b run other)).cluster (last_cluster (clusters (account_of b run other).done)) (omega (arith, current-cluster, last-cluster)) in
        let n : length (clusters (account_of b run other).done) ≡ b.out_len.0 = done-many v in
        rw t
        (λ k. with_done (edit (n k - tails (is (last-cluster k)) (tail-clusters k)) (n k) (set_cluster (current-cluster k) (current-mask k)) (done-list b run other k)) (account_of b run other))

    module _ (run' other' : List ℕ) (eo : cond b.have_separate_output (glyphs other') (glyphs run') ≡ edit (b.out_len.0 - tails (is d.cluster) (take b.out_len.0 (clusters outs))) b.out_len.0 becomes outs)
        (er : drop b.idx.0 (glyphs run') ≡ drop b.idx.0 (glyphs run)) where
      inherits-is : account_of b run' other' ≡ inheriting (account_of b run other)
      unfolding with_done
      inherits-is =
          let n : ℕ = b.out_len.0 in
          let at : ℕ = n - tails (is d.cluster) (take n (clusters outs)) in
          let done : take n (cond b.have_separate_output (glyphs other') (glyphs run')) ≡ edit at n becomes (take n outs) = ap (take n) eo ∙ edit-take becomes at n n outs (omega arith) (omega arith) in
          let rest : slice b.idx.0 b.len.0 (glyphs run') ≡ slice b.idx.0 b.len.0 (glyphs run) = range_same (glyphs run') (glyphs run) b.idx.0 b.len.0 er in
          output-account b run' other' v.output
          ∙ (output-cong b refl done rest
          ∙ (ap (with_done (edit at n becomes (take n outs))) (sym (output-account b run other v.output)) ∙ sym inherits-some))

    pub inherit-apart : {other' : List ℕ} {at : ℕ} → b.have_separate_output ≡ true → at ≡ b.out_len.0 - tails (is d.cluster) (take b.out_len.0 (clusters (glyphs other)))
        → glyphs other' ≡ edit at b.out_len.0 becomes (glyphs other) → length other' ≡ length other → Acts inheriting b run other b run other'
    inherit-apart {other'} {at} s ea eo lo =
        let a : ℕ = b.limits.allocated in
        let low : at ≤ b.out_len.0 = omega arith in
        let kept : drop a (glyphs other') ≡ drop a (glyphs other) = ap (drop a) eo ∙ edit-drop-behind becomes at b.out_len.0 a (glyphs other) low v.held.out-in in
        record {
          is = inherits-is run other' (rw s (eo ∙ ap (λ (k : ℕ). edit k b.out_len.0 becomes (glyphs other)) ea)) refl;
          size = refl;
          side = refl;
          run-beyond = refl;
          other-beyond = beyond-glyphs a other' other kept;
          held = v.held;
        }

    pub inherit-within : {run' : List ℕ} {at : ℕ} → b.have_separate_output ≡ false → at ≡ b.out_len.0 - tails (is d.cluster) (take b.out_len.0 (clusters (glyphs run)))
        → glyphs run' ≡ edit at b.out_len.0 becomes (glyphs run) → length run' ≡ length run → Acts inheriting b run other b run' other
    inherit-within {run'} {at} s ea er lr =
        let a : ℕ = b.limits.allocated in
        let low : at ≤ b.out_len.0 = omega arith in
        let kept : drop a (glyphs run') ≡ drop a (glyphs run) = ap (drop a) er ∙ edit-drop-behind becomes at b.out_len.0 a (glyphs run) low v.held.out-in in
        let rest : drop b.idx.0 (glyphs run') ≡ drop b.idx.0 (glyphs run) = ap (drop b.idx.0) er ∙ edit-drop-behind becomes at b.out_len.0 b.idx.0 (glyphs run) low (v.held.behind v.output s) in
        record {
          is = inherits-is run' other (rw s (er ∙ ap (λ (k : ℕ). edit k b.out_len.0 becomes (glyphs run)) ea)) rest;
          size = refl;
          side = refl;
          run-beyond = beyond-glyphs a run' run kept;
          other-beyond = refl;
          held = v.held;
        }

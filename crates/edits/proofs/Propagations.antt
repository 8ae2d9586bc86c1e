-- The flags of neighbours of one cluster: the loop over the groups.
use Rattle.lists.specs.inner.States.{Decision}
use Rattle.lists.specs.inner.Verdicts.{acts_of}
use mathlib.Core.{Path.◌≡◌, Path.refl, Path.ap, Path.ap₂, Path.sym, Path.◌∙◌, Bool.false, List.List, List.[], List.◌∷◌, List.map}
use Rattle.std.proofs.Common.{ℕ, suc, ◌+◌, ◌-◌, ◌%◌, ◌<◌, ◌≤◌, zero-le, le_refl, arith}
use lib.{Bits.bit_or, Bits.or_zero_r, ListN.take, ListN.drop, ListN.length, ListN.get_or, ListN.set, Seq.slice, Seq.slice_empty, Seq.slice-cons}
use Rattle.records.specs.{Phase, Plain, Glyphs.Glyph, Glyphs.Info, Glyphs.change, Glyphs.with_mask, Ranges.infos, Ranges.clusters, Ranges.edit, Ranges.heads, Ranges.is, View.glyphs, inner.Stores.zero_glyph}
use Rattle.records.proofs.View.{glyphs-same}
use Rattle.lists.specs.{declared.Buffer.Buffer}
use Rattle.lists.specs.{Account.spoiled_phase, Account.with_rest, inner.Masks.joined_low, Account.accepted, Contract.shown, Contract.account_of, inner.Verdicts.Decided}
use Rattle.lists.specs.inner.Verdicts as verdicts
use Rattle.lists.proofs.{Accounts.wants-of, Editing.edit-up, Editing.edit-empty, Infos.length-words, Infos.word_of, Infos.map-take, Infos.map-drop, Infos.words-edit}
use Rattle.lists.proofs.Refusing.{refusing}
use Rattle.lists.proofs.Joining.{joined-below}
use Rattle.edits.specs.{Groups.group_sizes, Groups.same_cluster, Groups.joined, Groups.settled_mask, Groups.propagated, Groups.propagate_flags, inner.Wholes.WholeInput, inner.Wholes.RunOf, inner.Wholes.TakesWhole, inner.Propagating.Propagates, inner.Propagating.PropagatesRun}
use Rattle.records.proofs.Pairs.{mask-alone}
use Rattle.records.proofs.Apart.{mask-apart, mask-cluster}
use Rattle.records.proofs.Edited.{edit-take, edit-drop-behind}
use Rattle.std.specs.Fn.{Shared}
use Rattle.lists.specs.inner.Swapping.{Pair}
use Rattle.edits.specs.inner.Reversals.{EndsGroup}
use Rattle.edits.specs.inner.Grouped.{Taken, ActedOnGroup, ActedOnEach}
use Rattle.edits.proofs.EachGroup.{holds-after}
use Rattle.edits.proofs.{Holding.slice-take, Places.shown-edit, WholeInputs.whole-acts, MergeCalls.in-acts, WholeInputs.not-not-whole, WholeCalls.OnRun, WholeCalls.takes-decided, GroupLaws.no-group, GroupLaws.ends-cluster, GroupLaws.clusters-same, GroupLaws.seen-words}

-- ---- masks
abbrev pub mask_of : Info → ℕ
mask_of i = i.mask

joined-low : (l : List Info) → joined l ≡ joined_low (map mask_of l)
unfolding joined joined_low
joined-low [] = refl
joined-low (i ∷ l) = ap (bit_or (i.mask % 8)) (joined-low l)

pub group-filled : (run run' : List ℕ) (s e wants : ℕ) {x m : ℕ} → x ≡ joined_low (slice s e (map mask_of (infos (glyphs run)))) → m ≡ settled_mask wants x → glyphs run' ≡ edit s e (with_mask m) (glyphs run)
    → glyphs run' ≡ edit s e (with_mask (settled_mask wants (joined_low (slice s e (map mask_of (infos (glyphs run))))))) (glyphs run)
group-filled run run' s e wants ex em eg = eg ∙ rw (em, ex)

-- a group of one glyph
pub one-masked : (l : List (Glyph ℕ)) (s wants : ℕ) {l' : List (Glyph ℕ)} {x m : ℕ} → x ≡ (get_or l s zero_glyph).info.mask → m ≡ settled_mask wants (x % 8) → l' ≡ set l s (change (with_mask m) (get_or l s zero_glyph))
    → l' ≡ set l s (change (with_mask (settled_mask wants ((get_or l s zero_glyph).info.mask % 8))) (get_or l s zero_glyph))
one-masked l s wants ex em el = el ∙ rw (em, ex)

pub one_inside : {s e : ℕ} (run : List ℕ) → e - s ≡ 1 → e ≤ length (glyphs run) → s < length (glyphs run)
one_inside run ee f = omega arith

pub one-filled : (run run' : List ℕ) (s e wants : ℕ) → e - s ≡ 1 → e ≤ length (glyphs run) → glyphs run' ≡ set (glyphs run) s (change (with_mask (settled_mask wants ((get_or (glyphs run) s zero_glyph).info.mask % 8))) (get_or (glyphs run) s zero_glyph))
    → glyphs run' ≡ edit s e (with_mask (settled_mask wants (joined_low (slice s e (map mask_of (infos (glyphs run))))))) (glyphs run)
unfolding joined_low
one-filled run run' s e wants ee fits eg =
    let l : List (Glyph ℕ) = glyphs run in
    let ms : List ℕ = map mask_of (infos l) in
    let next : e ≡ suc s = omega arith in
    let inside : s < length l = omega arith in
    let long : length ms ≡ length l = length-words mask_of l in
    let masks : slice s (suc s) ms ≡ get_or ms s 0 ∷ [] = slice-cons s (suc s) ms 0 (omega arith) (omega arith) ∙ ap (λ (r : List ℕ). get_or ms s 0 ∷ r) (slice_empty (suc s) ms) in
    let low : (get_or l s zero_glyph).info.mask % 8 ≡ joined_low (slice s (suc s) ms) = ap (λ (y : ℕ). y % 8) (word_of mask_of l s 0 inside) ∙ (sym (or_zero_r (get_or ms s 0 % 8)) ∙ sym (ap joined_low masks)) in
    let m : ℕ = settled_mask wants ((get_or l s zero_glyph).info.mask % 8) in
    let one : edit s (suc s) (with_mask m) l ≡ set l s (change (with_mask m) (get_or l s zero_glyph)) = edit-up (with_mask m) zero_glyph s s l (le_refl s) inside ∙ ap (λ (k : List (Glyph ℕ)). set k s (change (with_mask m) (get_or l s zero_glyph))) (edit-empty (with_mask m) s l) in
    rw next (eg ∙ (sym one ∙ ap (λ (n : ℕ). edit s (suc s) (with_mask (settled_mask wants n)) l) low))

-- what the act on each group asks for
pub act-fits : (run p : List ℕ) {n e : ℕ} → n ≤ length (glyphs run) → length p ≡ length run → e ≤ n → e ≤ length (glyphs p)
act-fits run p {n} h lr i = let k : n ≤ length (glyphs p) = rw (glyphs-same p run lr) h in omega (arith, i, k)

-- ---- the loop: groups before s have their masks, those from s on are still to get them
abbrev seen_run : Phase → ℕ → (run other : List ℕ) → List (Glyph ℕ)
seen_run p n run other = take n (shown p run other)

one-more : (wants n : ℕ) (ns : List ℕ) (s : ℕ) (l : List (Glyph ℕ)) → propagated wants (n ∷ ns) s l ≡ propagated wants ns (s + n) (edit s (s + n) (with_mask (settled_mask wants (joined (slice s (s + n) (infos l))))) l)
unfolding propagated
one-more wants n ns s l = refl

no_more : (wants s : ℕ) (l : List (Glyph ℕ)) → propagated wants [] s l ≡ l
unfolding propagated
no_more wants s l = refl

pub record Spread (wants n : ℕ) (run run' : List ℕ) (s : ℕ) : Type 0 where
  pub same-run : length run' ≡ length run
  pub fits : n ≤ length (glyphs run')
  pub high : s ≤ n
  pub behind : drop n (glyphs run') ≡ drop n (glyphs run)
  pub is : (p : Phase) (other : List ℕ) → spoiled_phase p ≡ false → propagated wants (group_sizes same_cluster (drop s (infos (seen_run p n run' other)))) s (seen_run p n run' other)
      ≡ propagated wants (group_sizes same_cluster (infos (seen_run p n run other))) 0 (seen_run p n run other)

module _ {wants n : ℕ} {run : List ℕ} where
  spread_none : n ≤ length (glyphs run) → Spread wants n run run 0
  spread_none h = record { same-run = refl; fits = h; high = zero-le; behind = refl; is = λ p other k. refl }

  module _ {run' : List ℕ} {s : ℕ} (v : Spread wants n run run' s) where
    module _ {e : ℕ} (w : EndsGroup same_cluster run' s n e) where
      after : s < e
      after = (w.is Plain [] refl).after

      inside : e ≤ n
      inside = (w.is Plain [] refl).inside

      in-order : s ≤ e
      in-order = omega (arith, after)

      module _ (p : Phase) (other : List ℕ) (k : spoiled_phase p ≡ false) where
        masks-seen : slice s e (map mask_of (infos (glyphs run'))) ≡ map mask_of (slice s e (infos (seen_run p n run' other)))
        masks-seen =
            let l : List Info = infos (seen_run p n run' other) in
            sym (map-drop mask_of s (take e l)
            ∙ (ap (drop s) (map-take mask_of e l)
            ∙ (ap (slice s e) (seen-words p run' other k v.fits mask_of mask-alone)
            ∙ slice-take s e n (map mask_of (infos (glyphs run'))) inside)))

        group-mask : settled_mask wants (joined_low (slice s e (map mask_of (infos (glyphs run'))))) ≡ settled_mask wants (joined (slice s e (infos (seen_run p n run' other))))
        group-mask = ap (settled_mask wants) (ap joined_low masks-seen ∙ sym (joined-low (slice s e (infos (seen_run p n run' other)))))

      spread-more : {run'' : List ℕ} → length run'' ≡ length run'
          → glyphs run'' ≡ edit s e (with_mask (settled_mask wants (joined_low (slice s e (map mask_of (infos (glyphs run'))))))) (glyphs run') → Spread wants n run run'' e
      spread-more {run''} lr eg = record {
        same-run = lr ∙ v.same-run;
        fits = rw (glyphs-same run'' run' lr) v.fits;
        high = inside;
        behind = (ap (drop n) eg ∙ edit-drop-behind (with_mask (settled_mask wants (joined_low (slice s e (map mask_of (infos (glyphs run'))))))) s e n (glyphs run') in-order inside) ∙ v.behind;
        is = λ p other k.
            let L : List (Glyph ℕ) = seen_run p n run' other in
            let L' : List (Glyph ℕ) = seen_run p n run'' other in
            let m : ℕ = settled_mask wants (joined (slice s e (infos L))) in
            let first : s < e = after in
            let on : s + (e - s) ≡ e = omega arith in
            let edited : glyphs run'' ≡ edit s e (with_mask m) (glyphs run') = eg ∙ ap (λ (x : ℕ). edit s e (with_mask x) (glyphs run')) (group-mask p other k) in
            let seen : L' ≡ edit s e (with_mask m) L =
            ap (take n) (shown-edit (with_mask m) (mask-apart m) s e p run' run'' other in-order k edited) ∙ edit-take (with_mask m) s e n (shown p run' other) in-order inside in
            let later : group_sizes same_cluster (drop e (infos L')) ≡ group_sizes same_cluster (drop e (infos L)) =
            clusters-same e (infos L') (infos L) (ap (λ (l : List (Glyph ℕ)). map (λ i. i.cluster) (infos l)) seen ∙ words-edit (λ i. i.cluster) (with_mask m) (mask-cluster m) s e L in-order) in
            ap₂ (λ (ns : List ℕ) (l : List (Glyph ℕ)). propagated wants ns e l) later seen
            ∙ (ap (λ (x : ℕ). propagated wants (group_sizes same_cluster (drop e (infos L))) x (edit s x (with_mask (settled_mask wants (joined (slice s x (infos L))))) L)) (sym on)
            ∙ (sym (ap (λ (ns : List ℕ). propagated wants ns s L) (w.is p other k).is ∙ one-more wants (e - s) (group_sizes same_cluster (drop e (infos L))) s L) ∙ v.is p other k));
      }

    -- where the code says that the group at s ends
    module _ {e : ℕ} (o : s < n) (ee : e ≡ s + 1 + heads (is (get_or (clusters (glyphs run')) s 4294967295)) (slice (s + 1) n (clusters (glyphs run')))) where
      pub group-order : s ≤ e
      group-order = in-order (ends-cluster (o, v.fits) ee)

      pub group-fits : e ≤ length (glyphs run')
      group-fits = act-fits run' run' v.fits refl (inside (ends-cluster (o, v.fits) ee))

    spread-done : n ≤ s → Propagates wants n run run'
    spread-done o =
        let high : s ≤ n = v.high in
        let end : s ≡ n = omega arith in
        record {
          behind = v.behind;
          is = λ p other k.
              let none : group_sizes same_cluster (drop s (infos (seen_run p n run' other))) ≡ [] = rw end (no-group p run' other k v.fits same_cluster) in
              sym (ap (λ (ns : List ℕ). propagated wants ns s (seen_run p n run' other)) none ∙ no_more wants s (seen_run p n run' other)) ∙ v.is p other k;
        }

-- where the act gives a group its masks
pub propagates_each : {F : Type 0} {g : Shared F Taken (Unit {0} × Pair)} {act : F} {wants n : ℕ} {run₀ other₀ run other : List ℕ} → n ≤ length (glyphs run₀) → ActedOnEach g act same_cluster n run₀ other₀ run other
    → ((s e : ℕ) (run other run' other' : List ℕ) → ActedOnGroup g act s e run other run' other' → (glyphs run' ≡ edit s e (with_mask (settled_mask wants (joined_low (slice s e (map mask_of (infos (glyphs run))))))) (glyphs run)) × (other' ≡ other))
    → PropagatesRun wants n run₀ other₀ run other
propagates_each {wants = wants} {n} {run₀ = run₀} {other₀} f w h =
    let v = holds-after {Holds = λ s run other. Spread wants n run₀ run s × (other ≡ other₀)} (spread_none f, refl)
    (λ s e run other run' other' v o g c lr lo. let m = h s e run other run' other' c in (spread-more v.0 g lr m.0, m.1 ∙ v.1)) w.acted in
    record { run-does = spread-done v.0 w.end; other-is = v.1 }

-- ---- the call
propagate-accepts : {b : Buffer} {run other : List ℕ} → WholeInput b run other
    → propagate_flags (account_of b run other) ≡ accepted (with_rest (propagated b.wants (group_sizes same_cluster (infos (account_of b run other).rest)) 0 (account_of b run other).rest) (account_of b run other))
unfolding propagate_flags
propagate-accepts {b} {run} {other} w = simp (not-not-whole w, wants-of b run other, refusing)

on-run-propagate : (b : Buffer) → OnRun (λ capacity a. propagate_flags a) b (PropagatesRun b.wants b.len.0)
unfolding propagate_flags
on-run-propagate b = record {
  whole = record { refuses = λ capacity a h. simp (h, refusing) };
  done = λ run other run' other' w lr lo act.
      let d = act.run-does in
      rw act.other-is (in-acts (whole-acts w lr refl d.behind refl (λ l. propagated b.wants (group_sizes same_cluster (infos l)) 0 l) (d.is b.phase other w.clean)) (propagate-accepts w) refl);
}

pub propagate-decided : {b : Buffer} {f s : List ℕ} {v : Decision} → TakesWhole b f s v → Decided (λ capacity a. propagate_flags a) b f s (verdicts.settled b v) (acts_of v) (RunOf b.phase b.len.0 f s) (PropagatesRun b.wants b.len.0)
propagate-decided {b} w = takes-decided (on-run-propagate b) w

-- for the proofs of functions
pub ruleset propagating = (joined-below, group-filled, one-masked, one_inside, one-filled, propagate-decided)

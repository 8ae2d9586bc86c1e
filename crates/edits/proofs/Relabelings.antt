-- `set_masks` and `reset_clusters`: the words of every glyph of the run, on the account.
use Rattle.lists.proofs.Decisions.{turned}
use Rattle.lists.specs.inner.States.{Decision}
use Rattle.lists.specs.inner.Verdicts.{acts_of, Turned}
use Rattle.std.specs.Prelude.{Ok, None}
use mathlib.Core.{Path.◌≡◌, Path.refl, Path.sym, Path.ap, Path.◌∙◌, Bool.Bool, Bool.true, Bool.false, Bool.cond, Bool.◌&&◌, Bool.◌||◌, Bool.false≢true, List.List, List.[], List.◌∷◌, List.◌++◌, List.map, List.append-nil}
use Rattle.std.proofs.Common.{ℕ, zero, suc, ◌+◌, ◌-◌, ◌<◌, ◌≤◌, zero-le, le_refl, le_of_suc-le-suc, not-suc-le-zero, add-one, arith, eq-eqb, ne_eqb}
use lib.{Bits.and_le_r, Bits.bit_and, Bits.bit_or, Dec.leb, Dec.ltb, ListN.length, ListN.take, ListN.drop, ListN.get_or, ListN.set, ListN.length-take, ListN.drop_of_length-le, Seq.set-get_or, Seq.take_all, Seq.take_at, Seq.drop_at, Seq.length-take-le}
use Rattle.records.specs.{Phase, Limits, Position, Contradiction, WrongPhase, Glyphs.Glyph, Glyphs.Info, Glyphs.change, Glyphs.with_mask, Glyphs.with_cluster, Glyphs.with_position, Counters.costs, Ranges.is, Ranges.edit, Ranges.clusters, View.glyphs, View.positions_in, View.paired, inner.Stores.zero_glyph}
use Rattle.records.proofs.View.{glyphs-same, cluster-of}
use Rattle.records.proofs.Pairs.{paired-take}
use Rattle.lists.proofs.Showing.{on-shown}
use Rattle.records.proofs.Apart.{Apart}
use Rattle.records.proofs.Edited.{edit-take, edit-drop-behind}
use Rattle.lists.specs.{declared.Buffer.Buffer}
use Rattle.lists.specs.{Account.Account, Account.spoiled_phase, Account.len, Account.paying, Account.with_rest, Account.accepted, Contract.shown, Contract.account_of, Contract.sound, inner.States.reply, inner.States.with_limits_of, inner.Verdicts.Leaves, inner.Verdicts.settled, inner.Verdicts.Decided}
use Rattle.lists.proofs.Sides.{MeetsIn}
use Rattle.lists.proofs.{Accounts.len_of, Inner.paying-of}
use Rattle.lists.proofs.Decisions.{near_same, near-limits, leaves-as, accepts, decided-unsound, decided-refused, decided-accepted, decided-does}
use Rattle.lists.proofs.SoundLaws.{soundness}
use Rattle.lists.proofs.Refusing.{refusing}
use Rattle.edits.specs.{WholeRun.not_whole, WholeRun.masked, WholeRun.set_masks, WholeRun.numbered, WholeRun.reset_clusters, inner.Wholes.WholeInput, inner.Wholes.RunOf, inner.Wholes.TakesWhole, inner.Wholes.RunBecomes, inner.Relabels.SetsMasks}
use Rattle.edits.proofs.MergeCalls.{acts-paid, in-acts}
use Rattle.edits.proofs.Pairs.{paired-numbered}
use Rattle.edits.proofs.Places.{shown-edit}
use Rattle.edits.proofs.WholeInputs.{whole_test, not-not-whole, whole_is, whole-acts}
use Rattle.edits.proofs.WholeCalls.{OnWhole, OnRun, whole-refuses, lying-whole, sound-whole, whole_room, whole_run, takes-decided}

-- ---- which glyphs are masked
abbrev mask_test : ℕ → ℕ → ℕ → Bool
mask_test c s e = (is 0 s && is 4294967295 e) || (leb s c && ltb c e)

-- one glyph
module _ (l : List (Glyph ℕ)) (i value mask s e : ℕ) {x : ℕ} {t : Bool} (ex : x ≡ get_or (clusters l) i 4294967295) (et : t ≡ mask_test x s e) where
  test_at : t ≡ mask_test (get_or l i zero_glyph).info.cluster s e
  test_at = et ∙ ap (λ (c : ℕ). mask_test c s e) (ex ∙ cluster-of l i)

  pub unmasked : t ≡ false → l ≡ set l i (change (masked value mask s e) (get_or l i zero_glyph))
  unfolding change masked
  unmasked h = rw (sym test_at ∙ h) (sym (set-get_or l i zero_glyph))

  masked-at : t ≡ true → (m : ℕ) → m ≡ bit_or ((get_or l i zero_glyph).info.mask - bit_and mask (get_or l i zero_glyph).info.mask) (bit_and mask value)
      → set l i (change (with_mask m) (get_or l i zero_glyph)) ≡ set l i (change (masked value mask s e) (get_or l i zero_glyph))
  unfolding change masked
  masked-at h m em = rw (sym test_at ∙ h, em)

  pub masked-one : {l' : List (Glyph ℕ)} {old m : ℕ} → t ≡ true → old ≡ (get_or l i zero_glyph).info.mask → m ≡ bit_or (old - bit_and mask old) (bit_and mask value)
      → l' ≡ set l i (change (with_mask m) (get_or l i zero_glyph)) → l' ≡ set l i (change (masked value mask s e) (get_or l i zero_glyph))
  masked-one {l'} {old} {m} h eo em el = el ∙ masked-at h m (em ∙ ap (λ (o : ℕ). bit_or (o - bit_and mask o) (bit_and mask value)) eo)

mask-apart : (value mask s e : ℕ) → Apart (masked value mask s e)
unfolding Apart masked with_position with_mask
mask-apart value mask s e p i = pick (mask_test i.cluster s e)
  where
    pick : (b : Bool) → cond b (with_mask (bit_or (i.mask - bit_and mask i.mask) (bit_and mask value)) (with_position p i)) (with_position p i) ≡ with_position p (cond b (with_mask (bit_or (i.mask - bit_and mask i.mask) (bit_and mask value)) i) i)
    pick true = refl
    pick false = refl

-- ---- an edit of every glyph that a call has
edit-all : (h : Info → Info) (n : ℕ) (l : List (Glyph ℕ)) → length l ≤ n → edit 0 n h l ≡ map (change h) l
unfolding edit
edit-all h n l o = rw (take_all n l o, drop_of_length-le l o) (append-nil (map (change h) l))

module _ (h : Info → Info) (a : Apart h) (n : ℕ) (run run' other : List ℕ) (e : glyphs run' ≡ edit 0 n h (glyphs run)) where
  shown-all : (p : Phase) → spoiled_phase p ≡ false → take n (shown p run' other) ≡ map (change h) (take n (shown p run other))
  shown-all p k =
      let l : List (Glyph ℕ) = shown p run other in
      let short : length (take n l) ≤ n = rw (length-take n l) (omega arith) in
      ap (take n) (shown-edit h a 0 n p run run' other zero-le k e) ∙ (edit-take h 0 n n l zero-le (le_refl n) ∙ edit-all h n (take n l) short)

-- ---- set_masks
module _ (value mask s e : ℕ) where
  on-whole-masks : OnWhole (λ capacity a. set_masks value mask s e a)
  unfolding set_masks
  on-whole-masks = record { refuses = λ capacity a h. simp (h, refusing) }

  module _ (a : Account ℕ) where
    masks-nothing : not_whole a ≡ false → mask ≡ 0 → set_masks value mask s e a ≡ accepted a
    unfolding set_masks
    masks-nothing h k = simp (h, eq-eqb mask 0 k, refusing)

    masks-some : not_whole a ≡ false → (mask ≡ 0 → ⊥) → (n : ℕ) → len a ≡ n → set_masks value mask s e a ≡ accepted (paying n (with_rest (map (change (masked value mask s e)) a.rest) a))
    unfolding set_masks
    masks-some h k n en = simp (h, ne_eqb mask 0 k, en, refusing)

  masks-done : {b : Buffer} {run other run' : List ℕ} → WholeInput b run other → (mask ≡ 0 → ⊥) → length run' ≡ length run → glyphs run' ≡ edit 0 b.len.0 (masked value mask s e) (glyphs run)
      → MeetsIn (λ capacity a. set_masks value mask s e a) b run other (reply (with_limits_of (costs b.len.0 b.limits) b) (Ok None)) run' other
  masks-done {b} {run} {other} {run'} w k lr eg =
      let h : Info → Info = masked value mask s e in
      let n : ℕ = b.len.0 in
      let call : Account ℕ → Account ℕ = λ a. paying n (with_rest (map (change h) a.rest) a) in
      in-acts {h = call}
      (acts-paid w.held call n refl refl lr refl (ap (drop n) eg ∙ edit-drop-behind h 0 n n (glyphs run) zero-le (le_refl n)) refl
      (paying-of b run' other n
      ∙ ap (paying n) (whole_is run' other w lr refl (map (change h)) (shown-all h (mask-apart value mask s e) n run run' other eg b.phase w.clean)))).0
      (masks-some (account_of b run other) (not-not-whole w) k n (len_of b run other w.held w.clean)) refl

module _ {mask : ℕ} {b : Buffer} {f s : List ℕ} {v : Decision} where
  pub masks-unsound : sound b f s ≡ false → Turned Contradiction v → SetsMasks mask b f s v
  masks-unsound h w = record { is = λ value start stop. decided-unsound h w }

  module _ {t : Bool} (h : sound b f s ≡ true) (et : t ≡ whole_test b) where
    pub masks-not-whole : t ≡ true → Turned WrongPhase v → SetsMasks mask b f s v
    masks-not-whole k w = record { is = λ value start stop. decided-refused h (whole-refuses (on-whole-masks value mask start stop) et k) w }

    module _ (k : t ≡ false) where
      pub masks-none : mask ≡ 0 → Leaves b false None v → SetsMasks mask b f s v
      masks-none m w = record { is = λ value start stop. decided-accepted h (accepts None (near_same b) (λ run other l. (masks-nothing value mask start stop (account_of b run other) (not-not-whole (lying-whole et k l)) m, l.held))) w }

      pub masks-ahead : {x : Buffer} {l : Limits} → (mask ≡ 0 → ⊥) → l ≡ costs b.len.0 b.limits → x ≡ with_limits_of l b → Leaves x true None v → SetsMasks mask b f s v
      masks-ahead m el ex w = record {
        is = λ value start stop. decided-does h (record {
          near = near-limits b _;
          none = λ c. absurd (false≢true (sym c));
          law = λ run other run' other' l lr lo act. rw act.other-is (masks-done value mask start stop (lying-whole et k l) m lr act.run_is);
        }) (λ c. whole_run (sound-whole h et k)) (leaves-as (ex ∙ ap (λ (y : Limits). with_limits_of y b) el) w);
      }

-- ---- the first i glyphs are numbered
length-numbered : {G : Type 0} (k : ℕ) (l : List (Glyph G)) → length (numbered k l) ≡ length l
unfolding numbered
length-numbered k [] = refl
length-numbered k (g ∷ l) = ap suc (length-numbered (suc k) l)

numbered_more : {G : Type 0} (d : Glyph G) (k i c : ℕ) (l : List (Glyph G)) → c ≡ k + i → i < length l
    → set (numbered k (take i l) ++ drop i l) i (change (with_cluster c) (get_or (numbered k (take i l) ++ drop i l) i d)) ≡ numbered k (take (suc i) l) ++ drop (suc i) l
unfolding numbered
numbered_more d k i c [] e lt = absurd (not-suc-le-zero lt)
numbered_more {G} d k zero c (g ∷ l) e lt =
    let o : c ≡ k = omega (arith, e) in
    ap {B = List (Glyph G)} (λ x. change (with_cluster x) g ∷ l) o
numbered_more {G} d k (suc i) c (g ∷ l) e lt = ap {B = List (Glyph G)} (λ r. change (with_cluster k) g ∷ r) (numbered_more d (suc k) i c l (omega (arith, e)) (le_of_suc-le-suc lt))

pub record Numbering (ws₀ : List ℕ) (n : ℕ) (ws : List ℕ) (i : ℕ) : Type 0 where
  pub high : i ≤ n
  pub most : n ≤ 1048576
  pub fits : n ≤ length (glyphs ws)
  pub is : glyphs ws ≡ numbered 0 (take i (glyphs ws₀)) ++ drop i (glyphs ws₀)
  pub len : length ws ≡ length ws₀

pub numbering-none : {ws : List ℕ} {n : ℕ} → n ≤ length (glyphs ws) → n ≤ 1048576 → Numbering ws n ws 0
unfolding numbered
numbering-none h m = record { high = zero-le; most = m; fits = h; is = refl; len = refl }

pub numbering-more : {ws₀ ws ws' : List ℕ} {n i : ℕ} → Numbering ws₀ n ws i → i < n
    → glyphs ws' ≡ set (glyphs ws) i (change (with_cluster i) (get_or (glyphs ws) i zero_glyph)) → length ws' ≡ length ws → Numbering ws₀ n ws' (i + 1)
numbering-more {ws₀} {ws} {ws'} {n} {i} v lt ep el =
    let same : length (glyphs ws) ≡ length (glyphs ws₀) = glyphs-same ws ws₀ v.len in
    let same' : length (glyphs ws') ≡ length (glyphs ws) = glyphs-same ws' ws el in
    let fits : n ≤ length (glyphs ws) = v.fits in
    record {
      high = omega arith;
      most = v.most;
      fits = omega arith;
      is = ep ∙ rw (v.is, add-one) (numbered_more zero_glyph 0 i i (glyphs ws₀) (omega arith) (omega arith));
      len = el ∙ v.len;
    }

pub numbering-done : {ws₀ ws : List ℕ} {n i : ℕ} → Numbering ws₀ n ws i → n ≤ i → glyphs ws ≡ numbered 0 (take n (glyphs ws₀)) ++ drop n (glyphs ws₀)
numbering-done {ws₀} {ws} {n} {i} v ge =
    let o : i ≡ n = omega (arith, v.high) in
    rw o at v.is

module _ (n : ℕ) (run run' other : List ℕ) (fits : n ≤ length (glyphs run)) (e : glyphs run' ≡ numbered 0 (take n (glyphs run)) ++ drop n (glyphs run)) where
  many : length (numbered 0 (take n (glyphs run))) ≡ n
  many = length-numbered 0 (take n (glyphs run)) ∙ length-take-le n (glyphs run) fits

  numbered-first : take n (glyphs run') ≡ numbered 0 (take n (glyphs run))
  numbered-first = ap (take n) e ∙ take_at (numbered 0 (take n (glyphs run))) (drop n (glyphs run)) n many

  numbered-behind : drop n (glyphs run') ≡ drop n (glyphs run)
  numbered-behind = ap (drop n) e ∙ drop_at (numbered 0 (take n (glyphs run))) (drop n (glyphs run)) n many

  shown-numbered : (p : Phase) → spoiled_phase p ≡ false → take n (shown p run' other) ≡ numbered 0 (take n (shown p run other))
  shown-numbered p k =
      let ps : List Position = positions_in other in
      on-shown (λ x. take n (x run' other) ≡ numbered 0 (take n (x run other))) p k numbered-first
      (paired-take n (glyphs run') ps
      ∙ (ap (λ (l : List (Glyph ℕ)). paired l (take n ps)) numbered-first
      ∙ (paired-numbered 0 (take n (glyphs run)) (take n ps) ∙ ap (numbered 0) (sym (paired-take n (glyphs run) ps)))))

-- ---- reset_clusters
reset-all : (a : Account ℕ) → not_whole a ≡ false → reset_clusters a ≡ accepted (with_rest (numbered 0 a.rest) a)
unfolding reset_clusters
reset-all a h = simp (h, refusing)

on-run-reset : (b : Buffer) → OnRun (λ capacity a. reset_clusters a) b (RunBecomes (λ l. numbered 0 (take b.len.0 l) ++ drop b.len.0 l))
unfolding reset_clusters
on-run-reset b = record {
  whole = record { refuses = λ capacity a h. simp (h, refusing) };
  done = λ run other run' other' w lr lo act.
      let fits = (whole_room w).fits in
      rw act.other-is (in-acts
      (whole-acts w lr refl (numbered-behind b.len.0 run run' other fits act.run_is) refl (numbered 0) (shown-numbered b.len.0 run run' other fits act.run_is b.phase w.clean))
      (reset-all (account_of b run other) (not-not-whole w)) refl);
}

pub reset-decided : {b : Buffer} {f s : List ℕ} {v : Decision} → TakesWhole b f s v → Decided (λ capacity a. reset_clusters a) b f s (settled b v) (acts_of v) (RunOf b.phase b.len.0 f s) (RunBecomes (λ l. numbered 0 (take b.len.0 l) ++ drop b.len.0 l))
reset-decided {b} w = takes-decided (on-run-reset b) w

-- for the proofs of functions
pub ruleset replacing_bits = and_le_r

pub ruleset mask_calls = (turned, soundness, masks-unsound, masks-not-whole, masks-none, masks-ahead)

pub ruleset relabeling = (unmasked, masked-one, numbering-none, numbering-more, numbering-done, reset-decided)

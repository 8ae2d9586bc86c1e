-- Phase positions: the glyphs of one slice with the positions of the other. An edit that keeps positions is the same edit of the pairs.
use mathlib.Core.{Path.◌≡◌, Path.ap, Path.◌∙◌, Bool.Bool, Bool.true, Bool.false, Bool.cond, Bool.◌&&◌, Bool.◌||◌, List.List}
use Rattle.std.proofs.Common.{ℕ, ◌+◌, ◌-◌, ◌≤◌, arith}
use lib.Seq.{slice}
use Rattle.records.specs.{Phase, Position, Glyphs.Glyph, Glyphs.Info, Glyphs.set_cluster, Glyphs.flagged, Glyphs.flagged_unless, Ranges.edit, Ranges.is, Ranges.isnt, Ranges.first_cluster, Ranges.last_cluster, Ranges.heads, Ranges.tails, Ranges.clusters, View.glyphs, View.positions_in, View.paired}
use Rattle.records.proofs.View.{length-paired}
use Rattle.lists.proofs.Showing.{on-shown}
use Rattle.records.proofs.Apart.{Apart, set_apart, mark-apart, unless-apart, clusters-paired, paired-edit}
use Rattle.edits.specs.declared.Plan.{Plan}
use Rattle.lists.specs.{Account.State, Account.spoiled_phase, Contract.shown}
use Rattle.edits.specs.Flags.{interior, sought, flag_interior, flag_all}
use Rattle.edits.specs.inner.Holding.{holds, cut}
use Rattle.edits.specs.inner.Plans.{merge_plan, tail_start, merged_range, merged_tail}
use Rattle.edits.proofs.MergeForms.{Mergeable, InputRange, InputFrom, MergedWithin}
use Rattle.edits.proofs.MergeLaws.{plan-order, tail-most, merged-within}
use Rattle.edits.proofs.Searching.{searching}
use Rattle.edits.proofs.FlagLaws.{flagged-within, flagged-all-within}

module _ (h : Info → Info) (a : Apart h) where
  -- an edit of the slice is one of what is shown
  pub shown-edit : (i j : ℕ) (p : Phase) (run run' other : List ℕ) → i ≤ j → spoiled_phase p ≡ false → glyphs run' ≡ edit i j h (glyphs run) → shown p run' other ≡ edit i j h (shown p run other)
  shown-edit i j p run run' other o c e = on-shown (λ x. x run' other ≡ edit i j h (x run other)) p c e (rw e (paired-edit h a i j (glyphs run) (positions_in other) o))

pub paired-interior : (level m bits i j : ℕ) (l : List (Glyph ℕ)) (ps : List Position) → i ≤ j → paired (interior level m bits i j l) ps ≡ interior level m bits i j (paired l ps)
unfolding interior
paired-interior level m bits i j l ps o =
    let r : List ℕ = slice i j (clusters l) in
    rw (clusters-paired l ps) (pick (is 2 level || (isnt m (first_cluster r) && isnt m (last_cluster r))) (is m (first_cluster r)) (tails (isnt m) r) (heads (isnt m) r))
  where
    pick : (b c : Bool) (t h : ℕ) → paired (cond b (edit i j (flagged_unless m bits) l) (cond c (edit (j - t) j (flagged bits) l) (edit i (i + h) (flagged bits) l))) ps
        ≡ cond b (edit i j (flagged_unless m bits) (paired l ps)) (cond c (edit (j - t) j (flagged bits) (paired l ps)) (edit i (i + h) (flagged bits) (paired l ps)))
    pick true c t h = paired-edit (flagged_unless m bits) (unless-apart m bits) i j l ps o
    pick false true t h = paired-edit (flagged bits) (mark-apart bits) (j - t) j l ps (omega arith)
    pick false false t h = paired-edit (flagged bits) (mark-apart bits) i (i + h) l ps (omega arith)

-- ---- merges, to the account
module _ {l : List (Glyph ℕ)} {len out_length s e : ℕ} (v : Mergeable l l len out_length s e) (ps : List Position) where
  pub paired-mergeable : Mergeable (paired l ps) (paired l ps) len out_length s e
  paired-mergeable = record { order = v.order; end = v.end; fits = rw (length-paired l ps) v.fits; out-fits = rw (length-paired l ps) v.out-fits }

  planned-pairs : (idx : ℕ) (p : Plan) → p ≡ merge_plan idx s e (cut len l) → paired (merged_range p (merged_tail p out_length l)) ps ≡ merged_range p (merged_tail p out_length (paired l ps))
  unfolding merged_range merged_tail
  planned-pairs idx p ep =
      let h : Info → Info = set_cluster p.lowest 0 in
      let at : ℕ = tail_start p.along (cut out_length l) out_length in
      rw (clusters-paired l ps)
      (paired-edit h (set_apart p.lowest 0) p.from p.to (edit at out_length h l) ps (plan-order v idx p ep).0
      ∙ ap (edit p.from p.to h) (paired-edit h (set_apart p.lowest 0) at out_length l ps (tail-most p.along out_length (cut out_length l))))

  -- THE LAW of a merge in phase positions
  pub paired-within : {gone idx : ℕ} → InputFrom gone idx len s → out_length ≤ gone → {l' : List (Glyph ℕ)} (p : Plan) → p ≡ merge_plan idx s e (cut len l) → l' ≡ merged_range p (merged_tail p out_length l)
      → MergedWithin gone idx len out_length s e (paired l ps) (paired l' ps)
  paired-within {gone} {idx} w low {l'} p ep el =
      merged-within paired-mergeable w low p (rw (clusters-paired l ps) ep) (ap (λ (r : List (Glyph ℕ)). paired r ps) el ∙ planned-pairs idx p ep)

-- ---- flags, to the account
module _ {l : List (Glyph ℕ)} {len out_length s e : ℕ} (v : InputRange l l len out_length s e) (ps : List Position) where
  pub paired-range : InputRange (paired l ps) (paired l ps) len out_length s e
  paired-range = record { order = v.order; end = v.end; fits = rw (length-paired l ps) v.fits; out-fits = rw (length-paired l ps) v.out-fits }

  module _ {gone idx : ℕ} (w : InputFrom gone idx len s) (low : out_length ≤ gone) (bits : ℕ) (k : State) where
    -- THE LAW of an interior flag in phase positions
    pub paired-flagged : (level : ℕ) {l' : List (Glyph ℕ)} → 2 ≤ e - s → searching k ≡ level → l' ≡ interior level (sought level (slice s e (clusters l))) bits s e l
        → holds (paired l' ps) (paired l' ps) gone idx len out_length k ≡ flag_interior bits (s - gone) (e - gone) (holds (paired l ps) (paired l ps) gone idx len out_length k)
    paired-flagged level {l'} two el er =
        flagged-within paired-range w low bits k level two el
        (ap (λ (r : List (Glyph ℕ)). paired r ps) er ∙ (paired-interior level (sought level (slice s e (clusters l))) bits s e l ps v.order ∙ rw (clusters-paired l ps)))

    pub paired-flagged-all : {l' : List (Glyph ℕ)} → l' ≡ edit s e (flagged bits) l
        → holds (paired l' ps) (paired l' ps) gone idx len out_length k ≡ flag_all bits (s - gone) (e - gone) (holds (paired l ps) (paired l ps) gone idx len out_length k)
    paired-flagged-all er = flagged-all-within paired-range w low bits k (ap (λ (r : List (Glyph ℕ)). paired r ps) er ∙ paired-edit (flagged bits) (mark-apart bits) s e l ps v.order)

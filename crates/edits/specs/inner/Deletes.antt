-- What the functions below the exported deletion ask for and do, by places.
use Rattle.lists.specs.inner.Verdicts.{limiting_verdict}
use mathlib.Core.{Path.◌≡◌, Bool.Bool, Bool.true, Bool.false, Bool.cond, Bool.◌&&◌, List.List}
use Rattle.std.specs.Prelude.{ℕ, ◌+◌, ◌<◌, ◌≤◌}
use lib.{Dec.ltb, ListN.length, ListN.get_or, ListN.set}
use Rattle.records.specs.{Limits, Glyphs.zero_position, Ranges.clusters, Ranges.is, Ranges.first_cluster, Ranges.last_cluster, View.glyphs, View.positions_in, inner.Stores.zero_glyph}
use Rattle.lists.specs.{declared.Buffer.Buffer, declared.Verdict.Verdict}
use Rattle.lists.specs.{Account.Account, Account.output_phase, Account.positions_phase, Contract.account_of, inner.Held.Held, inner.States.at_places, inner.States.with_limits_of}
use Rattle.edits.specs.declared.Kept.{Kept}
use Rattle.edits.specs.{inner.Acts.Acts, inner.Charges.running, Deleting.current, Deleting.survives, Deleting.inherited, Deleting.deleted, Deleting.deleted_each, Deleting.kept_run, inner.MergeActs.merge_limits, inner.Wholes.WholeInput}

-- a buffer with output and a glyph at the cursor
pub record Deletable (b : Buffer) (run other : List ℕ) : Type 0 where
  pub held : Held b run other
  pub output : output_phase b.phase ≡ true
  pub some : b.idx.0 < b.len.0

-- the next glyph, and the last of the output, have the cluster of the glyph at the cursor
unfoldable pub next_has : Account ℕ → Bool
next_has a = let cs = clusters a.rest in ltb 1 (length cs) && is (first_cluster cs) (get_or cs 1 0)

unfoldable pub last_has : Account ℕ → Bool
last_has a = let ds = clusters a.done in ltb 0 (length ds) && is (first_cluster (clusters a.rest)) (last_cluster ds)

unfoldable pub inheriting : Account ℕ → Account ℕ
inheriting a = inherited (current a).cluster (current a).mask a

-- a buffer at other places, with this level and wants, its output apart or not
abbrev pub laid : (separate : Bool) (level wants idx len out_length : ℕ) → Buffer → Buffer
laid separate level wants i l o b = record { idx = record { 0 = i }; len = record { 0 = l }; out_len = record { 0 = o }; limits = b.limits; wants = wants; phase = b.phase; swapped = b.swapped; have_separate_output = separate; level = level }

-- a glyph at the cursor, in slices that are large enough
pub record DeleteRoom (idx len out_length : ℕ) (run other : List ℕ) : Type 0 where
  pub some : idx < len
  pub fits : len ≤ length (glyphs run)
  pub out-fits : out_length ≤ length (glyphs run)
  pub same : length (glyphs run) ≡ length (glyphs other)

-- what was found, on the account of every buffer at these places
pub record NextFound (idx len : ℕ) (run : List ℕ) (t : Bool) : Type 0 where
  pub is : (b : Buffer) (other : List ℕ) → let x = laid b.have_separate_output b.level b.wants idx len b.out_len.0 b in Deletable x run other → t ≡ next_has (account_of x run other)

pub record LastFound (separate : Bool) (idx out_length : ℕ) (run other : List ℕ) (t : Bool) : Type 0 where
  pub is : (b : Buffer) → let x = laid separate b.level b.wants idx b.len.0 out_length b in Deletable x run other → t ≡ last_has (account_of x run other)

pub record Surviving (separate : Bool) (idx len out_length : ℕ) (run other : List ℕ) (t : Bool) : Type 0 where
  pub is : (b : Buffer) → let x = laid separate b.level b.wants idx len out_length b in Deletable x run other → t ≡ survives (clusters (account_of x run other).rest) (clusters (account_of x run other).done)

-- and what was done
pub record Inherits (separate : Bool) (idx out_length : ℕ) (run other run' other' : List ℕ) : Type 0 where
  pub acts : (b : Buffer) → let x = laid separate b.level b.wants idx b.len.0 out_length b in Deletable x run other → Acts inheriting x run other x run' other'
  pub own : separate ≡ false → other' ≡ other

-- the glyph at the cursor goes; `merged`: its cluster went to the next by a merge, which costs 2
pub record Deletes (separate : Bool) (level wants idx len out_length : ℕ) (merged : Bool) (run other run' other' : List ℕ) : Type 0 where
  pub acts : (b : Buffer) → let x = laid separate level wants idx len out_length b in Deletable x run other → Acts (λ a. deleted a) x run other (at_places (idx + 1) len out_length (with_limits_of (merge_limits merged 2 b.limits) x)) run' other'
  pub own : separate ≡ false → other' ≡ other

-- the verdict on the call, once it is known whether two glyphs were merged
abbrev pub merged_with : Bool → Verdict → Verdict
merged_with m v = limiting_verdict (merge_limits m 2 v.limits) v

-- ---- 21
-- a glyph goes from place i to place k, with its position where there are positions
pub record MoveRoom (i k : ℕ) (run other : List ℕ) : Type 0 where
  pub from : i < length (glyphs run)
  pub to : k < length (glyphs run)
  pub from_place : i < length (positions_in other)
  pub to-place : k < length (positions_in other)

pub record MovesGlyph (positions : Bool) (i k : ℕ) (run other run' other' : List ℕ) : Type 0 where
  pub run_is : glyphs run' ≡ set (glyphs run) k (get_or (glyphs run) i zero_glyph)
  pub other-is : positions_in other' ≡ cond positions (set (positions_in other) k (get_or (positions_in other) i zero_position)) (positions_in other)

-- the glyphs with the key are deleted, on every whole run that lies here, in a phase that has positions where `positions` says so
pub record Sifts (slot mask value : ℕ) (positions : Bool) (level wants n : ℕ) (l : Limits) (k : Kept) (run other run' other' : List ℕ) : Type 0 where
  pub acts : (b : Buffer) → WholeInput (running level wants n l b) run other → positions ≡ positions_phase b.phase → Acts (λ a. kept_run (deleted_each slot mask value (length a.rest) a)) (running level wants n l b) run other (running level wants k.len k.limits b) run' other'

-- the verdict on it, once it is known what is left
abbrev pub kept_with : Kept → Verdict → Verdict
kept_with k v = record { idx = v.idx; len = k.len; out_len = v.out_len; limits = k.limits; apart = v.apart; acts = v.acts; value = v.value }

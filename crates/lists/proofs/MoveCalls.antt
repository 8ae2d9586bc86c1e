-- What `move_to` comes to, outcome by outcome: 10. Its parts stand in ForwardCalls and BackCalls.
use Rattle.std.specs.Prelude.{Some}
use mathlib.Core.{Path.◌≡◌, Path.refl, Path.sym, Path.◌∙◌, Bool.Bool, Bool.true, Bool.false, List.List}
use Prim.Native.Nat.{ℕ, ◌+◌, ◌-◌, ◌≤◌, ◌<◌, ◌^◌}
use native.Mathlib.Omega.{arith}
use Rattle.records.specs.{WrongPhase, OutOfRange, Contradiction}
use Rattle.lists.specs.{declared.Buffer.Buffer, declared.Reply.Reply}
use Rattle.lists.specs.Account.{output_phase, spoiled_phase}
use lib.{ListN.length}
use Rattle.lists.specs.Cursor.{move_to}
use Rattle.lists.specs.Contract.{sound, Meets}
use Rattle.lists.specs.inner.States.{Decision, at_places}
use Rattle.lists.specs.inner.Moving.{Opened, Backs, MovesForward, MovesBack, MovesTo, Movable, Moved, len_of, out_len_of}
use Rattle.lists.proofs.Sides.{SyncOutput}
use Rattle.lists.specs.inner.Verdicts.{acts_of, Turned, Leaves, settled, Sided}
use Rattle.lists.proofs.SoundLaws.{sound-held, soundness}
use Rattle.lists.proofs.BackLaws as backs
use Rattle.lists.proofs.Lying.{Lying}
use Rattle.lists.proofs.Decisions.{turned, near_same, near-places, decided-unsound, decided-accepted, decided-no, decided-by, end-acted}
use Rattle.lists.proofs.BackCalls.{back-decided}
use Rattle.records.proofs.Tests.{tested}

-- ---- the call, by its tests
pub opens : {b : Buffer} {f s : List ℕ} → sound b f s ≡ true → output_phase b.phase ≡ true → Opened b f s
opens h o = record { is-sound = h; output = o }

module _ {b : Buffer} {f s : List ℕ} {v : Decision} {i : ℕ} where
  pub move-unsound : sound b f s ≡ false → Turned Contradiction v → MovesTo i b f s v
  move-unsound h q = record { is = decided-unsound h q }

  module _ (h : sound b f s ≡ true) where
    pub move-spoiled : spoiled_phase b.phase ≡ true → Turned WrongPhase v → MovesTo i b f s v
    move-spoiled k q = record { is = decided-no h (λ run other l. backs.move-in-spoiled i l.held k refl) q }

    module _ (p : spoiled_phase b.phase ≡ false) (o : output_phase b.phase ≡ false) where
      pub move-outside : b.len.0 < i → Turned OutOfRange v → MovesTo i b f s v
      move-outside k q = record { is = decided-no h (λ run other l. backs.move-in-outside i l.held p o k refl) q }

      pub move-places : {x : Buffer} → i ≤ b.len.0 → x ≡ at_places i b.len.0 b.out_len.0 b → Leaves x false (Some 1) v → MovesTo i b f s v
      move-places {x} k ex q = record { is = decided-accepted h (record { near = rw ex (near-places b i b.len.0 b.out_len.0); law = λ run other l. backs.move-in-places i l.held p o k ex refl }) q }

module _ {b : Buffer} {f s : List ℕ} (w : Opened b f s) where
  opened : {run other : List ℕ} → Lying b f run other → SyncOutput b run other
  opened l = record { held = l.held; output = w.output }

  pub opened-left : b.idx.0 ≤ b.len.0
  opened-left = (sound-held b f s w.is-sound).idx-in

  pub opened-all : b.out_len.0 + (b.len.0 - b.idx.0) < 2 ^ 64
  opened-all = let v = sound-held b f s w.is-sound in omega arith

module _ {b : Buffer} {f s : List ℕ} {v : Decision} {i : ℕ} (w : Opened b f s) where
  pub move-over : b.out_len.0 + (b.len.0 - b.idx.0) < i → Turned OutOfRange v → MovesTo i b f s v
  move-over k q = record { is = decided-no w.is-sound (λ run other l. backs.move-out-over i (opened w l) k refl) q }

  module _ (k : i ≤ b.out_len.0 + (b.len.0 - b.idx.0)) where
    pub move-failed : b.limits.successful ≡ false → Leaves b false (Some 0) v → MovesTo i b f s v
    move-failed h q = record { is = decided-accepted w.is-sound (record { near = near_same b; law = λ run other l. backs.move-out-failed i (opened w l) k h refl }) q }

    module _ (h : b.limits.successful ≡ true) where
      pub move-stays : i ≤ b.out_len.0 → b.out_len.0 ≤ i → Leaves b false (Some 1) v → MovesTo i b f s v
      move-stays p q e = record { is = decided-accepted w.is-sound (record { near = near_same b; law = λ run other l. backs.move-out-stays i (opened w l) k h p q refl }) e }

      pub move-forward : b.out_len.0 < i → MovesForward (i - b.out_len.0) b f s v → MovesTo i b f s v
      move-forward p d = record { is = decided-by _ _ b f s w.is-sound (λ run other l. backs.move-is-forward i (opened w l) k h p) d.is }

      pub move-backward : i < b.out_len.0 → MovesBack (b.out_len.0 - i) b f s v → MovesTo i b f s v
      move-backward p d = record { is = decided-by _ _ b f s w.is-sound (λ run other l. backs.move-is-backward i (opened w l) k h p) d.is }

      pub move-back : i < b.out_len.0 → b.out_len.0 - i ≤ b.idx.0 → Backs (b.out_len.0 - i) false b v → MovesTo i b f s v
      move-back p q e = move-backward p (back-decided (record { is-sound = w.is-sound; output = w.output; in-out = omega arith; in-idx = q }) e)

-- ---- the end of the call, by whether it acted; l' and o' are the lengths as the code read them
module _ {i l' o' : ℕ} {b : Buffer} {f s : List ℕ} {d : Decision} {t : Bool} (w : MovesTo i b f s d) (et : t ≡ acts_of d) where
  pub move-asked : t ≡ true → l' ≡ len_of d → o' ≡ out_len_of d → Movable b.have_separate_output b.idx.0 b.len.0 b.out_len.0 l' o' f s
  move-asked k el eo = rw (el, eo) (w.is.asked (sym et ∙ k))

  module _ {f'' s'' : List ℕ} {r : Reply} (er : r ≡ settled b d) where
    pub move-acted : {f' s' : List ℕ} → t ≡ true → l' ≡ len_of d → o' ≡ out_len_of d → f'' ≡ f' → s'' ≡ s' → length f' ≡ length f → length s' ≡ length s
        → Sided b.swapped (Moved b.have_separate_output b.idx.0 b.len.0 b.out_len.0 l' o') f s f' s' → Meets (λ capacity a. move_to capacity i a) b f s r f'' s''
    move-acted k el eo ef es lf ls act = end-acted er w.is et k ef es lf ls (rw (el, eo) at act)

-- for the proofs of functions
pub ruleset move_calls = (turned, soundness, tested, opens, move-unsound, move-spoiled, move-outside, move-places, opened-left, opened-all, move-over, move-failed, move-stays, move-forward, move-backward, move-back, move-asked, move-acted)

-- The act of `move_to`, and what its way forward comes to.
use Rattle.std.specs.Prelude.{Some}
use mathlib.Core.{Path.◌≡◌, Path.refl, Path.sym, Path.ap, Path.◌∙◌, Bool.Bool, Bool.true, Bool.false, Bool.cond, Bool.false≢true, List.List}
use Prim.Native.Nat.{ℕ, ◌+◌, ◌-◌, ◌≤◌, ◌<◌, ◌^◌}
use native.Mathlib.Omega.{arith}
use lib.{ListN.length}
use Rattle.records.specs.{Limits, Counters.capacity_of, Counters.is_negative, Counters.costs, Counters.grown, View.glyphs}
use Rattle.records.proofs.View.{length-glyphs, glyphs-same}
use Rattle.lists.specs.{declared.Buffer.Buffer, inner.Held.Room, inner.Held.fitting, inner.Held.given_up}
use Rattle.lists.specs.inner.Copied.{copied}
use Rattle.lists.specs.inner.Held.{room_for}
use Rattle.lists.specs.inner.States.{Decision, with_limits_of, at_places}
use Rattle.lists.specs.inner.Moving.{Carriable, Passable, Carried, Movable, Moved, Forwarding, forward_verdict, Forwards, MovesForward}
use Rattle.lists.specs.inner.Verdicts.{leaving, Leaves, failed_buffer}
use Rattle.lists.proofs.Tries.{Exits, tried}
use Rattle.lists.proofs.SoundLaws.{sound-held, not-overtaken}
use Rattle.lists.proofs.SizeLaws.{fits-within}
use Rattle.lists.proofs.SyncLaws.{NextOutput}
use Rattle.lists.proofs.ForwardLaws as forths
use Rattle.lists.proofs.Inner.{room-is}
use Rattle.lists.proofs.Moving.{forward-moves}
use Rattle.lists.proofs.Lying.{Lying}
use Rattle.lists.proofs.Decisions.{near-limits, near-placed, leaves-is, decided-accepted, decided-no, decided-does, room_of, over-as, turned-as}

-- ---- the act
module _ {separate : Bool} {i l o l' o' : ℕ} {run other run' other' : List ℕ} where
  pub moved-forth : o < o' → Carried separate i o (o' - o) run other run' other' → Moved separate i l o l' o' run other run' other'
  moved-forth h w = record { forth = λ k. w; back = λ k. absurd (omega arith); other-is = λ k. absurd (omega arith) }

  pub moved_back : (mid : List ℕ) → o' ≤ o → glyphs mid ≡ copied (glyphs run) (i + (l' - l)) (glyphs run) i (l - i) → length mid ≡ length run
      → glyphs run' ≡ copied (glyphs mid) (i + (l' - l) - (o - o')) (cond separate (glyphs other) (glyphs mid)) o' (o - o') → other' ≡ other → Moved separate i l o l' o' run other run' other'
  moved_back mid h up long back same = record { forth = λ k. absurd (omega arith); back = λ k. record { mid = mid; long = long; up = up; back = back }; other-is = λ k. same }

-- what its parts ask for
pub forth-carriable : {separate : Bool} {i l o l' o' : ℕ} {f s : List ℕ} → Movable separate i l o l' o' f s → o < o' → Passable separate i o (o' - o) f s
forth-carriable w h = record { fits = record { same = w.same; leaving = omega (arith, w.ahead, w.grows, w.len-in); arriving = omega (arith, w.out-after-in) }; behind = w.no-overtaking }

pub back-carriable : {separate : Bool} {i l o l' o' : ℕ} {f s : List ℕ} (mid : List ℕ) → Movable separate i l o l' o' f s → o' ≤ o → length mid ≡ length f → Carriable o' (i + (l' - l) - (o - o')) (o - o') mid s
back-carriable {separate} {i} {l} {o} {l'} {o'} {f} {s} mid w h e =
    let long : length (glyphs mid) ≡ length (glyphs f) = glyphs-same mid f e in
    record { same = omega (arith, w.same); leaving = omega (arith, w.out-in); arriving = omega (arith, w.behind, w.len-in, w.idx-in, w.grows) }

-- ---- forward
module _ {b : Buffer} {n : ℕ} {f s : List ℕ} (w : Forwarding b n f s) where
  forth : {run other : List ℕ} → Lying b f run other → NextOutput b n run other
  forth l = record { held = l.held; output = w.output; in_len = w.in_len }

  forth-movable : room_for (capacity_of (length f)) (b.out_len.0 + n) b.limits ≡ fitting → Movable b.have_separate_output b.idx.0 b.len.0 b.out_len.0 b.len.0 (b.out_len.0 + n) f s
  forth-movable fits =
      let v = sound-held b f s w.is-sound in
      let l : length (glyphs f) ≡ capacity_of (length f) = length-glyphs f in
      let fit : b.out_len.0 + n ≤ capacity_of (length f) = fits-within (capacity_of (length f)) (b.out_len.0 + n) b.limits (omega arith) fits in
      record { same = glyphs-same f s v.same; idx-in = v.idx-in; grows = omega arith; len-in = omega arith; out-in = omega arith; out-after-in = omega arith; ahead = omega (arith, w.in_len); behind = omega arith; no-overtaking = not-overtaken v }

module _ {b : Buffer} {n m : ℕ} {f s : List ℕ} {v : Decision} {room : Room} (w : Forwarding b n f s) (em : m ≡ capacity_of (length f)) (er : room ≡ room_for m (b.out_len.0 + n) b.limits) where
  pub forward-over : Exits room v → MovesForward n b f s v
  forward-over x =
      let k = room-is (b.out_len.0 + n) b.limits em er x.was in
      record { is = decided-no w.is-sound (λ run other l. forths.forward-over (forth w l) (over-as _ _ _ (room_of _ l k)) refl) (turned-as _ _ _ k x.is) }

  pub forward-fails : room ≡ given_up → Leaves (failed_buffer b) false (Some 0) v → MovesForward n b f s v
  unfolding failed_buffer
  forward-fails h q = record { is = decided-accepted w.is-sound (record { near = near-limits b _; law = λ run other l. forths.forward-gives-up (forth w l) (room_of _ l (room-is (b.out_len.0 + n) b.limits em er h)) refl refl refl }) q }

  pub forward-goes : room ≡ fitting → Forwards n b v → MovesForward n b f s v
  unfolding forward_verdict at_places with_limits_of
  forward-goes fits q = by (is_negative g.max_ops) refl q.is
    where
      g : Limits
      g = costs n (grown (b.out_len.0 + n) b.limits)

      room_at : {run other : List ℕ} → Lying b f run other → room_for (capacity_of (length run)) (b.out_len.0 + n) b.limits ≡ fitting
      room_at l = room_of (b.out_len.0 + n) l (room-is (b.out_len.0 + n) b.limits em er fits)

      by : (t : Bool) → is_negative g.max_ops ≡ t → v ≡ cond t (leaving (with_limits_of g b) false (Some 0)) (leaving (at_places (b.idx.0 + n) b.len.0 (b.out_len.0 + n) (with_limits_of g b)) true (Some 1)) → MovesForward n b f s v
      by true h e = record { is = decided-accepted w.is-sound (record { near = near-limits b g; law = λ run other l. forths.forward-spent (forth w l) (room_at l) refl refl h refl }) (leaves-is (with_limits_of g b) e) }
      by false h e = rw e (record {
        is = decided-does w.is-sound (record {
          near = near-placed b _ _ _ _;
          none = λ c. absurd (false≢true (sym c));
          law = λ run other run' other' l lr lo act.
              let some : b.out_len.0 + n - b.out_len.0 ≡ n = omega arith in
              let gone : Carried b.have_separate_output b.idx.0 b.out_len.0 n run other run' other' = rw some at (act.forth (omega (arith, w.some))) in
              forths.forward-moves (forth w l) (room_at l) refl refl h (forward-moves _ n run other (forths.forward-ready (forth w l) (room_at l) refl refl) run' other' gone.run_is gone.other-is lr lo refl) refl;
        }) (λ c. forth-movable w (room-is (b.out_len.0 + n) b.limits em er fits)) (leaves-is _ refl);
      })

module _ {b : Buffer} {n : ℕ} {f s : List ℕ} (w : Forwarding b n f s) where
  pub forward-size : b.out_len.0 + n < 2 ^ 64
  forward-size = let v = sound-held b f s w.is-sound in omega (arith, w.in_len)

-- what the code makes of it
module _ {n : ℕ} {b : Buffer} {v : Decision} {m : ℕ} {j k : Limits} {x : Buffer} {t : Bool} (em : m ≡ b.out_len.0 + n) (ej : j ≡ grown m b.limits) (ek : k ≡ costs n j) (ex : x ≡ with_limits_of k b) (et : t ≡ is_negative k.max_ops) where
  pub forwards-spent : t ≡ true → Leaves x false (Some 0) v → Forwards n b v
  unfolding forward_verdict
  forwards-spent h q = let paid = forths.paid-is (b.out_len.0 + n) n b.limits em ej ek in record { is = rw (forths.negative-is _ paid et h) (q.is ∙ ap (λ (u : Buffer). leaving u false (Some 0)) (ex ∙ ap (λ (l : Limits). with_limits_of l b) paid)) }

  pub forwards-goes : {y : Buffer} → t ≡ false → y ≡ at_places (b.idx.0 + n) b.len.0 m x → Leaves y true (Some 1) v → Forwards n b v
  unfolding forward_verdict
  forwards-goes h ey q = let paid = forths.paid-is (b.out_len.0 + n) n b.limits em ej ek in record { is = rw (forths.negative-is _ paid et h) (q.is ∙ ap (λ (u : Buffer). leaving u true (Some 1)) (ey ∙ (ap (λ (i : ℕ). at_places (b.idx.0 + n) b.len.0 i x) em ∙ ap (at_places (b.idx.0 + n) b.len.0 (b.out_len.0 + n)) (ex ∙ ap (λ (l : Limits). with_limits_of l b) paid)))) }

-- for the proofs of functions
pub ruleset forward_calls = (tried, moved-forth, moved_back, forth-carriable, back-carriable, forward-size, forward-goes, forward-fails, forward-over, forwards-spent, forwards-goes)

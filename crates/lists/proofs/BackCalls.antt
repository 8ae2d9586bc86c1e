-- What the way back of `move_to` comes to.
use Rattle.std.specs.Prelude.{Some}
use mathlib.Core.{Path.◌≡◌, Path.refl, Path.sym, Path.ap, Path.◌∙◌, Bool.Bool, Bool.true, Bool.false, Bool.cond, Bool.false≢true, List.List}
use Prim.Native.Nat.{ℕ, ◌+◌, ◌-◌, ◌≤◌, ◌<◌, ◌^◌}
use native.Mathlib.Omega.{arith}
use lib.{ListN.length}
use Rattle.records.specs.{Limits, Counters.capacity_of, Counters.is_negative, Counters.costs, Counters.grown, Glyphs.Glyph, View.glyphs}
use Rattle.records.proofs.View.{length-glyphs, glyphs-same}
use Rattle.lists.specs.{declared.Buffer.Buffer, inner.Held.Room, inner.Held.fitting, inner.Held.given_up}
use Rattle.lists.specs.inner.Copied.{copied}
use Rattle.lists.specs.Cursor.{growing}
use Rattle.lists.specs.Account.{output_phase}
use Rattle.lists.specs.{Contract.sound, inner.Held.room_for}
use Rattle.lists.specs.inner.States.{Decision, with_limits_of, at_places}
use Rattle.lists.proofs.Sides.{Moves}
use Rattle.lists.specs.inner.Moving.{Movable, Returned, BackOver, back_verdict, Backs, shift_verdict, Shifts, MovesBack}
use Rattle.lists.specs.inner.Verdicts.{leaving, Leaves, failed_buffer}
use Rattle.lists.proofs.Tries.{Exits, tried}
use Rattle.lists.proofs.SoundLaws.{sound-held, not-overtaken}
use Rattle.lists.proofs.SizeLaws.{fits-within}
use Rattle.lists.proofs.ForwardLaws as forths
use Rattle.lists.proofs.BackLaws as backs
use Rattle.lists.proofs.Inner.{room-is}
use Rattle.lists.proofs.Moving.{Returnable, shift-moves, return-moves}
use Rattle.lists.proofs.Copying.{copied-self, copied-nothing}
use Rattle.lists.proofs.Lying.{Lying}
use Rattle.lists.proofs.Decisions.{near-limits, near-placed, leaves-is, decided-accepted, decided-no, decided-does, room_of, over-as, turned-as}

-- or n glyphs of the output behind it
pub record Backing (b : Buffer) (n : ℕ) (f s : List ℕ) : Type 0 where
  pub is-sound : sound b f s ≡ true
  pub output : output_phase b.phase ≡ true
  pub in-out : n ≤ b.out_len.0
  pub in-idx : n ≤ b.idx.0

-- ---- back, with the cost of it
module _ {n : ℕ} {shifts : Bool} {b : Buffer} {v : Decision} {k : Limits} {x : Buffer} {t : Bool} (ek : k ≡ costs n b.limits) (ex : x ≡ with_limits_of k b) (et : t ≡ is_negative k.max_ops) where
  pub backs-spent : t ≡ true → Leaves x shifts (Some 0) v → Backs n shifts b v
  unfolding back_verdict
  backs-spent h q = record { is = q.is ∙ (ap (λ (u : Buffer). leaving u shifts (Some 0)) (ex ∙ ap (λ (u : Limits). with_limits_of u b) ek) ∙ sym (ap (λ (y : Bool). cond y (leaving (with_limits_of (costs n b.limits) b) shifts (Some 0)) (leaving (at_places (b.idx.0 - n) b.len.0 (b.out_len.0 - n) (with_limits_of (costs n b.limits) b)) true (Some 1))) (forths.negative-is _ ek et h))) }

  pub backs-goes : {y : Buffer} → t ≡ false → y ≡ at_places (b.idx.0 - n) b.len.0 (b.out_len.0 - n) x → Leaves y true (Some 1) v → Backs n shifts b v
  unfolding back_verdict
  backs-goes h ey q = record { is = q.is ∙ (ap (λ (u : Buffer). leaving u true (Some 1)) (ey ∙ ap (at_places (b.idx.0 - n) b.len.0 (b.out_len.0 - n)) (ex ∙ ap (λ (u : Limits). with_limits_of u b) ek)) ∙ sym (ap (λ (y : Bool). cond y (leaving (with_limits_of (costs n b.limits) b) shifts (Some 0)) (leaving (at_places (b.idx.0 - n) b.len.0 (b.out_len.0 - n) (with_limits_of (costs n b.limits) b)) true (Some 1))) (forths.negative-is _ ek et h))) }

-- the input stays where it is
returned-still : {separate : Bool} {i l k from to n : ℕ} {run other run' : List ℕ} → k ≡ 0 → Returned separate i l k from to n run other run' → glyphs run' ≡ copied (glyphs run) to (cond separate (glyphs other) (glyphs run)) from n
returned-still {separate} {i} {l} {k} {from} {to} {n} {run} {other} {run'} e w =
    let at : i + k ≡ i = omega arith in
    let same : glyphs w.mid ≡ glyphs run = w.up ∙ (ap (λ (j : ℕ). copied (glyphs run) j (glyphs run) i (l - i)) at ∙ copied-self (glyphs run) i (l - i)) in
    w.back ∙ ap (λ (g : List (Glyph ℕ)). copied g to (cond separate (glyphs other) g) from n) same

pub back-decided : {b : Buffer} {n : ℕ} {f s : List ℕ} {v : Decision} → Backing b n f s → Backs n false b v → MovesBack n b f s v
unfolding back_verdict at_places with_limits_of
back-decided {b} {n} {f} {s} {v} w q = by (is_negative (costs n b.limits).max_ops) refl q.is
  where
    ready : {run other : List ℕ} → Lying b f run other → Returnable b n run other
    ready l = record { held = l.held; output = w.output; in-idx = w.in-idx; in-out = w.in-out }

    paid : Buffer
    paid = with_limits_of (costs n b.limits) b

    by : (t : Bool) → is_negative (costs n b.limits).max_ops ≡ t → v ≡ cond t (leaving paid false (Some 0)) (leaving (at_places (b.idx.0 - n) b.len.0 (b.out_len.0 - n) paid) true (Some 1)) → MovesBack n b f s v
    by true h e = record { is = decided-accepted w.is-sound (record { near = near-limits b _; law = λ run other l. backs.back-within (ready l) (forths.back-spent (ready l) refl refl h refl) }) (leaves-is paid e) }
    by false h e = rw e (record {
      is = decided-does w.is-sound (record {
        near = near-placed b _ _ _ _;
        none = λ c. absurd (false≢true (sym c));
        law = λ run other run' other' l lr lo act.
            let none : b.len.0 - b.len.0 ≡ 0 = omega arith in
            let all : b.out_len.0 - (b.out_len.0 - n) ≡ n = omega (arith, w.in-out) in
            let to : b.idx.0 + (b.len.0 - b.len.0) - n ≡ b.idx.0 - n = omega arith in
            let gone = returned-still none (act.back (omega arith)) in
            backs.back-within (ready l) (forths.back-moves (ready l) refl refl h (return-moves _ n run other (forths.back-ready (ready l) refl refl) run' (simp (all, to) at gone) (act.other-is (omega arith)) lr refl) refl);
      }) (λ c.
          let v = sound-held b f s w.is-sound in
          record { same = glyphs-same f s v.same; idx-in = v.idx-in; grows = omega arith; len-in = omega arith; out-in = omega arith; out-after-in = omega arith; ahead = omega arith; behind = omega (arith, w.in-idx, w.in-out); no-overtaking = not-overtaken v }) (leaves-is _ refl);
    })

-- ---- back over the start of the input
abbrev left-of : Buffer → ℕ
left-of b = b.len.0 - b.idx.0

-- what the code makes of it
module _ {n m : ℕ} {b : Buffer} {v : Decision} {j k : Limits} {x : Buffer} {t : Bool} (em : m ≡ left-of b + n) (ej : j ≡ grown m b.limits) (ek : k ≡ costs (left-of b) j) (ex : x ≡ with_limits_of k b) (et : t ≡ is_negative k.max_ops) where
  pub shifts-spent : t ≡ true → Leaves x false (Some 0) v → Shifts n b v
  unfolding shift_verdict
  shifts-spent h q = let paid = forths.paid-is (left-of b + n) (left-of b) b.limits em ej ek in record { is = rw (forths.negative-is _ paid et h) (q.is ∙ ap (λ (u : Buffer). leaving u false (Some 0)) (ex ∙ ap (λ (l : Limits). with_limits_of l b) paid)) }

  pub shifts-goes : {y : Buffer} → t ≡ false → y ≡ at_places n m b.out_len.0 x → Backs n true y v → Shifts n b v
  unfolding shift_verdict
  shifts-goes h ey q = let paid = forths.paid-is (left-of b + n) (left-of b) b.limits em ej ek in record { is = rw (forths.negative-is _ paid et h) (q.is ∙ ap (back_verdict n true) (ey ∙ (ap (λ (i : ℕ). at_places n i b.out_len.0 x) em ∙ ap (at_places n (left-of b + n) b.out_len.0) (ex ∙ ap (λ (l : Limits). with_limits_of l b) paid)))) }

module _ {b : Buffer} {n : ℕ} {f s : List ℕ} (w : BackOver b n f s) where
  over : {run other : List ℕ} → Lying b f run other → backs.BackOver b n run other
  over l = record { held = l.held; output = w.output; in-out = w.in-out; past = w.past }

  pub over-left : b.idx.0 ≤ b.len.0
  over-left = (sound-held b f s w.is-sound).idx-in

  pub over-size : left-of b + n < 2 ^ 64
  over-size = let v = sound-held b f s w.is-sound in omega (arith, w.in-out)

  over-movable : room_for (capacity_of (length f)) (left-of b + n) b.limits ≡ fitting → (o : ℕ) → b.out_len.0 - n ≤ o → o ≤ b.out_len.0 → Movable b.have_separate_output b.idx.0 b.len.0 b.out_len.0 (left-of b + n) o f s
  over-movable fits o h k =
      let v = sound-held b f s w.is-sound in
      let l : length (glyphs f) ≡ capacity_of (length f) = length-glyphs f in
      let fit : left-of b + n ≤ capacity_of (length f) = fits-within (capacity_of (length f)) (left-of b + n) b.limits (omega arith) fits in
      record { same = glyphs-same f s v.same; idx-in = v.idx-in; grows = omega (arith, w.past); len-in = omega arith; out-in = omega arith; out-after-in = omega arith; ahead = omega arith; behind = omega (arith, w.past); no-overtaking = not-overtaken v }

module _ {b : Buffer} {n m : ℕ} {f s : List ℕ} {v : Decision} {room : Room} (w : BackOver b n f s) (em : m ≡ capacity_of (length f)) (er : room ≡ room_for m (left-of b + n) b.limits) where
  pub over-refused : Exits room v → MovesBack n b f s v
  over-refused x =
      let k = room-is (left-of b + n) b.limits em er x.was in
      record { is = decided-no w.is-sound (λ run other l. backs.over-over (over w l) (over-as _ _ _ (room_of _ l k)) refl) (turned-as _ _ _ k x.is) }

  pub over-fails : room ≡ given_up → Leaves (failed_buffer b) false (Some 0) v → MovesBack n b f s v
  unfolding failed_buffer
  over-fails h q = record { is = decided-accepted w.is-sound (record { near = near-limits b _; law = λ run other l. backs.over-gives-up (over w l) (room_of _ l (room-is (left-of b + n) b.limits em er h)) refl refl refl }) q }

  pub over-goes : room ≡ fitting → Shifts n b v → MovesBack n b f s v
  unfolding shift_verdict back_verdict at_places with_limits_of
  over-goes fits q = by (is_negative g.max_ops) (is_negative (costs n g).max_ops) refl refl q.is
    where
      g : Limits
      g = costs (left-of b) (grown (left-of b + n) b.limits)

      -- the buffer whose input has gone up
      up : Buffer
      up = at_places n (left-of b + n) b.out_len.0 (with_limits_of g b)

      there : room_for (capacity_of (length f)) (left-of b + n) b.limits ≡ fitting
      there = room-is (left-of b + n) b.limits em er fits

      room_at : {run other : List ℕ} → Lying b f run other → room_for (capacity_of (length run)) (left-of b + n) b.limits ≡ fitting
      room_at l = room_of (left-of b + n) l there

      shifted : {run other mid : List ℕ} → Lying b f run other → length mid ≡ length run → glyphs mid ≡ copied (glyphs run) (b.idx.0 + (left-of b + n - b.len.0)) (glyphs run) b.idx.0 (b.len.0 - b.idx.0) → Moves (growing (n - b.idx.0)) (with_limits_of g b) run other up mid other
      shifted {run} {other} {mid} l e h =
          let v = l.held in
          let k : left-of b + n - b.len.0 ≡ n - b.idx.0 = omega (arith, v.idx-in) in
          let i : n ≡ b.idx.0 + (n - b.idx.0) = omega (arith, w.past) in
          let j : left-of b + n ≡ b.len.0 + (n - b.idx.0) = omega (arith, v.idx-in, w.past) in
          shift-moves (with_limits_of g b) (n - b.idx.0) run other (backs.over-shiftable (over w l) (room_at l) refl refl) mid (rw k at h) e (ap (λ (x : ℕ). at_places x (left-of b + n) b.out_len.0 (with_limits_of g b)) i ∙ ap (λ (x : ℕ). at_places (b.idx.0 + (n - b.idx.0)) x b.out_len.0 (with_limits_of g b)) j)

      by : (t u : Bool) → is_negative g.max_ops ≡ t → is_negative (costs n g).max_ops ≡ u
          → v ≡ cond t (leaving (with_limits_of g b) false (Some 0)) (cond u (leaving (with_limits_of (costs n g) up) true (Some 0)) (leaving (at_places (n - n) (left-of b + n) (b.out_len.0 - n) (with_limits_of (costs n g) up)) true (Some 1)))
          → MovesBack n b f s v
      by true u h k e = record { is = decided-accepted w.is-sound (record { near = near-limits b g; law = λ run other l. backs.over-spent (over w l) (room_at l) refl refl h refl }) (leaves-is (with_limits_of g b) e) }
      by false true h k e = rw e (record {
        is = decided-does w.is-sound (record {
          near = record { is = refl };
          none = λ c. absurd (false≢true (sym c));
          law = λ run other run' other' l lr lo act.
              let r = act.back (omega arith) in
              let none : b.out_len.0 - b.out_len.0 ≡ 0 = omega arith in
              let at : ℕ = b.idx.0 + (left-of b + n - b.len.0) - (b.out_len.0 - b.out_len.0) in
              let out : List (Glyph ℕ) = cond b.have_separate_output (glyphs other) (glyphs r.mid) in
              let same : glyphs run' ≡ glyphs r.mid = r.back ∙ (ap (λ (j : ℕ). copied (glyphs r.mid) at out b.out_len.0 j) none ∙ copied-nothing (glyphs r.mid) out at b.out_len.0) in
              let m = shifted l lr (same ∙ r.up) in
              rw (act.other-is (omega arith)) (backs.over-moves (over w l) (room_at l) refl refl lr m h (forths.back-spent (backs.over-returns (over w l) (room_at l) refl refl lr m) refl refl k refl));
        }) (λ c. over-movable w there b.out_len.0 (omega arith) (omega arith)) (leaves-is _ refl);
      })
      by false false h k e = rw e (record {
        is = decided-does w.is-sound (record {
          near = record { is = refl };
          none = λ c. absurd (false≢true (sym c));
          law = λ run other run' other' l lr lo act.
              let r = act.back (omega arith) in
              let v = l.held in
              let all : b.out_len.0 - (b.out_len.0 - n) ≡ n = omega (arith, w.in-out) in
              let to : b.idx.0 + (left-of b + n - b.len.0) - n ≡ n - n = omega (arith, v.idx-in, w.past) in
              let m = shifted l r.long r.up in
              let ready = backs.over-returns (over w l) (room_at l) refl refl r.long m in
              backs.over-moves (over w l) (room_at l) refl refl r.long m h (forths.back-moves ready refl refl k (return-moves _ n r.mid other (forths.back-ready ready refl refl) run' (simp (all, to) at r.back) (act.other-is (omega arith)) (lr ∙ sym r.long) refl) refl);
        }) (λ c. over-movable w there (b.out_len.0 - n) (omega arith) (omega arith)) (leaves-is _ refl);
      })

-- the cursor is at n then
pub shifts-ready : (x : Buffer) {y : Buffer} (n m o : ℕ) → y ≡ at_places n m o x → n ≤ o → (n ≤ y.idx.0) × (n ≤ y.out_len.0)
unfolding at_places
shifts-ready x n m o e h = rw e (omega arith, h)

-- for the proofs of functions
pub ruleset back_calls = (tried, backs-spent, backs-goes, shifts-spent, shifts-goes, shifts-ready, over-left, over-size, over-goes, over-fails, over-refused)

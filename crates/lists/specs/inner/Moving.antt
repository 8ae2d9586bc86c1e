-- What the moves of glyphs ask for and leave, and what the parts of `move_to` ask for.
use mathlib.Core.{Path.◌≡◌, Bool.Bool, Bool.true, Bool.false, Bool.cond, List.List, List.◌++◌}
use Rattle.std.specs.Prelude.{ℕ, ◌+◌, ◌-◌, ◌≤◌, ◌<◌, length, drop, replicate, Ok, Err, Some}
use Rattle.records.specs.{Counters.costs, Counters.grown, Counters.is_negative, Glyphs.zero_position, View.glyphs, View.positions_in}
use Rattle.lists.specs.{declared.Buffer.Buffer}
use Rattle.lists.specs.Account.{Account, output_phase}
use Rattle.lists.specs.inner.Copied.{copied}
use Rattle.lists.specs.Cursor.{move_to, forward, backward}
use Rattle.lists.specs.Account.{Result}
use Rattle.lists.specs.{Contract.sound}
use Rattle.lists.specs.inner.States.{Decision, with_limits_of, at_places}
use Rattle.lists.specs.inner.Verdicts.{leaving, acts_of, settled, Decided}

-- n glyphs of one slice, from place `from` on, can go to place `to` of either
pub record Carriable (from to n : ℕ) (f s : List ℕ) : Type 0 where
  pub same : length (glyphs f) ≡ length (glyphs s)
  pub leaving : from + n ≤ length (glyphs f)
  pub arriving : to + n ≤ length (glyphs f)

-- the same to the output, which does not overtake the cursor where it lies in the run
pub record Passable (separate : Bool) (from to n : ℕ) (f s : List ℕ) : Type 0 where
  pub fits : Carriable from to n f s
  pub behind : separate ≡ false → to ≤ from

-- n glyphs of the run, from place `from` on, went to place `to` of the output
pub record Carried (separate : Bool) (from to n : ℕ) (run other run' other' : List ℕ) : Type 0 where
  pub run_is : glyphs run' ≡ cond separate (glyphs run) (copied (glyphs run) to (glyphs run) from n)
  pub other-is : glyphs other' ≡ cond separate (copied (glyphs other) to (glyphs run) from n) (glyphs other)

-- places before the cursor's move, lengths after it
pub record Movable (separate : Bool) (i l o l' o' : ℕ) (f s : List ℕ) : Type 0 where
  pub same : length (glyphs f) ≡ length (glyphs s)
  pub idx-in : i ≤ l
  pub grows : l ≤ l'
  pub len-in : l' ≤ length (glyphs f)
  pub out-in : o ≤ length (glyphs f)
  pub out-after-in : o' ≤ length (glyphs f)
  pub ahead : i + (o' - o) ≤ l
  pub behind : o - o' ≤ i + (l' - l)
  pub no-overtaking : separate ≡ false → o ≤ i

-- the input went up by k, which left `mid`, and then n glyphs of the output, from place `from` on, went back to place `to` of the run
pub record Returned (separate : Bool) (i l k from to n : ℕ) (run other run' : List ℕ) : Type 0 where
  pub mid : List ℕ
  pub long : length mid ≡ length run
  pub up : glyphs mid ≡ copied (glyphs run) (i + k) (glyphs run) i (l - i)
  pub back : glyphs run' ≡ copied (glyphs mid) to (cond separate (glyphs other) (glyphs mid)) from n

pub record Moved (separate : Bool) (i l o l' o' : ℕ) (run other run' other' : List ℕ) : Type 0 where
  pub forth : o < o' → Carried separate i o (o' - o) run other run' other'
  pub back : o' ≤ o → Returned separate i l (l' - l) o' (i + (l' - l) - (o - o')) (o - o') run other run'
  pub other-is : o' ≤ o → other' ≡ other

-- the first n positions became zero
pub record Zeroed (n : ℕ) (run other run' other' : List ℕ) : Type 0 where
  pub run_is : run' ≡ run
  pub other-is : positions_in other' ≡ replicate n zero_position ++ drop n (positions_in other)

-- the same of the two slices
pub record Opened (b : Buffer) (f s : List ℕ) : Type 0 where
  pub is-sound : sound b f s ≡ true
  pub output : output_phase b.phase ≡ true

-- and n glyphs of the input before it
pub record Forwarding (b : Buffer) (n : ℕ) (f s : List ℕ) : Type 0 where
  pub is-sound : sound b f s ≡ true
  pub output : output_phase b.phase ≡ true
  pub in_len : b.idx.0 + n ≤ b.len.0
  pub some : 0 < n

-- or n glyphs of the output behind it, more than the input has room for
pub record BackOver (b : Buffer) (n : ℕ) (f s : List ℕ) : Type 0 where
  pub is-sound : sound b f s ≡ true
  pub output : output_phase b.phase ≡ true
  pub in-out : n ≤ b.out_len.0
  pub past : b.idx.0 < n

-- forward by n, once the size is there and its cost is paid
unfoldable pub forward_verdict : ℕ → Buffer → Decision
forward_verdict n b =
    let limits = costs n (grown (b.out_len.0 + n) b.limits) in
    let paid = with_limits_of limits b in
    cond (is_negative limits.max_ops) (leaving paid false (Some 0)) (leaving (at_places (b.idx.0 + n) b.len.0 (b.out_len.0 + n) paid) true (Some 1))

pub record Forwards (n : ℕ) (b : Buffer) (d : Decision) : Type 0 where
  pub is : d ≡ forward_verdict n b

-- back by n, once its cost is paid; `shifts`: the input has gone up for it
unfoldable pub back_verdict : ℕ → Bool → Buffer → Decision
back_verdict n shifts b =
    let paid = with_limits_of (costs n b.limits) b in
    cond (is_negative (costs n b.limits).max_ops) (leaving paid shifts (Some 0)) (leaving (at_places (b.idx.0 - n) b.len.0 (b.out_len.0 - n) paid) true (Some 1))

pub record Backs (n : ℕ) (shifts : Bool) (b : Buffer) (d : Decision) : Type 0 where
  pub is : d ≡ back_verdict n shifts b

-- the same over the start of the input: the cost of its going up first
unfoldable pub shift_verdict : ℕ → Buffer → Decision
shift_verdict n b =
    let left = b.len.0 - b.idx.0 in
    let limits = costs left (grown (left + n) b.limits) in
    let paid = with_limits_of limits b in
    cond (is_negative limits.max_ops) (leaving paid false (Some 0)) (back_verdict n true (at_places n (left + n) b.out_len.0 paid))

pub record Shifts (n : ℕ) (b : Buffer) (d : Decision) : Type 0 where
  pub is : d ≡ shift_verdict n b

-- the lengths after it
abbrev pub len_of : Decision → ℕ
len_of d = elim d [ Ok v ↦ v.len | Err why ↦ 0 ]

abbrev pub out_len_of : Decision → ℕ
out_len_of d = elim d [ Ok v ↦ v.out_len | Err why ↦ 0 ]

-- what is promised of a verdict on `move_to` and its parts
abbrev MoveDecided : (ℕ → Account ℕ → Result ℕ) → Buffer → (f s : List ℕ) → Decision → Type 0
MoveDecided call b f s d = Decided call b f s (settled b d) (acts_of d) (Movable b.have_separate_output b.idx.0 b.len.0 b.out_len.0 (len_of d) (out_len_of d) f s) (Moved b.have_separate_output b.idx.0 b.len.0 b.out_len.0 (len_of d) (out_len_of d))

pub record MovesForward (n : ℕ) (b : Buffer) (f s : List ℕ) (d : Decision) : Type 0 where
  pub is : MoveDecided (λ capacity a. forward capacity n a) b f s d

pub record MovesBack (n : ℕ) (b : Buffer) (f s : List ℕ) (d : Decision) : Type 0 where
  pub is : MoveDecided (λ capacity a. backward capacity n a) b f s d

pub record MovesTo (i : ℕ) (b : Buffer) (f s : List ℕ) (d : Decision) : Type 0 where
  pub is : MoveDecided (λ capacity a. move_to capacity i a) b f s d

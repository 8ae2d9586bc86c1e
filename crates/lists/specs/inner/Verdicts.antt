-- What a call comes to before a word is written, and the reply that is made of it.
use mathlib.Core.{Path.◌≡◌, Bool.Bool, Bool.true, Bool.false, Bool.cond, Bool.not, Bool.◌||◌, List.List}
use Rattle.std.specs.Prelude.{ℕ, ◌+◌, Ok, Err, Option, Some, None}
use lib.{Dec.eqb, Dec.ltb, ListN.length}
use Rattle.records.specs.{Refusal, Contradiction, WrongPhase, BadOperand, Limits, Counters.failed, Counters.grown}
use Rattle.lists.specs.{declared.Buffer.Buffer, declared.Reply.Reply, declared.Verdict.Verdict}
use Rattle.lists.specs.Account.{Account, output_phase, spoiled_phase}
use Rattle.lists.specs.Account.{Result}
use Rattle.lists.specs.{Contract.sound, inner.Held.Room, inner.Held.room_for}
use Rattle.lists.specs.inner.States.{Decision, reply, with_limits_of, at_places, apart_buffer, spoiled_buffer, swapped_buffer}
use Rattle.lists.specs.Contract.{Meets}

-- the verdict that leaves a state
abbrev pub leaving : Buffer → Bool → Option ℕ → Decision
leaving b acts value = Ok (record { idx = b.idx.0; len = b.len.0; out_len = b.out_len.0; limits = b.limits; apart = false; acts = acts; value = value })

pub record Leaves (b : Buffer) (acts : Bool) (value : Option ℕ) (d : Decision) : Type 0 where
  pub is : d ≡ leaving b acts value

-- turned back
pub record Turned (why : Refusal) (d : Decision) : Type 0 where
  pub is : d ≡ Err why

-- whether glyphs are written, whether the output moves
abbrev pub acts_of : Decision → Bool
acts_of d = elim d [ Ok v ↦ v.acts | Err why ↦ false ]

abbrev pub apart_of : Decision → Bool
apart_of d = elim d [ Ok v ↦ v.apart | Err why ↦ false ]

-- with other limits
abbrev pub limiting_verdict : Limits → Verdict → Verdict
limiting_verdict l v = record { idx = v.idx; len = v.len; out_len = v.out_len; limits = l; apart = v.apart; acts = v.acts; value = v.value }

-- a verdict changed, where there is one
abbrev pub amended : (Verdict → Verdict) → Decision → Decision
amended h d = elim d [ Ok v ↦ Ok (h v) | Err why ↦ Err why ]

unfoldable pub wrote_buffer : ℕ → ℕ → Buffer → Buffer
wrote_buffer i o b = at_places (b.idx.0 + i) b.len.0 (b.out_len.0 + o) (with_limits_of (grown (b.out_len.0 + o) b.limits) b)

unfoldable pub failed_buffer : Buffer → Buffer
failed_buffer b = with_limits_of (failed b.limits) b

-- i glyphs taken and o written, by what was found of the size
abbrev pub by_size : Room → Buffer → ℕ → ℕ → Bool → Decision
by_size room b i o acts = elim room [ Ok fits ↦ cond fits (leaving (wrote_buffer i o b) acts None) (leaving (failed_buffer b) false None) | Err why ↦ Err why ]

pub record Sized (capacity : ℕ) (b : Buffer) (i o : ℕ) (acts : Bool) (d : Decision) : Type 0 where
  pub is : d ≡ by_size (room_for capacity (b.out_len.0 + o) b.limits) b i o acts

unfoldable pub lies_elsewhere : Buffer → Bool
lies_elsewhere b = b.have_separate_output || not (eqb b.idx.0 b.out_len.0)

-- 00, 03 and 05: whether the call goes ahead
unfoldable pub fresh_verdict : ℕ → Buffer → (first second : List ℕ) → Decision
fresh_verdict wants b f s = cond (sound b f s) (cond (ltb 7 wants) (Err BadOperand) (leaving b true None)) (Err Contradiction)

unfoldable pub clear_verdict : Buffer → (first second : List ℕ) → Decision
clear_verdict b f s = cond (sound b f s) (cond (output_phase b.phase || spoiled_phase b.phase) (Err WrongPhase) (leaving b true None)) (Err Contradiction)

pub record Freshens (wants : ℕ) (b : Buffer) (f s : List ℕ) (d : Decision) : Type 0 where
  pub is : d ≡ fresh_verdict wants b f s

pub record Clears (b : Buffer) (f s : List ℕ) (d : Decision) : Type 0 where
  pub is : d ≡ clear_verdict b f s

-- the reply to a call, of the state before it and its verdict
unfoldable pub settled_buffer : Buffer → Verdict → Buffer
settled_buffer b v = let x = with_limits_of v.limits (at_places v.idx v.len v.out_len b) in cond v.apart (apart_buffer x) x

unfoldable pub settled : Buffer → Decision → Reply
settled b d = elim d [ Ok v ↦ reply (settled_buffer b v) (Ok v.value) | Err why ↦ reply b (Err why) ]

-- the same of a call that leaves another state where it acts
unfoldable pub settled_as : Buffer → Buffer → Decision → Reply
settled_as b after d = cond (acts_of d) (reply after (Ok None)) (settled b d)

-- the same of `sync`
unfoldable pub synced : Buffer → Decision → Reply
synced b d = elim d [ Ok v ↦ elim v.value [ None ↦ reply (swapped_buffer (settled_buffer b v)) (Ok (Some 1)) | Some x ↦ reply (spoiled_buffer b) (Ok (Some x)) ] | Err why ↦ reply b (Err why) ]

-- P of the slice that holds the run and the other, before and after: the second holds it where x is true
pub record Sided (x : Bool) (P : (run other run' other' : List ℕ) → Type 0) (f s f' s' : List ℕ) : Type 0 where
  pub first : x ≡ false → P f s f' s'
  pub second : x ≡ true → P s f s' f'

-- what is promised of a verdict: its reply r meets the call, once the act is done where the verdict asks for it; and that what the act asks for is there
pub record Decided (call : ℕ → Account ℕ → Result ℕ) (b : Buffer) (f s : List ℕ) (r : Reply) (acts : Bool) (Ask : Type 0) (Act : (run other run' other' : List ℕ) → Type 0) : Type 0 where
  pub still : acts ≡ false → Meets call b f s r f s
  pub asked : acts ≡ true → Ask
  pub acted : acts ≡ true → {f' s' : List ℕ} → length f' ≡ length f → length s' ≡ length s → Sided b.swapped Act f s f' s' → Meets call b f s r f' s'

-- The claims say something: of the rule that makes 42 of 41 and leaves every other number, which is not the identity.
use mathlib.Core.{Path.◌≡◌, Path.refl, Bool.cond}
use Prim.Native.Nat.{ℕ}
use lib.Dec.{eqb}
use Rattle.records.specs.Counters.{words_for}
use Rattle.lists.specs.{Account.fresh_account, declared.Buffer.Buffer}
use Rattle.commands.specs.Calls.{run_bytes}
use Rattle.commands.specs.Claims.{renamed_bytes, Renamed, Claims}
use Rattle.commands.proofs.Examples.{word}
use Rattle.commands.proofs.LineExamples.{wording-41, wording-42}
use Rattle.commands.proofs.Executable.{executable}

other-number : ℕ → ℕ
other-number n = cond (eqb n 41) 42 n

other-wording : renamed_bytes other-number wording-41 ≡ wording-42
unfolding other-number wording-41 wording-42 word executable
other-wording = refl

keeps-zero : other-number 0 ≡ 0
unfolding other-number
keeps-zero = refl

-- so the one wording's run is the other's, but for that number
says-of-41 : {b : Buffer} → Claims 0 0 b → let a = fresh_account 0 0 in Renamed other-number a (run_bytes (words_for 2048) (words_for 2048) wording-41 a) a (run_bytes (words_for 2048) (words_for 2048) wording-42 a)
says-of-41 c = rw other-wording at ((c.demand-3 other-number keeps-zero).bytes (words_for 2048) (words_for 2048) wording-41)

-- Theorems of the types in specs/Claims.
use mathlib.Core.{Path.refl}
use Prim.Native.Nat.{ℕ}
use Rattle.lists.specs.{declared.Reply.Reply}
use Rattle.lists.specs.Contract.{Begins}
use Rattle.edits.proofs.{FlagTables.every-entry, Searching.searches}
use Rattle.commands.specs.Claims.{Claims}
use Rattle.commands.proofs.Demand.{demand-3, demand-3-bytes, two-wordings, two-wordings-bytes}
use Rattle.commands.proofs.Returned.{calls-run, bytes_run, demand-3-calls, demand-3-steps, two-wordings-calls, two-wordings-steps}
use Rattle.commands.proofs.{Originated.origins, DeskLaws.same-record, DeskLaws.desk-alike, Starred.starred, LineExamples.wording-41, LineExamples.wording-42, LineExamples.numbers-only, LineExamples.exam-differs}

-- what every run that starts with the first buffer keeps to
module _ {level wants : ℕ} {r : Reply} (v : Begins level wants r) where
  pub claims : Claims level wants r.buffer
  claims = record {
    demand-2 = record {
      calls = λ f s ws xs c. calls-run ws xs r.buffer f s refl refl (v.is-sound f s) c;
      bytes = λ f s script xs c. bytes_run v f s script xs c;
    };
    demand-3 = λ f z. record {
      calls = λ m n ws. demand-3 f z level wants m n ws;
      bytes = λ m n script. demand-3-bytes f z level wants m n script;
    };
    demand-3-returned = λ f z i j i' j' e. record {
      calls = λ ws xs ys c d. demand-3-calls v f z ws i j i' j' e xs ys c d;
      steps = λ script xs ys c d. demand-3-steps f z v script i j i' j' e xs ys c d;
    };
    two-wordings = record { calls = two-wordings; bytes = two-wordings-bytes; records = same-record; desk = desk-alike };
    two-wordings-returned = λ i j i' j' e. record {
      calls = λ ws others xs ys same c d. two-wordings-calls v ws others i j i' j' e xs ys same c d;
      steps = λ script other xs ys same c d. two-wordings-steps v script other i j i' j' e xs ys same c d;
    };
    told-apart = record { one = wording-41; other = wording-42; same = numbers-only; differ = exam-differs };
    starred = starred;
    flag-table = every-entry;
    searches = searches;
    origins = origins v;
  }

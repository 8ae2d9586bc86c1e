-- An answer as a result, and as text.
use Rattle.std.specs.Prelude.{ℕ, Option, Some, None, Result, Ok, Err, List, ◌++◌, codes}
use Rattle.std.specs.Fmt.{decimal}
use Rattle.records.specs.Answers.{Said, ok, ok_with, no}

-- a value where the call gives one, or the number of its refusal
unfoldable pub told : Said → Result (Option ℕ) ℕ
told a = elim a [ ok ↦ Ok None | ok_with v ↦ Ok (Some v) | no n ↦ Err n ]

abbrev pub text_of : Result (Option ℕ) ℕ → List ℕ
text_of (Ok None) = codes "ok"
text_of (Ok (Some v)) = codes "ok " ++ decimal v
text_of (Err n) = codes "no " ++ decimal n

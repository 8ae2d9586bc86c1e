-- Document 02's N8, one list for each point of it: the count of pushes, and the origins in the three lists.
use mathlib.Core.{Path.◌≡◌, Path.refl, List.List, List.[], List.◌∷◌, List.map, List.flat_map}
use Prim.Native.Nat.{ℕ}
use Rattle.records.specs.{Limits, Counters.words_for, Glyphs.Glyph}
use Rattle.lists.specs.Account.{fresh_account, limiting}
use Rattle.commands.specs.{Calls.run_bytes, Table.sheet}
use Rattle.commands.proofs.Examples.{left_by}
use Rattle.commands.proofs.Executable.{executable}

-- pushes before the first command; commands in decimal, as in the table of starred examples; the count after them, and the origins of *done*, *passed* and *rest*
record Case : Type 0 where
  from : ℕ
  commands : List (List ℕ)
  count : ℕ
  done : List ℕ
  passed : List ℕ
  rest : List ℕ

pushed : ℕ → Limits → Limits
pushed n l = record { allocated = l.allocated; max_len = l.max_len; max_ops = l.max_ops; successful = l.successful; serial = l.serial; pushes = n }

origins : List (Glyph ℕ) → List ℕ
origins l = map (λ g. g.info.origin) l

Right : Case → Type 0
Right c =
    let start = limiting (pushed c.from) (fresh_account 0 0) in
    let a = left_by (run_bytes (words_for 2048) (words_for 2048) (sheet c.commands) start) start in
    (a.state.limits.pushes ≡ c.count) × (origins a.done ≡ c.done) × (origins a.passed ≡ c.passed) × (origins a.rest ≡ c.rest)

abbrev AllRight : List Case → Type 0
AllRight [] = Unit {0}
AllRight (c ∷ cs) = Right c × AllRight cs

on : List (List ℕ) → ℕ → List ℕ → List ℕ → List ℕ → Case
on commands count done passed rest = record { from = 0; commands = commands; count = count; done = done; passed = passed; rest = rest }

-- a push of glyph 65 with a cluster
push : ℕ → List ℕ
push c = 1 ∷ 65 ∷ c ∷ []

table : List Case
table =
    -- 02 puts no count back, and fills with 0
    on (push 0 ∷ push 1 ∷ (2 ∷ 1 ∷ []) ∷ push 2 ∷ []) 3 [] [] (1 ∷ 3 ∷ [])
    ∷ on (push 0 ∷ (2 ∷ 3 ∷ []) ∷ []) 1 [] [] (1 ∷ 0 ∷ 0 ∷ [])
    -- a refused push draws none: 01 with output
    ∷ on (push 0 ∷ (3 ∷ []) ∷ (7 ∷ []) ∷ push 1 ∷ (4 ∷ []) ∷ push 1 ∷ []) 2 [] [] (1 ∷ 2 ∷ [])
    -- 24, 25 and a refused 00 keep the count, an accepted 00 starts anew
    ∷ on (push 0 ∷ (36 ∷ []) ∷ push 1 ∷ (37 ∷ []) ∷ push 2 ∷ (0 ∷ 0 ∷ 8 ∷ []) ∷ push 3 ∷ []) 4 [] [] (1 ∷ 2 ∷ 3 ∷ 4 ∷ [])
    ∷ on (push 0 ∷ push 1 ∷ (0 ∷ 0 ∷ 0 ∷ []) ∷ push 2 ∷ []) 1 [] [] (1 ∷ [])
    -- 0E 2 to 1 and 1 to 2: the first input's; 0D and 0A; 0B of *rest*'s first, and of the last done glyph
    ∷ on (push 5 ∷ push 3 ∷ push 4 ∷ (3 ∷ []) ∷ (14 ∷ 2 ∷ 1 ∷ 9 ∷ []) ∷ (14 ∷ 1 ∷ 2 ∷ 8 ∷ 7 ∷ []) ∷ []) 3 (1 ∷ 3 ∷ 3 ∷ []) [] []
    ∷ on (push 0 ∷ push 1 ∷ (3 ∷ []) ∷ (10 ∷ []) ∷ (13 ∷ 9 ∷ []) ∷ (11 ∷ 8 ∷ []) ∷ (9 ∷ []) ∷ (11 ∷ 7 ∷ []) ∷ []) 2 (1 ∷ 1 ∷ 2 ∷ 2 ∷ []) [] []
    -- 0C has 0
    ∷ on (push 0 ∷ (3 ∷ []) ∷ (12 ∷ 66 ∷ 0 ∷ 1 ∷ 0 ∷ 0 ∷ []) ∷ (7 ∷ []) ∷ []) 1 (0 ∷ 1 ∷ []) [] []
    -- reversed, and passed without output; merged
    ∷ on (push 0 ∷ push 1 ∷ push 2 ∷ (27 ∷ []) ∷ (9 ∷ []) ∷ (17 ∷ 1 ∷ 3 ∷ []) ∷ []) 3 [] (3 ∷ []) (2 ∷ 1 ∷ [])
    -- past number 4,294,967,295 a pushed glyph gets 0 and the count stays
    ∷ record { from = 4294967294; commands = push 0 ∷ push 1 ∷ push 2 ∷ []; count = 4294967295; done = []; passed = []; rest = 4294967295 ∷ 0 ∷ 0 ∷ [] }
    ∷ []

every-case : AllRight table
unfolding table Right on push pushed origins sheet left_by flat_map executable
every-case = ((refl, refl, refl, refl), ((refl, refl, refl, refl), ((refl, refl, refl, refl), ((refl, refl, refl, refl), ((refl, refl, refl, refl), ((refl, refl, refl, refl), ((refl, refl, refl, refl), ((refl, refl, refl, refl), ((refl, refl, refl, refl), ((refl, refl, refl, refl), tt))))))))))

-- What harfrust has of a line, and that in a text.
use mathlib.Core.{Path.◌≡◌, Bool.cond, List.List, List.[], List.◌∷◌, List.◌++◌}
use Rattle.std.specs.Prelude.{ℕ, zero, suc, ◌+◌, ◌%◌, ◌^◌, ◌≤◌, Option, Some, None}
use lib.{Dec.eqb, Dec.ltb, ListN.length, ListN.get_or, ListN.take, ListN.drop}
use Rattle.replay.specs.declared.Tally.{Tally}

-- ---- what document 02 added is left out
-- where the space with n spaces before it stands, or the line's end
unfoldable pub space_at : ℕ → List ℕ → ℕ
space_at n [] = 0
space_at zero (c ∷ l) = cond (eqb c 32) 0 (suc (space_at zero l))
space_at (suc n) (c ∷ l) = suc (space_at (cond (eqb c 32) n (suc n)) l)

-- the first n fields of a line, with a line feed behind them
unfoldable pub first_fields : ℕ → List ℕ → List ℕ
first_fields zero line = []
first_fields (suc n) line = let at = space_at n line in cond (ltb at (length line)) (take at line ++ (10 ∷ [])) line

-- how many fields of a line harfrust has too: of `sum` none ("The comparison with harfrust leaves this line out."), of any other six, and no line of document 01 has more
unfoldable pub known : List ℕ → ℕ
known line = cond (eqb (get_or line 0 0) 115) 0 6

unfoldable pub theirs : List ℕ → List ℕ
theirs line = first_fields (known line) line

-- ---- comparing
-- its bytes are those of the text from a place on
abbrev pub Stands : List ℕ → List ℕ → ℕ → Type 0
Stands line text at = (at + length line ≤ length text) × (take (length line) (drop at text) ≡ line)

-- the place after it, or none
abbrev pub Finds : List ℕ → List ℕ → ℕ → Option ℕ → Type 0
Finds line text at (Some next) = Stands line text at × (next ≡ at + length line)
Finds line text at None = Stands line text at → ⊥

-- one more, in 64 bits
abbrev pub one_more : ℕ → ℕ
one_more n = (n + 1) % 2 ^ 64

-- a line was compared: the comparison goes on behind it if it stands there, and if not there is one difference more
pub record Compared (line text : List ℕ) (t r : Tally) : Type 0 where
  pub counted : r.lines ≡ one_more t.lines
  pub same : Stands line text t.at → (r.differences ≡ t.differences) × (r.at ≡ t.at + length line)
  pub other : (Stands line text t.at → ⊥) → r.differences ≡ one_more t.differences

-- a line of which harfrust has nothing is not compared
abbrev pub Checked : List ℕ → List ℕ → Tally → Tally → Type 0
Checked [] text t r = (r.lines ≡ t.lines) × (r.differences ≡ t.differences) × (r.at ≡ t.at)
Checked (c ∷ line) text t r = Compared (c ∷ line) text t r

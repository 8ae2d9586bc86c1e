-- Where glyphs came from (document 02, N8): origins and the count of pushes, after every call of a list from fresh.
use Rattle.std.specs.Prelude.{◌≤◌, ◌&&◌, ◌∷◌, ◌≡◌}
use Rattle.records.specs.Library.{ℕ, suc, min, cond, not, List, []}
use Rattle.std.specs.Prelude.{Option, None as none, Some as some}
use Rattle.records.specs.{Glyphs.Glyph, Ranges.is}
use Rattle.lists.specs.{Account.Account, Account.len, Account.Outcome, Contract.is_no}
use Rattle.commands.specs.Calls.{Call, Worded, command_byte}

-- "past number 4,294,967,295 a pushed glyph gets 0 and the count stays"
abbrev pub capped : ℕ → ℕ
capped n = min n 4294967295

module _ {G : Type 0} where
  -- "Accepted pushes that store a glyph are numbered from 1 since fresh", counted from the list itself: there were n before a call, and so many are there
  -- after it. An accepted 00 starts anew; a 01 that has stored its glyph leaves `len` one more, and one that is refused or gives up does not
  unfoldable pub stored_after : (n : ℕ) → Call → (before : Account G) → Outcome G → ℕ
  stored_after n c a o =
      cond (is 0 (command_byte c) && not (is_no o.answer)) 0
      (cond (is 1 (command_byte c) && is (suc (len a)) (len o.after)) (suc n) n)

  -- each origin is 0, or one of 1 to n
  abbrev pub OriginsUpTo : (n : ℕ) → List (Glyph G) → Type 0
  OriginsUpTo n [] = Unit {0}
  OriginsUpTo n (g ∷ l) = (g.info.origin ≤ n) × OriginsUpTo n l

  -- an account after n pushes that stored a glyph: "each origin is 0 or the number of a push made since fresh"
  pub record Numbered (n : ℕ) (a : Account G) : Type 0 where
    pub count : a.state.limits.pushes ≡ capped n
    pub done : OriginsUpTo (capped n) a.done
    pub passed : OriginsUpTo (capped n) a.passed
    pub rest : OriginsUpTo (capped n) a.rest

  -- after each call of a list, from an account after n of them; `none` is refusal 6, with which bytes end
  abbrev pub NumberedOn : (n : ℕ) → List (Option (Worded G)) → Account G → List (Outcome G) → Type 0
  NumberedOn n ws a [] = Unit {0}
  NumberedOn n [] a (o ∷ os) = ⊥
  NumberedOn n (none ∷ ws) a (o ∷ os) = Numbered n o.after × NumberedOn n ws o.after os
  NumberedOn n (some w ∷ ws) a (o ∷ os) = let k = stored_after n w.call a o in Numbered k o.after × NumberedOn k ws o.after os

  -- "After every list": before the first call and after each, from a with no push yet
  pub record FromPushes (ws : List (Option (Worded G))) (a : Account G) (os : List (Outcome G)) : Type 0 where
    pub before : Numbered 0 a
    pub after : NumberedOn 0 ws a os

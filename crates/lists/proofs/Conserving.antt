-- "With output i ≤ `out_len` + rest; *done* then *rest* is conserved, also if given up."
use mathlib.Core.{Path.◌≡◌, Path.refl, Path.sym, Path.ap, Path.◌∙◌, Bool.Bool, Bool.true, Bool.false, Bool.cond, Bool.not, Bool.false≢true, List.List, List.◌++◌, List.append_assoc}
use Prim.Native.Nat.{ℕ, ◌-◌, ◌+◌}
use lib.{Dec.leb, Dec.ltb, ListN.length, ListN.take, ListN.drop, ListN.take-append-drop}
use Rattle.records.specs.{Refusal, WrongPhase, OutOfRange, OverCapacity, Counters.is_negative, Glyphs.Glyph}
use Rattle.lists.specs.Account.{Account, has_output, is_spoiled, out_length, len, idx, paying, failing, sized, limiting, Result, refused, accepted, answered, outcome, refuse◌when◌else◌, needing}
use Rattle.lists.specs.Cursor.{moved, back, growing, pays_for, forward, goes_back, backward, move_to}

module _ {G : Type 0} (all : List (Glyph G)) where
  -- a result whose *done* then *rest* are these glyphs; a refusal keeps the account
  Keeps : Result G → Type 0
  Keeps (refused why) = Unit {0}
  Keeps (accepted b) = b.done ++ b.rest ≡ all
  Keeps (answered v b) = b.done ++ b.rest ≡ all

  either : (t : Bool) (x y : Result G) → Keeps x → Keeps y → Keeps (cond t x y)
  either true x y p q = p
  either false x y p q = q

  refuses : (why : Refusal) (t : Bool) (x : Result G) → Keeps x → Keeps (refuse why when t else x)
  unfolding refuse◌when◌else◌ Keeps
  refuses why t x p = either t (refused why) x tt p

  needs : (capacity n : ℕ) (a : Account G) (x y : Result G) → Keeps x → Keeps y → Keeps (needing capacity n a x y)
  unfolding needing Keeps
  needs capacity n a x y p q =
      either (leb n a.state.limits.allocated) x _ p
      (either (ltb a.state.limits.max_len n) y _ q
      (either (ltb capacity n) (refused OverCapacity) x tt p))

  module _ (a : Account G) (e : a.done ++ a.rest ≡ all) where
    pays : (n : ℕ) (x : Result G) → Keeps x → Keeps (pays_for n a x)
    unfolding pays_for paying limiting Keeps
    pays n x p = either (is_negative (paying n a).state.limits.max_ops) (answered 0 (paying n a)) x e p

    moves : (n : ℕ) → (moved n a).done ++ (moved n a).rest ≡ all
    unfolding moved
    moves n = append_assoc a.done (take n a.rest) (drop n a.rest) ∙ (ap (λ (l : List (Glyph G)). a.done ++ l) (take-append-drop n a.rest) ∙ e)

    returns : (n : ℕ) → (back n a).done ++ (back n a).rest ≡ all
    unfolding back
    returns n =
        let k : ℕ = length a.done - n in
        sym (append_assoc (take k a.done) (drop k a.done) a.rest) ∙ (ap (λ (l : List (Glyph G)). l ++ a.rest) (take-append-drop k a.done) ∙ e)

  module _ (a : Account G) (e : a.done ++ a.rest ≡ all) where
    goes-back : (n : ℕ) → Keeps (goes_back n a)
    unfolding goes_back paying limiting Keeps
    goes-back n = pays a e n _ (returns (paying n a) e n)

  module _ (capacity n : ℕ) (a : Account G) (e : a.done ++ a.rest ≡ all) where
    goes-forward : Keeps (forward capacity n a)
    unfolding forward sized paying failing limiting Keeps
    goes-forward = needs capacity _ a _ _ (pays (sized (out_length a + n) a) e n _ (moves (paying n (sized (out_length a + n) a)) e n)) e

    goes-backward : Keeps (backward capacity n a)
    unfolding backward sized paying failing growing limiting Keeps
    goes-backward =
        let size = len a + n - idx a in
        let k = len a - idx a in
        either (ltb (idx a) n) _ _ (needs capacity size a _ _ (pays (sized size a) e k _ (goes-back (growing (n - idx a) (paying k (sized size a))) e n)) e) (goes-back a e n)

  with-output : (t : Bool) (x y : Result G) → t ≡ true → Keeps y → Keeps (cond (not t) x y)
  with-output true x y h p = p
  with-output false x y h p = absurd (false≢true h)

keeps-move : {G : Type 0} (capacity i : ℕ) (a : Account G) → has_output a ≡ true → Keeps (a.done ++ a.rest) (move_to capacity i a)
unfolding move_to Keeps
keeps-move capacity i a h =
    let all = a.done ++ a.rest in
    refuses all WrongPhase (is_spoiled a) _ (refuses all OutOfRange (ltb (cond (has_output a) (out_length a + length a.rest) (len a)) i) _ (with-output all (has_output a) _ _ h
    (either all (not a.state.limits.successful) _ _ refl (either all (ltb (out_length a) i) _ _ (goes-forward all capacity (i - out_length a) a refl)
    (either all (ltb i (out_length a)) _ _ (goes-backward all capacity (out_length a - i) a refl) refl)))))

kept : {G : Type 0} (a : Account G) (r : Result G) → Keeps (a.done ++ a.rest) r → (outcome a r).after.done ++ (outcome a r).after.rest ≡ a.done ++ a.rest
unfolding outcome Keeps
kept a (refused why) p = refl
kept a (accepted b) p = p
kept a (answered v b) p = p

pub move-conserves : {G : Type 0} (capacity i : ℕ) (a : Account G) → has_output a ≡ true
    → let b = (outcome a (move_to capacity i a)).after in b.done ++ b.rest ≡ a.done ++ a.rest
move-conserves capacity i a h = kept a (move_to capacity i a) (keeps-move capacity i a h)

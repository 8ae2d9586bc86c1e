-- What a `?` goes on with, and what it gives back: `p` is how the call came out, as the language tells it.
use Rattle.std.specs.Prelude.{Result, Ok, Err}
use Rattle.std.specs.Result.{result_from_control_flow, IsErr, IsErrAnd}
use Rattle.std.proofs.Common.{Continue, Break}
use Rattle.std.proofs.lemmas.Result.{err_from_is_err_and}
use mathlib.Core.{Path.◌≡◌, Path.ap, Path.◌∙◌}

module _ {T E : Type 0} {t : Result T E} {p : _} (w : t ≡ result_from_control_flow p) where
  pub goes-on : {x : T} → p ≡ Continue x → t ≡ Ok x
  goes-on e = w ∙ ap result_from_control_flow e

  pub goes-as : {x y : T} → p ≡ Continue x → x ≡ y → t ≡ Ok y
  goes-as e h = goes-on e ∙ ap Ok h

  pub goes-out : {z : _} → p ≡ Break z → t ≡ Err z.0
  goes-out e = w ∙ ap result_from_control_flow e

-- what the exit gives back
pub given-back : {T E : Type 0} {z : E} (v : Result T E) → IsErr v × IsErrAnd v (λ (e : E). e ≡ z) → v ≡ Err z
given-back v h = let p = err_from_is_err_and v h.1 in p.1 ∙ ap Err p.2

-- a call that failed, with what the function gives back then
pub record Exits {T A E : Type 0} (t : Result T E) (v : Result A E) : Type 0 where
  pub why : E
  pub was : t ≡ Err why
  pub is : v ≡ Err why

pub exits : {T A E : Type 0} {t : Result T E} {p : _} → t ≡ result_from_control_flow p → {z : _} → p ≡ Break z → (v : Result A E) → IsErr v × IsErrAnd v (λ (e : E). e ≡ z.0) → Exits t v
exits w {z} e v h = record { why = z.0; was = goes-out w e; is = given-back v h }

pub ruleset tried = (goes-on, goes-as, exits)

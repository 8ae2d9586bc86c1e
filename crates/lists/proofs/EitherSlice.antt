-- From what an act on two lent slices leaves, whichever of them holds the run, to what its call promises.
use mathlib.Core.{Path.◌≡◌, Path.refl, Path.ap, Path.subst, Path.sym, Path.◌∙◌, Bool.false≢true, Bool.Bool, Bool.true, Bool.false, List.List}
use Rattle.std.proofs.Common.{ℕ, length}
use Rattle.std.specs.Prelude.{Ok, Err}
use denote.Ref.{MutBor}
use Rattle.std.specs.Fn.{Once}
use Rattle.lists.specs.{Account.Account, Account.Result, Contract.Meets, declared.Buffer.Buffer, declared.Reply.Reply, declared.Verdict.Verdict}
use Rattle.lists.specs.inner.Verdicts.{acts_of, amended, settled, Sided, Decided}
use Rattle.lists.proofs.Decisions.{end-acted, end-still}
use Rattle.records.specs.{Refusal}
use Rattle.lists.specs.inner.States.{Decision, reply}
use Rattle.lists.specs.inner.Swapping.{Pair, MayAct, MayActOn, ActedOn, CarriedOut}

module _ {F R : Type 0} {g : Once F Pair (R × Pair)} {act : F} {r : R} {Act : (run other run' other' : List ℕ) → Type 0} where
  pub sided-acts : {x : Bool} {f s f' s' : List ℕ} → Sided x (ActedOn g act r) f s f' s' → ((run other run' other' : List ℕ) → ActedOn g act r run other run' other' → Act run other run' other') → Sided x Act f s f' s'
  sided-acts w h = record { first = λ e. h _ _ _ _ (w.first e); second = λ e. h _ _ _ _ (w.second e) }

-- what an act asks for, where the two slices may change places
module _ {F R : Type 0} {g : Once F Pair (R × Pair)} {act : F} (Room : (run other : List ℕ) → Type 0) (turned : (run other : List ℕ) → Room run other → Room other run) where
  may-act-on : {run other : List ℕ} → Room run other → ((p q : MutBor (List ℕ)) → Room p.now q.now → g.pre act (p, (q, tt))) → MayActOn g act run other
  may-act-on {run} {other} w h = record { law = λ p q ep eq. h p q (subst (λ (l : List ℕ). Room l q.now) (sym ep) (subst (λ (l : List ℕ). Room run l) (sym eq) w)) }

  pub may-act : {x : Bool} {f s : List ℕ} → Room f s → ((p q : MutBor (List ℕ)) → Room p.now q.now → g.pre act (p, (q, tt))) → MayAct x g act f s
  may-act {x} {f} {s} w h = record { first = λ e. may-act-on w h; second = λ e. may-act-on (turned f s w) h }

-- an act that says nothing of the verdict
unamended : {R : Type 0} {amends : R → Verdict → Verdict} → ((x : R) (v : Verdict) → amends x v ≡ v) → (x : R) (d : Decision) → amended (amends x) d ≡ d
unamended same x (Ok v) = ap Ok (same x v)
unamended same x (Err why) = refl

-- the end of a call
module _ {call : ℕ → Account ℕ → Result ℕ} {F R : Type 0} {amends : R → Verdict → Verdict} {g : Once F Pair (R × Pair)} {act : F} {b : Buffer} {d : Decision} {f s f' s' : List ℕ} {r : Reply} {Ask : Type 0} where
  pub carried : {Act : (run other run' other' : List ℕ) → Type 0} → Decided call b f s (settled b d) (acts_of d) Ask Act → ((x : R) (v : Verdict) → amends x v ≡ v) → CarriedOut amends g act b d f s r f' s' → length f' ≡ length f → length s' ≡ length s
      → ((x : R) (run other run' other' : List ℕ) → ActedOn g act x run other run' other' → Act run other run' other') → Meets call b f s r f' s'
  carried p same w lf ls h = by (acts_of d) refl
    where
      by : (t : Bool) → acts_of d ≡ t → Meets call b f s r f' s'
      by true k = let a = w.acted k in end-acted (a.replies ∙ ap (settled b) (unamended same a.gave d)) p refl k refl refl lf ls (sided-acts a.sided (h a.gave))
      by false k = end-still (w.replies k) p refl k (w.still-first k) (w.still-second k)

module _ {F R : Type 0} {amends : R → Verdict → Verdict} {g : Once F Pair (R × Pair)} {act : F} {b : Buffer} {d e : Decision} {t : Bool} {f s f'' s'' : List ℕ} {r : Reply} (er : r ≡ settled b e) (et : t ≡ acts_of d) where
  pub carries-act : {x : R} {f' s' : List ℕ} → t ≡ true → e ≡ amended (amends x) d → f'' ≡ f' → s'' ≡ s' → Sided b.swapped (ActedOn g act x) f s f' s' → CarriedOut amends g act b d f s r f'' s''
  carries-act {x} k ew ef es a = rw (ef, es) (record {
    replies = λ n. absurd (false≢true (sym n ∙ (sym et ∙ k)));
    still-first = λ n. absurd (false≢true (sym n ∙ (sym et ∙ k)));
    still-second = λ n. absurd (false≢true (sym n ∙ (sym et ∙ k)));
    acted = λ n. record { gave = x; replies = er ∙ ap (settled b) ew; sided = a };
  })

  pub carries-none : t ≡ false → e ≡ d → f'' ≡ f → s'' ≡ s → CarriedOut amends g act b d f s r f'' s''
  carries-none k ew ef es = record { replies = λ n. er ∙ ap (settled b) ew; still-first = λ n. ef; still-second = λ n. es; acted = λ n. absurd (false≢true (sym k ∙ (et ∙ n))) }

-- by the arm of the decision
pub carries-ok : {F R : Type 0} {amends : R → Verdict → Verdict} {g : Once F Pair (R × Pair)} {act : F} {b : Buffer} {d : Decision} {v : Verdict} {f s f' s' : List ℕ} {r : Reply} → d ≡ Ok v → CarriedOut amends g act b (Ok v) f s r f' s' → CarriedOut amends g act b d f s r f' s'
carries-ok e w = rw e w

pub carries-err : {F R : Type 0} {amends : R → Verdict → Verdict} {g : Once F Pair (R × Pair)} {act : F} {b : Buffer} {d : Decision} {why : Refusal} {f s : List ℕ} {r : Reply} → d ≡ Err why → r ≡ reply b (Err why) → CarriedOut amends g act b d f s r f s
unfolding settled
carries-err e er = rw e (record { replies = λ n. er; still-first = λ n. refl; still-second = λ n. refl; acted = λ n. absurd (false≢true n) })

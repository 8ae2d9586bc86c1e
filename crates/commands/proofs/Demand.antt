-- Demand 3, and the course regulations: theorems about lists of calls, and about strings of bytes.
use mathlib.Core.{Path.◌≡◌, Path.refl, Path.ap, Path.sym, Path.◌∙◌, List.List, List.[], List.◌∷◌, List.map}
use Prim.Native.Nat.{ℕ}
use lib.{ListN.length}
use Rattle.records.specs.Glyphs.{Glyph, rename}
use Rattle.records.proofs.Renaming.{words-rename, numbers-rename}
use Rattle.lists.specs.{Account.Account, Account.State, Account.fresh_account, Account.renamed, Account.Outcome}
use Rattle.lists.proofs.Renaming.{done-rename, passed-rename, rest-rename, state-rename, idx-rename, len-rename, out_length-rename, positions-rename, fresh-renamed, renamed-twice}
use Rattle.commands.specs.{Calls.Worded, Calls.step, Calls.run, Calls.read_up_to, Calls.run_read, Calls.run_bytes, Claims.renamed_outcome, Claims.reworded, Claims.renamed_bytes}
use Rattle.commands.specs.Claims.{SameList, SameAccount, SameOutcome, SameOutcomes, Renamed, forget}
use Rattle.commands.proofs.{Renaming.step-rename, Renaming.run-rename, Bytes.string-rename, Bytes.run_bytes-rename}

-- ---- what renaming leaves as it was
module _ {G H : Type 0} (f : G → H) where
  same-list : (l : List (Glyph G)) → SameList f l (map (rename f) l)
  same-list l = record {
    glyphs = numbers-rename f l;
    clusters = words-rename f (λ i. i.cluster) l;
    masks = words-rename f (λ i. i.mask) l;
    var0s = words-rename f (λ i. i.var0) l;
    var1s = words-rename f (λ i. i.var1) l;
    origins = words-rename f (λ i. i.origin) l;
  }

  pub same-account : (a : Account G) → SameAccount f a (renamed f a)
  same-account a = record {
    phase = same (λ s. s.phase);
    same-idx = idx-rename f a;
    same_len = len-rename f a;
    out-len = out_length-rename f a;
    allocated = same (λ s. s.limits.allocated);
    max-len = same (λ s. s.limits.max_len);
    max-ops = same (λ s. s.limits.max_ops);
    successful = same (λ s. s.limits.successful);
    serial = same (λ s. s.limits.serial);
    pushes = same (λ s. s.limits.pushes);
    level = same (λ s. s.level);
    wants = same (λ s. s.wants);
    done = rw (done-rename f a) (same-list a.done);
    rest = rw (rest-rename f a) (same-list a.rest);
    passed = rw (passed-rename f a) (same-list a.passed);
    same-positions = positions-rename f a;
  }
    where
      same : {A : Type 0} (h : State → A) → h (renamed f a).state ≡ h a.state
      same h = ap h (state-rename f a)

  pub same_outcome : (o : Outcome G) → SameOutcome f o (renamed_outcome f o)
  unfolding renamed_outcome
  same_outcome o = record { answer = refl; after = same-account o.after }

  pub same-outcomes : (os : List (Outcome G)) → SameOutcomes f os (map (renamed_outcome f) os)
  same-outcomes [] = tt
  same-outcomes (o ∷ os) = (same_outcome o, same-outcomes os)

  -- from any account, and for any types of glyph numbers: the run of the reworded list, from the account renamed
  pub demand-3-from : (z : G) (first second : ℕ) (ws : List (Worded G)) (a : Account G)
      → Renamed f a (run z first second ws a) (renamed f a) (run (f z) first second (map (reworded f) ws) (renamed f a))
  demand-3-from z first second ws a = record { before = same-account a; after = rw (run-rename f z first second ws a) (same-outcomes (run z first second ws a)) }

-- Demand 3, for direct calls: every f with f 0 ≡ 0, every level and wants, every pair of lengths, every list of calls
pub demand-3 : (f : ℕ → ℕ) → f 0 ≡ 0 → (level wants first second : ℕ) (ws : List (Worded ℕ))
    → let a = fresh_account level wants in
    Renamed f a (run 0 first second ws a) a (run 0 first second (map (reworded f) ws) a)
demand-3 f keeps-zero level wants first second ws =
    rw (keeps-zero, fresh-renamed f level wants) at (demand-3-from f 0 first second ws (fresh_account level wants))

-- Demand 3, for bytes: every string of bytes
pub demand-3-bytes : (f : ℕ → ℕ) → f 0 ≡ 0 → (level wants first second : ℕ) (bytes : List ℕ)
    → let a = fresh_account level wants in
    Renamed f a (run_bytes first second bytes a) a (run_bytes first second (renamed_bytes f bytes) a)
demand-3-bytes f keeps-zero level wants first second bytes =
    let a : Account ℕ = fresh_account level wants in
    let renaming = rw (fresh-renamed f level wants) at (run_bytes-rename f keeps-zero first second bytes a) in
    record { before = rw (fresh-renamed f level wants) at (same-account f a); after = rw renaming (same-outcomes f (run_bytes first second bytes a)) }

-- ---- two wordings
-- any two lists of calls that differ in glyph numbers only leave the same record after every call, the glyph column apart
pub two-wordings : (first second : ℕ) (ws others : List (Worded ℕ)) (a : Account ℕ)
    → map (reworded forget) ws ≡ map (reworded forget) others
    → map (renamed_outcome forget) (run 0 first second ws a) ≡ map (renamed_outcome forget) (run 0 first second others a)
two-wordings first second ws others a e =
    sym (run-rename forget 0 first second ws a)
    ∙ (ap (λ w. run tt first second w (renamed forget a)) e ∙ run-rename forget 0 first second others a)

pub outcomes-twice : {G H K : Type 0} (f : G → H) (g : H → K) (os : List (Outcome G)) → map (renamed_outcome g) (map (renamed_outcome f) os) ≡ map (renamed_outcome (λ x. g (f x))) os
unfolding renamed_outcome
outcomes-twice f g [] = refl
outcomes-twice f g (o ∷ os) = simp (renamed-twice f g, outcomes-twice f g os)

-- two strings of bytes "differ in glyph numbers only" where both are the same string once each complete number is made 0
module _ (call : Worded ℕ → Account ℕ → Outcome ℕ) (renames : (w : Worded ℕ) (a : Account ℕ) → call (reworded (λ n. 0) w) (renamed (λ n. 0) a) ≡ renamed_outcome (λ n. 0) (call w a)) where
  pub strings-alike : (bytes others : List ℕ) (a : Account ℕ)
      → renamed_bytes (λ w. 0) bytes ≡ renamed_bytes (λ w. 0) others
      → map (renamed_outcome forget) (run_read call (read_up_to (length bytes) bytes) a) ≡ map (renamed_outcome forget) (run_read call (read_up_to (length others) others) a)
  strings-alike bytes others a e =
      blotted bytes ∙ (ap (λ w. map (renamed_outcome forget) (run_read call (read_up_to (length w) w) (renamed (λ n. 0) a))) e ∙ sym (blotted others))
    where
      blotted : (w : List ℕ) → map (renamed_outcome forget) (run_read call (read_up_to (length w) w) a) ≡ map (renamed_outcome forget) (run_read call (read_up_to (length (renamed_bytes (λ n. 0) w)) (renamed_bytes (λ n. 0) w)) (renamed (λ n. 0) a))
      blotted w = rw (string-rename (λ n. 0) call renames w a) (sym (outcomes-twice (λ n. 0) forget (run_read call (read_up_to (length w) w) a)))

-- any two such strings leave the same record after every command, the glyph column apart
pub two-wordings-bytes : (first second : ℕ) (bytes others : List ℕ) (a : Account ℕ)
    → renamed_bytes (λ w. 0) bytes ≡ renamed_bytes (λ w. 0) others
    → map (renamed_outcome forget) (run_bytes first second bytes a) ≡ map (renamed_outcome forget) (run_bytes first second others a)
unfolding run_bytes
two-wordings-bytes first second bytes others a e = strings-alike (step 0 first second) (step-rename (λ n. 0) 0 first second) bytes others a e

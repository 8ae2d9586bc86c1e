-- What the customer's demands 2 and 3 and the course regulations claim of whole lists of calls, as types. proofs/Claims has a theorem of each, and
-- `commands::runs::begin`, which makes the first buffer, promises them. Demand 1 is promised call by call: `Meets` (lists, Contract), `Steps` (Runs).
use Rattle.std.specs.Prelude.{◌/◌, ◌%◌, ◌≤◌, ◌<◌, ◌∷◌, ◌++◌, ◌≡◌}
use Rattle.records.specs.Library.{ℕ, zero, suc, List, [], map, length}
use Rattle.std.specs.Prelude.{Some as some}
use Rattle.records.specs.{Bytes.word, Glyphs.Glyph}
use Rattle.lists.specs.{Account.Account, Account.len, Account.idx, Account.out_length, Account.positions, Account.fresh_account, Account.renamed}
use Rattle.lists.specs.{Account.Outcome, Contract.account, Contract.outcome_of, Contract.Meets, declared.Buffer.Buffer, declared.Reply.Reply}
use Rattle.edits.specs.{Flags.Searches, Groups.EveryEntry}
use Rattle.commands.specs.{Origins.FromPushes, Runs.Steps, declared.Step.Step, Texts.layout_record, Texts.exam_text, Texts.desk_text, Table.Starred}
use Rattle.commands.specs.Calls.{Worded, perform, run, Form, unknown, operands, glyph_and, listed, unreadable, got, words, operand, form_of}
use Rattle.commands.specs.Calls.{read_up_to, run_bytes}

-- ---- another glyph number for each: in an outcome, in a call, in bytes. The types leave no number out: a call over H has none of G
module _ {G H : Type 0} (f : G → H) where
  unfoldable pub renamed_outcome : Outcome G → Outcome H
  renamed_outcome o = record { answer = o.answer; after = renamed f o.after }

  unfoldable pub reworded : Worded G → Worded H
  reworded w = record { call = w.call; glyphs = map f w.glyphs }

-- the four bytes of each of n operands become what h makes of them, and `next` changes what follows; where an operand is cut off, the bytes stay
unfoldable pub over_operands : (ℕ → ℕ → ℕ → ℕ → List ℕ) → ℕ → (List ℕ → List ℕ) → List ℕ → List ℕ
over_operands h zero next l = next l
over_operands h (suc n) next [] = []
over_operands h (suc n) next (a ∷ []) = a ∷ []
over_operands h (suc n) next (a ∷ (b ∷ [])) = a ∷ (b ∷ [])
over_operands h (suc n) next (a ∷ (b ∷ (c ∷ []))) = a ∷ (b ∷ (c ∷ []))
over_operands h (suc n) next (a ∷ (b ∷ (c ∷ (d ∷ l)))) = h a b c d ++ over_operands h n next l

-- a plain operand stays
unfoldable pub as_it_is : ℕ → ℕ → ℕ → ℕ → List ℕ
as_it_is a b c d = a ∷ b ∷ c ∷ d ∷ []

module _ (f : ℕ → ℕ) where
  -- a glyph number becomes f of it, low byte first; `word` of these four is f of it, whatever its size
  unfoldable pub renamed_number : ℕ → ℕ → ℕ → ℕ → List ℕ
  renamed_number a b c d = let w = f (word a b c d) in w % 256 ∷ w / 256 % 256 ∷ w / 65536 % 256 ∷ w / 16777216 ∷ []

  unfoldable pub renamed_form : Form → (List ℕ → List ℕ) → List ℕ → List ℕ
  renamed_form unknown next l = l
  renamed_form (operands n k) next l = over_operands as_it_is n next l
  renamed_form (glyph_and n k) next l = over_operands renamed_number 1 (over_operands as_it_is n next) l
  renamed_form (listed k) next l =
      over_operands as_it_is 2 (over_operands renamed_number (elim (words 2 l) [ unreadable ↦ 0 | got ws r ↦ operand 1 ws ]) next) l

  unfoldable pub renamed_up_to : ℕ → List ℕ → List ℕ
  renamed_up_to zero l = l
  renamed_up_to (suc n) [] = []
  renamed_up_to (suc n) (byte ∷ l) = byte ∷ renamed_form (form_of byte) (renamed_up_to n) l

  -- "only glyph numbers with all four bytes there are renamed", also in a command that is cut off later; everything else is as it was
  unfoldable pub renamed_bytes : List ℕ → List ℕ
  renamed_bytes bytes = renamed_up_to (length bytes) bytes

-- ---- two runs that differ in their glyph numbers
module _ {G H : Type 0} (f : G → H) where
  -- "In done, rest and passed the second run has exactly f of the glyph number that the first has at the same place."
  pub record SameList (l : List (Glyph G)) (m : List (Glyph H)) : Type 0 where
    pub glyphs : map (λ g. g.glyph) m ≡ map (λ g. f g.glyph) l
    pub clusters : map (λ g. g.info.cluster) m ≡ map (λ g. g.info.cluster) l
    pub masks : map (λ g. g.info.mask) m ≡ map (λ g. g.info.mask) l
    pub var0s : map (λ g. g.info.var0) m ≡ map (λ g. g.info.var0) l
    pub var1s : map (λ g. g.info.var1) m ≡ map (λ g. g.info.var1) l
    pub origins : map (λ g. g.info.origin) m ≡ map (λ g. g.info.origin) l  -- "A renaming never moves an origin." (document 02, N8)

  -- "phase, lengths, cursors, clusters, masks, variable words, positions and counters are the same"; "Counters run from `idx` to `serial` in the account.
  -- Spoiled, no list is compared.": they are empty then
  pub record SameAccount (a : Account G) (b : Account H) : Type 0 where
    pub phase : b.state.phase ≡ a.state.phase
    pub same-idx : idx b ≡ idx a
    pub same_len : len b ≡ len a
    pub out-len : out_length b ≡ out_length a
    pub allocated : b.state.limits.allocated ≡ a.state.limits.allocated
    pub max-len : b.state.limits.max_len ≡ a.state.limits.max_len
    pub max-ops : b.state.limits.max_ops ≡ a.state.limits.max_ops
    pub successful : b.state.limits.successful ≡ a.state.limits.successful
    pub serial : b.state.limits.serial ≡ a.state.limits.serial
    pub pushes : b.state.limits.pushes ≡ a.state.limits.pushes
    pub level : b.state.level ≡ a.state.level
    pub wants : b.state.wants ≡ a.state.wants
    pub done : SameList a.done b.done
    pub rest : SameList a.rest b.rest
    pub passed : SameList a.passed b.passed
    pub same-positions : positions b ≡ positions a

  -- "Each call then has the same returned value or refusal number in both."
  pub record SameOutcome (o : Outcome G) (p : Outcome H) : Type 0 where
    pub answer : p.answer ≡ o.answer
    pub after : SameAccount o.after p.after

  -- as many outcomes in one run as in the other, and each pair agrees
  abbrev pub SameOutcomes : List (Outcome G) → List (Outcome H) → Type 0
  SameOutcomes [] [] = Unit {0}
  SameOutcomes [] (p ∷ ps) = ⊥
  SameOutcomes (o ∷ os) [] = ⊥
  SameOutcomes (o ∷ os) (p ∷ ps) = SameOutcome o p × SameOutcomes os ps

  -- "Before the first call and after each": the outcomes os from a, and ps from b
  pub record Renamed (a : Account G) (os : List (Outcome G)) (b : Account H) (ps : List (Outcome H)) : Type 0 where
    pub before : SameAccount a b
    pub after : SameOutcomes os ps

-- ---- two wordings "built by the same edits"
-- a glyph number of which nothing is known
abbrev pub forget : ℕ → Unit {0}
forget n = tt

-- lists of calls, and strings of bytes, that are the same but for their glyph numbers
abbrev pub SameEdits : (ws others : List (Worded ℕ)) → Type 0
SameEdits ws others = map (reworded forget) ws ≡ map (reworded forget) others

abbrev pub SameEditBytes : (script other : List ℕ) → Type 0
SameEditBytes script other = renamed_bytes (λ w. 0) script ≡ renamed_bytes (λ w. 0) other

-- outcomes that are the same "with the glyph column removed"
abbrev pub SameRecords : (os ps : List (Outcome ℕ)) → Type 0
SameRecords os ps = map (renamed_outcome forget) os ≡ map (renamed_outcome forget) ps

-- ---- what functions give back and leave in the lent slices, one call after the other: "Each gets the state the last one returned or left, and the
-- same slices; nobody else writes either meanwhile."
abbrev pub SameLengths : (f s f' s' : List ℕ) → Type 0
SameLengths f s f' s' = (length f' ≡ length f) × (length s' ≡ length s)

pub record Returned : Type 0 where
  pub reply : Reply
  pub first : List ℕ
  pub second : List ℕ

abbrev pub returned_outcome : Returned → Outcome ℕ
returned_outcome x = outcome_of x.reply x.first x.second

abbrev pub MeetsCall : Worded ℕ → Buffer → (f s : List ℕ) → Returned → Type 0
MeetsCall w b f s x = Meets (λ capacity a. perform 0 capacity w.call w.glyphs a) b f s x.reply x.first x.second

-- the calls of a list, each by a function that meets its contract
abbrev pub DirectRun : List (Worded ℕ) → Buffer → (f s : List ℕ) → List Returned → Type 0
DirectRun [] b f s [] = Unit {0}
DirectRun [] b f s (x ∷ xs) = ⊥
DirectRun (w ∷ ws) b f s [] = ⊥
DirectRun (w ∷ ws) b f s (x ∷ xs) = MeetsCall w b f s x × SameLengths f s x.first x.second × DirectRun ws x.reply.buffer x.first x.second xs

pub record ReturnedAt : Type 0 where
  pub step : Step
  pub first : List ℕ
  pub second : List ℕ

abbrev pub returned_outcome_at : ReturnedAt → Outcome ℕ
returned_outcome_at x = outcome_of x.step.reply x.first x.second

-- the commands of a string from a place on, each by `step`
abbrev pub StepRun : List ℕ → (at : ℕ) → Buffer → (f s : List ℕ) → List ReturnedAt → Type 0
StepRun script at b f s [] = length script ≤ at
StepRun script at b f s (x ∷ xs) =
    (at < length script) × Steps script at b f s x.step x.first x.second × SameLengths f s x.first x.second
    × StepRun script x.step.next x.step.reply.buffer x.first x.second xs

-- ---- the claims. b is what `begin` gives back: by `Begins` (lists, Contract) its account is fresh in any slices, with the given level and wants, or wants 0
-- for wants over 7. A list that mixes direct calls and bytes is one of direct calls, since a command that is read is that call.
-- Demand 2: answers, counters, lists and positions "are proved equal to the two-list account in document 01"
pub record Demand2 (b : Buffer) : Type 0 where
  pub calls : (i j : List ℕ) (ws : List (Worded ℕ)) (xs : List Returned)
      → DirectRun ws b i j xs → map returned_outcome xs ≡ run 0 (length i) (length j) ws (account b i j)
  pub bytes : (i j : List ℕ) (script : List ℕ) (xs : List ReturnedAt)
      → StepRun script 0 b i j xs → map returned_outcome_at xs ≡ run_bytes (length i) (length j) script (account b i j)

-- Demand 3: "Let f be any rule that sends glyph numbers to glyph numbers and 0 to 0. Let L be any list of document 01's calls 00 to 26 from a fresh
-- buffer, refused calls included. Replace each glyph number in L by f of it, and nothing else. Run both lists by demand 2's account, from the same level
-- and wants over equally long slices."
pub record Demand3 (level wants : ℕ) (f : ℕ → ℕ) : Type 0 where
  pub calls : (m n : ℕ) (ws : List (Worded ℕ)) → let a = fresh_account level wants in Renamed f a (run 0 m n ws a) a (run 0 m n (map (reworded f) ws) a)
  pub bytes : (m n : ℕ) (script : List ℕ)
      → let a = fresh_account level wants in Renamed f a (run_bytes m n script a) a (run_bytes m n (renamed_bytes f script) a)

-- "by the functions' equations it holds of their runs too": of what they return and leave, in other slices of the same lengths too
pub record Demand3Returned (b : Buffer) (f : ℕ → ℕ) (i j i' j' : List ℕ) : Type 0 where
  pub calls : (ws : List (Worded ℕ)) (xs ys : List Returned) → DirectRun ws b i j xs → DirectRun (map (reworded f) ws) b i' j' ys
      → Renamed f (account b i j) (map returned_outcome xs) (account b i' j') (map returned_outcome ys)
  pub steps : (script : List ℕ) (xs ys : List ReturnedAt) → StepRun script 0 b i j xs → StepRun (renamed_bytes f script) 0 b i' j' ys
      → Renamed f (account b i j) (map returned_outcome_at xs) (account b i' j') (map returned_outcome_at ys)

-- "The course regulations state that this record cannot tell two wordings apart when they were built by the same edits. That covers every pair of papers"
pub record TwoWordings : Type 0 where
  pub calls : (m n : ℕ) (ws others : List (Worded ℕ)) (a : Account ℕ) → SameEdits ws others → SameRecords (run 0 m n ws a) (run 0 m n others a)
  pub bytes : (m n : ℕ) (script other : List ℕ) (a : Account ℕ) → SameEditBytes script other → SameRecords (run_bytes m n script a) (run_bytes m n other a)
  -- the record as bytes, after any call; and all that the desk prints, answers and record
  pub records : (a b : Account ℕ) → renamed forget a ≡ renamed forget b → layout_record a ≡ layout_record b
  pub desk : (n : ℕ) (script other : List ℕ) → SameEditBytes script other → desk_text n script ≡ desk_text n other

-- the same of what functions return and leave
pub record TwoWordingsReturned (b : Buffer) (i j i' j' : List ℕ) : Type 0 where
  pub calls : (ws others : List (Worded ℕ)) (xs ys : List Returned) → SameEdits ws others → DirectRun ws b i j xs → DirectRun others b i' j' ys
      → SameRecords (map returned_outcome xs) (map returned_outcome ys)
  pub steps : (script other : List ℕ) (xs ys : List ReturnedAt) → SameEditBytes script other → StepRun script 0 b i j xs → StepRun other 0 b i' j' ys
      → SameRecords (map returned_outcome_at xs) (map returned_outcome_at ys)

-- "After every list each origin is 0 or the number of a push made since fresh." (document 02, N8): of the account's runs, and of what functions leave
pub record Origins (level wants : ℕ) (b : Buffer) : Type 0 where
  pub calls : (m n : ℕ) (ws : List (Worded ℕ)) → let a = fresh_account level wants in FromPushes (map some ws) a (run 0 m n ws a)
  pub bytes : (m n : ℕ) (script : List ℕ) → let a = fresh_account level wants in FromPushes (read_up_to (length script) script) a (run_bytes m n script a)
  pub calls-returned : (i j : List ℕ) (ws : List (Worded ℕ)) (xs : List Returned)
      → DirectRun ws b i j xs → FromPushes (map some ws) (account b i j) (map returned_outcome xs)
  pub steps-returned : (i j : List ℕ) (script : List ℕ) (xs : List ReturnedAt)
      → StepRun script 0 b i j xs → FromPushes (read_up_to (length script) script) (account b i j) (map returned_outcome_at xs)

pub record Claims (level wants : ℕ) (b : Buffer) : Type 0 where
  pub demand-2 : Demand2 b
  pub demand-3 : (f : ℕ → ℕ) → f 0 ≡ 0 → Demand3 level wants f
  pub demand-3-returned : (f : ℕ → ℕ) → f 0 ≡ 0 → (i j i' j' : List ℕ) → SameLengths i j i' j' → Demand3Returned b f i j i' j'
  pub two-wordings : TwoWordings
  pub two-wordings-returned : (i j i' j' : List ℕ) → SameLengths i j i' j' → TwoWordingsReturned b i j i' j'
  -- the claim on the desk is not empty: two strings with the same edits whose exam reports differ
  pub told-apart : record { one : List ℕ; other : List ℕ; same : SameEditBytes one other; differ : exam_text 2048 one ≡ exam_text 2048 other → ⊥ }
  -- document 01's starred examples, "proved together as one table"
  pub starred : Starred
  -- "Every entry is proved to be what document 01's formula gives." (document 02, N3)
  pub flag-table : EveryEntry
  -- what wants bit 2 changes in the search of level 3, and that it changes nothing else (document 02, N11)
  pub searches : (a : Account ℕ) → Searches a
  -- the count of pushes, and every origin (document 02, N8)
  pub origins : Origins level wants b

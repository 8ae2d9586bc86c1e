-- What the functions below the exported replacements do.
use Rattle.std.specs.Prelude.{ℕ, List, take}
use Rattle.lists.specs.{Account.Account}
use Rattle.edits.specs.{inner.Acts.replacing, Merging.merge, Merging.clusters_merge, Writing.model}

-- the inputs merge, then copies of the first stand in their place
unfoldable pub replaced : ℕ → ℕ → List ℕ → Account ℕ → Account ℕ
replaced num-in num-out gs a = let b = merge (clusters_merge a.state.level) 0 num-in a in replacing (model b) (take num-out gs) num-in b

-- Document 01's starred examples hold.
use mathlib.Core.{Path.◌≡◌, Path.refl, Path.ap, Path.◌∙◌, Bool.cond, Bool.false, List.[], List.flat_map}
use Prim.Native.Nat.{ℕ, ◌*◌, max}
use native.Mathlib.Nat.{zero-add, sub-zero}
use lib.{Dec.leb, Dec.ltb, Seq.take-nil, ListN.length-replicate, ListN.length-map, ListN.replicate}
use Rattle.records.specs.{Answers.ok_with, Counters.words_for, Glyphs.blank, Ranges.copies}
use Rattle.lists.specs.Account.{Account, fresh_account, len, with_rest, sized, Outcome}
use Rattle.commands.specs.Calls.{step, c02-set-length, c24-enter}
use Rattle.commands.specs.Table.{bytes_of, sheet, ran, enters_with, draw, Starred}
use Rattle.commands.proofs.Executable.{executable}

-- ---- a run of n glyphs, whose length is known by a law and not counted out
filled : ℕ → Account ℕ
filled n = with_rest (copies (blank 0) (replicate n 0)) (sized n (fresh_account 0 0))

set-length : (n : ℕ) → leb n 0 ≡ false → ltb 1073741823 n ≡ false → ltb 1048576 n ≡ false
    → step 0 (words_for 1048576) (words_for 1048576) (record { call = c02-set-length n; glyphs = [] }) (fresh_account 0 0) ≡ record { answer = ok_with 1; after = filled n }
unfolding filled executable
set-length n some-glyphs within-max fits = simp (some-glyphs, within-max, fits, sub-zero, zero-add, take-nil)

filled-len : (n : ℕ) → len (filled n) ≡ n
unfolding filled executable
filled-len n = simp (zero-add, length-map, length-replicate)

entered-with : (n : ℕ) → leb n 0 ≡ false → ltb 1073741823 n ≡ false → ltb 1048576 n ≡ false
    → enters_with n ≡ cond (leb (4096 * n) 2147483647) (max (4096 * n) 65536) 536870911
unfolding enters_with ran filled executable
entered-with n some-glyphs within-max fits =
    ap (λ (o : Outcome ℕ). (step 0 (words_for 1048576) (words_for 1048576) (record { call = c24-enter; glyphs = [] }) o.after).after.state.limits.max_ops) (set-length n some-glyphs within-max fits)
    ∙ ap (λ (k : ℕ). cond (leb (4096 * k) 2147483647) (max (4096 * k) 65536) 536870911) (filled-len n)

-- ---- the table
pub starred : Starred
unfolding bytes_of sheet ran enters_with draw flat_map executable
starred = record {
  one = refl;
  two = (refl, refl);
  four = (entered-with 524287 refl refl refl, entered-with 524288 refl refl refl);
  five = ((refl, refl), (refl, refl));
  six = refl;
  seven = refl;
  eight = refl;
  nine = refl;
}

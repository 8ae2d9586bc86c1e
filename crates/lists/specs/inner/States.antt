-- The states that the functions make of one another.
use mathlib.Core.{Bool.true, Bool.false, Bool.cond, Bool.not}
use Rattle.std.specs.Prelude.{ℕ}
use Rattle.std.specs.Prelude.{Result}
use Rattle.records.specs.{Phase, Plain, Output, Positions, Spoiled, Limits, Refusal, Answer, Counters.fresh_limits}
use Rattle.lists.specs.{declared.Buffer.Buffer, declared.Lists.Lists, declared.Reply.Reply, declared.Verdict.Verdict}
use Rattle.lists.specs.Account.{output_phase}

-- what a call comes to
abbrev pub Decision : Type 0
Decision = Result Verdict Refusal

abbrev pub reply : Buffer → Answer → Reply
reply b a = record { buffer = b; answer = a }

unfoldable pub with_limits_of : Limits → Buffer → Buffer
with_limits_of l b = record { idx = b.idx; len = b.len; out_len = b.out_len; phase = b.phase; limits = l; level = b.level; wants = b.wants; swapped = b.swapped; have_separate_output = b.have_separate_output }

unfoldable pub at_places : ℕ → ℕ → ℕ → Buffer → Buffer
at_places i l o b = record { idx = record { 0 = i }; len = record { 0 = l }; out_len = record { 0 = o }; phase = b.phase; limits = b.limits; level = b.level; wants = b.wants; swapped = b.swapped; have_separate_output = b.have_separate_output }

-- where the lists of a buffer lie
abbrev pub lists_of : Buffer → Lists
lists_of b = record { idx = b.idx.0; len = b.len.0; out_len = b.out_len.0; separate = b.have_separate_output }

unfoldable pub fresh_buffer : ℕ → ℕ → Buffer
fresh_buffer level wants = record { idx = record { 0 = 0 }; len = record { 0 = 0 }; out_len = record { 0 = 0 }; phase = Plain; limits = fresh_limits; level = level; wants = wants; swapped = false; have_separate_output = false }

unfoldable pub apart_buffer : Buffer → Buffer
apart_buffer b = record { idx = b.idx; len = b.len; out_len = b.out_len; phase = b.phase; limits = b.limits; level = b.level; wants = b.wants; swapped = b.swapped; have_separate_output = true }

-- the cursor at the start, and no output
unfoldable pub restarted_buffer : Phase → Buffer → Buffer
restarted_buffer phase b = record { idx = record { 0 = 0 }; len = b.len; out_len = record { 0 = 0 }; phase = phase; limits = b.limits; level = b.level; wants = b.wants; swapped = b.swapped; have_separate_output = false }

unfoldable pub positioned_buffer : Buffer → Buffer
positioned_buffer b = record { idx = b.idx; len = b.len; out_len = record { 0 = 0 }; phase = Positions; limits = b.limits; level = b.level; wants = b.wants; swapped = b.swapped; have_separate_output = false }

unfoldable pub swapped_buffer : Buffer → Buffer
swapped_buffer b = record { idx = record { 0 = 0 }; len = record { 0 = b.out_len.0 }; out_len = record { 0 = 0 }; phase = Plain; limits = b.limits; level = b.level; wants = b.wants; swapped = cond b.have_separate_output (not b.swapped) b.swapped; have_separate_output = false }

abbrev pub opened_buffer : Buffer → Buffer
opened_buffer b = restarted_buffer Output b

abbrev pub spoiled_buffer : Buffer → Buffer
spoiled_buffer b = restarted_buffer Spoiled b

-- the last of refusal 1's tests, as a bound: how much output there can be
unfoldable pub most_output : Buffer → ℕ
most_output b = cond (output_phase b.phase) (cond b.have_separate_output b.limits.allocated b.idx.0) 0

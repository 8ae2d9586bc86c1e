use Rattle.std.proofs.Common.{◌≤◌, rules, arith}
use Rattle.edits.proofs.Propagations.{act-fits, propagates_each}
use Rattle.edits.proofs.propagating.propagate_each.Goals as goal

pub each_group-requires : goal.each_group-requires
each_group-requires c = record { fits = c.requires.1; law = λ p q s e lr lo o i. let w = act-fits _ _ c.requires.1 lr i in let k : s ≤ e = omega (arith, o) in search rules }

pub returns : goal.returns
returns c = propagates_each c.requires.1 c.each_group.ensures (λ s e run other run' other' a. (search rules, search rules))

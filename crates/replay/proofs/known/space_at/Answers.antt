use Rattle.std.proofs.Common.{rules, tests}
use Rattle.std.proofs.lemmas.Iterator.{YieldsList-from_slice}
use Rattle.std.proofs.lemmas.Iterator.Consumers.{YieldsList-from_enumerate, YieldsList-from_filter, nth_from_yields_List}
use Rattle.replay.proofs.KnownLaws.{is-space, found_at, found_none}
use Rattle.replay.proofs.known.space_at.Goals as goal

pub returns-in-Some : goal.returns-in-Some
returns-in-Some c = found_at _ c.args.line.now c.args.n c.nth.result (nth_from_yields_List c.nth.result c.nth.new.self c.args.n c.nth.ensures.ran (YieldsList-from_filter _ is-space (YieldsList-from_enumerate (YieldsList-from_slice c.args.line.now cc) (cc)) c.filter-spaces.ensures.closure (λ x r q k. search (rules, tests)))) c.in-Some.is

pub returns-in-None : goal.returns-in-None
returns-in-None c = found_none _ c.args.line.now c.args.n c.nth.result (nth_from_yields_List c.nth.result c.nth.new.self c.args.n c.nth.ensures.ran (YieldsList-from_filter _ is-space (YieldsList-from_enumerate (YieldsList-from_slice c.args.line.now cc) (cc)) c.filter-spaces.ensures.closure (λ x r q k. search (rules, tests)))) c.in-None.is

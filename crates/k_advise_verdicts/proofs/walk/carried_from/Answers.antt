use Rattle.k_carry_pairs.specs.declared.pairs.LoopPairs.{LoopPairs}
use Rattle.k_advise_verdicts.specs.Told.{number_of_pairs}
use Rattle.k_advise_verdicts.proofs.Walking.{stopped}
use Rattle.k_advise_verdicts.proofs.walk.carried_from.Goals as goal

pub returns-then-first-region : goal.returns-then-first-region
returns-then-first-region c =
    stopped LoopPairs number_of_pairs c.args.region c.args.loops.now c.loop-first.rest.now c.in-Some.later.now c.in-Some.first.now c.loop-first.invariant c.in-Some.ensures.cases.0 c.if-first-region.true

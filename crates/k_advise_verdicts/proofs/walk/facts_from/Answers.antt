use Rattle.k_advise_verdicts.specs.declared.facts.LoopFacts.{LoopFacts}
use Rattle.k_advise_verdicts.specs.Told.{number_of_facts}
use Rattle.k_advise_verdicts.proofs.Walking.{stopped}
use Rattle.k_advise_verdicts.proofs.walk.facts_from.Goals as goal

pub returns-then-first-region : goal.returns-then-first-region
returns-then-first-region c =
    stopped LoopFacts number_of_facts c.args.region c.args.facts.now c.loop-first.rest.now c.in-Some.later.now c.in-Some.first.now c.loop-first.invariant c.in-Some.ensures.cases.0 c.if-first-region.true

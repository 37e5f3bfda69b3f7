use Rattle.std.proofs.Common.{length}
use Rattle.k_advise_verdicts.specs.declared.facts.LoopFacts.{LoopFacts}
use Rattle.k_advise_verdicts.specs.Told.{number_of_facts}
use Rattle.k_advise_verdicts.proofs.Walking.{Reached}
use Rattle.k_advise_verdicts.proofs.walk.facts_from.Given as goal

abbrev pub invariant-loop-first : goal.invariant-loop-first
invariant-loop-first l = Reached LoopFacts number_of_facts l.region l.fn.facts l.rest

abbrev pub decreases-loop-first : goal.decreases-loop-first
decreases-loop-first l = length l.rest

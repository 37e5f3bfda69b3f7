use Rattle.std.proofs.Common.{length}
use Rattle.k_carry_pairs.specs.declared.pairs.LoopPairs.{LoopPairs}
use Rattle.k_advise_verdicts.specs.Told.{number_of_pairs}
use Rattle.k_advise_verdicts.proofs.Walking.{Reached}
use Rattle.k_advise_verdicts.proofs.walk.carried_from.Given as goal

abbrev pub invariant-loop-first : goal.invariant-loop-first
invariant-loop-first l = Reached LoopPairs number_of_pairs l.region l.fn.loops l.rest

abbrev pub decreases-loop-first : goal.decreases-loop-first
decreases-loop-first l = length l.rest

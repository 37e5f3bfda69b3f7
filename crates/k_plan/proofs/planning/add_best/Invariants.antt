use Rattle.std.proofs.Common.{length}
use Rattle.k_plan.proofs.Summing.{Summed}
use Rattle.k_plan.proofs.planning.add_best.Given as goal

abbrev pub invariant-loop-context : goal.invariant-loop-context
invariant-loop-context l = Summed l.limits l.run_work l.fn.inner l.rest l.below

abbrev pub decreases-loop-context : goal.decreases-loop-context
decreases-loop-context l = length l.rest

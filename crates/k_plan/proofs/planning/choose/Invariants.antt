use Rattle.std.proofs.Common.{length}
use Rattle.k_plan.proofs.Choosing.{Chosen}
use Rattle.k_plan.proofs.planning.choose.Given as goal

abbrev pub invariant-loop-context : goal.invariant-loop-context
invariant-loop-context l = Chosen l.limits l.fn.contexts l.rest l.free.items l.picks

abbrev pub decreases-loop-context : goal.decreases-loop-context
decreases-loop-context l = length l.rest

use Rattle.std.proofs.Common.{length}
use Rattle.k_advise_plan.specs.Saving.{carried_in}
use Rattle.k_advise_plan.proofs.Done.{Done}
use Rattle.k_advise_plan.proofs.recast.recast_all.Given as goal

abbrev pub invariant-loop-context : goal.invariant-loop-context
invariant-loop-context l = Done l.team (carried_in l.carries) l.run_work l.fn.contexts l.rest l.recasts

abbrev pub decreases-loop-context : goal.decreases-loop-context
decreases-loop-context l = length l.rest

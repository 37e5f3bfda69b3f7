use Rattle.std.proofs.Common.{length}
use Rattle.k_advise_verdicts.proofs.ByContext.{Placing}
use Rattle.k_advise_verdicts.proofs.placing.place_all.Given as goal

abbrev pub invariant-loop-context : goal.invariant-loop-context
invariant-loop-context l = Placing l.team l.fn.contexts l.fn.picks l.placed l.left l.rest

abbrev pub decreases-loop-context : goal.decreases-loop-context
decreases-loop-context l = length l.rest

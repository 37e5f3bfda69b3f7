use Rattle.std.proofs.Common.{◌≡◌, ◌++◌, length, map}
use Rattle.k_advise_plan.specs.Recast.{without_doall}
use Rattle.k_advise_plan.proofs.plan.told.Given as goal

abbrev pub invariant-loop-pick : goal.invariant-loop-pick
invariant-loop-pick l = l.told ++ map without_doall l.rest ≡ map without_doall l.fn.picks

abbrev pub decreases-loop-pick : goal.decreases-loop-pick
decreases-loop-pick l = length l.rest

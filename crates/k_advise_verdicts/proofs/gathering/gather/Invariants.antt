use Rattle.std.proofs.Common.{length}
use Rattle.k_advise_verdicts.proofs.ByRegion.{Gathering}
use Rattle.k_advise_verdicts.proofs.gathering.gather.Given as goal

abbrev pub invariant-loop-last : goal.invariant-loop-last
invariant-loop-last l = Gathering l.fn.placed l.rest l.table.items

abbrev pub decreases-loop-last : goal.decreases-loop-last
decreases-loop-last l = length l.rest

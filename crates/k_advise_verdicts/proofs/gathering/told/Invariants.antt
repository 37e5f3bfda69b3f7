use Rattle.std.proofs.Common.{◌≡◌, ◌++◌, length, map}
use Rattle.k_advise_verdicts.specs.Placing.{standing_of}
use Rattle.k_advise_verdicts.proofs.gathering.told.Given as goal

abbrev pub invariant-loop-gathered : goal.invariant-loop-gathered
invariant-loop-gathered l = l.told ++ map standing_of l.rest ≡ map standing_of l.fn.table

abbrev pub decreases-loop-gathered : goal.decreases-loop-gathered
decreases-loop-gathered l = length l.rest

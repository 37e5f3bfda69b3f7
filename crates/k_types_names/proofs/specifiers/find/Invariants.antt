use Rattle.std.proofs.Common.{◌≡◌, length}
use Rattle.k_types_names.specs.Counts.{found}
use Rattle.k_types_names.proofs.specifiers.find.Given as goal

abbrev pub invariant-loop-row : goal.invariant-loop-row
invariant-loop-row l = found l.rest l.counts ≡ found l.rows l.counts

abbrev pub decreases-loop-row : goal.decreases-loop-row
decreases-loop-row l = length l.rest

use Rattle.std.proofs.Common.{◌≡◌, length}
use Rattle.k_advise_text.specs.Table.{first_parallel}
use Rattle.k_advise_text.proofs.table.first_parallel.Given as goal

abbrev pub invariant-loop-row : goal.invariant-loop-row
invariant-loop-row l = first_parallel l.rest ≡ first_parallel l.rows

abbrev pub decreases-loop-row : goal.decreases-loop-row
decreases-loop-row l = length l.rest

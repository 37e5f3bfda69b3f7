use Rattle.std.proofs.Common.{◌≡◌, ◌*◌, length}
use Rattle.k_types_meaning.specs.Counts.{elements}
use Rattle.k_types_meaning.proofs.dims.count.Given as goal

abbrev pub invariant-loop-first : goal.invariant-loop-first
invariant-loop-first l = l.total * elements l.rest ≡ elements l.dims

abbrev pub decreases-loop-first : goal.decreases-loop-first
decreases-loop-first l = length l.rest

use Rattle.std.proofs.Common.{◌≡◌, length}
use Rattle.k_types_meaning.specs.Functions.{same_types}
use Rattle.k_types.proofs.signature.are_same_types.Given as goal

abbrev pub invariant-loop-first : goal.invariant-loop-first
invariant-loop-first l = same_types l.left l.right ≡ same_types l.a l.b

abbrev pub decreases-loop-first : goal.decreases-loop-first
decreases-loop-first l = length l.left

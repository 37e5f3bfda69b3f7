use Rattle.std.proofs.Common.{◌≡◌, ◌++◌, ◌≤◌, length}
use Rattle.k_types_meaning.specs.Dimensions.{known_sizes}
use Rattle.k_types_objects.specs.KeptSizes.{sizes_in}
use Rattle.k_types_objects.proofs.extent.known_sizes.Given as goal

abbrev pub invariant-loop-size : goal.invariant-loop-size
invariant-loop-size l = record {
  within : l.elements ≤ 4194304;
  left : l.dims ++ known_sizes l.elements (sizes_in l.rest) ≡ known_sizes 1 (sizes_in l.sizes);
}

abbrev pub decreases-loop-size : goal.decreases-loop-size
decreases-loop-size l = length l.rest

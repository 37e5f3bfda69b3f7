use Rattle.std.proofs.Common.{◌≡◌, ◌++◌, length}
use Rattle.std.specs.Prelude.{option_map}
use Rattle.k_types_meaning.specs.Dimensions.{all_sizes}
use Rattle.k_types_objects.specs.KeptSizes.{sizes_in}
use Rattle.k_types_objects.proofs.extent.put_sizes.Given as goal

abbrev pub invariant-loop-size : goal.invariant-loop-size
invariant-loop-size l =
    option_map (λ ds. l.dims ++ ds) (all_sizes (sizes_in l.rest)) ≡ option_map (λ ds. l.fn.dims ++ ds) (all_sizes (sizes_in l.sizes))

abbrev pub decreases-loop-size : goal.decreases-loop-size
decreases-loop-size l = length l.rest

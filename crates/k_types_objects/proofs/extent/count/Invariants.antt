use Rattle.std.proofs.Common.{◌≡◌, length}
use Rattle.k_types_objects.specs.Products.{counted, counted_option, IsSmall}
use Rattle.k_types_objects.specs.KeptSizes.{sizes_in}
use Rattle.k_types_objects.proofs.extent.count.Given as goal

abbrev pub invariant-loop-size : goal.invariant-loop-size
invariant-loop-size l = record {
  within : IsSmall l.count;
  left : counted_option l.count (sizes_in l.rest) ≡ counted l.fn.first (sizes_in l.sizes);
}

abbrev pub decreases-loop-size : goal.decreases-loop-size
decreases-loop-size l = length l.rest

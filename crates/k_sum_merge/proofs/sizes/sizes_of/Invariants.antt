use Rattle.k_sum_merge.specs.Sizes.{AreSizes}
use Rattle.k_sum_merge.proofs.sizes.sizes_of.Given as goal

abbrev pub invariant-loop-entry : goal.invariant-loop-entry
invariant-loop-entry l = AreSizes l.entries l.entry-index l.sizes.items

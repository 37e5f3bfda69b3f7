use Rattle.k_lower_extents.proofs.ProgramExtents.{more_sizes, more_within}
use Rattle.k_lower_extents.proofs.unit.list_functions.Goals as goal

pub loop-function-preserved : goal.loop-function-preserved
loop-function-preserved c = record {
  sizes = more_sizes c.args.counted.now c.args.functions.now c.loop-function.function-index c.function-item.result c.loop-function.sizes.items c.push.new.self.items _ c.in_ok-size.size
      c.loop-function-test.true c.function-item.is c.in_ok-push.ensures.items c.in_ok-size.ensures.size c.loop-function.invariant.sizes;
  found = more_within c.args.counted.now c.args.functions.now c.loop-function.function-index c.function-item.result c.loop-function.found.items c.list_function.new.found.items _
      c.loop-function-test.true c.function-item.is c.in_ok-size.ensures.found c.loop-function.invariant.found;
}

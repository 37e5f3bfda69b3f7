use Rattle.std.proofs.Common.{◌≡◌, ◌++◌, map, drop}
use Rattle.k_lower_extents.specs.StatementSums.{function_size, functions_within}
use Rattle.k_lower_extents.proofs.unit.list_functions.Given as goal

abbrev pub invariant-loop-function : goal.invariant-loop-function
invariant-loop-function l = record {
  sizes :
      l.sizes.items ++ map (function_size l.counted) (drop l.function-index l.functions)
      ≡ l.fn.sizes.items ++ map (function_size l.counted) l.functions;
  found :
      l.found.items ++ functions_within l.counted (drop l.function-index l.functions)
      ≡ l.fn.found.items ++ functions_within l.counted l.functions;
}

use Rattle.std.proofs.Common.{◌≡◌, map, drop}
use Rattle.k_types_calls.specs.Getchar.{any, function_calls}
use Rattle.k_types_calls.proofs.getchar.statements.calls_getchar.Given as goal

abbrev pub invariant-loop-function : goal.invariant-loop-function
invariant-loop-function l = any (map function_calls (drop l.function-index l.function-items)) ≡ any (map function_calls l.unit.functions)

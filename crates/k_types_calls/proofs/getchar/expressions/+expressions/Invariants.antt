use Rattle.std.proofs.Common.{◌≡◌, map, drop}
use Rattle.k_types_calls.specs.Getchar.{any, calls}
use Rattle.k_types_calls.proofs.getchar.expressions.+expressions.Given as goal

abbrev pub invariant-args_call-loop-arg : goal.invariant-args_call-loop-arg
invariant-args_call-loop-arg l = any (map calls (drop l.arg-index l.arg-items)) ≡ any (map calls l.args)

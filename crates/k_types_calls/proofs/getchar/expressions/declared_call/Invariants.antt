use Rattle.std.proofs.Common.{◌≡◌, map, drop}
use Rattle.k_types_calls.specs.Getchar.{any, declarator_calls}
use Rattle.k_types_calls.proofs.getchar.expressions.declared_call.Given as goal

abbrev pub invariant-loop-declarator : goal.invariant-loop-declarator
invariant-loop-declarator l = any (map declarator_calls (drop l.declarator-index l.declarator-items)) ≡ any (map declarator_calls l.list)

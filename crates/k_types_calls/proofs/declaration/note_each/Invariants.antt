use Rattle.std.proofs.Common.{◌≡◌, ◌++◌, map, drop}
use Rattle.k_types_meaning.specs.Called.{all_calls}
use Rattle.k_types_calls.specs.Noting.{param_calls, seen}
use Rattle.k_types_calls.proofs.declaration.note_each.Given as goal

abbrev pub invariant-loop-param : goal.invariant-loop-param
invariant-loop-param l =
    map seen l.calls.items ++ all_calls (map param_calls (drop l.param-index l.param-items))
    ≡ map seen l.fn.calls.items ++ all_calls (map param_calls l.list)

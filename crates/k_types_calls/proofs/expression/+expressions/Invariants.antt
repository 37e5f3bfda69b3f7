use Rattle.std.proofs.Common.{◌≡◌, ◌++◌, map, drop}
use Rattle.k_types_meaning.specs.Called.{all_calls, expr_calls}
use Rattle.k_types_calls.specs.Noting.{seen}
use Rattle.k_types_calls.proofs.expression.+expressions.Given as goal

abbrev pub invariant-note_args-loop-arg : goal.invariant-note_args-loop-arg
invariant-note_args-loop-arg l =
    map seen l.calls.items ++ all_calls (map expr_calls (drop l.arg-index l.arg-items))
    ≡ map seen l.fn.calls.items ++ all_calls (map expr_calls l.args)

use Rattle.std.proofs.Common.{◌≡◌, ◌++◌, map, drop}
use Rattle.k_types_meaning.specs.Called.{all_calls, option_calls}
use Rattle.k_types_calls.specs.Noting.{seen}
use Rattle.k_types_calls.proofs.declaration.note_dims.Given as goal

abbrev pub invariant-loop-dim : goal.invariant-loop-dim
invariant-loop-dim l =
    map seen l.calls.items ++ all_calls (map option_calls (drop l.dim-index l.dim-items))
    ≡ map seen l.fn.calls.items ++ all_calls (map option_calls l.dims)

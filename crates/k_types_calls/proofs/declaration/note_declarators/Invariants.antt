use Rattle.std.proofs.Common.{◌≡◌, ◌++◌, map, drop}
use Rattle.k_types_meaning.specs.Called.{all_calls, declarator_calls}
use Rattle.k_types_calls.specs.Noting.{seen}
use Rattle.k_types_calls.proofs.declaration.note_declarators.Given as goal

abbrev pub invariant-loop-declarator : goal.invariant-loop-declarator
invariant-loop-declarator l =
    map seen l.calls.items ++ all_calls (map declarator_calls (drop l.declarator-index l.declarator-items))
    ≡ map seen l.fn.calls.items ++ all_calls (map declarator_calls l.list)

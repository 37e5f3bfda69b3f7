use Rattle.std.proofs.Common.{◌≡◌, ◌++◌, map, drop}
use Rattle.k_types_meaning.specs.Called.{all_calls, init_calls}
use Rattle.k_types_calls.specs.Noting.{seen}
use Rattle.k_types_calls.proofs.declaration.+initialisers.Given as goal

abbrev pub invariant-note_inits-loop-item : goal.invariant-note_inits-loop-item
invariant-note_inits-loop-item l =
    map seen l.calls.items ++ all_calls (map init_calls (drop l.item-index l.item-items))
    ≡ map seen l.fn.calls.items ++ all_calls (map init_calls l.items)

use Rattle.std.proofs.Common.{◌≡◌, ◌++◌, map, drop}
use Rattle.k_wide_meaning.specs.Occurrences.{all_of, declarator_occurs}
use Rattle.k_wide.proofs.notes.note_declared.Given as goal

abbrev pub invariant-loop-declarator : goal.invariant-loop-declarator
invariant-loop-declarator l =
    l.found.items ++ all_of (map declarator_occurs (drop l.declarator-index l.declarator-items))
    ≡ l.fn.found.items ++ all_of (map declarator_occurs l.list)

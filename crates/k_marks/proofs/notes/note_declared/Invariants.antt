use Rattle.std.proofs.Common.{◌≡◌, ◌++◌, map, drop}
use Rattle.k_marks_meaning.specs.Uses.{all_uses, declarator_uses}
use Rattle.k_marks.proofs.notes.note_declared.Given as goal

abbrev pub invariant-loop-declarator : goal.invariant-loop-declarator
invariant-loop-declarator l =
    l.uses.items ++ all_uses (map declarator_uses (drop l.declarator-index l.declarator-items))
    ≡ l.fn.uses.items ++ all_uses (map declarator_uses l.list)

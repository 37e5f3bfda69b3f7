use Rattle.std.proofs.Common.{◌≡◌, ◌++◌, drop}
use Rattle.k_marks_meaning.specs.Uses.{declares}
use Rattle.k_marks.proofs.loops.note_declares.Given as goal

abbrev pub invariant-loop-declarator : goal.invariant-loop-declarator
invariant-loop-declarator l =
    l.uses.items ++ declares (drop l.declarator-index l.declarator-items) ≡ l.fn.uses.items ++ declares l.list

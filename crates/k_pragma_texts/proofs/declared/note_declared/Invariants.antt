use Rattle.std.proofs.Common.{◌≡◌, ◌++◌, drop}
use Rattle.k_pragma_texts.specs.Declarations.{declared_occurs}
use Rattle.k_pragma_texts.proofs.declared.note_declared.Given as goal

abbrev pub invariant-loop-declarator : goal.invariant-loop-declarator
invariant-loop-declarator l =
    l.occurs.items ++ declared_occurs l.node (drop l.declarator-index l.declarator-items) ≡ l.fn.occurs.items ++ declared_occurs l.node l.list

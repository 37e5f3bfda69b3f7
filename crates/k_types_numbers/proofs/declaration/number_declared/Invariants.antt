use Rattle.k_types_meaning.specs.declared.tree.declaration.TDeclarator.{TDeclarator}
use Rattle.k_types_numbers.specs.Renumbering.{bare_declarator, declarator_numbers}
use Rattle.k_types_numbers.proofs.CountingLaws.{SoFar}
use Rattle.k_types_numbers.proofs.declaration.number_declared.Given as goal

abbrev pub invariant-loop-declarator : goal.invariant-loop-declarator
invariant-loop-declarator l = SoFar TDeclarator bare_declarator declarator_numbers l.initial.list l.list l.declarator-index l.initial.counts l.counts

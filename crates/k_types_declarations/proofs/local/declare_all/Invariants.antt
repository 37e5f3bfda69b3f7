use Rattle.k_types_meaning.specs.Statements.{declare_all}
use Rattle.k_types_declarations.specs.Results.{seen}
use Rattle.k_types_declarations.proofs.Declaring.{Declares}
use Rattle.k_types_declarations.proofs.local.declare_all.Given as goal

abbrev pub invariant-loop-declarator : goal.invariant-loop-declarator
invariant-loop-declarator l =
    Declares l.saying l.declarator-items (declare_all l.saying (seen l.fn.known) l.list) l.declarator-index l.all (seen l.known)

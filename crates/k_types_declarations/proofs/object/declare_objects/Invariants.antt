use Rattle.std.proofs.Common.{ℕ, List, length}
use Rattle.k_types_meaning.specs.Units.{objects_placed}
use Rattle.k_types_declarations.proofs.Placing.{PlacesSoFar, known_with}
use Rattle.k_types_declarations.proofs.object.declare_objects.Given as goal

abbrev pub invariant-loop-declarator : goal.invariant-loop-declarator
invariant-loop-declarator l =
    (functions : List (List ℕ))
    → PlacesSoFar l.saying l.declarator-items functions
    (objects_placed l.saying (known_with l.fn.names (length l.fn.objects) functions) l.list)
    l.declarator-index l.names l.fn.objects l.objects

use Rattle.std.proofs.Common.{map}
use Rattle.k_types_meaning.specs.Initialisers.{giving, items_within}
use Rattle.k_types_declarations.proofs.BracesLaws.{PutsSoFar}
use Rattle.k_types_declarations.proofs.braces.+braces.Given as goal

abbrev pub invariant-put_all-loop-item : goal.invariant-put_all-loop-item
invariant-put_all-loop-item l =
    PutsSoFar l.names l.filled.file l.filled.kept l.filled.kind l.dims l.item-items
    (items_within l.filled.file l.filled.kind l.dims l.count l.first (map (giving l.names) l.items))
    l.item-index l.left l.element l.fn.found l.found

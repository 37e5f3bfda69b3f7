use Rattle.std.proofs.Common.{◌≡◌, ◌++◌, drop, length}
use Rattle.k_types_meaning.specs.Functions.{variables_from}
use Rattle.k_types.proofs.variables.variables_of.Given as goal

abbrev pub invariant-loop-index : goal.invariant-loop-index
invariant-loop-index l =
    l.list ++ variables_from l.index l.fn.taken (drop l.index l.variables) ≡ variables_from 0 l.fn.taken l.variables

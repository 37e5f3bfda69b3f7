use Rattle.std.proofs.Common.{◌≡◌, ◌++◌, drop}
use Rattle.k_marks_meaning.specs.Marking.{statements_in}
use Rattle.k_marks_jumps.proofs.walk.list_functions.Given as goal

abbrev pub invariant-loop-function : goal.invariant-loop-function
invariant-loop-function l =
    l.found.items ++ statements_in (drop l.function-index l.functions) ≡ l.fn.found.items ++ statements_in l.functions

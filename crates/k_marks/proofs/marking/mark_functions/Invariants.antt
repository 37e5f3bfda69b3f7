use Rattle.std.proofs.Common.{◌≡◌, ◌++◌, drop}
use Rattle.k_marks_meaning.specs.Marking.{counted_in, broken_in}
use Rattle.k_marks.proofs.marking.mark_functions.Given as goal

abbrev pub invariant-loop-function : goal.invariant-loop-function
invariant-loop-function l = record {
  counted : l.counted.items ++ counted_in (drop l.function-index l.functions) ≡ l.fn.counted.items ++ counted_in l.functions;
  broken : l.broken.items ++ broken_in (drop l.function-index l.functions) ≡ l.fn.broken.items ++ broken_in l.functions;
}

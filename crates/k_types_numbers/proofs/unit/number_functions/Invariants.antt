use Rattle.k_types_numbers.proofs.UnitForms.{FunctionsSoFar}
use Rattle.k_types_numbers.proofs.unit.number_functions.Given as goal

abbrev pub invariant-loop-function : goal.invariant-loop-function
invariant-loop-function l = FunctionsSoFar l.initial.functions l.functions l.function-index l.initial.counts l.counts

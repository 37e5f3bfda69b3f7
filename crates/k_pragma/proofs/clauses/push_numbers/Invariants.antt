use Rattle.std.proofs.Common.{◌≡◌, ◌++◌, drop}
use Rattle.k_pragma.specs.Clauses.{numbers_in}
use Rattle.k_pragma.proofs.clauses.push_numbers.Given as goal

abbrev pub invariant-loop-variable : goal.invariant-loop-variable
invariant-loop-variable l = record {
  counted : l.number ≡ l.variable-index;
  left :
      l.numbers.items ++ numbers_in l.occurs l.at l.clause l.number (drop l.variable-index l.variables)
      ≡ l.fn.numbers.items ++ numbers_in l.occurs l.at l.clause 0 l.variables;
}

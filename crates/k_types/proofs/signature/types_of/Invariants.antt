use Rattle.std.proofs.Common.{◌≡◌, ◌++◌, drop}
use Rattle.k_types_meaning.specs.Functions.{variable_types}
use Rattle.k_types.proofs.signature.types_of.Given as goal

abbrev pub invariant-loop-variable : goal.invariant-loop-variable
invariant-loop-variable l = l.types ++ variable_types (drop l.variable-index l.variables) ≡ variable_types l.variables

-- For contracts between crates: nobody has to believe it.
-- A variable of a function as a run has to know it.
use Rattle.std.specs.Prelude.{Bool}
use Rattle.k_types_meaning.specs.declared.tree.unit.TVariable.{TVariable}
use Rattle.k_types_meaning.specs.Functions.{object_elements}
use Rattle.k_types_meaning.specs.Statements.{Variable}
use Rattle.k_types_meaning.specs.Types.{told}

-- a variable, to which `&` is applied or not
abbrev pub variable_told : Variable → Bool → TVariable
variable_told v taken = record { place = v.place; of = told v.of; elements = object_elements v.of taken }

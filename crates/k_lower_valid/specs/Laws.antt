-- Believed with a public law.
-- What holds of lowered code as a text: the statement of the law.
use Rattle.k_code.specs.Valid.{IsValid}
use Rattle.k_evaluation.specs.States.{Program}
use Rattle.k_lower_code.specs.Programs.{flattened}
use Rattle.k_lower_valid.specs.Fitting.{FitsProgram}

-- the flat code of a program that fits is valid
abbrev pub LoweredCodeIsValid : Type 0
LoweredCodeIsValid = (program : Program) → FitsProgram program → IsValid (flattened program)

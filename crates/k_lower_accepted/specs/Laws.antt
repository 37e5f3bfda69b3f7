-- Believed with a public law.
-- What holds of each program as its source is accepted.
use Rattle.std.specs.Prelude.{ℕ, ◌≡◌, ◌≤◌, true, length, slice_get, Some}
use Rattle.k_tree.specs.declared.tree.unit.Unit as source
use Rattle.k_types_meaning.specs.declared.tree.unit.TFunc.{TFunc}
use Rattle.k_evaluation.specs.States.{Program}
use Rattle.k_code.specs.declared.code.CodeFunc.{CodeFunc}
use Rattle.k_lower_code.specs.Functions.{function}
use Rattle.k_lower_code.specs.Programs.{flattened}
use Rattle.k_lower_valid.specs.Fitting.{FitsProgram}
use Rattle.k_lower_accepted.specs.Accepted.{IsAccepted}
use Rattle.k_lower_accepted.specs.Sound.{body_sound}
use Rattle.k_lower_runs.specs.Sound.{calls_fit}

-- it fits, so that its flat code is valid
abbrev pub AcceptedProgramsFit : Type 0
AcceptedProgramsFit = (unit : source.Unit) (program : Program) → IsAccepted unit program → FitsProgram program

-- each expression of its functions is sound: its variables are the function's, and its calls fit
abbrev pub AcceptedProgramsAreSound : Type 0
AcceptedProgramsAreSound =
    (unit : source.Unit) (program : Program) (number : ℕ) (f : TFunc)
    → IsAccepted unit program → slice_get program.unit.functions number ≡ Some f
    → body_sound (length f.variables) (calls_fit program.unit) f.body ≡ true

-- Its flat code has few functions, instructions, regions and objects, and each function few registers and instructions: all of them are less than
-- 2^28, so that each number of one, and the sum of any two such numbers, is less than 2^32.
pub record IsSmall (program : Program) : Type 0 where
  pub funcs : length (flattened program).funcs ≤ 262144
  pub instrs : length (flattened program).instrs ≤ 134217728
  pub regions : length (flattened program).regions ≤ 524288
  pub objects : length (flattened program).objects ≤ 8650752
  pub each : (n : ℕ) (f : CodeFunc) → slice_get (flattened program).funcs n ≡ Some f → f.registers ≤ 524288
  pub sizes : (n : ℕ) (f : TFunc) → slice_get program.unit.functions n ≡ Some f → (function program n f).size ≤ 134217728

-- its code is small
abbrev pub AcceptedProgramsAreSmall : Type 0
AcceptedProgramsAreSmall = (unit : source.Unit) (program : Program) → IsAccepted unit program → IsSmall program

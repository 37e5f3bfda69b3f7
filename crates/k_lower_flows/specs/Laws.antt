-- Believed with a public law.
-- What holds of the runs of lowered programs: the statements of the laws.
use Rattle.std.specs.Prelude.{ℕ, ◌≡◌, List, slice_get, Some}
use Rattle.k_types_meaning.specs.declared.tree.unit.TFunc.{TFunc}
use Rattle.k_code.specs.Telling.{HasToldOutcome}
use Rattle.k_code.specs.Runs.{HasOutcome}
use Rattle.k_evaluation.specs.Deeds.{deeds, telling_run}
use Rattle.k_evaluation.specs.Runs.{ended, run}
use Rattle.k_evaluation.specs.States.{Program}
use Rattle.k_lower_code.specs.Programs.{flattened}
use Rattle.k_lower_runs.specs.Sound.{calls_fit}
use Rattle.k_lower_flows.specs.Functions.{IsSound}

-- A program is ready to be lowered: its main is there, and each of its functions is sound.
pub record IsReady (program : Program) : Type 0 where
  pub main : (f : TFunc) × (slice_get program.unit.functions program.unit.main ≡ Some f)
  pub functions : (number : ℕ) (f : TFunc) → slice_get program.unit.functions number ≡ Some f → IsSound program (calls_fit program.unit) f

-- THE RUN OF ITS FLAT CODE is the program's, on each input and under each budget: the same events in the same order, the same output and the same
-- end
abbrev pub CodeRunsAsItsProgram : Type 0
CodeRunsAsItsProgram =
    (program : Program) (input : List ℕ) (budget : ℕ) → IsReady program
    → HasOutcome (flattened program) input budget (run program input budget).events (run program input budget).output (run program input budget).end

-- so is that in which it is told what operations do, and its operations do what the program's do, in the same order
abbrev pub CodeDoesAsItsProgram : Type 0
CodeDoesAsItsProgram =
    (program : Program) (input : List ℕ) (budget : ℕ) → IsReady program
    → (let it = ended (telling_run program input budget) in HasToldOutcome (flattened program) input budget (deeds program input budget) it.events it.output it.end)

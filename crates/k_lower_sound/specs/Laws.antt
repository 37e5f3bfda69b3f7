-- Believed with a public law.
-- What holds of the functions and of the flat code of each program as its source is accepted.
use Rattle.std.specs.Prelude.{ℕ, ◌≡◌, List}
use Rattle.k_tree.specs.declared.tree.unit.Unit as source
use Rattle.k_marks_meaning.specs.Marking.{marks_of}
use Rattle.k_evaluation.specs.Deeds.{deeds, telling_run}
use Rattle.k_evaluation.specs.Runs.{ended, run}
use Rattle.k_evaluation.specs.States.{Program}
use Rattle.k_code.specs.Telling.{HasToldOutcome}
use Rattle.k_code.specs.Runs.{HasOutcome}
use Rattle.k_code.specs.Valid.{IsValid}
use Rattle.k_lower_code.specs.Programs.{flattened}
use Rattle.k_lower_flows.specs.Laws.{IsReady}
use Rattle.k_lower_accepted.specs.Accepted.{IsAccepted}
use Rattle.k_lower_sound.specs.Numbers.{GoUp, statements_of}

-- main is there, and each function is sound, where the marks of the program are those of its source
abbrev pub AcceptedProgramsAreReady : Type 0
AcceptedProgramsAreReady = (unit : source.Unit) (program : Program) → IsAccepted unit program → program.marks ≡ marks_of program.unit → IsReady program

-- ITS FLAT CODE is valid, and the run of it is the program's, on each input and under each budget: the same events in the same order, the same
-- output and the same end; where it is told what operations do, they do what those of the program do
pub record IsLowered (program : Program) : Type 0 where
  pub valid : IsValid (flattened program)
  pub runs : (input : List ℕ) (budget : ℕ)
      → HasOutcome (flattened program) input budget (run program input budget).events (run program input budget).output (run program input budget).end
  pub tells : (input : List ℕ) (budget : ℕ)
      → (let it = ended (telling_run program input budget) in HasToldOutcome (flattened program) input budget (deeds program input budget) it.events it.output it.end)

-- so it is of each accepted program, with the marks of its source
abbrev pub AcceptedProgramsAreLowered : Type 0
AcceptedProgramsAreLowered = (unit : source.Unit) (program : Program) → IsAccepted unit program → program.marks ≡ marks_of program.unit → IsLowered program

-- THE NUMBERS OF STATEMENTS of an accepted program go up in text order, and are less than its count of nodes: so no two statements have one number,
-- and a table with as many entries as there are nodes has one for each
abbrev pub AcceptedStatementsHaveNumbers : Type 0
AcceptedStatementsHaveNumbers = (unit : source.Unit) (program : Program) → IsAccepted unit program → GoUp 0 program.unit.nodes (statements_of program.unit.functions)

-- For contracts between crates: nobody has to believe it.
-- What lowered code does, where its program is that of an accepted source.
use Rattle.std.specs.Prelude.{ℕ, ◌≡◌, List}
use Rattle.k_tree.specs.declared.tree.unit.Unit as source
use Rattle.k_marks_meaning.specs.Marking.{marks_of}
use Rattle.k_evaluation.specs.Runs.{run}
use Rattle.k_evaluation.specs.States.{Program}
use Rattle.k_code.specs.declared.code.Code.{Code}
use Rattle.k_code.specs.Runs.{HasOutcome}
use Rattle.k_lower_accepted.specs.Accepted.{IsAccepted}

-- so it is where some source is accepted as this program, and the marks are those of its typed tree
abbrev pub WhereAccepted : Program → Type 0 → Type 0
WhereAccepted program claim = (unit : source.Unit) → IsAccepted unit program → program.marks ≡ marks_of program.unit → claim

-- THE RUN OF THIS CODE is the program's, on each input and under each budget: the same events in the same order, the same output and the same end
abbrev pub RunsAs : Program → Code → Type 0
RunsAs program code = (input : List ℕ) (budget : ℕ)
    → HasOutcome code input budget (run program input budget).events (run program input budget).output (run program input budget).end

-- For contracts between crates: nobody has to believe it.
-- The program whose run is listed.
use Rattle.std.specs.Prelude.{◌≡◌}
use Rattle.k_tree.specs.declared.tree.unit.Unit as source
use Rattle.k_marks_meaning.specs.Marking.{marks_of}
use Rattle.k_evaluation.specs.States.{Program}
use Rattle.k_lower_accepted.specs.Accepted.{IsAccepted}

-- a source is accepted as this program, and the marks are those of its typed tree
pub record IsOfSource (program : Program) : Type 0 where
  pub unit : source.Unit
  pub accepted : IsAccepted unit program
  pub marks : program.marks ≡ marks_of program.unit

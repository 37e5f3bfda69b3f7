-- For contracts between crates: nobody has to believe it.
-- What the functions that write a listing leave.
use Rattle.std.specs.Prelude.{ℕ, ◌≡◌, List, ◌++◌}
use Rattle.k_optab.specs.Events.{Operation}
use Rattle.k_graph.specs.declared.tree.Instance.{Instance}
use Rattle.k_report.specs.Graph.{AreInstanceLines}

-- the lines of these instances stand behind what was written
pub record AddsInstanceLines (ops : List Operation) (tree : List Instance) (old new : List ℕ) : Type 0 where
  pub lines : List ℕ
  pub are : AreInstanceLines ops 0 tree lines
  pub behind : new ≡ old ++ lines

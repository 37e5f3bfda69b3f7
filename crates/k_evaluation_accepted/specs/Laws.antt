-- Believed with a public law.
-- The values in the runs of each accepted source are of their kinds, without a further premise.
use Rattle.std.specs.Prelude.{ℕ, ◌≡◌, List, Ok}
use Rattle.k_tree.specs.declared.tree.unit.Unit as source
use Rattle.k_lex.specs.Tokens.{tokens}
use Rattle.k_evaluation.specs.States.{Program}
use Rattle.k_evaluation_laws.specs.Laws.{IsProgramOf}
use Rattle.k_lower_accepted.specs.Accepted.{IsAccepted}

-- SOME TEXT IS ACCEPTED as this program: the tokens of its bytes are those over which the tree stands
pub record IsAcceptedText (unit : source.Unit) (program : Program) : Type 0 where
  pub bytes : List ℕ
  pub accepted : IsAccepted unit program
  pub cut : tokens bytes ≡ Ok accepted.tokens

-- it is one of the programs whose values are of their kinds
abbrev pub AcceptedProgramsAreOfTheirSources : Type 0
AcceptedProgramsAreOfTheirSources = (unit : source.Unit) (program : Program) → IsAcceptedText unit program → IsProgramOf unit program

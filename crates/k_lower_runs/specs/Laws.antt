-- Believed with a public law.
-- What holds of the runs of lowered code: the statements of the laws.
use Rattle.std.specs.Prelude.{ℕ, ◌≡◌, Bool, true, List}
use Rattle.k_types_meaning.specs.declared.tree.expression.Node.{Node}
use Rattle.k_types_meaning.specs.declared.tree.expression.TExpr.{TExpr}
use Rattle.k_types_meaning.specs.declared.tree.unit.TVariable.{TVariable}
use Rattle.k_code.specs.declared.code.Code.{Code}
use Rattle.k_evaluation.specs.Expressions.{Calls, eval}
use Rattle.k_evaluation.specs.States.{Program}
use Rattle.k_lower_code.specs.Expressions.{lowered}
use Rattle.k_lower_runs.specs.Doing.{CallFollows, Does}
use Rattle.k_lower_runs.specs.Sound.{is_sound}

-- The code of an expression whose variables are among so many does what the expression means, with the same operations and the same end,
-- wherever the code has it; as far as the calls that fit do what the calls of the program do.
abbrev pub ExpressionsDoWhatTheyMean : Type 0
ExpressionsDoWhatTheyMean = (code : Code) (deep count : ℕ) (program : Program) (vs : List TVariable) (calls : Calls) (fits : Node → ℕ → Bool)
    → ((node : Node) (f : ℕ) → fits node f ≡ true → CallFollows code deep count program calls node f)
    → (e : TExpr) → is_sound count fits e ≡ true → Does code deep count (eval program vs calls e) (lowered program vs e)

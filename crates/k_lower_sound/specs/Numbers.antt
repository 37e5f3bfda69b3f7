-- Believed with a public law.
-- The numbers of the statements of a program.
use Rattle.std.specs.Prelude.{ℕ, suc, ◌≤◌, ◌<◌, List, [], ◌∷◌, ◌++◌, map, unwrap_or}
use Rattle.std.specs.List.{concat}
use Rattle.k_types_meaning.specs.declared.tree.statement.TPart.TheOpen.{TPart-F, TStmt-F}
use Rattle.k_types_meaning.specs.declared.tree.statement.TStmt.{TStmt, fold-TStmt}
use Rattle.k_types_meaning.specs.declared.tree.unit.TFunc.{TFunc}

-- the number of a statement and those of the statements in it, in text order, of whose statements and parts they are known
abbrev pub statement_step : TStmt-F (List ℕ) (List ℕ) → List ℕ
statement_step (TStmt-F.Expr spot e) = spot.number ∷ []
statement_step (TStmt-F.Empty spot) = spot.number ∷ []
statement_step (TStmt-F.Block spot parts) = spot.number ∷ concat parts
statement_step (TStmt-F.If spot test a b) = spot.number ∷ a ++ unwrap_or b []
statement_step (TStmt-F.While spot loop test body) = spot.number ∷ body
statement_step (TStmt-F.DoWhile spot loop body test) = spot.number ∷ body
statement_step (TStmt-F.For spot loop start test step body) = spot.number ∷ body
statement_step (TStmt-F.Switch spot kind on parts) = spot.number ∷ concat parts
statement_step (TStmt-F.Break spot) = spot.number ∷ []
statement_step (TStmt-F.Continue spot) = spot.number ∷ []
statement_step (TStmt-F.Return spot value) = spot.number ∷ []
statement_step (TStmt-F.Declare spot list) = spot.number ∷ []

-- those in a part of a switch, of whose statement they are known
abbrev pub part_step : TPart-F (List ℕ) (List ℕ) → List ℕ
part_step (TPart-F.Case place value) = []
part_step (TPart-F.Default place) = []
part_step (TPart-F.Does place ns) = ns

-- the number of a statement and those of the statements in it, in text order
abbrev pub statement_numbers : TStmt → List ℕ
statement_numbers = fold-TStmt (List ℕ) (List ℕ) part_step statement_step

-- those of the statements of functions
abbrev pub statements_of : List TFunc → List ℕ
statements_of fs = concat (map (λ (f : TFunc). concat (map statement_numbers f.body)) fs)

-- numbers go up, the first from `low` on, and all are less than `high`
abbrev pub GoUp : ℕ → ℕ → List ℕ → Type 0
GoUp low high [] = Unit {0}
GoUp low high (n ∷ ns) = (low ≤ n) × (n < high) × GoUp (suc n) high ns

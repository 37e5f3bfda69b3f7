-- Believed with a public law.
-- What lowering asks of the statements of a function: all their expressions are sound, and each declared variable is one of the function's.
use Rattle.std.specs.Prelude.{ℕ, ◌&&◌, Bool, true, List, map, Option, Some, None}
use Rattle.k_types_meaning.specs.declared.tree.expression.Node.{Node}
use Rattle.k_types_meaning.specs.declared.tree.statement.TStmt.{TStmt, fold-TStmt}
use Rattle.k_types_meaning.specs.declared.tree.statement.TPart.TheOpen.{TPart-F, TStmt-F}
use Rattle.k_lower_runs.specs.Sound.{all_true, is_sound, option_sound, declared_sound, first_sound}

-- what may be left out is
abbrev pub if_sound : Option Bool → Bool
if_sound None = true
if_sound (Some b) = b

-- a statement is sound, of whose statements and parts it is known
abbrev pub stmt_step : ℕ → (Node → ℕ → Bool) → TStmt-F Bool Bool → Bool
stmt_step count fits (TStmt-F.Expr spot e) = is_sound count fits e
stmt_step count fits (TStmt-F.Empty spot) = true
stmt_step count fits (TStmt-F.Block spot parts) = all_true parts
stmt_step count fits (TStmt-F.If spot test a b) = is_sound count fits test && (a && if_sound b)
stmt_step count fits (TStmt-F.While spot number test body) = is_sound count fits test && body
stmt_step count fits (TStmt-F.DoWhile spot number body test) = is_sound count fits test && body
stmt_step count fits (TStmt-F.For spot number start test step body) =
    first_sound count fits start && (option_sound count fits test && (option_sound count fits step && body))
stmt_step count fits (TStmt-F.Switch spot kind on parts) = is_sound count fits on && all_true parts
stmt_step count fits (TStmt-F.Break spot) = true
stmt_step count fits (TStmt-F.Continue spot) = true
stmt_step count fits (TStmt-F.Return spot value) = option_sound count fits value
stmt_step count fits (TStmt-F.Declare spot list) = declared_sound count fits list

-- a part of a switch is, of whose statement it is known
abbrev pub part_step : TPart-F Bool Bool → Bool
part_step (TPart-F.Case place z) = true
part_step (TPart-F.Default place) = true
part_step (TPart-F.Does place s) = s

-- a statement is sound, in a function with so many variables, by which calls fit
abbrev pub stmt_sound : ℕ → (Node → ℕ → Bool) → TStmt → Bool
stmt_sound count fits = fold-TStmt Bool Bool part_step (stmt_step count fits)

-- the block of a function is
abbrev pub body_sound : ℕ → (Node → ℕ → Bool) → List TStmt → Bool
body_sound count fits body = all_true (map (stmt_sound count fits) body)

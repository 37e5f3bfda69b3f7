-- Believed with a public law.
-- The loops that stand in a function.
use Rattle.std.specs.Prelude.{ℕ, ◌≡◌, List, [], ◌∷◌, ◌++◌, map, slice_get, Option, Some, None}
use Rattle.k_types_meaning.specs.declared.tree.expression.TExpr.{TExpr}
use Rattle.k_types_meaning.specs.declared.tree.statement.Spot.{Spot}
use Rattle.k_types_meaning.specs.declared.tree.statement.TFirst.{TFirst}
use Rattle.k_types_meaning.specs.declared.tree.statement.TFirst.TheVariants as first
use Rattle.k_types_meaning.specs.declared.tree.statement.TStmt.{TStmt, fold-TStmt}
use Rattle.k_types_meaning.specs.declared.tree.statement.TStmt.TheVariants as stmt
use Rattle.k_types_meaning.specs.declared.tree.statement.TPart.{TPart, fold-TPart}
use Rattle.k_types_meaning.specs.declared.tree.statement.TPart.TheVariants as part
use Rattle.k_types_meaning.specs.declared.tree.statement.TPart.TheOpen.{TPart-F, TStmt-F}
use Rattle.k_types_meaning.specs.declared.tree.unit.TFunc.{TFunc}
use Rattle.k_marks_laws.specs.Turns.{TLoop}

-- a statement, and the loops that stand in it
pub record Standing : Type 0 where
  pub itself : TStmt
  pub loops : List TLoop

-- a part of a switch, and the loops that stand in it
pub record StandingPart : Type 0 where
  pub itself : TPart
  pub loops : List TLoop

-- a statement in which these stand
abbrev pub standing_with : TStmt → List TLoop → Standing
standing_with s loops = record { itself = s; loops = loops }

-- a part in which these stand
abbrev pub part_with : TPart → List TLoop → StandingPart
part_with p loops = record { itself = p; loops = loops }

-- the loops in several statements, one behind another
abbrev pub loops_of_all : List Standing → List TLoop
loops_of_all [] = []
loops_of_all (s ∷ ss) = s.loops ++ loops_of_all ss

-- the loops in several parts, one behind another
abbrev pub loops_of_parts : List StandingPart → List TLoop
loops_of_parts [] = []
loops_of_parts (p ∷ ps) = p.loops ++ loops_of_parts ps

-- an `if` without an `else` or with one
abbrev pub standing_if : Spot → TExpr → Standing → Option Standing → Standing
standing_if spot test a None = standing_with (stmt.If spot test a.itself None) a.loops
standing_if spot test a (Some b) = standing_with (stmt.If spot test a.itself (Some b.itself)) (a.loops ++ b.loops)

-- this loop
abbrev pub loop_at : Spot → ℕ → TFirst → Option TExpr → Option TExpr → TStmt → TLoop
loop_at spot number start test step body = record { spot = spot; number = number; start = start; test = test; step = step; body = body }

-- a `while` or a `do`: neither start nor step
abbrev pub tested_at : Spot → ℕ → TExpr → TStmt → TLoop
tested_at spot number test body = loop_at spot number first.Nothing (Some test) None body

-- a statement, of whose statements and parts it is known which loops stand in them
abbrev pub standing_step : TStmt-F StandingPart Standing → Standing
standing_step (TStmt-F.Expr spot e) = standing_with (stmt.Expr spot e) []
standing_step (TStmt-F.Empty spot) = standing_with (stmt.Empty spot) []
standing_step (TStmt-F.Block spot parts) = standing_with (stmt.Block spot (map (λ (s : Standing). s.itself) parts)) (loops_of_all parts)
standing_step (TStmt-F.If spot test a b) = standing_if spot test a b
standing_step (TStmt-F.While spot number test a) = standing_with (stmt.While spot number test a.itself) (tested_at spot number test a.itself ∷ a.loops)
standing_step (TStmt-F.DoWhile spot number a test) = standing_with (stmt.DoWhile spot number a.itself test) (tested_at spot number test a.itself ∷ a.loops)
standing_step (TStmt-F.For spot number start test step a) =
    standing_with (stmt.For spot number start test step a.itself) (loop_at spot number start test step a.itself ∷ a.loops)
standing_step (TStmt-F.Switch spot kind on parts) = standing_with (stmt.Switch spot kind on (map (λ (p : StandingPart). p.itself) parts)) (loops_of_parts parts)
standing_step (TStmt-F.Break spot) = standing_with (stmt.Break spot) []
standing_step (TStmt-F.Continue spot) = standing_with (stmt.Continue spot) []
standing_step (TStmt-F.Return spot value) = standing_with (stmt.Return spot value) []
standing_step (TStmt-F.Declare spot list) = standing_with (stmt.Declare spot list) []

-- a part of a switch, of whose statement it is known which loops stand in it
abbrev pub standing_part_step : TPart-F StandingPart Standing → StandingPart
standing_part_step (TPart-F.Case p value) = part_with (part.Case p value) []
standing_part_step (TPart-F.Default p) = part_with (part.Default p) []
standing_part_step (TPart-F.Does p s) = part_with (part.Does p s.itself) s.loops

-- a statement, with the loops that stand in it
abbrev pub standing : TStmt → Standing
standing = fold-TStmt StandingPart Standing standing_part_step standing_step

-- a part of a switch, with the loops that stand in it
abbrev pub standing_part : TPart → StandingPart
standing_part = fold-TPart StandingPart Standing standing_part_step standing_step

-- the loops in a statement, in text order
abbrev pub loops_in : TStmt → List TLoop
loops_in s = (standing s).loops

-- THE LOOPS of a function, in text order: each `while`, `do` and `for`
abbrev pub loops_of : TFunc → List TLoop
loops_of f = loops_of_all (map standing f.body)

-- a loop stands in a function
abbrev pub StandsIn : TLoop → TFunc → Type 0
StandsIn l f = (k : ℕ) × (slice_get (loops_of f) k ≡ Some l)

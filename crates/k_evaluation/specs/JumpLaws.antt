-- Believed with a public law.
-- The jumps that lead out of a statement: *Marks* lists each statement with those that *Evaluation* finds in it.
use Rattle.std.specs.Prelude.{◌≡◌, List, [], ◌∷◌, ◌++◌}
use Rattle.k_types_meaning.specs.declared.tree.statement.Spot.{Spot}
use Rattle.k_types_meaning.specs.declared.tree.statement.TPart.TheOpen.{TStmt-F}
use Rattle.k_types_meaning.specs.declared.tree.statement.TStmt.{TStmt, out-TStmt}
use Rattle.k_marks_meaning.specs.declared.jumps.Jumps.{Jumps}
use Rattle.k_marks_meaning.specs.declared.jumps.StatementJumps.{StatementJumps}
use Rattle.k_marks_meaning.specs.Contents.{inside}
use Rattle.k_evaluation.specs.Flows.{Within}
use Rattle.k_evaluation.specs.Statements.{does}

-- the spot of a statement, whatever is in it
abbrev pub spot_in : {P S : Type 0} → TStmt-F P S → Spot
spot_in (TStmt-F.Expr spot e) = spot
spot_in (TStmt-F.Empty spot) = spot
spot_in (TStmt-F.Block spot parts) = spot
spot_in (TStmt-F.If spot test a b) = spot
spot_in (TStmt-F.While spot number test body) = spot
spot_in (TStmt-F.DoWhile spot number body test) = spot
spot_in (TStmt-F.For spot number start test step body) = spot
spot_in (TStmt-F.Switch spot kind on parts) = spot
spot_in (TStmt-F.Break spot) = spot
spot_in (TStmt-F.Continue spot) = spot
spot_in (TStmt-F.Return spot value) = spot
spot_in (TStmt-F.Declare spot list) = spot

-- the spot of a statement
abbrev pub spot_of : TStmt → Spot
spot_of s = spot_in (out-TStmt s)

-- *Marks* lists of a statement first those in it, and then itself: its number, and as the jumps that lead out of it those that *Evaluation* finds.
-- Where one does, `leaves` has the flag of that number.
abbrev pub StatementsAreListed : Type 0
StatementsAreListed =
    (w : Within) (s : TStmt)
    → (within : List StatementJumps) × (parts : Jumps)
    × ((inside s).statements ≡ within ++ (record { number = (spot_of s).number; parts = parts; itself = (does w s).jumps }) ∷ [])

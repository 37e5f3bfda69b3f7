-- For contracts between crates: nobody has to believe it.
-- Where a statement stands once it is lowered.
use Rattle.std.specs.Prelude.{map}
use Rattle.k_num.specs.declared.place.Place.{Place}
use Rattle.k_types_meaning.specs.declared.tree.statement.TPart.{TPart}
use Rattle.k_types_meaning.specs.declared.tree.statement.TPart.TheOpen.{TStmt-F}
use Rattle.k_types_meaning.specs.declared.tree.statement.TStmt.{TStmt}
use Rattle.k_lower_code.specs.Declarations.{declares_all, starts_with}
use Rattle.k_lower_code.specs.Statements.{lowered}
use Rattle.k_lower_code.specs.Stretches.{Inside, in_order}

-- a block stands where its first statement does, a declaration and a `for` that declares where their first variable does, and any other statement at its spot
abbrev pub place_by : Inside → TStmt-F TPart TStmt → Place
place_by w (TStmt-F.Expr spot e) = spot.place
place_by w (TStmt-F.Empty spot) = spot.place
place_by w (TStmt-F.Block spot parts) = (in_order w.program spot.place (map (lowered w) parts)).place
place_by w (TStmt-F.If spot test a b) = spot.place
place_by w (TStmt-F.While spot number test body) = spot.place
place_by w (TStmt-F.DoWhile spot number body test) = spot.place
place_by w (TStmt-F.For spot number start test step body) = (starts_with w spot.place start).place
place_by w (TStmt-F.Switch spot kind on parts) = spot.place
place_by w (TStmt-F.Break spot) = spot.place
place_by w (TStmt-F.Continue spot) = spot.place
place_by w (TStmt-F.Return spot value) = spot.place
place_by w (TStmt-F.Declare spot list) = (declares_all w spot.place list).place

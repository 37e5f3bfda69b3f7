-- Believed with a public law.
-- Declarations in a typed function stand where they may: directly in a block, or in the first part of a `for`.
use Rattle.std.specs.Prelude.{Bool, true, false, ◌&&◌, List, [], ◌∷◌, map, Option, Some, None}
use Rattle.k_types_meaning.specs.declared.tree.statement.TStmt.{TStmt, fold-TStmt}
use Rattle.k_types_meaning.specs.declared.tree.statement.TPart.TheOpen.{TPart-F, TStmt-F}

-- whether a statement is right, by whether a declaration may stand in its place
abbrev pub Placing : Type 0
Placing = Bool → Bool

-- all these are right
abbrev pub all_placed : Bool → List Placing → Bool
all_placed here [] = true
all_placed here (s ∷ ss) = s here && all_placed here ss

-- what may be left out is right, where no declaration may stand
abbrev pub option_placed : Option Placing → Bool
option_placed None = true
option_placed (Some s) = s false

-- C17 6.8.2p1, 6.8.4, 6.8.5: whether a statement is right, of whose statements and parts it is known: a declaration is no statement,
-- and stands directly in a block
abbrev pub placed_step : TStmt-F Placing Placing → Placing
placed_step (TStmt-F.Expr spot e) here = true
placed_step (TStmt-F.Empty spot) here = true
placed_step (TStmt-F.Block spot parts) here = all_placed true parts
placed_step (TStmt-F.If spot test a b) here = a false && option_placed b
placed_step (TStmt-F.While spot number test body) here = body false
placed_step (TStmt-F.DoWhile spot number body test) here = body false
placed_step (TStmt-F.For spot number start test step body) here = body false
placed_step (TStmt-F.Switch spot kind on parts) here = all_placed false parts
placed_step (TStmt-F.Break spot) here = true
placed_step (TStmt-F.Continue spot) here = true
placed_step (TStmt-F.Return spot value) here = true
placed_step (TStmt-F.Declare spot list) here = here

-- C17 6.8.4.2: whether a part of a switch is right, of whose statement it is known
abbrev pub placed_part : TPart-F Placing Placing → Placing
placed_part (TPart-F.Case place value) here = true
placed_part (TPart-F.Default place) here = true
placed_part (TPart-F.Does place s) here = s here

-- C17 6.8: whether the declarations in a statement stand where they may, by whether one may stand in its place
abbrev pub stmt_placed : TStmt → Placing
stmt_placed = fold-TStmt Placing Placing placed_part placed_step

-- whether the declarations in the block of a function stand where they may
abbrev pub body_placed : List TStmt → Bool
body_placed body = all_placed true (map stmt_placed body)

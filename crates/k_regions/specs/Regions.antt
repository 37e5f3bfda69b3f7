-- Believed with the theorem on the top call.
-- The regions of a source: its functions, its loops and their bodies. Regions are numbered in text order: each defined function, and in it each
-- loop directly followed by its body.
use Rattle.std.specs.Prelude.{ℕ, List, [], ◌∷◌, ◌++◌, map, Option, Some, None}
use Rattle.k_num.specs.declared.place.Place.{Place}
use Rattle.k_optab.specs.declared.region.Region.{Region}
use Rattle.k_optab.specs.declared.region.RegionKind.{RegionKind}
use Rattle.k_optab.specs.declared.region.RegionKind.TheVariants.{Func, Loop, Body}
use Rattle.k_types_meaning.specs.declared.tree.statement.Spot.{Spot}
use Rattle.k_types_meaning.specs.declared.tree.statement.TPart.{TPart, fold-TPart}
use Rattle.k_types_meaning.specs.declared.tree.statement.TPart.TheOpen.{TPart-F, TStmt-F}
use Rattle.k_types_meaning.specs.declared.tree.statement.TStmt.{TStmt, fold-TStmt}
use Rattle.k_types_meaning.specs.declared.tree.unit.TFunc.{TFunc}
use Rattle.k_types_meaning.specs.declared.tree.unit.TUnit.{TUnit}
use Rattle.k_regions.specs.declared.loops.LoopAt.{LoopAt}

-- what is found in a statement: where it stands, and its loops in text order
pub record Located : Type 0 where
  pub place : Place
  pub loops : List LoopAt

-- the loops in several statements, one behind another
abbrev pub loops_of_all : List Located → List LoopAt
loops_of_all [] = []
loops_of_all (s ∷ ss) = s.loops ++ loops_of_all ss

-- the loops in a statement that may be left out
abbrev pub loops_if_there : Option Located → List LoopAt
loops_if_there None = []
loops_if_there (Some s) = s.loops

-- a statement at this spot that has these loops
abbrev pub found : Spot → List LoopAt → Located
found spot loops = record { place = spot.place; loops = loops }

-- a loop of this number goes before those in its body
abbrev pub found_loop : Spot → ℕ → Located → Located
found_loop spot number body = found spot (record { number = number; place = spot.place; body = body.place } ∷ body.loops)

-- a statement, of whose statements and parts it is known what is found in them
abbrev pub stmt_step : TStmt-F Located Located → Located
stmt_step (TStmt-F.Expr spot e) = found spot []
stmt_step (TStmt-F.Empty spot) = found spot []
stmt_step (TStmt-F.Block spot parts) = found spot (loops_of_all parts)
stmt_step (TStmt-F.If spot test first second) = found spot (first.loops ++ loops_if_there second)
stmt_step (TStmt-F.While spot number test body) = found_loop spot number body
stmt_step (TStmt-F.DoWhile spot number body test) = found_loop spot number body
stmt_step (TStmt-F.For spot number start test step body) = found_loop spot number body
stmt_step (TStmt-F.Switch spot kind on parts) = found spot (loops_of_all parts)
stmt_step (TStmt-F.Break spot) = found spot []
stmt_step (TStmt-F.Continue spot) = found spot []
stmt_step (TStmt-F.Return spot value) = found spot []
stmt_step (TStmt-F.Declare spot list) = found spot []

-- a part of a switch, of whose statement it is known what is found in it
abbrev pub part_step : TPart-F Located Located → Located
part_step (TPart-F.Case place value) = record { place = place; loops = [] }
part_step (TPart-F.Default place) = record { place = place; loops = [] }
part_step (TPart-F.Does place s) = record { place = place; loops = s.loops }

-- what is found in a statement
abbrev pub find : TStmt → Located
find = fold-TStmt Located Located part_step stmt_step

-- what is found in a part of a switch
abbrev pub find_part : TPart → Located
find_part = fold-TPart Located Located part_step stmt_step

-- the loops of a function in text order
abbrev pub loops_of : TFunc → List LoopAt
loops_of f = loops_of_all (map find f.body)

-- a region of a function of this name
abbrev pub region : RegionKind → List ℕ → Place → Region
region kind name place = record { kind = kind; func = name; place = place }

-- the region of a function
abbrev pub function_itself : TFunc → Region
function_itself f = region Func f.name f.place

-- the region of a loop of a function of this name
abbrev pub loop_itself : List ℕ → LoopAt → Region
loop_itself name l = region Loop name l.place

-- the region of its body
abbrev pub body_itself : List ℕ → LoopAt → Region
body_itself name l = region Body name l.body

-- the regions of these loops of a function of this name: each loop is directly followed by its body
abbrev pub regions_of_loops : List ℕ → List LoopAt → List Region
regions_of_loops name [] = []
regions_of_loops name (l ∷ loops) = loop_itself name l ∷ body_itself name l ∷ regions_of_loops name loops

-- the regions of functions, in their order
abbrev pub regions_in : List TFunc → List Region
regions_in [] = []
regions_in (f ∷ fs) = function_itself f ∷ (regions_of_loops f.name (loops_of f) ++ regions_in fs)

-- THE REGIONS of a typed source, in the order of their numbers
unfoldable pub regions_of : TUnit → List Region
regions_of typed = regions_in typed.functions

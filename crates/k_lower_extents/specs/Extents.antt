-- For contracts between crates: nobody has to believe it.
-- The extents of statements as they are lowered, and what a table by their numbers has to tell.
use Rattle.std.specs.Prelude.{ℕ, ◌≡◌, List, [], ◌∷◌, ◌++◌, map, slice_get, slice_set, Option, Some, None}
use Rattle.std.specs.List.{AllByRecursion}
use Rattle.k_num.specs.declared.place.Place.{Place}
use Rattle.k_types_meaning.specs.declared.tree.statement.Spot.{Spot}
use Rattle.k_types_meaning.specs.declared.tree.statement.TPart.{TPart, fold-TPart}
use Rattle.k_types_meaning.specs.declared.tree.statement.TPart.TheOpen.{TPart-F, TStmt-F}
use Rattle.k_types_meaning.specs.declared.tree.statement.TStmt.{TStmt, fold-TStmt, map-TStmt}
use Rattle.k_types_meaning.specs.declared.tree.unit.TFunc.{TFunc}
use Rattle.k_evaluation.specs.JumpLaws.{spot_in}
use Rattle.k_evaluation.specs.States.{Program}
use Rattle.k_lower_code.specs.Functions.{function, inside}
use Rattle.k_lower_code.specs.Statements.{lower_step, part_step}
use Rattle.k_lower_code.specs.Stretches.{Inside, Stretch, in_order}
use Rattle.k_lower_code.specs.Switches.{PartLowered}
use Rattle.k_lower_extents.specs.declared.extent.Extent.{Extent}
use Rattle.k_lower_extents.specs.declared.extent.NumberedExtent.{NumberedExtent}
use Rattle.k_lower_extents.specs.declared.unit.Extents.{Extents}

-- the extent of a stretch
abbrev pub extent_of : Stretch → Extent
extent_of s = record { size = s.size; jumps = s.jumps; opens = s.opens }

-- how a part of a switch is lowered
abbrev pub lowered_part : Inside → TPart → PartLowered
lowered_part w = fold-TPart PartLowered Stretch part_step (lower_step w)

-- the extents of statements one behind the other, from the first on, from the second on, and so on, to that of nothing
abbrev pub rests_of : Program → Place → List Stretch → List Extent
rests_of program place [] = extent_of (in_order program place []) ∷ []
rests_of program place (s ∷ ss) = extent_of (in_order program place (s ∷ ss)) ∷ rests_of program place ss

-- A statement as it is lowered, and the extents of the statements in it and its own, each behind those in it, with their numbers.
pub record Listed : Type 0 where
  pub itself : Stretch
  pub extents : List NumberedExtent

-- A part of a switch as it is lowered, and the extents of the statements in it.
pub record PartListed : Type 0 where
  pub part : PartLowered
  pub extents : List NumberedExtent

-- the extents in statements
abbrev pub all_extents : List Listed → List NumberedExtent
all_extents [] = []
all_extents (s ∷ ss) = s.extents ++ all_extents ss

-- those in a statement that may be left out
abbrev pub option_extents : Option Listed → List NumberedExtent
option_extents None = []
option_extents (Some s) = s.extents

-- those in the parts of a switch
abbrev pub parts_extents : List PartListed → List NumberedExtent
parts_extents [] = []
parts_extents (p ∷ ps) = p.extents ++ parts_extents ps

-- a statement at this spot, with the extents of the statements in it
abbrev pub listed_at : Spot → List NumberedExtent → Stretch → Listed
listed_at spot within s = record { itself = s; extents = within ++ record { number = spot.number; extent = extent_of s } ∷ [] }

-- the extents in the parts of a statement
abbrev pub extents_within : TStmt-F PartListed Listed → List NumberedExtent
extents_within (TStmt-F.Expr spot e) = []
extents_within (TStmt-F.Empty spot) = []
extents_within (TStmt-F.Block spot parts) = all_extents parts
extents_within (TStmt-F.If spot test a b) = a.extents ++ option_extents b
extents_within (TStmt-F.While spot number test body) = body.extents
extents_within (TStmt-F.DoWhile spot number body test) = body.extents
extents_within (TStmt-F.For spot number start test step body) = body.extents
extents_within (TStmt-F.Switch spot kind on parts) = parts_extents parts
extents_within (TStmt-F.Break spot) = []
extents_within (TStmt-F.Continue spot) = []
extents_within (TStmt-F.Return spot value) = []
extents_within (TStmt-F.Declare spot list) = []

-- how a statement is lowered, of whose statements and parts it is known
abbrev pub itself_of : Inside → TStmt-F PartListed Listed → Stretch
itself_of w y = lower_step w (map-TStmt PartListed Listed PartLowered Stretch (λ (p : PartListed). p.part) (λ (s : Listed). s.itself) y)

-- a statement, of whose statements and parts it is known
abbrev pub listed_step : Inside → TStmt-F PartListed Listed → Listed
listed_step w y = listed_at (spot_in y) (extents_within y) (itself_of w y)

-- a part of a switch, of whose statement it is known
abbrev pub listed_part_step : TPart-F PartListed Listed → PartListed
listed_part_step (TPart-F.Case place z) = record { part = part_step (TPart-F.Case place z); extents = [] }
listed_part_step (TPart-F.Default place) = record { part = part_step (TPart-F.Default place); extents = [] }
listed_part_step (TPart-F.Does place s) = record { part = part_step (TPart-F.Does place s.itself); extents = s.extents }

-- a statement with the extents in it
abbrev pub listed : Inside → TStmt → Listed
listed w = fold-TStmt PartListed Listed listed_part_step (listed_step w)

-- a part of a switch with the extents in it
abbrev pub listed_part : Inside → TPart → PartListed
listed_part w = fold-TPart PartListed Listed listed_part_step (listed_step w)

-- an entry that was not set is set
abbrev pub Notes : List (Option Extent) → List (Option Extent) → NumberedExtent → Type 0
Notes old new x = (slice_get old x.number ≡ Some None) × (new ≡ slice_set old x.number (Some x.extent))

-- a table has this extent at its number
abbrev pub IsEntry : List (Option Extent) → NumberedExtent → Type 0
IsEntry table x = slice_get table x.number ≡ Some (Some x.extent)

-- a table has all these
abbrev pub AreEntries : List (Option Extent) → List NumberedExtent → Type 0
AreEntries table xs = AllByRecursion (IsEntry table) xs

-- A TABLE HAS THE EXTENT of a statement and of each statement in it, at its number
abbrev pub AreExtents : List (Option Extent) → Inside → TStmt → Type 0
AreExtents table w s = AreEntries table (listed w s).extents

-- it has those of several statements
abbrev pub AreAllExtents : List (Option Extent) → Inside → List TStmt → Type 0
AreAllExtents table w ss = AreEntries table (all_extents (map (listed w) ss))

-- it has those of the parts of a switch
abbrev pub ArePartsExtents : List (Option Extent) → Inside → List TPart → Type 0
ArePartsExtents table w ps = AreEntries table (parts_extents (map (listed_part w) ps))

-- THESE ARE THE EXTENTS of a program: the table has those of the statements of each function, and the list the sizes of functions.
pub record HasExtents (program : Program) (x : Extents) : Type 0 where
  pub statements : (n : ℕ) (f : TFunc) → slice_get program.unit.functions n ≡ Some f
      → AreAllExtents x.statements (inside program n f) f.body
  pub functions : (n : ℕ) (f : TFunc) → slice_get program.unit.functions n ≡ Some f
      → slice_get x.functions n ≡ Some (function program n f).size

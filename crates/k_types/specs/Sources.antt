-- For contracts between crates: nobody has to believe it.
-- What judging the items of a source gives.
use Rattle.std.specs.Prelude.{◌≡◌, Result, Ok, Err}
use Rattle.k_tree.specs.declared.tree.unit.Unit as source
use Rattle.k_types_meaning.specs.declared.fault.TypeFault.{TypeFault}
use Rattle.k_types_meaning.specs.declared.tree.unit.TUnit.{TUnit}
use Rattle.k_types_meaning.specs.Made.{Fine}
use Rattle.k_types_meaning.specs.Units.{Parts, tree_of_parts, unit_placed}
use Rattle.k_types_rules.specs.Views.{Refuses}

-- the items of a source have no fault, and come to this tree; or they have a fault first
abbrev pub GivesTree : Result TUnit TypeFault → source.Unit → Type 0
GivesTree (Ok tree) unit = (parts : Parts) × ((unit_placed unit).made ≡ Fine parts) × (tree ≡ tree_of_parts unit parts)
GivesTree (Err f) unit = Refuses f (unit_placed unit).made

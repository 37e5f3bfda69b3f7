-- Believed with a public law.
-- What typing makes, before it is numbered.
use Rattle.std.specs.Prelude.{◌≡◌}
use Rattle.k_tree.specs.declared.tree.unit.Unit as source
use Rattle.k_types_meaning.specs.Bare.{bare_unit}
use Rattle.k_types_meaning.specs.Made.{Fine}
use Rattle.k_types_meaning.specs.Units.{Parts, tree_of_parts, unit_placed}

-- the tree of the parts of a source has no numbers
abbrev pub TypingMakesNoNumbers : Type 0
TypingMakesNoNumbers =
    (unit : source.Unit) (parts : Parts) → (unit_placed unit).made ≡ Fine parts → bare_unit (tree_of_parts unit parts) ≡ tree_of_parts unit parts

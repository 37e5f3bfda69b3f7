-- Believed with a public law.
-- That a source has at most one typed tree.
use Rattle.std.specs.Prelude.{◌≡◌}
use Rattle.k_tree.specs.declared.tree.unit.Unit as source
use Rattle.k_types_meaning.specs.declared.tree.unit.TUnit.{TUnit}
use Rattle.k_types_meaning.specs.Bare.{bare_unit, IsTyped}
use Rattle.k_types_meaning.specs.Numbered.{IsNumbered}

-- Two numbered trees that are the same but for their numbers are one.
abbrev pub OneNumbering : Type 0
OneNumbering = (a b : TUnit) → bare_unit a ≡ bare_unit b → IsNumbered a → IsNumbered b → a ≡ b

-- Two typed trees of a source are one.
abbrev pub OneTypedTree : Type 0
OneTypedTree = (unit : source.Unit) (a b : TUnit) → IsTyped unit a → IsTyped unit b → a ≡ b

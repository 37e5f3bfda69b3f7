-- A source whose items have no fault has a typed tree.
use Rattle.std.proofs.Common.{◌≡◌, ◌∙◌, List, [], ◌∷◌, ◌++◌, refl}
use Rattle.k_tree.specs.declared.tree.unit.Unit as source
use Rattle.k_types_meaning.specs.declared.fault.TypeFault.{TypeFault}
use Rattle.k_types_meaning.specs.declared.tree.unit.TUnit.{TUnit}
use Rattle.k_types_meaning.specs.Bare.{IsTyped, bare_unit}
use Rattle.k_types_meaning.specs.Made.{Made, Fine, Faulty, faults_of}
use Rattle.k_types_meaning.specs.Units.{Parts, call_faults, faults, main_faults, tree_of_parts, unit_placed}
use Rattle.k_types_numbers.specs.Steps.{nothing_counted}
use Rattle.k_types_numbers.proofs.UnitForms.{unit_numbered, with_counts}
use Rattle.k_types_bare.proofs.Units.{tree_bare}
use Rattle.k_top_exists.specs.Sources.{FaultlessSourcesAreTyped}
use Rattle.k_top_exists.proofs.Numbering.{MadeFunctions, can_functions}

-- items that come to these parts have a typed tree, though a call or main may be at fault
pub parts_typed : (unit : source.Unit) (parts : Parts) → (unit_placed unit).made ≡ Fine parts → (typed : TUnit) × IsTyped unit typed
unfolding IsTyped
parts_typed unit parts made =
    let done : MadeFunctions parts.functions nothing_counted = can_functions parts.functions nothing_counted in
    let typed : TUnit = with_counts (tree_of_parts unit parts) done.made done.behind in
    let same : bare_unit typed ≡ bare_unit (tree_of_parts unit parts) = λ i. record (tree_of_parts unit parts) { functions = done.numbered.same i } in (
      typed,
      (parts, made, same ∙ tree_bare unit parts made, unit_numbered (tree_of_parts unit parts) done.made nothing_counted done.behind refl done.numbered),
    )

some_fault : (f : TypeFault) (fs : List TypeFault) → f ∷ fs ≡ [] → ⊥
some_fault f fs e = cc

-- what has no fault, before other faults, is made
made_of : (m : Made Parts) (others : List TypeFault) → faults_of m ++ others ≡ [] → (parts : Parts) × (m ≡ Fine parts)
made_of (Fine parts) others none = (parts, refl)
made_of (Faulty f fs) others none = absurd (some_fault f (fs ++ others) none)

-- the items of a source without a fault come to parts
parts_of : (unit : source.Unit) → faults unit ≡ [] → (parts : Parts) × ((unit_placed unit).made ≡ Fine parts)
unfolding faults
parts_of unit none = made_of (unit_placed unit).made (call_faults unit ++ main_faults unit) none

-- a source without a fault has a typed tree
pub faultless_sources_are_typed : FaultlessSourcesAreTyped
faultless_sources_are_typed unit none = let found = parts_of unit none in parts_typed unit found.0 found.1

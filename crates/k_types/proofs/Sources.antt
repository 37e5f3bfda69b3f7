-- The typing of a source, from that of its items, its calls and its main.
use Rattle.std.proofs.Common.{ℕ, ◌≡◌, refl, sym, ap, ◌∙◌, subst, inl, inr, List, [], ◌∷◌, ◌++◌, length, map, drop, take, Ok, Err}
use Rattle.std.specs.Prelude.{codes}
use Rattle.k_tree.specs.declared.tree.unit.Unit as source
use Rattle.k_types_meaning.specs.declared.fault.TypeFault.{TypeFault}
use Rattle.k_types_meaning.specs.declared.tree.unit.TUnit.{TUnit}
use Rattle.k_types_meaning.specs.Bare.{IsTyped, bare_unit}
use Rattle.k_types_meaning.specs.Made.{Made, Fine, faults_of}
use Rattle.k_types_meaning.specs.Numbered.{IsNumbered}
use Rattle.k_types_meaning.specs.declared.tree.unit.TFunc.{TFunc}
use Rattle.k_types_meaning.specs.Names.{place_in}
use Rattle.k_types_meaning.specs.Units.{Parts, Placed, all_names, call_faults, defined_by, defined_in, faults, items_placed, main_faults, nothing_known, tree_of_parts, unit_placed}
use Rattle.k_types_rules.specs.Views.{Refuses}
use Rattle.k_types.specs.declared.item.File.{File}
use Rattle.k_types.specs.Items.{IsNew, PlacesItems, known_in}
use Rattle.k_types.specs.Results.{IsFirstFault, Tests}
use Rattle.k_types.specs.Sources.{GivesTree}
use Rattle.k_types_bare.proofs.Units.{tree_bare}
use Rattle.k_types.proofs.Faults.{first_made, first_of_more}

-- what is known at the start
start_is : (defined : List (List ℕ)) (file : File) → IsNew file → known_in defined file ≡ nothing_known
start_is defined file new = λ i. record {
  names = new.names i;
  objects = length (new.objects i);
  functions = take (length (new.functions i)) defined;
}

module _ (unit : source.Unit) where
  -- a fault of an item is the first of the source
  pub items_refused : (f : TypeFault) → GivesTree (Err f) unit → IsFirstFault f (faults unit)
  unfolding faults
  items_refused f refuses = first_of_more f (faults_of (unit_placed unit).made) (call_faults unit ++ main_faults unit) (first_made f (unit_placed unit).made refuses)

  module _ (tree : TUnit) (items : GivesTree (Ok tree) unit) where
    -- the faults of a source whose items have none
    behind_items : faults unit ≡ call_faults unit ++ main_faults unit
    unfolding faults
    behind_items = ap (λ m. faults_of m ++ (call_faults unit ++ main_faults unit)) items.1

    -- then the first fault of a call
    pub calls_refused : (f : TypeFault) → Tests (Err f) (call_faults unit) → IsFirstFault f (faults unit)
    calls_refused f first = subst (IsFirstFault f) (sym behind_items) (first_of_more f (call_faults unit) (main_faults unit) first)

    -- then that of main
    pub main_refused : (f : TypeFault) → Tests (Ok tt) (call_faults unit) → Tests (Err f) (main_faults unit) → IsFirstFault f (faults unit)
    main_refused f none first = subst (IsFirstFault f) (sym (behind_items ∙ ap (λ fs. fs ++ main_faults unit) none)) first

    -- else there is none
    pub no_faults : Tests (Ok tt) (call_faults unit) → Tests (Ok tt) (main_faults unit) → faults unit ≡ []
    no_faults none nor = behind_items ∙ (ap (λ fs. fs ++ main_faults unit) none ∙ nor)

    -- and the numbered tree is the typed one
    pub is_typed : (numbered : TUnit) → bare_unit numbered ≡ bare_unit tree → IsNumbered numbered → IsTyped unit numbered
    unfolding IsTyped
    is_typed numbered same counted =
        (items.0, items.1, same ∙ (ap bare_unit items.2 ∙ tree_bare unit items.0 items.1), counted)

-- the tree of a source whose items were judged from the start
pub items_give : (unit : source.Unit) (defined : List (List ℕ)) (older newer : File) (tree : TUnit) → defined ≡ defined_by unit → IsNew older
    → PlacesItems defined (all_names (map defined_in unit.items)) older newer (items_placed defined (known_in defined older) unit.items)
    → tree ≡ record { objects = newer.objects; strings = []; functions = newer.functions; main = place_in defined (codes "main"); nodes = 0; loops = 0 }
    → GivesTree (Ok tree) unit
items_give unit defined older newer tree same new placed is =
    let begun : known_in defined older ≡ nothing_known = start_is defined older new in (
      placed.parts,
      sym (ap (λ (p : Placed). p.made) (λ i. items_placed (same i) (begun i) unit.items)) ∙ placed.made,
      is ∙ (λ i. record {
        objects = (placed.objects ∙ ap (λ o. o ++ placed.parts.objects) new.objects) i;
        strings = [];
        functions = (placed.functions ∙ ap (λ o. o ++ placed.parts.functions) new.functions) i;
        main = place_in (same i) (codes "main");
        nodes = 0;
        loops = 0;
      }),
    )

-- or the first fault of its items
pub items_refuse : (unit : source.Unit) (defined : List (List ℕ)) (older : File) (f : TypeFault) → defined ≡ defined_by unit → IsNew older
    → Refuses f (items_placed defined (known_in defined older) unit.items).made → GivesTree (Err f) unit
items_refuse unit defined older f same new refuses =
    subst (λ (p : Placed). Refuses f p.made) (λ i. items_placed (same i) (start_is defined older new i) unit.items) refuses

-- all names are still to come
pub all_to_come : (unit : source.Unit) (defined : List (List ℕ)) (file : File) → defined ≡ defined_by unit → IsNew file
    → drop (length file.functions) defined ≡ all_names (map defined_in unit.items)
all_to_come unit defined file same new = ap (λ (fs : List TFunc). drop (length fs) defined) new.functions ∙ same

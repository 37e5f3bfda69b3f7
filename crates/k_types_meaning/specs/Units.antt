-- Believed with the theorem on the top call.
-- *Typing* of a whole source (C17 6.9): its items in text order, then the functions that are called and not defined, then main.
use Rattle.std.specs.Prelude.{ℕ, ◌+◌, Bool, true, false, ◌&&◌, ◌||◌, if◌then◌else◌, List, [], ◌∷◌, ◌++◌, map, is_some, Option, Some, None, codes}
use Rattle.std.specs.Str.{bytes_eq}
use Rattle.k_num.specs.declared.numbers.Kind.TheVariants.{I32}
use Rattle.k_tree.specs.declared.tree.declaration.Declarator.{Declarator}
use Rattle.k_tree.specs.declared.tree.unit.Item.{Item}
use Rattle.k_tree.specs.declared.tree.unit.Item.TheVariants as item
use Rattle.k_tree.specs.declared.tree.unit.Unit as source
use Rattle.k_types_meaning.specs.declared.fault.TypeFault.{TypeFault}
use Rattle.k_types_meaning.specs.declared.fault.TypeFault.TheVariants as fault
use Rattle.k_types_meaning.specs.declared.types.CType.{CType}
use Rattle.k_types_meaning.specs.declared.types.CType.TheVariants as ctype
use Rattle.k_types_meaning.specs.declared.tree.unit.TFunc.{TFunc}
use Rattle.k_types_meaning.specs.declared.tree.unit.TObject.{TObject}
use Rattle.k_types_meaning.specs.declared.tree.unit.TUnit.{TUnit}
use Rattle.k_types_meaning.specs.Called.{Called, calls_of_unit}
use Rattle.k_types_meaning.specs.Declarations.{Object, Saying, saying, declarator_judged, names_behind}
use Rattle.k_types_meaning.specs.Functions.{params_of, result_type, same_type, has_none, names_behind_head, prototype_judged, function_judged}
use Rattle.k_types_meaning.specs.Initialisers.{first_values}
use Rattle.k_types_meaning.specs.Made.{Made, Fine, both, then_made, faults_of}
use Rattle.k_types_meaning.specs.Names.{Names, meaning_in, library, place_in}
use Rattle.k_types_meaning.specs.Types.{told, count_of}

-- What is known at a place between the items: what names mean, how many objects there are so far, and the functions that are defined
-- so far.
pub record FileKnown : Type 0 where
  pub names : Names
  pub objects : ℕ
  pub functions : List (List ℕ)

-- nothing is declared, and the scope of the file lies in that of the library
abbrev pub nothing_known : FileKnown
nothing_known = record { names = [] ∷ library ∷ []; objects = 0; functions = [] }

-- what items come to: file objects and functions, each in text order
pub record Parts : Type 0 where
  pub objects : List TObject
  pub functions : List TFunc

-- no object and no function
abbrev pub no_parts : Parts
no_parts = record { objects = []; functions = [] }

-- the parts of two runs of items
abbrev pub parts_of_both : Parts → Parts → Made Parts
parts_of_both a b = Fine (record { objects = a.objects ++ b.objects; functions = a.functions ++ b.functions })

-- a part of a source: what it comes to, and what is known behind it
pub record Placed : Type 0 where
  pub made : Made Parts
  pub after : FileKnown

-- a file object
abbrev pub object_part : Object → Made Parts
object_part o = Fine (record {
  objects = record { place = o.place; of = told o.of; elements = count_of o.of; first = first_values o.init } ∷ [];
  functions = [];
})

-- one declarator at file scope
abbrev pub object_placed : Saying → FileKnown → Declarator → Placed
object_placed s known d = record {
  made = then_made (declarator_judged true s known.objects known.names d) object_part;
  after = record known { names = names_behind true s known.objects known.names d; objects = known.objects + 1 };
}

-- a part of a source before others
abbrev pub placed_before : Placed → Placed → Placed
placed_before a rest = record { made = both a.made rest.made parts_of_both; after = rest.after }

-- the declarators of a declaration at file scope
abbrev pub objects_placed : Saying → FileKnown → List Declarator → Placed
objects_placed s known [] = record { made = Fine no_parts; after = known }
objects_placed s known (d ∷ ds) = placed_before (object_placed s known d) (objects_placed s (object_placed s known d).after ds)

-- the name is among these
abbrev pub is_name : List (List ℕ) → List ℕ → Bool
is_name [] x = false
is_name (y ∷ ys) x = bytes_eq y x || is_name ys x

-- an item, where the source defines functions of these names
abbrev pub item_placed : List (List ℕ) → FileKnown → Item → Placed
item_placed defined known (item.Function p head body close) = record {
  made = then_made (function_judged defined (is_name known.functions head.name) known.names p head body close)
      (λ f. Fine (record { objects = []; functions = f ∷ [] }));
  after = record known {
    names = names_behind_head defined known.names head;
    functions = known.functions ++ head.name ∷ [];
  };
}
item_placed defined known (item.Prototype p head) = record {
  made = then_made (prototype_judged defined known.names p head) (λ f. Fine no_parts);
  after = record known { names = names_behind_head defined known.names head };
}
item_placed defined known (item.Objects p specs list) = objects_placed (saying true specs) known list

-- items one after the other
abbrev pub items_placed : List (List ℕ) → FileKnown → List Item → Placed
items_placed defined known [] = record { made = Fine no_parts; after = known }
items_placed defined known (i ∷ items) =
    placed_before (item_placed defined known i) (items_placed defined (item_placed defined known i).after items)

-- the name of the function that an item defines, if it does
abbrev pub defined_in : Item → List (List ℕ)
defined_in (item.Function p head body close) = head.name ∷ []
defined_in (item.Prototype p head) = []
defined_in (item.Objects p specs list) = []

-- the names of several items
abbrev pub all_names : List (List (List ℕ)) → List (List ℕ)
all_names [] = []
all_names (x ∷ xs) = x ++ all_names xs

-- the names of the functions that a source defines, in text order
abbrev pub defined_by : source.Unit → List (List ℕ)
defined_by unit = all_names (map defined_in unit.items)

-- C17 6.9p5: a call of a function that neither the source nor the library defines
abbrev pub undefined_call : List (List ℕ) → Called → List TypeFault
undefined_call defined c =
    if is_name defined c.name || is_some (meaning_in library c.name) then [] else fault.NotDefined c.name c.place ∷ []

-- the type is int
abbrev pub is_int : Option CType → Bool
is_int None = false
is_int (Some of) = same_type of (ctype.Number I32)

-- C17 5.1.2.2.1: an item defines main with result int and without parameters
abbrev pub is_main : Item → Bool
is_main (item.Function p head body close) =
    bytes_eq head.name (codes "main") && (is_int (result_type head) && has_none (params_of head.params))
is_main (item.Prototype p head) = false
is_main (item.Objects p specs list) = false

-- an item defines it
abbrev pub has_main : List Item → Bool
has_main [] = false
has_main (i ∷ items) = is_main i || has_main items

-- no main is a fault of the end
abbrev pub main_faults : source.Unit → List TypeFault
main_faults unit = if has_main unit.items then [] else fault.NoMain unit.end ∷ []

-- the faults of several parts
abbrev pub all_faults : List (List TypeFault) → List TypeFault
all_faults [] = []
all_faults (f ∷ fs) = f ++ all_faults fs

-- what the items of a source come to
abbrev pub unit_placed : source.Unit → Placed
unit_placed unit = items_placed (defined_by unit) nothing_known unit.items

-- the faults of calls of functions that are not defined
abbrev pub call_faults : source.Unit → List TypeFault
call_faults unit = all_faults (map (undefined_call (defined_by unit)) (calls_of_unit unit))

-- *Typing*: all faults of a source, in the order in which they are looked for: item by item, in text order and operands before what
-- they stand in; then the calls of functions that are not defined; then main
unfoldable pub faults : source.Unit → List TypeFault
faults unit = faults_of (unit_placed unit).made ++ (call_faults unit ++ main_faults unit)

-- the typed tree of the parts of a source; its nodes have no numbers yet, and its strings are not listed
abbrev pub tree_of_parts : source.Unit → Parts → TUnit
tree_of_parts unit parts = record {
  objects = parts.objects;
  strings = [];
  functions = parts.functions;
  main = place_in (defined_by unit) (codes "main");
  nodes = 0;
  loops = 0;
}

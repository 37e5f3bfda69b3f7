-- Believed with a public law.
-- *Typing* of a whole source as a relation: which file objects and functions it means (C17 6.9).
use Rattle.std.specs.Prelude.{◌≡◌, ℕ, ◌+◌, true, ◌||◌, List, [], ◌∷◌, ◌++◌, is_some, All}
use Rattle.k_num.specs.declared.place.Place.{Place}
use Rattle.k_tree.specs.declared.tokens.word.Word.{Word}
use Rattle.k_tree.specs.declared.tree.declaration.Declarator.{Declarator}
use Rattle.k_tree.specs.declared.tree.statement.Stmt.{Stmt}
use Rattle.k_tree.specs.declared.tree.unit.Head.{Head}
use Rattle.k_tree.specs.declared.tree.unit.Item.{Item}
use Rattle.k_tree.specs.declared.tree.unit.Item.TheVariants as item
use Rattle.k_tree.specs.declared.tree.unit.Unit as source
use Rattle.k_types_meaning.specs.declared.names.Meaning.TheVariants as meaning
use Rattle.k_types_meaning.specs.declared.tree.unit.TFunc.{TFunc}
use Rattle.k_types_meaning.specs.declared.tree.unit.TObject.{TObject}
use Rattle.k_types_meaning.specs.Called.{Called, calls_of_unit}
use Rattle.k_types_meaning.specs.Declarations.{Object, Saying, saying, entered}
use Rattle.k_types_meaning.specs.Functions.{names_behind_head}
use Rattle.k_types_meaning.specs.Initialisers.{first_values}
use Rattle.k_types_meaning.specs.Names.{meaning_in, library}
use Rattle.k_types_meaning.specs.Types.{told, count_of}
use Rattle.k_types_meaning.specs.Units.{FileKnown, Parts, nothing_known, no_parts, is_name, defined_by, has_main}
use Rattle.k_types_meaning.specs.ElaboratedDeclarators.{ElabObject}
use Rattle.k_types_meaning.specs.ElaboratedFunctions.{ElabPrototype, ElabFunction}

-- the tree of a file object
abbrev pub object_tree : Object → TObject
object_tree o = record { place = o.place; of = told o.of; elements = count_of o.of; first = first_values o.init }

-- what is known behind a file object
abbrev pub with_object : FileKnown → Object → FileKnown
with_object known o = record known {
  names = entered o.name (meaning.Object known.objects o.of o.fixed) known.names;
  objects = known.objects + 1;
}

-- what is known behind a prototype
abbrev pub with_prototype : List (List ℕ) → FileKnown → Head → FileKnown
with_prototype defined known head = record known { names = names_behind_head defined known.names head }

-- what is known behind a definition
abbrev pub with_function : List (List ℕ) → FileKnown → Head → FileKnown
with_function defined known head = record known {
  names = names_behind_head defined known.names head;
  functions = known.functions ++ head.name ∷ [];
}

-- a file object before other parts
abbrev pub object_before : TObject → Parts → Parts
object_before o rest = record rest { objects = o ∷ rest.objects }

-- the parts of two runs of items
abbrev pub parts_then : Parts → Parts → Parts
parts_then a b = record { objects = a.objects ++ b.objects; functions = a.functions ++ b.functions }

-- a function alone
abbrev pub function_alone : TFunc → Parts
function_alone f = record { objects = []; functions = f ∷ [] }

-- C17 6.9.2: the declarators of a declaration at file scope, one after the other: what one declares is known to the next
pub data ElabObjects : Saying → FileKnown → List Declarator → Parts → FileKnown → Type 0 where
  no_objects : (s : Saying) (known : FileKnown) → ElabObjects s known [] no_parts known
  more_objects : (s : Saying) (known : FileKnown) (d : Declarator) (ds : List Declarator) (o : Object) (rest : Parts) (after : FileKnown)
      → ElabObject true s known.objects known.names d o → ElabObjects s (with_object known o) ds rest after
      → ElabObjects s known (d ∷ ds) (object_before (object_tree o) rest) after

-- C17 6.9: an item means file objects and functions, where the source defines functions of these names and this is known; and what is
-- known behind it
pub data ElabItem : List (List ℕ) → FileKnown → Item → Parts → FileKnown → Type 0 where
  -- C17 6.9.1: a definition
  function : (defined : List (List ℕ)) (known : FileKnown) (p : Place) (head : Head) (body : List Stmt) (close : Place) (f : TFunc)
      → ElabFunction defined (is_name known.functions head.name) known.names p head body close f
      → ElabItem defined known (item.Function p head body close) (function_alone f) (with_function defined known head)
  -- C17 6.7.6.3: a prototype
  prototype_alone : (defined : List (List ℕ)) (known : FileKnown) (p : Place) (head : Head)
      → ElabPrototype defined known.names head
      → ElabItem defined known (item.Prototype p head) no_parts (with_prototype defined known head)
  -- C17 6.9.2: a declaration
  objects : (defined : List (List ℕ)) (known : FileKnown) (p : Place) (specs : List Word) (list : List Declarator) (parts : Parts) (after : FileKnown)
      → ElabObjects (saying true specs) known list parts after
      → ElabItem defined known (item.Objects p specs list) parts after

-- C17 6.9p1, 6.2.1p7: items in text order: what one declares is known to the next
pub data ElabItems : List (List ℕ) → FileKnown → List Item → Parts → FileKnown → Type 0 where
  no_items : (defined : List (List ℕ)) (known : FileKnown) → ElabItems defined known [] no_parts known
  more_items : (defined : List (List ℕ)) (known : FileKnown) (i : Item) (items : List Item) (a b : Parts) (middle after : FileKnown)
      → ElabItem defined known i a middle → ElabItems defined middle items b after
      → ElabItems defined known (i ∷ items) (parts_then a b) after

-- C17 6.9p5: the source or the library defines the function of a call
abbrev pub IsDefined : List (List ℕ) → Called → Type 0
IsDefined defined c = (is_name defined c.name || is_some (meaning_in library c.name)) ≡ true

-- C17 6.9: a source means file objects and functions
pub data ElabUnit : source.Unit → Parts → Type 0 where
  -- C17 6.9p5, 5.1.2.2.1: its items mean them; each function that is called is defined; and main is
  whole : (unit : source.Unit) (parts : Parts) (after : FileKnown)
      → ElabItems (defined_by unit) nothing_known unit.items parts after → All (IsDefined (defined_by unit)) (calls_of_unit unit)
      → has_main unit.items ≡ true
      → ElabUnit unit parts

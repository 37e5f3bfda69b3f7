-- Believed with a public law.
-- *Typing* of declarators as a relation: what a declarator declares (C17 6.7).
use Rattle.std.specs.Prelude.{◌≡◌, ℕ, Bool, true, false, List, [], ◌∷◌, ◌++◌, length, Some}
use Rattle.k_tree.specs.declared.tree.declaration.Declarator.{Declarator}
use Rattle.k_types_meaning.specs.declared.names.Meaning.TheVariants as meaning
use Rattle.k_types_meaning.specs.declared.tree.declaration.TDeclarator.{TDeclarator}
use Rattle.k_types_meaning.specs.declared.tree.declaration.TInit.{TInit}
use Rattle.k_types_meaning.specs.declared.types.CType.{CType}
use Rattle.k_types_meaning.specs.Declarations.{Object, Saying, is_twice, has_type, declared_type, object_fixed, as_meaning, entered}
use Rattle.k_types_meaning.specs.Dimensions.{Sizes, dimensions}
use Rattle.k_types_meaning.specs.Initialisers.{Beginning, begun}
use Rattle.k_types_meaning.specs.Made.{Fine}
use Rattle.k_types_meaning.specs.Names.{Names}
use Rattle.k_types_meaning.specs.Statements.{Known}

-- C17 6.2.1p7: the names that an initialiser knows: its own too, which has this number and this type
abbrev pub names_within : Bool → Saying → ℕ → Names → Declarator → CType → Names
names_within file s n names d of = entered d.name (as_meaning file n of (object_fixed s.fixed d.stars)) names

-- what a declarator of this type declares, which begins with this; `&` is applied in it to these variables
abbrev pub declares : Saying → Declarator → CType → TInit → List ℕ → Object
declares s d of init taken =
    record { place = d.place; name = d.name; of = of; fixed = object_fixed s.fixed d.stars; init = init; taken = taken }

-- C17 6.7: a declarator declares an object, at file scope or in a function, with this number, where these names are known
pub data ElabObject : Bool → Saying → ℕ → Names → Declarator → Object → Type 0 where
  -- C17 6.7p3, 6.7.6.2, 6.7.9: its name is not declared in its scope already; its sizes mean something, and make it a type;
  -- and its initialiser, which knows its name, is one for an object of the type
  object : (file : Bool) (s : Saying) (n : ℕ) (names : Names) (d : Declarator) (sizes : Sizes) (of : CType) (start : Beginning) (init : TInit)
      → is_twice names d.name ≡ false → dimensions names d.dims ≡ Fine sizes
      → has_type file s d ≡ true → declared_type file s (Fine sizes) d ≡ Some of
      → begun (names_within file s n names d of) file (Some of) d.init ≡ Fine start → start.init ≡ Some init
      → ElabObject file s n names d (declares s d of init (sizes.taken ++ start.taken))

-- the tree of a variable that is declared where this is known
abbrev pub variable_tree : Known → Object → TDeclarator
variable_tree known o = record { place = o.place; variable = length known.variables; init = o.init }

-- what is known behind a variable that is declared where this is known
abbrev pub with_variable : Known → Object → Known
with_variable known o = record {
  names = entered o.name (meaning.Variable (length known.variables) o.of o.fixed) known.names;
  variables = known.variables ++ record { place = o.place; of = o.of } ∷ [];
  taken = known.taken ++ o.taken;
}

-- C17 6.7, 6.2.1p7: the declarators of a declaration in a function, one after the other: what one declares is known to the next
pub data ElabDeclared : Saying → Known → List Declarator → List TDeclarator → Known → Type 0 where
  none_declared : (s : Saying) (known : Known) → ElabDeclared s known [] [] known
  more_declared : (s : Saying) (known : Known) (d : Declarator) (ds : List Declarator) (o : Object) (ts : List TDeclarator) (after : Known)
      → ElabObject false s (length known.variables) known.names d o → ElabDeclared s (with_variable known o) ds ts after
      → ElabDeclared s known (d ∷ ds) (variable_tree known o ∷ ts) after

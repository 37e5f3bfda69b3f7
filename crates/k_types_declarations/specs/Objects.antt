-- For contracts between crates: nobody has to believe it.
-- What a declarator comes to.
use Rattle.std.specs.Prelude.{◌≡◌, ℕ, Bool, List, ◌++◌, Option, Some, None, ◌⊎◌, Result, Ok, Err}
use Rattle.k_num.specs.declared.place.Place.{Place}
use Rattle.k_tree.specs.declared.tree.declaration.Declarator.{Declarator}
use Rattle.k_types_meaning.specs.declared.fault.TypeFault.{TypeFault}
use Rattle.k_types_meaning.specs.declared.fault.TypeFault.TheVariants as fault
use Rattle.k_types_meaning.specs.declared.types.CType.{CType}
use Rattle.k_types_meaning.specs.declared.tree.declaration.TInit.{TInit}
use Rattle.k_types_meaning.specs.declared.tree.declaration.TInit.TheVariants as begins
use Rattle.k_types_meaning.specs.Declarations.{Object, Saying, declarator_judged, is_sized, object_fixed, names_behind, type_for}
use Rattle.k_types_meaning.specs.Dimensions.{Sizes, dimensions}
use Rattle.k_types_meaning.specs.Initialisers.{Beginning}
use Rattle.k_types_meaning.specs.Made.{Made, Fine}
use Rattle.k_types_meaning.specs.Names.{Names}
use Rattle.k_types_rules.specs.Views.{Refuses}
use Rattle.k_types_declarations.specs.Braces.{kept_items}
use Rattle.k_types_declarations.specs.declared.declarator.Begun.{Begun}
use Rattle.k_types_declarations.specs.declared.declarator.Shape.{Shape}

-- The dimensions of a declarator were judged, and the variables to which `&` is applied in them were put behind the older ones: it has
-- this type, if any, and they are right or not; or they have a fault first.
abbrev pub GivesType : Result Shape TypeFault → Bool → Saying → Declarator → List ℕ → List ℕ → Made Sizes → Type 0
GivesType (Ok shape) file s d older newer m =
    (found : Sizes)
    × (m ≡ Fine found)
    × (newer ≡ older ++ found.taken)
    × (shape.of ≡ type_for file s (Fine found) d)
    × (shape.is_sized ≡ is_sized (Fine found) d)
GivesType (Err f) file s d older newer m = Refuses f m

-- what is kept of that with which an object begins: all, or nothing of its items
abbrev pub kept_init : Bool → TInit → TInit
kept_init kept begins.Nothing = begins.Nothing
kept_init kept (begins.Value e) = begins.Value e
kept_init kept (begins.Elements items) = begins.Elements (kept_items kept items)

-- the same where an object can begin so
abbrev pub kept_option : Bool → Option TInit → Option TInit
kept_option kept None = None
kept_option kept (Some init) = Some (kept_init kept init)

-- An initialiser was judged, and the variables to which `&` is applied in it were put behind the older ones: this is kept of that with
-- which an object begins, if it can; or it has a fault first.
abbrev pub GivesBeginning : Result (Option TInit) TypeFault → Bool → List ℕ → List ℕ → Made Beginning → Type 0
GivesBeginning (Ok told) kept older newer m =
    (start : Beginning) × (m ≡ Fine start) × (told ≡ kept_option kept start.init) × (newer ≡ older ++ start.taken)
GivesBeginning (Err f) kept older newer m = Refuses f m

-- An object of this type begins so.
abbrev pub MakesObject : Result Begun TypeFault → Place → List ℕ → Bool → List ℕ → Option CType → Made Object → Type 0
MakesObject (Ok b) p x fixed taken of m =
    (m ≡ Fine (record { place = p; name = x; of = b.of; fixed = fixed; init = b.init; taken = taken })) × (of ≡ Some b.of)
MakesObject (Err f) p x fixed taken of m = Refuses f m

-- A declarator was judged, its name is known behind it, and the variables to which `&` is applied in it were put behind the older
-- ones; or it has a fault first.
abbrev pub Comes : Result Begun TypeFault → Bool → Saying → ℕ → Names → Declarator → List ℕ → List ℕ → Names → Type 0
Comes (Ok b) file s n names d older newer behind =
    (taken : List ℕ)
    × (declarator_judged file s n names d
    ≡ Fine (record { place = d.place; name = d.name; of = b.of; fixed = object_fixed s.fixed d.stars; init = b.init; taken = taken }))
    × (newer ≡ older ++ taken)
    × (behind ≡ names_behind file s n names d)
    × (type_for file s (dimensions names d.dims) d ≡ Some b.of)
Comes (Err f) file s n names d older newer behind = Refuses f (declarator_judged file s n names d)

-- The fault is that of a name that is declared again in its scope, or want of memory.
abbrev pub IsTwice : TypeFault → Place → List ℕ → Type 0
IsTwice f p name = (f ≡ fault.Memory) ⊎ (f ≡ fault.Twice name p)

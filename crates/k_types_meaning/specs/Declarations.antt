-- Believed with the theorem on the top call.
-- *Typing* of declarations of objects and variables (C17 6.7). A name is known from behind its declarator, so in its own
-- initialiser too (6.2.1p7).
use Rattle.std.specs.Prelude.{ℕ, Bool, true, false, ◌&&◌, ◌||◌, not, if◌then◌else◌, List, [], ◌∷◌, ◌++◌, map, is_some, Option, Some, None}
use Rattle.k_num.specs.declared.place.Place.{Place}
use Rattle.k_num.specs.declared.numbers.Kind.TheVariants.{I32}
use Rattle.k_tree.specs.declared.tokens.word.Word.{Word}
use Rattle.k_tree.specs.declared.tree.declaration.Declarator.{Declarator}
use Rattle.k_types_meaning.specs.declared.fault.TypeFault.TheVariants as fault
use Rattle.k_types_meaning.specs.declared.names.Meaning.{Meaning}
use Rattle.k_types_meaning.specs.declared.names.Meaning.TheVariants as meaning
use Rattle.k_types_meaning.specs.declared.types.Base.{Base}
use Rattle.k_types_meaning.specs.declared.types.Base.TheVariants as base
use Rattle.k_types_meaning.specs.declared.types.CType.{CType}
use Rattle.k_types_meaning.specs.declared.types.CType.TheVariants as ctype
use Rattle.k_types_meaning.specs.declared.tree.declaration.TInit.{TInit}
use Rattle.k_types_meaning.specs.Dimensions.{Sizes, dimensions, object_sizes, sizes_or_known}
use Rattle.k_types_meaning.specs.Initialisers.{begun, first_given}
use Rattle.k_types_meaning.specs.Made.{Made, Fine, Faulty, refused, both}
use Rattle.k_types_meaning.specs.Names.{Names, meaning_in, library}
use Rattle.k_types_meaning.specs.Specifiers.{base_of, says_const, says_static}

-- the type of an object of a base with stars and sizes: no void, one `*` at most, behind a kind and without dimensions
abbrev pub object_type : Bool → Option Base → List Bool → List ℕ → Option CType
object_type fixed None stars dims = None
object_type fixed (Some base.Void) stars dims = None
object_type fixed (Some (base.Of kind)) [] [] = Some (ctype.Number kind)
object_type fixed (Some (base.Of kind)) [] (d ∷ ds) = Some (ctype.Array d (record { kind = kind; dims = ds; fixed = fixed }))
object_type fixed (Some (base.Of kind)) (star ∷ []) [] = Some (ctype.Pointer (record { kind = kind; dims = []; fixed = fixed }))
object_type fixed (Some (base.Of kind)) (star ∷ []) (d ∷ ds) = None
object_type fixed (Some (base.Of kind)) (star ∷ other ∷ stars) dims = None

-- an object is const itself: a pointer where const follows its `*`
abbrev pub object_fixed : Bool → List Bool → Bool
object_fixed fixed [] = fixed
object_fixed fixed (star ∷ stars) = star

-- the type that a name has in its own initialiser where its declarator names none: the declaration is refused in any case
abbrev pub type_or_int : Option CType → CType
type_or_int None = ctype.Number I32
type_or_int (Some of) = of

-- whether the name of a declaration stands in its scope already, or is that of a library function
abbrev pub is_twice : Names → List ℕ → Bool
is_twice [] x = is_some (meaning_in library x)
is_twice (scope ∷ names) x = is_some (meaning_in scope x) || is_some (meaning_in library x)

-- a name enters the innermost scope
abbrev pub entered : List ℕ → Meaning → Names → Names
entered x m [] = ((x, m) ∷ []) ∷ []
entered x m (scope ∷ names) = ((x, m) ∷ scope) ∷ names

-- What a declarator comes to: its place, name, type, whether that is const, and with what it begins. Each of its faults
-- goes before those behind it: its name is there twice; it has no type, but for its sizes; it does not begin with what has its
-- type; a size is wrong.
pub record Object : Type 0 where
  pub place : Place
  pub name : List ℕ
  pub of : CType
  pub fixed : Bool
  pub init : TInit
  pub taken : List ℕ

-- the last two of them
abbrev pub begun_object : Place → List ℕ → Bool → List ℕ → Option CType → Option TInit → Made Object
begun_object p x fixed taken of None = refused (fault.Kinds p)
begun_object p x fixed taken None (Some init) = refused (fault.BadSize p)
begun_object p x fixed taken (Some of) (Some init) =
    Fine (record { place = p; name = x; of = of; fixed = fixed; init = init; taken = taken })

-- the first two of them
abbrev pub object_made : Place → List ℕ → Bool → Bool → Bool → List ℕ → Option CType → Option TInit → Made Object
object_made p x twice typed fixed taken of init =
    if twice then refused (fault.Twice x p)
    else if typed then begun_object p x fixed taken of init
    else refused (fault.Kinds p)

-- What specifiers say of a declaration: what they name, none where that is no type or they say static where they may not, and const.
pub record Saying : Type 0 where
  pub names_base : Option Base
  pub fixed : Bool

-- C17 6.7.1, 6.7.2: at file scope they may say static
abbrev pub saying : Bool → List Word → Saying
saying file specs = record {
  names_base = if says_static specs && not file then None else base_of specs;
  fixed = says_const specs;
}

-- at file scope no object is a pointer
abbrev pub no_pointer : Bool → Option CType → Option CType
no_pointer false of = of
no_pointer true None = None
no_pointer true (Some ctype.Void) = None
no_pointer true (Some (ctype.Number kind)) = Some (ctype.Number kind)
no_pointer true (Some (ctype.Pointer e)) = None
no_pointer true (Some (ctype.Array count e)) = Some (ctype.Array count e)

-- a declarator has a type, whatever its sizes are
abbrev pub has_type : Bool → Saying → Declarator → Bool
has_type file s d = is_some (no_pointer file (object_type s.fixed s.names_base d.stars (map (λ e. 1) d.dims)))

-- the type of a declarator whose sizes were judged, where it has one: where a size is wrong, by what is known of them
abbrev pub type_for : Bool → Saying → Made Sizes → Declarator → Option CType
type_for file s (Faulty f fs) d = None
type_for file s (Fine found) d =
    no_pointer file (object_type s.fixed s.names_base d.stars (sizes_or_known found.sizes (object_sizes found.sizes (first_given d.init))))

-- the sizes of a declarator were judged, and they are right
abbrev pub is_sized : Made Sizes → Declarator → Bool
is_sized (Faulty f fs) d = false
is_sized (Fine found) d = is_some (object_sizes found.sizes (first_given d.init))

-- a type, where the sizes are right
abbrev pub where_sized : Bool → Option CType → Option CType
where_sized false of = None
where_sized true of = of

-- the type of a declarator whose sizes were judged, where it has one and they are right
abbrev pub declared_type : Bool → Saying → Made Sizes → Declarator → Option CType
declared_type file s sizes d = where_sized (is_sized sizes d) (type_for file s sizes d)

-- A declarator as a meaning: a variable or a file object of this number.
abbrev pub as_meaning : Bool → ℕ → CType → Bool → Meaning
as_meaning false n of fixed = meaning.Variable n of fixed
as_meaning true n of fixed = meaning.Object n of fixed

-- the names that are known from behind a declarator on, which has this number
abbrev pub names_behind : Bool → Saying → ℕ → Names → Declarator → Names
names_behind file s n names d =
    entered d.name (as_meaning file n (type_or_int (type_for file s (dimensions names d.dims) d)) (object_fixed s.fixed d.stars)) names

-- C17 6.7p3, 6.7.6, 6.7.9: a declarator at file scope or in a function, with its number: its sizes are judged, then its initialiser
-- where its name is known, then the declarator itself; where a size is wrong, its initialiser is judged by what is known of them
unfoldable pub declarator_judged : Bool → Saying → ℕ → Names → Declarator → Made Object
declarator_judged file s n names d =
    both (dimensions names d.dims) (begun (names_behind file s n names d) file (type_for file s (dimensions names d.dims) d) d.init)
    (λ sizes start. object_made d.place d.name (is_twice names d.name) (has_type file s d) (object_fixed s.fixed d.stars)
    (sizes.taken ++ start.taken) (declared_type file s (Fine sizes) d) start.init)

-- Believed with a public law.
-- VALUES OF THEIR KINDS: what the variables of a call and the elements of objects hold, by their types.
use Rattle.std.specs.Prelude.{ℕ, zero, suc, ◌≡◌, ◌≤◌, IsTrue, List, [], ◌∷◌, ◌++◌, map, length, slice_get, Option, Some, None, ℤ}
use Rattle.k_num.specs.declared.numbers.Kind.{Kind}
use Rattle.k_num.specs.declared.numbers.Kind.TheVariants.{I8, I32}
use Rattle.k_num.specs.Kind.{is_held}
use Rattle.k_types_meaning.specs.declared.types.TType.{TType}
use Rattle.k_types_meaning.specs.declared.types.TType.TheVariants as ttype
use Rattle.k_types_meaning.specs.declared.tree.unit.TObject.{TObject}
use Rattle.k_types_meaning.specs.declared.tree.unit.TString.{TString}
use Rattle.k_types_meaning.specs.declared.tree.unit.TUnit.{TUnit}
use Rattle.k_types_meaning.specs.declared.tree.unit.TVariable.{TVariable}
use Rattle.k_mem.specs.declared.pointer.Pointer.{Pointer}
use Rattle.k_mem.specs.Memory.{Object}
use Rattle.k_world.specs.declared.value.Held.{Held}
use Rattle.k_world.specs.declared.value.Value.{Value}
use Rattle.k_world.specs.declared.value.Value.TheVariants as value
use Rattle.k_world.specs.WorldLaws.{AreBytes}
use Rattle.k_world.specs.Worlds.{World}
use Rattle.k_evaluation.specs.States.{State}

-- what a value of a type is: none, a number of a kind, or a pointer to numbers of a kind
pub data Sort : Type 0 where
  NoValue : Sort
  ANumber : Kind → Sort
  APointer : Kind → Sort

-- the sort of a type
abbrev pub sort_of : TType → Sort
sort_of ttype.Void = NoValue
sort_of (ttype.Number kind) = ANumber kind
sort_of (ttype.Pointer target) = APointer target.kind

-- the kind of the elements of an object of a sort: a number is one of its kind, an array has the type of the pointer to its elements
abbrev pub kind_in : Sort → Kind
kind_in NoValue = I32
kind_in (ANumber kind) = kind
kind_in (APointer kind) = kind

-- a pointer is one into an object of a kind, where these are the kinds of all objects that were ever made, by their numbers; no object has more elements
abbrev pub PointsInto : List Kind → Kind → Pointer → Type 0
PointsInto kinds kind p = (slice_get kinds p.object ≡ Some kind) × (p.offset ≤ 4194304)

-- A VALUE IS OF A SORT: a number is one that the kind holds, and a pointer is into an object of its kind. What stands for no pointer is a number of the kind,
-- by which each access traps
abbrev pub IsValue : List Kind → Sort → Value → Type 0
IsValue kinds NoValue v = Unit {0}
IsValue kinds (ANumber kind) (value.Number z) = IsTrue (is_held kind z)
IsValue kinds (ANumber kind) (value.Pointer p) = ⊥
IsValue kinds (APointer kind) (value.Number z) = IsTrue (is_held kind z)
IsValue kinds (APointer kind) (value.Pointer p) = PointsInto kinds kind p

-- WHAT A VARIABLE HOLDS, which has so many elements: in a register a value of its sort. One that is memory holds the pointer to its object; a parameter
-- holds its argument until it has its object
abbrev pub IsIn : List Kind → ℕ → Sort → Value → Type 0
IsIn kinds elements NoValue v = Unit {0}
IsIn kinds zero (ANumber kind) v = IsValue kinds (ANumber kind) v
IsIn kinds (suc count) (ANumber kind) v = IsValue kinds (APointer kind) v
IsIn kinds elements (APointer kind) v = IsValue kinds (APointer kind) v

-- the same of a variable that may not be set
abbrev pub IsSlotOf : List Kind → TVariable → Option Held → Type 0
IsSlotOf kinds v None = Unit {0}
IsSlotOf kinds v (Some held) = IsIn kinds v.elements (sort_of v.of) held.value

-- each variable that is set holds what its type says
abbrev pub AreSlotsOf : List Kind → List TVariable → List (Option Held) → Type 0
AreSlotsOf kinds [] slots = Unit {0}
AreSlotsOf kinds (v ∷ vs) [] = Unit {0}
AreSlotsOf kinds (v ∷ vs) (slot ∷ slots) = IsSlotOf kinds v slot × AreSlotsOf kinds vs slots

-- each element that is set is a number of the kind
abbrev pub AreNumbersOf : Kind → List (Option ℤ) → Type 0
AreNumbersOf kind [] = Unit {0}
AreNumbersOf kind (None ∷ elements) = AreNumbersOf kind elements
AreNumbersOf kind (Some z ∷ elements) = IsTrue (is_held kind z) × AreNumbersOf kind elements

-- AN OBJECT HOLDS NUMBERS OF ITS KIND
pub record IsObjectOf (kinds : List Kind) (o : Object) : Type 0 where
  pub kind : Kind
  pub known : slice_get kinds o.number ≡ Some kind
  pub numbers : AreNumbersOf kind o.elements
  pub small : length o.elements ≤ 4194304

-- so do several
abbrev pub AreObjectsOf : List Kind → List Object → Type 0
AreObjectsOf kinds [] = Unit {0}
AreObjectsOf kinds (o ∷ objects) = IsObjectOf kinds o × AreObjectsOf kinds objects

-- A WORLD IS RIGHT, where the objects that were ever made have these kinds: each live object holds numbers of its kind, and what is left of the input is bytes
pub record IsRightWorld (kinds : List Kind) (w : World) : Type 0 where
  pub objects : AreObjectsOf kinds w.memory.live
  pub made : length kinds ≡ w.memory.made
  pub input : AreBytes w.input

-- A STATE IS RIGHT for a call with these variables: each that is set holds a value of its type, and the world is right
pub record IsRight (kinds : List Kind) (vs : List TVariable) (s : State) : Type 0 where
  pub vars : AreSlotsOf kinds vs s.vars
  pub world : IsRightWorld kinds s.world

-- objects were made behind these: the old ones keep their kinds
abbrev pub Grows : List Kind → List Kind → Type 0
Grows kinds more = (n : ℕ) (kind : Kind) → slice_get kinds n ≡ Some kind → slice_get more n ≡ Some kind

-- the kinds of the objects with which a program starts: the file objects, and behind them the strings
abbrev pub start_kinds : TUnit → List Kind
start_kinds unit = map (λ (o : TObject). kind_in (sort_of o.of)) unit.objects ++ map (λ (t : TString). I8) unit.strings

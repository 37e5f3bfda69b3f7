-- Believed with a public law.
-- Laws of the calls, for those who rest on them.
use Rattle.std.specs.Prelude.{ℕ, ◌≡◌, ◌≢◌, ◌+◌, ◌<◌, ◌≤◌, ◌⊎◌, List, [], length, slice_get, Some, None, Ok, Err, ⊤, ℤ, pos}
use Rattle.std.specs.Int.{w8, cast_signed}
use Rattle.k_mem.specs.declared.fault.MemTrap.TheVariants.{Uninit, ReadOnly}
use Rattle.k_mem.specs.declared.pointer.Pointer.{Pointer}
use Rattle.k_mem.specs.declared.start.Start.{Start}
use Rattle.k_mem.specs.declared.start.Start.TheVariants.{Unset, Zero, Literal}
use Rattle.k_mem.specs.Memory.{Object, Memory, object_of, live_elements, IsLaidOut}
use Rattle.k_mem.specs.Calls.{element_of, store_of, load_of, stored, fill_of, filled, next_object, push_of, popped, HasLength}
use Rattle.k_mem.specs.Changes.{Change, changed, after, CanBeMade, AllSpare, IsLive}

-- an element's number is below the count of live elements
abbrev pub ElementsAreLive : Type 0
ElementsAreLive = (m : Memory) (at : Pointer) (n : ℕ) → IsLaidOut m → element_of m at ≡ Ok n → n < live_elements m

-- all elements of an object are live ones
abbrev pub ObjectsLieWithin : Type 0
ObjectsLieWithin = (m : Memory) (number : ℕ) (o : Object) → IsLaidOut m → object_of m number ≡ Some o
    → o.first + length o.elements ≤ live_elements m

-- two pointers to the element of one number have one object and one offset
abbrev pub ElementsDiffer : Type 0
ElementsDiffer = (m : Memory) (a b : Pointer) (n : ℕ) → IsLaidOut m → element_of m a ≡ Ok n → element_of m b ≡ Ok n
    → (a.object ≡ b.object) × (a.offset ≡ b.offset)

-- an element keeps its number over a push
abbrev pub KeepsOverPush : Type 0
KeepsOverPush = (m m' : Memory) (start : Start) (count : ℕ) (at : Pointer) (n : ℕ) → push_of m start count ≡ Some m' → element_of m at ≡ Ok n
    → element_of m' at ≡ Ok n

-- an element keeps its number over a store
abbrev pub KeepsOverStore : Type 0
KeepsOverStore = (m : Memory) (to at : Pointer) (v : ℤ) → element_of (stored m to v) at ≡ element_of m at

-- an element keeps its number where an object's elements are set
abbrev pub KeepsOverFill : Type 0
KeepsOverFill = (m : Memory) (number : ℕ) (values : List ℤ) (at : Pointer) → element_of (filled m number values) at ≡ element_of m at

-- an element that is live after a pop had that number before it
abbrev pub KeepsOverPop : Type 0
KeepsOverPop = (m : Memory) (keep : ℕ) (at : Pointer) (n : ℕ) → element_of (popped m keep) at ≡ Ok n → element_of m at ≡ Ok n

-- whatever calls are made, an element keeps its number while its object lives
abbrev pub KeepsWhileLive : Type 0
KeepsWhileLive = (m : Memory) (changes : List Change) (at : Pointer) → IsLaidOut m → IsLive m at.object → IsLive (after m changes) at.object
    → element_of (after m changes) at ≡ element_of m at

-- a load reads what was stored last
abbrev pub LoadsLastStored : Type 0
LoadsLastStored = (m : Memory) (at : Pointer) (v : ℤ) (n : ℕ) → store_of m at ≡ Ok n → load_of (stored m at v) at ≡ Ok (v, n)

-- a store changes no element but the one written
abbrev pub LoadsOthersAsBefore : Type 0
LoadsOthersAsBefore = (m : Memory) (to at : Pointer) (v : ℤ) → (to.object ≢ at.object) ⊎ (to.offset ≢ at.offset)
    → load_of (stored m to v) at ≡ load_of m at

-- whatever calls are made but such that write the element, a load reads what it read before, while the object lives
abbrev pub LoadsAsBefore : Type 0
LoadsAsBefore = (m : Memory) (changes : List Change) (at : Pointer) → IsLaidOut m → AllSpare changes at
    → IsLive m at.object → IsLive (after m changes) at.object → load_of (after m changes) at ≡ load_of m at

-- whatever calls are made behind a store but such that write the element, a load reads what was stored, while the object lives
abbrev pub LoadsStoredLater : Type 0
LoadsStoredLater = (m : Memory) (at : Pointer) (v : ℤ) (n : ℕ) (changes : List Change) → IsLaidOut m → store_of m at ≡ Ok n → AllSpare changes at
    → IsLive (after (stored m at v) changes) at.object → load_of (after (stored m at v) changes) at ≡ Ok (v, n)

-- an element that was set with its object has the value of its place
abbrev pub LoadsValueSet : Type 0
LoadsValueSet = (m : Memory) (at : Pointer) (values : List ℤ) (v : ℤ) (n : ℕ) → fill_of m at.object ≡ Ok tt → element_of m at ≡ Ok n
    → slice_get values at.offset ≡ Some v → load_of (filled m at.object values) at ≡ Ok (v, n)

-- and beyond the values it is 0
abbrev pub LoadsZeroBeyond : Type 0
LoadsZeroBeyond = (m : Memory) (at : Pointer) (values : List ℤ) (n : ℕ) → fill_of m at.object ≡ Ok tt → element_of m at ≡ Ok n
    → slice_get values at.offset ≡ None → load_of (filled m at.object values) at ≡ Ok (pos 0, n)

-- setting an object's elements changes no other object
abbrev pub SetsNoOther : Type 0
SetsNoOther = (m : Memory) (number other : ℕ) (values : List ℤ) → number ≢ other → object_of (filled m number values) other ≡ object_of m other

-- a push makes the object that is next, and that object is live after it
abbrev pub MakesNext : Type 0
MakesNext = (m m' : Memory) (start : Start) (count : ℕ) → IsLaidOut m → push_of m start count ≡ Some m'
    → object_of m' m.made ≡ Some (next_object m start count)

-- an unset object's elements have no value
abbrev pub UnsetHasNoValue : Type 0
UnsetHasNoValue = (m m' : Memory) (count offset : ℕ) → IsLaidOut m → push_of m Unset count ≡ Some m' → offset < count
    → load_of m' (record { object = m.made; offset = offset }) ≡ Err Uninit

-- a zeroed object's elements are 0
abbrev pub ZeroLoadsZero : Type 0
ZeroLoadsZero = (m m' : Memory) (count offset : ℕ) → IsLaidOut m → push_of m Zero count ≡ Some m' → offset < count
    → load_of m' (record { object = m.made; offset = offset }) ≡ Ok (pos 0, live_elements m + offset)

-- the object is to be a literal's, with that byte at that offset
abbrev pub HasByte : Start → ℕ → ℕ → Type 0
HasByte Unset offset byte = ⊥
HasByte Zero offset byte = ⊥
HasByte (Literal bytes) offset byte = slice_get bytes.now offset ≡ Some byte

-- a literal's elements are its bytes as signed 8-bit numbers
abbrev pub LiteralLoadsBytes : Type 0
LiteralLoadsBytes = (m m' : Memory) (start : Start) (count offset byte : ℕ) → IsLaidOut m → push_of m start count ≡ Some m'
    → HasByte start offset byte → load_of m' (record { object = m.made; offset = offset }) ≡ Ok (cast_signed w8 byte, live_elements m + offset)

-- and can't be written
abbrev pub LiteralIsReadOnly : Type 0
LiteralIsReadOnly = (m m' : Memory) (start : Start) (count offset byte : ℕ) → IsLaidOut m → HasLength start count → push_of m start count ≡ Some m'
    → HasByte start offset byte → store_of m' (record { object = m.made; offset = offset }) ≡ Err ReadOnly

-- an object that died is never live again, whatever calls are made
abbrev pub DeadForGood : Type 0
DeadForGood = (m : Memory) (changes : List Change) (number : ℕ) → number < m.made → object_of m number ≡ None
    → (object_of (after m changes) number ≡ None) × (number < (after m changes).made)

-- a pop keeps each object that stays as it is
abbrev pub PopKeepsRest : Type 0
PopKeepsRest = (m : Memory) (keep number : ℕ) (o : Object) → object_of (popped m keep) number ≡ Some o → object_of m number ≡ Some o

-- a push, and then a pop of what it made, leave the live objects as they were
abbrev pub PopUndoesPush : Type 0
PopUndoesPush = (m m' : Memory) (start : Start) (count : ℕ) → push_of m start count ≡ Some m' → (popped m' (length m.live)).live ≡ m.live

-- the memory without objects is laid out
abbrev pub NothingIsLaidOut : Type 0
NothingIsLaidOut = IsLaidOut (record { live = []; made = 0 })

-- each call leaves the memory laid out
abbrev pub StaysLaidOut : Type 0
StaysLaidOut = (m : Memory) (change : Change) → CanBeMade change → IsLaidOut m → IsLaidOut (changed m change)

-- Believed with a public law.
-- What acts see of a world, what operations leave as it was, and which objects are kept where others die.
use Rattle.std.specs.Prelude.{ℕ, ◌≡◌, ◌≢◌, ◌+◌, ◌≤◌, IfOk, IsTrue, List, length, map, Option, Some, None}
use Rattle.k_num.specs.declared.numbers.Kind.{Kind}
use Rattle.k_num.specs.declared.place.Place.{Place}
use Rattle.k_num.specs.Kind.{is_held}
use Rattle.k_optab.specs.declared.class.Class.{Class}
use Rattle.k_mem.specs.Memory.{Memory}
use Rattle.k_world.specs.declared.act.Act.{Act}
use Rattle.k_world.specs.declared.act.Act.TheVariants as act
use Rattle.k_world.specs.declared.value.Held.{Held}
use Rattle.k_world.specs.declared.value.Read.{Read}
use Rattle.k_world.specs.declared.value.Value.{Value}
use Rattle.k_world.specs.declared.value.Value.TheVariants as value
use Rattle.k_world.specs.Acts.{work, hidden}
use Rattle.k_world.specs.Changes.{objects_kept}
use Rattle.k_world.specs.Operations.{Gives, operation}
use Rattle.k_world.specs.Worlds.{World, HasOrigins}

-- what an act gives depends on the objects and on the input that is left, and on nothing else of the world
abbrev pub WorkSeesMemoryAndInput : Type 0
WorkSeesMemoryAndInput =
    (what : Act) (values : List Value) (v w : World)
    → v.memory ≡ w.memory
    → v.input ≡ w.input
    → work what values v ≡ work what values w

-- both worlds have the same of what tells where the operand came from that the construct does not write: for a load the objects and the
-- origins of their elements, for input and output the cell; no other act has such an operand
abbrev pub IsSameToHidden : Act → World → World → Type 0
IsSameToHidden act.Load v w = (v.memory ≡ w.memory) × (v.origins ≡ w.origins)
IsSameToHidden act.Input v w = v.in_cell ≡ w.in_cell
IsSameToHidden (act.Output what) v w = v.out_cell ≡ w.out_cell
IsSameToHidden _ v w = Unit {0}

-- the source of that operand depends on nothing else of the world
abbrev pub HiddenSees : Type 0
HiddenSees = (what : Act) (values : List Value) (v w : World) → IsSameToHidden what v w → hidden what values v ≡ hidden what values w

-- the kind in which an act is made, if it is made in one
abbrev pub kind_of_act : Act → Option Kind
kind_of_act (act.Binary op kind) = Some kind
kind_of_act (act.Unary op kind) = Some kind
kind_of_act (act.Convert kind) = Some kind
kind_of_act _ = None

-- a value is a number that the kind holds
abbrev pub IsNumberOf : Kind → Value → Type 0
IsNumberOf kind (value.Number n) = IsTrue (is_held kind n)
IsNumberOf kind (value.Pointer p) = ⊥

-- an act in a kind that gives something gives a number that the kind holds
abbrev pub ResultsAreHeld : Type 0
ResultsAreHeld =
    (what : Act) (kind : Kind) (values : List Value) (w : World)
    → kind_of_act what ≡ Some kind
    → IfOk (work what values w) (IsNumberOf kind)

-- where first some objects die and then more, it is as if all had died at once
abbrev pub KeepingFewer : Type 0
KeepingFewer = (w : World) (a b : ℕ) → b ≤ a → objects_kept (objects_kept w a) b ≡ objects_kept w b

-- to keep as many objects as are live, or more, changes nothing, if each live element has an origin and there are no other origins
abbrev pub KeepingAll : Type 0
KeepingAll = (w : World) (keep : ℕ) → HasOrigins w → length w.memory.live ≤ keep → objects_kept w keep ≡ w

-- this holds of the act of each operation that gives something, of the world before it and of the world behind it
abbrev pub BehindOperations : (Act → World → World → Type 0) → Type 0
BehindOperations P =
    (class : Class) (latency : ℕ) (place : Place) (what : Act) (reads : List Read) (before after : World) (held : Held)
    → operation class latency place what reads before ≡ Gives held after
    → P what before after

-- one operation fewer is left
abbrev pub OneFewerIsLeft : Type 0
OneFewerIsLeft = BehindOperations (λ what before after. after.left + 1 ≡ before.left)

-- one operation more was made
abbrev pub OneMoreIsMade : Type 0
OneMoreIsMade = BehindOperations (λ what before after. after.made ≡ before.made + 1)

-- the control source is as before, unless the act is a test
abbrev pub OtherActsKeepControl : Type 0
OtherActsKeepControl = BehindOperations (λ what before after. what ≢ act.Test → after.control ≡ before.control)

-- a test is itself the control source
abbrev pub TestBecomesControl : Type 0
TestBecomesControl = BehindOperations (λ what before after. what ≡ act.Test → after.control ≡ Some before.made)

-- as many calls are live
abbrev pub CallsAreKept : Type 0
CallsAreKept = BehindOperations (λ what before after. after.calls ≡ before.calls)

-- their sizes have the same sum
abbrev pub SizeIsKept : Type 0
SizeIsKept = BehindOperations (λ what before after. after.size ≡ before.size)

-- the numbers of the live objects, oldest first
abbrev pub numbers_of : Memory → List ℕ
numbers_of m = map (λ o. o.number) m.live

-- the same objects are live
abbrev pub NumbersAreKept : Type 0
NumbersAreKept = BehindOperations (λ what before after. numbers_of after.memory ≡ numbers_of before.memory)

-- Believed with a public law.
-- What every world keeps, whatever operations are made.
use Rattle.std.specs.Prelude.{ℕ, ◌≡◌, ◌≢◌, ◌+◌, ◌*◌, ◌<◌, ◌≤◌, List, [], ◌∷◌, ◌++◌, length, Option, Some, None}
use Rattle.k_num.specs.declared.place.Place.{Place}
use Rattle.k_optab.specs.declared.class.Class.{Class}
use Rattle.k_optab.specs.declared.event.Event.{Event}
use Rattle.k_optab.specs.declared.event.Event.TheVariants.{Op}
use Rattle.k_optab.specs.declared.event.Src.{Src}
use Rattle.k_optab.specs.Events.{operations, SourcesAreEarlier, total_latency}
use Rattle.k_ending.specs.declared.ending.End.{End}
use Rattle.k_ending.specs.declared.ending.End.TheVariants.{Returned, Trapped, OutOfSteps}
use Rattle.k_world.specs.declared.act.Act.{Act}
use Rattle.k_world.specs.declared.act.Act.TheVariants as act
use Rattle.k_world.specs.declared.value.Held.{Held}
use Rattle.k_world.specs.declared.value.Read.{Read}
use Rattle.k_world.specs.Acts.{hidden}
use Rattle.k_world.specs.Deeds.{deeds_behind}
use Rattle.k_world.specs.Operands.{are_set, values_of, source_in}
use Rattle.k_world.specs.Operations.{Made, Gives, Ends, operation}
use Rattle.k_world.specs.Worlds.{World, HasOrigins, with_events}

-- the source is one of the first operations, so many of which were made; or there is none
abbrev pub IsMade : ℕ → Option ℕ → Type 0
IsMade made None = Unit {0}
IsMade made (Some number) = number < made

-- so are all of these
abbrev pub AreMade : ℕ → List (Option ℕ) → Type 0
AreMade made [] = Unit {0}
AreMade made (source ∷ sources) = IsMade made source × AreMade made sources

-- whatever these operands hold came from one of the first operations, or from none
abbrev pub AllComeFrom : ℕ → List Read → Type 0
AllComeFrom made [] = Unit {0}
AllComeFrom made (r ∷ reads) = IsMade made (source_in r.slot) × AllComeFrom made reads

-- each of these numbers is a byte
abbrev pub AreBytes : List ℕ → Type 0
AreBytes [] = Unit {0}
AreBytes (b ∷ bytes) = (b < 256) × AreBytes bytes

-- A world in which so many operations may be made in all, each of which takes at most so long.
pub record IsSound (budget most : ℕ) (w : World) : Type 0 where
  -- the sources of each operation are earlier ones
  pub earlier : SourcesAreEarlier (operations w.events)
  -- the operations among the events are those that were made
  pub counted : length (operations w.events) ≡ w.made
  -- those made and those left are as many as may be made in all
  pub steps : w.made + w.left ≡ budget
  -- the work is bounded
  pub work : total_latency (operations w.events) ≤ w.made * most
  -- the control source, what the cells IN and OUT hold and the value of each element came from operations that were made
  pub control : IsMade w.made w.control
  pub in_cell : IsMade w.made w.in_cell
  pub out_cell : IsMade w.made w.out_cell
  pub elements : AreMade w.made w.origins

-- one operation stands behind these events
pub record HasOneMore (before after : List Event) : Type 0 where
  pub class : Class
  pub latency : ℕ
  pub sources : List Src
  pub place : Place
  pub is : after ≡ before ++ Op class latency sources place ∷ []

-- the run has ended, but not by a return from main
abbrev pub IsEarly : End → Type 0
IsEarly (Returned v) = ⊥
IsEarly (Trapped trap place) = Unit {0}
IsEarly OutOfSteps = Unit {0}

-- A sound world follows, and what the operation gave came from itself; or the run has ended early in the same world.
abbrev pub LeavesSound : ℕ → ℕ → World → Made → Type 0
LeavesSound budget most before (Gives held w) = IsSound budget most w × IsMade w.made held.source × HasOneMore before.events w.events
LeavesSound budget most before (Ends end w) = IsEarly end × (w ≡ before)

-- operations on what came from earlier ones keep a world sound
abbrev pub OperationsStaySound : Type 0
OperationsStaySound =
    (budget most : ℕ) (class : Class) (latency : ℕ) (place : Place) (what : Act) (reads : List Read) (w : World)
    → latency ≤ most
    → IsSound budget most w
    → AllComeFrom w.made reads
    → LeavesSound budget most w (operation class latency place what reads w)

-- where an operation gives something, this holds of the world before and the one behind it
abbrev pub WhereMade : (World → World → Type 0) → World → Made → Type 0
WhereMade P before (Gives held after) = P before after
WhereMade P before (Ends end after) = Unit {0}

-- one more operation was made, and one fewer is left
abbrev pub IsCounted : World → World → Type 0
IsCounted before after = (after.made ≡ before.made + 1) × (after.left + 1 ≡ before.left)

-- each operation is counted
abbrev pub OperationsCount : Type 0
OperationsCount =
    (class : Class) (latency : ℕ) (place : Place) (what : Act) (reads : List Read) (w : World)
    → WhereMade IsCounted w (operation class latency place what reads w)

-- what an operation did is told, with the value that it gave, where that is told of operations; and it stays told, or not
abbrev pub TellsDeed : Act → List Read → World → Made → Type 0
TellsDeed what reads before (Gives held after) =
    (after.telling ≡ before.telling)
    × (after.deeds ≡ deeds_behind before.telling before.deeds
    (record { what = what; reads = reads; hidden = hidden what (values_of reads) before; control = before.control; value = held.value } ∷ []))
TellsDeed what reads before (Ends end after) = Unit {0}

-- so it is of each operation
abbrev pub OperationsTellDeeds : Type 0
OperationsTellDeeds =
    (class : Class) (latency : ℕ) (place : Place) (what : Act) (reads : List Read) (w : World)
    → TellsDeed what reads w (operation class latency place what reads w)

-- a test alone changes the control source
abbrev pub ControlStays : Type 0
ControlStays =
    (class : Class) (latency : ℕ) (place : Place) (what : Act) (reads : List Read) (w : World)
    → what ≢ act.Test
    → WhereMade (λ before after. after.control ≡ before.control) w (operation class latency place what reads w)

-- and a test becomes it
abbrev pub TestsControl : Type 0
TestsControl =
    (class : Class) (latency : ℕ) (place : Place) (reads : List Read) (w : World)
    → WhereMade (λ before after. after.control ≡ Some before.made) w (operation class latency place act.Test reads w)

-- no operation makes an object or lets one die, or enters or leaves a call
abbrev pub CallsStay : Type 0
CallsStay =
    (class : Class) (latency : ℕ) (place : Place) (what : Act) (reads : List Read) (w : World)
    → WhereMade (λ before after. (after.calls ≡ before.calls) × (after.size ≡ before.size) × (after.memory.made ≡ before.memory.made))
    w (operation class latency place what reads w)

-- each live element keeps its entry
abbrev pub OriginsStay : Type 0
OriginsStay =
    (class : Class) (latency : ℕ) (place : Place) (what : Act) (reads : List Read) (w : World)
    → HasOrigins w
    → WhereMade (λ before after. HasOrigins after) w (operation class latency place what reads w)

-- a world without its events and deeds
abbrev pub forgotten : World → World
forgotten w = record w { events = []; deeds = [] }

-- both go the same way, but for events and deeds
abbrev pub GoAlike : Made → Made → Type 0
GoAlike (Gives a v) (Gives b w) = (a ≡ b) × (forgotten v ≡ forgotten w)
GoAlike (Gives a v) (Ends end w) = ⊥
GoAlike (Ends end v) (Gives a w) = ⊥
GoAlike (Ends a v) (Ends b w) = (a ≡ b) × (forgotten v ≡ forgotten w)

-- operands of equal values give equal results, wherever their values came from, in worlds that are equal but for their events
abbrev pub EqualReadsGoAlike : Type 0
EqualReadsGoAlike =
    (class : Class) (latency : ℕ) (place : Place) (what : Act) (some others : List Read) (w : World) (events : List Event)
    → are_set some ≡ are_set others
    → values_of some ≡ values_of others
    → GoAlike (operation class latency place what some w) (operation class latency place what others (with_events events w))

-- Believed with the theorem on the top call.
-- The state of an evaluation and its parts: how they follow one another, and how an operation is one.
use Rattle.std.specs.Prelude.{ℕ, Bool, true, false, List, map, slice_get, slice_set, Option, Some, None}
use Rattle.k_num.specs.declared.place.Place.{Place}
use Rattle.k_optab.specs.declared.class.Class.{Class}
use Rattle.k_optab.specs.declared.event.Event.TheVariants as event
use Rattle.k_optab.specs.Latencies.{latency}
use Rattle.k_ending.specs.declared.ending.End.{End}
use Rattle.k_ending.specs.declared.ending.End.TheVariants.{Trapped}
use Rattle.k_ending.specs.declared.ending.Trap.{Trap}
use Rattle.k_types_meaning.specs.declared.tree.unit.TUnit.{TUnit}
use Rattle.k_marks_meaning.specs.declared.Marks.{Marks}
use Rattle.k_world.specs.declared.act.Act.{Act}
use Rattle.k_world.specs.declared.value.Held.{Held}
use Rattle.k_world.specs.declared.value.Read.{Read}
use Rattle.k_world.specs.Worlds.{World}
pub use Rattle.k_world.specs.Operands.{held_by}
pub use Rattle.k_world.specs.Worlds.{with_event}
use Rattle.k_world.specs.Operations.{Made, Gives, Ends, operation}
use Rattle.k_evaluation.specs.declared.operand.Operand.{Operand}
use Rattle.k_evaluation.specs.declared.operand.Operand.TheVariants.{Constant, Holding, Register}

-- What stays the same while a program runs: its typed tree, its marks, and the latency of each class.
pub record Program : Type 0 where
  pub unit : TUnit
  pub marks : Marks
  pub latencies : List ℕ

-- The variables of the call that runs, by number, and the world. A register holds its value, or nothing where it is not set; a variable
-- that is memory holds the pointer to its object, from its declaration on.
pub record State : Type 0 where
  pub vars : List (Option Held)
  pub world : World

-- A part of a run goes on with what it gives and the state that it leaves, or the run ends in it.
pub data Outcome (A : Type 0) : Type 0 where
  Goes : A → State → Outcome A
  Stops : End → World → Outcome A

-- a part of a run
abbrev pub Part : Type 0 → Type 0
Part A = State → Outcome A

-- what follows where a part goes on
abbrev pub follow : {A B : Type 0} → Outcome A → (A → Part B) → Outcome B
follow (Goes a s) next = next a s
follow (Stops end world) next = Stops end world

infixl 10 ◌>>=◌
-- one part behind another
abbrev pub ◌>>=◌ : {A B : Type 0} → Part A → (A → Part B) → Part B
(part >>= next) s = follow (part s) next

-- nothing happens, and this is given
abbrev pub gives : {A : Type 0} → A → Part A
gives a s = Goes a s

-- the run traps at this place
abbrev pub traps : {A : Type 0} → Trap → Place → Part A
traps trap place s = Stops (Trapped trap place) s.world

-- what the variable of this number holds
abbrev pub held_in : State → ℕ → Option Held
held_in s n = held_by (slice_get s.vars n)

-- an operand as it is read now
abbrev pub read : State → Operand → Read
read s (Constant v) = record { slot = Some (record { value = v; source = None }); broken = false }
read s (Holding held) = record { slot = Some held; broken = false }
read s (Register n broken) = record { slot = held_in s n; broken = broken }

-- an operation that was made, as a part of the run
abbrev pub made : State → Made → Outcome Held
made s (Gives held world) = Goes held (record s { world = world })
made s (Ends end world) = Stops end world

-- AN OPERATION of this class at this place: its operands are read now
abbrev pub makes : Program → Class → Place → Act → List Operand → Part Held
makes program class place act operands s =
    made s (operation class (latency program.latencies class) place act (map (read s) operands) s.world)

-- the same, where the value is an operand of what follows
abbrev pub computes : Program → Class → Place → Act → List Operand → Part Operand
computes program class place act operands = makes program class place act operands >>= λ held. gives (Holding held)

-- a variable holds this from now on, or nothing
abbrev pub sets : ℕ → Option Held → Part (Unit {0})
sets n slot s = Goes tt (record s { vars = slice_set s.vars n slot })

-- an instance of a region is entered
abbrev pub enters : ℕ → Part (Unit {0})
enters region s = Goes tt (record s { world = with_event (event.Enter region) s.world })

-- the newest open instance is left
abbrev pub exits : Part (Unit {0})
exits s = Goes tt (record s { world = with_event event.Exit s.world })

-- A region around a part: it is left whatever the part gives. Where the run ends in the part, it stays open.
abbrev pub region : {A : Type 0} → ℕ → Part A → Part A
region number part = enters number >>= λ entered. part >>= λ a. exits >>= λ left. gives a

-- the control source now
abbrev pub control : Part (Option ℕ)
control s = Goes s.world.control s

-- the control source is this from now on
abbrev pub controls : Option ℕ → Part (Unit {0})
controls c s = Goes tt (record s { world = record s.world { control = c } })

-- the control source stays as it is, or is this
abbrev pub settles : Bool → Option ℕ → Part (Unit {0})
settles true c = gives tt
settles false c = controls c

-- THE CONTROL SOURCE BEHIND A PART stays as the part leaves it, or else it is as before the part
abbrev pub settled : {A : Type 0} → Bool → Part A → Part A
settled stays part = control >>= λ c. part >>= λ a. settles stays c >>= λ done. gives a

-- For contracts between crates: nobody has to believe it.
-- What is listed of an instruction, by what it does.
use Rattle.std.specs.Prelude.{ℕ, ◌≡◌, Bool, true, false, List, [], ◌∷◌, Option, Some, None}
use Rattle.k_optab.specs.declared.class.Class.{Class}
use Rattle.k_optab.specs.declared.class.Class.TheVariants as class
use Rattle.k_optab.specs.declared.event.Event.{Event}
use Rattle.k_optab.specs.declared.event.Event.TheVariants.{Op}
use Rattle.k_world.specs.declared.act.Act.{Act}
use Rattle.k_world.specs.declared.value.Read.{Read}
use Rattle.k_world.specs.Operands.{sources}
use Rattle.k_code.specs.declared.instruction.Arg.{Arg}
use Rattle.k_code.specs.declared.instruction.Do.{Do}
use Rattle.k_code.specs.declared.instruction.Do.TheVariants as act
use Rattle.k_code.specs.declared.instruction.Instr.{Instr}
use Rattle.k_hcpa_store.specs.Leads.{alone_events, goes_alone, goes_by}
use Rattle.k_plain.specs.declared.kind.Kind.{Kind}
use Rattle.k_plain.specs.declared.kind.Kind.TheVariants as kind

-- the class of an operation, if there is one
abbrev pub class_told : Option (Class × Act) → Option Class
class_told None = None
class_told (Some o) = Some o.0

-- a value is there
abbrev pub is_given : Option Arg → Bool
is_given None = false
is_given (Some a) = true

-- the kind of an instruction
abbrev pub IsKind : Do → Kind → Type 0
IsKind what (kind.Operation class) = class_told (goes_by what) ≡ Some class
IsKind what kind.Alone = (goes_alone what ≡ true) × (alone_events what ≡ [])
IsKind what (kind.Enter region) = what ≡ act.Enter region
IsKind what kind.Exit = what ≡ act.Exit
IsKind what (kind.Call func) = (args : List Arg) × ((to : Option ℕ) × (what ≡ act.Call func args to))
IsKind what (kind.Return moves) = (value : Option Arg) × (what ≡ act.Return value) × (moves ≡ is_given value)

-- the event of a value that a return moves, if it does, by what its operand reads and by the control source
abbrev pub where_moved : Bool → Instr → List Read → Option ℕ → List Event
where_moved true i reads control = Op class.Move i.latency (sources reads None control) i.place ∷ []
where_moved false i reads control = []

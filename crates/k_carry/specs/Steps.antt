-- For contracts between crates: nobody has to believe it.
-- What happens by one instruction.
use Rattle.std.specs.Prelude.{ℕ, ◌≡◌, is_some, Bool, true, false, List, [], ◌∷◌, ◌++◌, replicate, Option, Some, None}
use Rattle.k_optab.specs.declared.class.Class.{Class}
use Rattle.k_optab.specs.declared.event.Event.{Event}
use Rattle.k_optab.specs.declared.event.Event.TheVariants.{Enter, Exit}
use Rattle.k_ending.specs.declared.ending.End.{End}
use Rattle.k_world.specs.Worlds.{World}
use Rattle.k_code.specs.declared.instruction.Arg.{Arg}
use Rattle.k_code.specs.declared.instruction.Do.{Do}
use Rattle.k_code.specs.declared.instruction.Do.TheVariants as act
use Rattle.k_code.specs.declared.instruction.Instr.{Instr}
use Rattle.k_code.specs.Steps.{Configuration, Over}
use Rattle.k_hcpa_meaning.specs.Behind.{world_behind}
use Rattle.k_hcpa_store.specs.Kept.{Kept, configuration_of}
use Rattle.k_hcpa_store.specs.Leads.{GoesOn, StepsTo, alone_events, event_told, goes_alone, goes_by}
use Rattle.k_carry.specs.declared.advance.Happened.{Happened}
use Rattle.k_carry.specs.declared.advance.Made.{Made}
use Rattle.k_carry.specs.declared.kind.Kind.{Kind}
use Rattle.k_carry.specs.declared.kind.Kind.TheVariants as kind

-- there is an operand
abbrev pub is_given : Option Arg → Bool
is_given None = false
is_given (Some a) = true

-- the kind of an instruction
abbrev pub IsKind : Do → Kind → Type 0
IsKind what kind.Operation = is_some (goes_by what) ≡ true
IsKind what kind.Alone = (goes_alone what ≡ true) × (alone_events what ≡ [])
IsKind what (kind.Enter region) = what ≡ act.Enter region
IsKind what kind.Exit = what ≡ act.Exit
IsKind what (kind.Call func) = (args : List Arg) × ((to : Option ℕ) × (what ≡ act.Call func args to))
IsKind what (kind.Return moves) = (value : Option Arg) × (what ≡ act.Return value) × (moves ≡ is_given value)

-- nothing happened but that the run ended, or did not
abbrev pub none_happened : Option End → Happened
none_happened end = record { operation = None; entered = None; left = 0; end = end }

-- the operation that moves what is returned, if one does
abbrev pub moved : Bool → Option ℕ → Option Made
moved true control = Some (record { hidden = None; control = control; element = None })
moved false control = None

-- the event of an operation of this class, if one was made
abbrev pub operation_events : Class → Instr → Configuration → Option Made → List Event
operation_events class i c None = []
operation_events class i c (Some m) = event_told class i c m.hidden m.control ∷ []

-- the event of a region that is entered, if one is
abbrev pub entered_events : Option ℕ → List Event
entered_events None = []
entered_events (Some region) = Enter region ∷ []

-- the events of an instruction: an operation, an instance that is entered, instances that are left
abbrev pub happened : Class → Instr → Configuration → Happened → List Event
happened class i c h = operation_events class i c h.operation ++ (entered_events h.entered ++ replicate h.left Exit)

-- the run ends, in some world but for what lies behind it
abbrev pub EndsAfter : Kept → List Event → End → Type 0
EndsAfter old more end = (w : World) × StepsTo old (λ events taken. Over end (world_behind (events ++ more) taken w))

-- the run goes on, or ends, behind these events
abbrev pub GoesOrEnds : Kept → List Event → Option End → Kept → Type 0
GoesOrEnds old more None new = GoesOn old more new
GoesOrEnds old more (Some end) new = EndsAfter old more end

-- what an instruction did is told
abbrev pub Advances : Kept → Instr → Happened → Kept → Type 0
Advances old i h new = (class : Class) × GoesOrEnds old (happened class i (configuration_of old) h) h.end new

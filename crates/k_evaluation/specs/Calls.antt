-- Believed with the theorem on the top call.
-- Calls: the call operation, the limits, the parameters, the function's block, and what the caller goes on with (C17 6.5.2.2, 6.9.1).
use Rattle.std.specs.Prelude.{ℕ, zero, suc, ◌+◌, ◌*◌, nat_eq, Bool, true, false, if◌then◌else◌, pos, List, [], ◌∷◌, map, slice_get, take, Option, Some, None}
use Rattle.k_num.specs.declared.place.Place.{Place}
use Rattle.k_optab.specs.declared.class.Class.TheVariants as class
use Rattle.k_ending.specs.declared.ending.Trap.TheVariants.{StackOverflow, FallOff}
use Rattle.k_types_meaning.specs.declared.types.TType.{TType}
use Rattle.k_types_meaning.specs.declared.types.TType.TheVariants as ttype
use Rattle.k_types_meaning.specs.declared.tree.unit.TFunc.{TFunc}
use Rattle.k_types_meaning.specs.declared.tree.unit.TVariable.{TVariable}
use Rattle.k_mem.specs.declared.start.Start.TheVariants.{Unset}
use Rattle.k_world.specs.declared.act.Act.TheVariants as act
use Rattle.k_world.specs.declared.value.Held.{Held}
use Rattle.k_world.specs.declared.value.Value.TheVariants as value
pub use Rattle.k_world.specs.Limits.{is_too_large}
use Rattle.k_world.specs.Worlds.{World}
use Rattle.k_evaluation.specs.declared.operand.Operand.{Operand}
use Rattle.k_evaluation.specs.declared.operand.Operand.TheVariants.{Constant, Holding, Register}
use Rattle.k_evaluation.specs.declared.flow.Flow.{Flow}
use Rattle.k_evaluation.specs.declared.flow.Flow.TheVariants.{Normal, Broke, Continued, Returned}
use Rattle.k_evaluation.specs.States.{Program, State, Outcome, Goes, Stops, Part, ◌>>=◌, gives, traps, read, makes, sets, region}
use Rattle.k_evaluation.specs.Objects.{makes_object, block}
use Rattle.k_evaluation.specs.Meanings.{nothing}
use Rattle.k_evaluation.specs.Expressions.{Calls}
use Rattle.k_evaluation.specs.Flows.{Within, in_order}
use Rattle.k_evaluation.specs.Statements.{does}

-- what the variables hold before anything is passed to them: nothing
abbrev pub unset : List TVariable → List (Option Held)
unset vs = map (λ (v : TVariable). None) vs

-- the arguments stand in the first variables
abbrev pub with_arguments : List (Option Held) → List (Option Held) → List (Option Held)
with_arguments [] vars = vars
with_arguments (a ∷ args) [] = []
with_arguments (a ∷ args) (v ∷ vars) = a ∷ with_arguments args vars

-- a parameter that is memory has its object from now on, and a store writes the argument into it; both at the parameter
abbrev pub stores_argument : Program → Place → ℕ → Held → Part (Unit {0})
stores_argument program place n home =
    makes program class.Store place act.Store (Constant home.value ∷ Register n false ∷ []) >>= λ held. sets n (Some home)

-- a parameter, by how many elements its object has: it stays in its register where it has none
abbrev pub serves_by : Program → Place → ℕ → ℕ → Part (Unit {0})
serves_by program place n zero = gives tt
serves_by program place n (suc count) = makes_object place Unset (suc count) >>= stores_argument program place n

-- the parameters from this number on, of which there are so many, in their order
abbrev pub serves : Program → ℕ → ℕ → List TVariable → Part (Unit {0})
serves program n zero vs = gives tt
serves program n (suc count) [] = gives tt
serves program n (suc count) (v ∷ vs) = serves_by program v.place n v.elements >>= λ done. serves program (n + 1) count vs

-- C17 5.1.2.2.3p1, 6.9.1p12: the end of main gives 0, without a source, and that of another function with a result traps
abbrev pub falls_off : Bool → Place → Part (Option Held)
falls_off true close = gives (Some (record { value = value.Number (pos 0); source = None }))
falls_off false close = traps FallOff close

-- the value of a call that reached the end of its function
abbrev pub at_end : Program → ℕ → Place → TType → Part (Option Held)
at_end program number close ttype.Void = gives None
at_end program number close (ttype.Number kind) = falls_off (nat_eq number program.unit.main) close
at_end program number close (ttype.Pointer target) = falls_off (nat_eq number program.unit.main) close

-- the value of a call whose block ended so: no `break` and no `continue` leads out of a function
abbrev pub result_of : Program → ℕ → TFunc → Flow → Part (Option Held)
result_of program number f Normal = at_end program number f.close f.result
result_of program number f Broke = at_end program number f.close f.result
result_of program number f Continued = at_end program number f.close f.result
result_of program number f (Returned v) = gives v

-- the region of a function
abbrev pub function_region : ℕ → TFunc → ℕ
function_region number f = number + 2 * f.loops

-- what lies around the statements of a function
abbrev pub within : Program → Calls → ℕ → TFunc → Within
within program calls number f = record { program = program; function = number; vars = f.variables; calls = calls }

-- the parameters that are memory, and then the statements
abbrev pub body : Program → Calls → ℕ → TFunc → Part Flow
body program calls number f = serves program 0 f.params f.variables >>= λ served. in_order (map (does (within program calls number f)) f.body)

-- A FUNCTION with its arguments in its variables: its region, in which its objects live
unfoldable pub runs : Program → Calls → ℕ → TFunc → Part (Option Held)
runs program calls number f =
    region (function_region number f) (block (body program calls number f >>= result_of program number f))

-- one call more is live
abbrev pub with_call : TFunc → World → World
with_call f w = record w { calls = w.calls + 1; size = w.size + f.nodes }

-- the state in which a function begins: its parameters hold these arguments, and the control source is the caller's
abbrev pub entered : TFunc → List (Option Held) → State → State
entered f args s = record { vars = with_arguments (take f.params args) (unset f.variables); world = with_call f s.world }

-- a value that a call gave, as an operand; that of void is not used
abbrev pub as_operand : Option Held → Operand
as_operand None = nothing
as_operand (Some held) = Holding held

-- the caller goes on with its own variables and control source
abbrev pub back_to : State → Outcome (Option Held) → Outcome Operand
back_to caller (Goes v s) = Goes (as_operand v) (record {
  vars = caller.vars;
  world = record s.world { control = caller.world.control; calls = caller.world.calls; size = caller.world.size };
})
back_to caller (Stops end w) = Stops end w

-- a function is entered, where the limit of nodes allows it
abbrev pub enters_function : Program → Calls → ℕ → Place → TFunc → List (Option Held) → Part Operand
enters_function program inner number place f args s =
    if is_too_large s.world f.nodes then traps StackOverflow place s else back_to s (runs program inner number f (entered f args s))

-- the function of a number is entered
abbrev pub enters_number : Program → Calls → ℕ → Place → Option TFunc → List (Option Held) → Part Operand
enters_number program inner number place None args = gives nothing
enters_number program inner number place (Some f) args = enters_function program inner number place f args

-- THE CALL OPERATION: it reads the arguments, and gives what they hold
abbrev pub calls_operation : Program → Place → List Operand → Part (List (Option Held))
calls_operation program place args s = (makes program class.Call place act.Call args >>= λ done. gives (map (λ a. (read s a).slot) args)) s

-- THE CALLS of a program where so many more calls may be live: one more than these traps behind its operation
unfoldable pub calls : ℕ → Program → Calls
calls zero program number place args = calls_operation program place args >>= λ given. traps StackOverflow place
calls (suc n) program number place args =
    calls_operation program place args >>= enters_number program (calls n program) number place (slice_get program.unit.functions number)

-- Believed with a public law.
-- Times are heaviest paths behind calls and returns and at the start of a run: the statements of the laws.
use Rattle.std.specs.Prelude.{ℕ, ◌≡◌, ◌+◌, ◌^◌, ◌<◌, ℤ, List, [], ◌∷◌, length, slice_get, Option, Some, option_map}
use Rattle.k_optab.specs.declared.class.Class.TheVariants as class
use Rattle.k_optab.specs.Events.{operations, total_latency}
use Rattle.k_optab.specs.Open.{open_after}
use Rattle.k_ending.specs.declared.ending.End.{End}
use Rattle.k_ending.specs.declared.ending.End.TheVariants.{Returned}
use Rattle.k_world.specs.declared.act.Act.TheVariants as does
use Rattle.k_world.specs.declared.value.Held.{Held}
use Rattle.k_world.specs.Operations.{Gives, operation}
use Rattle.k_world.specs.Worlds.{World}
use Rattle.k_code.specs.declared.code.Code.{Code}
use Rattle.k_code.specs.declared.code.CodeFunc.{CodeFunc}
use Rattle.k_code.specs.declared.instruction.Arg.{Arg}
use Rattle.k_code.specs.declared.instruction.Do.TheVariants.{Call, Return}
use Rattle.k_code.specs.declared.instruction.Instr.{Instr}
use Rattle.k_code.specs.Finds.{Finds}
use Rattle.k_code.specs.Runs.{run_of}
use Rattle.k_code.specs.Steps.{Configuration, Going, Over, Waiting, reads_of, step}
use Rattle.k_code.specs.Valid.{IsValid}
use Rattle.k_hcpa_meaning.specs.Calls.{arguments_handed, called_below, returned_below}
use Rattle.k_hcpa_meaning.specs.Locations.{first_register, frames_of, operand_locations, saved_in, waiting_frames, widths}
use Rattle.k_hcpa_meaning.specs.Timed.{ArePaths, IsTimed, IsTraced}
use Rattle.k_hcpa_meaning.specs.Timings.{Timing, begun, entered_below, no_levels, operated, settled}
use Rattle.k_hcpa_laws.specs.Laws.{Goes, IsShort}

-- a run of this code ends by this instruction, in this world, where the configuration is one of a run of valid code
pub record Stops (code : Code) (c : Configuration) (i : Instr) (end : End) (w : World) : Type 0 where
  pub there : slice_get code.instrs c.pc ≡ Some i
  pub step : step code (Going c) ≡ Over end w
  pub traced : IsTraced code c
  pub finds : Finds code c

-- how many instances are open
abbrev pub opened : Configuration → ℕ
opened c = length (open_after c.world.events)

-- a call that is entered keeps times
abbrev pub CallsKeepTimes : Type 0
CallsKeepTimes =
    (code : Code) (depth : ℕ) (c c' : Configuration) (t : Timing) (i : Instr) (func : ℕ) (args : List Arg) (to : Option ℕ) (f : CodeFunc)
    → Goes code c i c'
    → i.act ≡ Call func args to
    → slice_get code.funcs func ≡ Some f
    → IsShort c'
    → IsTimed code depth c t
    → IsTimed code depth c' (called_below depth (opened c) (first_register code c) (widths code (frames_of c)) f.params args i.latency t)

-- where its operation is made, and the run ends behind it, the paths are those that the operation leaves
abbrev pub CallsHavePaths : Type 0
CallsHavePaths =
    (code : Code) (depth : ℕ) (c : Configuration) (t : Timing) (i : Instr) (func : ℕ) (args : List Arg) (to : Option ℕ) (held : Held) (v w : World) (end : End)
    → Stops code c i end w
    → i.act ≡ Call func args to
    → operation class.Call i.latency i.place does.Call (reads_of c i.act) c.world ≡ Gives held v
    → total_latency (operations w.events) < 2 ^ 64
    → IsTimed code depth c t
    → ArePaths depth w.events (operated (operand_locations (first_register code c) args) i.latency t).paths

-- whatever operands were handed to parameters before that
abbrev pub HandedCallsHavePaths : Type 0
HandedCallsHavePaths =
    (code : Code) (depth params : ℕ) (c : Configuration) (t : Timing) (i : Instr) (func : ℕ) (args : List Arg) (to : Option ℕ) (held : Held) (v w : World) (end : End)
    → Stops code c i end w
    → i.act ≡ Call func args to
    → operation class.Call i.latency i.place does.Call (reads_of c i.act) c.world ≡ Gives held v
    → total_latency (operations w.events) < 2 ^ 64
    → IsTimed code depth c t
    → ArePaths depth w.events (settled i.latency (arguments_handed (first_register code c) (widths code (frames_of c)) params args (begun t))).paths

-- the number, among the registers of all live calls, of the register to which what is returned goes
abbrev pub back_register : Code → Waiting → List Waiting → Option ℕ
back_register code caller waiting = option_map (λ r. widths code (waiting_frames waiting) + r) caller.to

-- a call that returns to one that waits keeps times
abbrev pub ReturnsKeepTimes : Type 0
ReturnsKeepTimes =
    (code : Code) (depth : ℕ) (c c' : Configuration) (t : Timing) (i : Instr) (value : Option Arg) (caller : Waiting) (waiting : List Waiting)
    → Goes code c i c'
    → i.act ≡ Return value
    → c.waiting ≡ caller ∷ waiting
    → IsShort c'
    → IsTimed code depth c t
    → IsTimed code depth c' (returned_below depth (opened c) (first_register code c) value i.latency (back_register code caller waiting)
    (length (saved_in (waiting_frames c.waiting))) (c.frame.regions + 1) t)

-- where the oldest call returns the paths are those that its operation and its regions leave, whatever else is done
abbrev pub LastReturnsHavePaths : Type 0
LastReturnsHavePaths =
    (code : Code) (depth : ℕ) (c : Configuration) (t : Timing) (i : Instr) (value : Option Arg) (v : ℤ) (w : World) (back : Option ℕ) (saved : ℕ)
    → Stops code c i (Returned v) w
    → i.act ≡ Return value
    → c.waiting ≡ []
    → total_latency (operations w.events) < 2 ^ 64
    → IsTimed code depth c t
    → ArePaths depth w.events (returned_below depth (opened c) (first_register code c) value i.latency back saved (c.frame.regions + 1) t).paths

-- before the first instruction main's region is open, and nothing has a time
abbrev pub StartsAreTimed : Type 0
StartsAreTimed =
    (code : Code) (depth : ℕ)
    → IsValid code
    → (input : List ℕ) (budget : ℕ) (c : Configuration)
    → run_of code input budget 0 ≡ Going c
    → IsTimed code depth c (entered_below depth 0 no_levels)

-- Believed with a public law.
-- The times that a machine keeps stay weights of heaviest paths, whatever instruction is run: the statements of the laws, but for calls and returns.
use Rattle.std.specs.Prelude.{ℕ, ◌≡◌, ◌+◌, ◌^◌, ◌<◌, ◌≤◌, List, length, slice_get, Some, Ok}
use Rattle.k_num.specs.declared.initial.Initial.{Initial}
use Rattle.k_optab.specs.declared.class.Class.{Class}
use Rattle.k_optab.specs.Events.{operations, total_latency}
use Rattle.k_optab.specs.Open.{open_after}
use Rattle.k_ending.specs.declared.ending.End.{End}
use Rattle.k_mem.specs.Calls.{first_of, length_of}
use Rattle.k_world.specs.declared.act.Act.{Act}
use Rattle.k_world.specs.declared.value.Held.{Held}
use Rattle.k_world.specs.Operations.{Gives, Ends, operation}
use Rattle.k_world.specs.WorldLaws.{IsSound}
use Rattle.k_world.specs.Worlds.{World}
use Rattle.k_code.specs.declared.code.Code.{Code}
use Rattle.k_code.specs.declared.instruction.Do.{Do}
use Rattle.k_code.specs.declared.instruction.Do.TheVariants as act
use Rattle.k_code.specs.declared.instruction.Home.{Home}
use Rattle.k_code.specs.declared.instruction.Home.TheVariants.{Local}
use Rattle.k_code.specs.declared.instruction.Instr.{Instr}
use Rattle.k_code.specs.Finds.{Finds}
use Rattle.k_code.specs.Steps.{Configuration, Going, Over, object_at, operation_of, reads_of, step}
use Rattle.k_hcpa_meaning.specs.Locations.{depends_on, element_touched, first_register, held_in}
use Rattle.k_hcpa_meaning.specs.Timed.{ArePaths, IsTimed, IsTraced}
use Rattle.k_hcpa_meaning.specs.Timings.{Timing, control_back, control_kept, control_restored, control_saved, elements_cleared, entered_below, given_to_all, left_below, operated, registers_cleared}

-- the instruction neither calls nor returns
abbrev pub StaysInCall : Do → Type 0
StaysInCall (act.Call func args to) = ⊥
StaysInCall (act.Return value) = ⊥
StaysInCall _ = Unit {0}

-- all operations so far together take less than 2^64
abbrev pub IsShort : Configuration → Type 0
IsShort c = total_latency (operations c.world.events) < 2 ^ 64

-- a run of this code goes by this instruction from one configuration to another, where the first is one of a run of valid code
pub record Goes (code : Code) (c : Configuration) (i : Instr) (c' : Configuration) : Type 0 where
  pub there : slice_get code.instrs c.pc ≡ Some i
  pub step : step code (Going c) ≡ Going c'
  pub traced : IsTraced code c
  pub finds : Finds code c

-- an operation waits for what it depends on, and what it gave has its time
abbrev pub OperationsKeepTimes : Type 0
OperationsKeepTimes =
    (code : Code) (depth : ℕ) (c c' : Configuration) (t : Timing) (i : Instr) (o : Class × Act)
    → Goes code c i c'
    → operation_of i.act ≡ Some o
    → StaysInCall i.act
    → IsShort c'
    → IsTimed code depth c t
    → IsTimed code depth c' (given_to_all (held_in (first_register code c) i.act o.1 (element_touched c i.act o.1))
    (operated (depends_on (first_register code c) i.act o.1 (element_touched c i.act o.1)) i.latency t))

-- behind this instruction the times are these
abbrev pub HasTimes : Do → (Code → ℕ → Configuration → Timing → Timing) → Type 0
HasTimes what behind =
    (code : Code) (depth : ℕ) (c c' : Configuration) (t : Timing) (i : Instr)
    → Goes code c i c'
    → i.act ≡ what
    → IsTimed code depth c t
    → IsTimed code depth c' (behind code depth c t)

-- a jump leaves the times as they are
abbrev pub JumpsKeepTimes : Type 0
JumpsKeepTimes = (to : ℕ) → HasTimes (act.Jump to) (λ code depth c t. t)

-- so does an instruction that clears a register
abbrev pub ForgettingKeepsTimes : Type 0
ForgettingKeepsTimes = (register : ℕ) → HasTimes (act.Forget register) (λ code depth c t. t)

-- so does one that makes an object
abbrev pub OpeningObjectsKeepsTimes : Type 0
OpeningObjectsKeepsTimes = (elements : ℕ) → HasTimes (act.ObjectOpen elements) (λ code depth c t. t)

-- so does one by which objects die
abbrev pub ClosingObjectsKeepsTimes : Type 0
ClosingObjectsKeepsTimes = (count : ℕ) → HasTimes (act.ObjectsClose count) (λ code depth c t. t)

-- no operation gave an address
abbrev pub AddressesHaveNoTime : Type 0
AddressesHaveNoTime = (home : Home) (offset to : ℕ)
    → HasTimes (act.Address home offset to) (λ code depth c t. registers_cleared (first_register code c + to) 1 t)

-- no operation gave the elements of an object that is filled
abbrev pub FilledElementsHaveNoTime : Type 0
FilledElementsHaveNoTime = (local : ℕ) (values : List Initial) (object first count : ℕ)
    → (code : Code) (depth : ℕ) (c c' : Configuration) (t : Timing) (i : Instr)
    → Goes code c i c'
    → i.act ≡ act.Fill local values
    → object_at (Local local) c ≡ Some object
    → first_of c.world.memory object ≡ Ok first
    → length_of c.world.memory object ≡ Ok count
    → IsTimed code depth c t
    → IsTimed code depth c' (elements_cleared first count t)

-- the control source is saved with its times
abbrev pub SavesKeepTimes : Type 0
SavesKeepTimes = HasTimes act.Save (λ code depth c t. control_saved t)

-- a saved one is dropped
abbrev pub KeepsDropTimes : Type 0
KeepsDropTimes = HasTimes act.Keep (λ code depth c t. control_kept t)

-- or taken back
abbrev pub BacksTakeTimes : Type 0
BacksTakeTimes = HasTimes act.Back (λ code depth c t. control_back t)

-- or taken back while it stays saved
abbrev pub RestoresTakeTimes : Type 0
RestoresTakeTimes = HasTimes act.Restore (λ code depth c t. control_restored t)

-- an instance that is entered has a level, where its depth is tracked
abbrev pub EntersAddLevels : Type 0
EntersAddLevels = (region : ℕ) → HasTimes (act.Enter region) (λ code depth c t. entered_below depth (length (open_after c.world.events)) t)

-- and one that is left has one no more
abbrev pub ExitsTakeLevels : Type 0
ExitsTakeLevels = HasTimes act.Exit (λ code depth c t. left_below depth (length (open_after c.world.events)) t)

-- an operation that is made raises the paths, whatever comes behind it
abbrev pub OperationsRaisePaths : Type 0
OperationsRaisePaths =
    (code : Code) (depth : ℕ) (c : Configuration) (t : Timing) (i : Instr) (o : Class × Act) (held : Held) (w : World)
    → slice_get code.instrs c.pc ≡ Some i
    → operation_of i.act ≡ Some o
    → operation o.0 i.latency i.place o.1 (reads_of c i.act) c.world ≡ Gives held w
    → IsTraced code c
    → Finds code c
    → total_latency (operations w.events) < 2 ^ 64
    → IsTimed code depth c t
    → ArePaths depth w.events (operated (depends_on (first_register code c) i.act o.1 (element_touched c i.act o.1)) i.latency t).paths

-- the paths stay where the run ends in place of an operation
abbrev pub RefusedOperationsKeepPaths : Type 0
RefusedOperationsKeepPaths =
    (code : Code) (depth : ℕ) (c : Configuration) (t : Timing) (i : Instr) (o : Class × Act) (end : End) (w : World)
    → operation o.0 i.latency i.place o.1 (reads_of c i.act) c.world ≡ Ends end w
    → IsTimed code depth c t
    → ArePaths depth w.events t.paths

-- and where it ends by an instruction that neither calls nor returns
abbrev pub EndsKeepPaths : Type 0
EndsKeepPaths =
    (code : Code) (depth : ℕ) (c : Configuration) (t : Timing) (i : Instr) (end : End) (w : World)
    → slice_get code.instrs c.pc ≡ Some i
    → StaysInCall i.act
    → step code (Going c) ≡ Over end w
    → IsTimed code depth c t
    → ArePaths depth w.events t.paths

-- in a world in which at most so many operations may be made as a profile has, of latencies as the table has them, all together take less than 2^64
abbrev pub SoundWorldsAreShort : Type 0
SoundWorldsAreShort = (budget most : ℕ) (w : World) → budget ≤ 1000000000 → most ≤ 10000 → IsSound budget most w
    → total_latency (operations w.events) < 2 ^ 64

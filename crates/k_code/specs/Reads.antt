-- Believed with a public law.
-- *Read count*: how often the times of operands are read where a run's critical paths are followed at each live level.
use Rattle.std.specs.Prelude.{ℕ, zero, suc, ◌≡◌, ◌+◌, ◌*◌, ◌≤◌, min, List, [], ◌∷◌, length, slice_get, Option, Some, None}
use Rattle.k_optab.specs.declared.class.Class.{Class}
use Rattle.k_optab.specs.Open.{open_after}
use Rattle.k_world.specs.declared.act.Act.{Act}
use Rattle.k_world.specs.declared.act.Act.TheVariants as does
use Rattle.k_world.specs.declared.value.Read.{Read}
use Rattle.k_world.specs.Acts.{hidden}
use Rattle.k_world.specs.Operands.{sources, values_of}
use Rattle.k_world.specs.Operations.{Made, Gives, Ends, operation}
use Rattle.k_world.specs.Worlds.{World}
use Rattle.k_code.specs.declared.code.Code.{Code}
use Rattle.k_code.specs.declared.instruction.Instr.{Instr}
use Rattle.k_code.specs.Named.{operands}
use Rattle.k_code.specs.Runs.{run_of}
use Rattle.k_code.specs.Steps.{Waiting, Configuration, Run, Going, Over, operation_of, reads_of}
use Rattle.k_code.specs.Valid.{IsValid}

-- the operands of an operation that its instruction does not name: the element that is loaded, and the cells IN and OUT
unfoldable pub beside : Act → ℕ
beside does.Load = 1
beside does.Input = 1
beside (does.Output what) = 1
beside what = 0

-- what an operation reads at one level: its operands, constants among them, and the control source
abbrev pub reads_once : Act → ℕ → ℕ
reads_once what named = named + beside what + 1

-- the regions that are open in calls that wait
abbrev pub open_waiting : List Waiting → ℕ
open_waiting [] = 0
open_waiting (w ∷ waiting) = w.frame.regions + 1 + open_waiting waiting

-- the regions that are open, each call's own among them
abbrev pub open_regions : Configuration → ℕ
open_regions c = c.frame.regions + 1 + open_waiting c.waiting

-- so many reads where the operation is made
abbrev pub if_made : ℕ → Made → ℕ
if_made reads (Gives held w) = reads
if_made reads (Ends end w) = 0

-- the reads of the operation that an instruction makes, at the levels of open regions that are tracked
abbrev pub reads_of_operation : ℕ → Configuration → Instr → Option (Class × Act) → ℕ
reads_of_operation depth c i None = 0
reads_of_operation depth c i (Some o) =
    if_made (reads_once o.1 (length (operands i.act)) * min depth (open_regions c)) (operation o.0 i.latency i.place o.1 (reads_of c i.act) c.world)

-- the reads of an instruction
abbrev pub reads_of_instruction : Code → ℕ → Configuration → Option Instr → ℕ
reads_of_instruction code depth c None = 0
reads_of_instruction code depth c (Some i) = reads_of_operation depth c i (operation_of i.act)

-- the reads of a step
unfoldable pub reads_of_step : Code → ℕ → Run → ℕ
reads_of_step code depth (Going c) = reads_of_instruction code depth c (slice_get code.instrs c.pc)
reads_of_step code depth (Over end w) = 0

-- the reads of the first steps of a run, in which the levels below a depth are tracked
abbrev pub read_count : Code → List ℕ → ℕ → ℕ → ℕ → ℕ
read_count code input budget depth zero = 0
read_count code input budget depth (suc n) = read_count code input budget depth n + reads_of_step code depth (run_of code input budget n)

-- at one level, an operation reads no fewer times than it has sources
abbrev pub SourcesAreRead : Type 0
SourcesAreRead = (what : Act) (reads : List Read) (w : World) → length (sources reads (hidden what (values_of reads) w) w.control) ≤ reads_once what (length reads)

-- the instances that are open by the events so far are as many as the regions that are open
abbrev pub LevelsAreRegions : Type 0
LevelsAreRegions = (code : Code) → IsValid code → (input : List ℕ) (budget n : ℕ) (c : Configuration) → run_of code input budget n ≡ Going c
    → length (open_after c.world.events) ≡ open_regions c

-- Believed with a public law.
-- The operations that a run of flat code makes, in order, each with what it works on and what it gives.
use Rattle.std.specs.Prelude.{ℕ, zero, suc, List, [], ◌∷◌, ◌++◌, slice_get, Option, Some, None}
use Rattle.k_optab.specs.declared.class.Class.{Class}
use Rattle.k_world.specs.declared.act.Act.{Act}
use Rattle.k_world.specs.declared.value.Read.{Read}
use Rattle.k_world.specs.Acts.{hidden}
use Rattle.k_world.specs.Deeds.{Deed}
use Rattle.k_world.specs.Operands.{values_of}
use Rattle.k_world.specs.Operations.{Made, Gives, Ends, operation}
use Rattle.k_world.specs.Worlds.{World}
use Rattle.k_code.specs.declared.code.Code.{Code}
use Rattle.k_code.specs.declared.instruction.Instr.{Instr}
use Rattle.k_code.specs.Runs.{run_of}
use Rattle.k_code.specs.Steps.{Configuration, Run, Going, Over, operation_of, reads_of}

-- an operation that was made in a world; or none
abbrev pub if_made : Act → List Read → World → Made → List Deed
if_made what reads w (Gives held after) =
    record { what = what; reads = reads; hidden = hidden what (values_of reads) w; control = w.control; value = held.value } ∷ []
if_made what reads w (Ends end after) = []

-- the operation of an instruction, if it makes one
abbrev pub performed_by : Instr → Configuration → Option (Class × Act) → List Deed
performed_by i c None = []
performed_by i c (Some o) = if_made o.1 (reads_of c i.act) c.world (operation o.0 i.latency i.place o.1 (reads_of c i.act) c.world)

-- the operation of the instruction that is next, if there is one
abbrev pub performed_at : Configuration → Option Instr → List Deed
performed_at c None = []
performed_at c (Some i) = performed_by i c (operation_of i.act)

-- the operation of a run's next step, if it makes one
unfoldable pub performed_next : Code → Run → List Deed
performed_next code (Going c) = performed_at c (slice_get code.instrs c.pc)
performed_next code (Over end w) = []

-- the operations of the first steps of a run, so many, in order
unfoldable pub performed : Code → List ℕ → ℕ → ℕ → List Deed
performed code input budget zero = []
performed code input budget (suc n) = performed code input budget n ++ performed_next code (run_of code input budget n)

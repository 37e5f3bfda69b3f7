-- Believed with a public law.
-- What the step of an operation has of it.
use Rattle.std.specs.Prelude.{ℕ, ◌≡◌, List, [], ◌∷◌, map, Option}
use Rattle.k_optab.specs.declared.event.Src.{Src}
use Rattle.k_replay_record.specs.declared.record.Operand.{Operand}
use Rattle.k_replay_record.specs.declared.record.Operand.TheVariants.{Fixed, From}
use Rattle.k_world.specs.declared.act.Act.{Act}
use Rattle.k_world.specs.declared.value.Read.{Read}
use Rattle.k_world.specs.declared.value.Value.{Value}
use Rattle.k_world.specs.Acts.{hidden}
use Rattle.k_world.specs.Operands.{sources, values_of}
use Rattle.k_world.specs.Worlds.{World}
use Rattle.k_replay_recording.specs.Steps.{step_of}

-- the operations that operands come from, in order
abbrev pub from_numbers : List Operand → List ℕ
from_numbers [] = []
from_numbers (Fixed d ∷ operands) = from_numbers operands
from_numbers (From k ∷ operands) = k ∷ from_numbers operands

-- the sources of an operation, broken ones too, are those that its step's operands come from, in order
abbrev pub StepsHaveSources : Type 0
StepsHaveSources =
    (what : Act) (reads : List Read) (control : Option ℕ) (v : Value) (w : World)
    → from_numbers (step_of what reads (hidden what (values_of reads) w) control v).operands
    ≡ map (λ (s : Src). s.number) (sources reads (hidden what (values_of reads) w) control)

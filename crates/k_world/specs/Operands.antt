-- Believed with the theorem on the top call.
-- The operands of an operation, as it reads them: whether each is set, their values, and their sources.
use Rattle.std.specs.Prelude.{ℕ, Bool, true, false, ◌&&◌, List, [], ◌∷◌, Option, Some, None}
use Rattle.k_optab.specs.declared.event.Src.{Src}
use Rattle.k_world.specs.declared.value.Held.{Held}
use Rattle.k_world.specs.declared.value.Read.{Read}
use Rattle.k_world.specs.declared.value.Value.{Value}

-- something is held
abbrev pub is_set : Option Held → Bool
is_set None = false
is_set (Some held) = true

-- each operand is set
abbrev pub are_set : List Read → Bool
are_set [] = true
are_set (r ∷ reads) = is_set r.slot && are_set reads

-- a value that is held, before others
abbrev pub value_before : Option Held → List Value → List Value
value_before None values = values
value_before (Some held) values = held.value ∷ values

-- the values of operands that are set, in their order
abbrev pub values_of : List Read → List Value
values_of [] = []
values_of (r ∷ reads) = value_before r.slot (values_of reads)

-- the operation that gave what is held
abbrev pub source_in : Option Held → Option ℕ
source_in None = None
source_in (Some held) = held.source

-- a dependence on the operation of this number, broken or not, goes before others; what no operation gave has none
abbrev pub source_before : Option ℕ → Bool → List Src → List Src
source_before None broken sources = sources
source_before (Some number) broken sources = record { number = number; broken = broken } ∷ sources

-- the sources of operands, in their order, before others
abbrev pub sources_before : List Read → List Src → List Src
sources_before [] sources = sources
sources_before (r ∷ reads) sources = source_before (source_in r.slot) r.broken (sources_before reads sources)

-- The sources of an operation: of its operands, then of the one that the construct does not write, and last the control source. Of
-- these two no dependence is broken.
abbrev pub sources : List Read → Option ℕ → Option ℕ → List Src
sources reads hidden control = sources_before reads (source_before hidden false (source_before control false []))

-- the value of what is held
abbrev pub value_in : Option Held → Option Value
value_in None = None
value_in (Some held) = Some held.value

-- what the slot of a number holds that may not be there
abbrev pub held_by : Option (Option Held) → Option Held
held_by None = None
held_by (Some slot) = slot

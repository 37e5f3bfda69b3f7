-- Believed with a public law.
-- What each location holds in a configuration of flat code: from which operation it came, if it holds anything. And which locations an operation
-- depends on, and which hold what it gave.
use Rattle.std.specs.Prelude.{ℕ, ◌+◌, ◌-◌, nat_lt, if◌then◌else◌, Bool, true, false, ℤ, List, [], ◌∷◌, ◌++◌, length, map, reverse, slice_get, Option, Some, None, option_map}
use Rattle.k_mem.specs.Memory.{Object, Memory}
use Rattle.k_world.specs.declared.act.Act.{Act}
use Rattle.k_world.specs.declared.act.Act.TheVariants as does
use Rattle.k_world.specs.declared.value.Held.{Held}
use Rattle.k_world.specs.Acts.{touched}
use Rattle.k_world.specs.Operands.{values_of}
use Rattle.k_world.specs.Worlds.{World}
use Rattle.k_code.specs.declared.code.Code.{Code}
use Rattle.k_code.specs.declared.code.CodeFunc.{CodeFunc}
use Rattle.k_code.specs.declared.instruction.Arg.{Arg}
use Rattle.k_code.specs.declared.instruction.Arg.TheVariants.{Number, Reg}
use Rattle.k_code.specs.declared.instruction.Do.{Do}
use Rattle.k_code.specs.declared.instruction.Instr.{Instr}
use Rattle.k_code.specs.Named.{operands, register_set}
use Rattle.k_code.specs.Steps.{Frame, Waiting, Configuration, reads_of}
use Rattle.k_hcpa_meaning.specs.Timings.{Location, Register, Element, InCell, OutCell, Control, Saved}

-- the registers of a function that may not be there
abbrev pub registers_of : Option CodeFunc → ℕ
registers_of None = 0
registers_of (Some f) = f.registers

-- how many registers a call of the function of this number has
abbrev pub width : Code → ℕ → ℕ
width code func = registers_of (slice_get code.funcs func)

-- the calls that wait, the newest first
abbrev pub waiting_frames : List Waiting → List Frame
waiting_frames waiting = map (λ w. w.frame) waiting

-- the live calls, the newest first
abbrev pub frames_of : Configuration → List Frame
frames_of c = c.frame ∷ waiting_frames c.waiting

-- how many registers these calls have together
abbrev pub widths : Code → List Frame → ℕ
widths code [] = 0
widths code (f ∷ frames) = width code f.func + widths code frames

-- what a register holds, where the registers of these calls are numbered from the oldest call's first on
abbrev pub register_at : Code → List Frame → ℕ → Option Held
register_at code [] k = None
register_at code (f ∷ frames) k =
    if nat_lt k (widths code frames) then register_at code frames k
    else (if nat_lt k (width code f.func + widths code frames) then f.registers (k - widths code frames) else None)

-- the number of the newest call's first register
abbrev pub first_register : Code → Configuration → ℕ
first_register code c = widths code (waiting_frames c.waiting)

-- the saved control sources of these calls, the oldest first
abbrev pub saved_in : List Frame → List (Option ℕ)
saved_in [] = []
saved_in (f ∷ frames) = saved_in frames ++ reverse f.saved

-- the elements of these objects, by their numbers
abbrev pub elements_in : List Object → List (Option ℤ)
elements_in [] = []
elements_in (o ∷ objects) = o.elements ++ elements_in objects

-- where the value of an element came from, where it is set
abbrev pub origin_if_set : Option (Option ℤ) → Option (Option ℕ) → Option (Option ℕ)
origin_if_set (Some (Some value)) origin = origin
origin_if_set (Some None) origin = None
origin_if_set None origin = None

-- THE SOURCE of what a location holds: the operation that gave it, or none; where the location holds nothing there is no source at all
unfoldable pub source_at : Code → Configuration → Location → Option (Option ℕ)
source_at code c (Register r) = option_map (λ (held : Held). held.source) (register_at code (frames_of c) r)
source_at code c (Element e) = origin_if_set (slice_get (elements_in c.world.memory.live) e) (slice_get c.world.origins e)
source_at code c InCell = Some c.world.in_cell
source_at code c OutCell = Some c.world.out_cell
source_at code c Control = Some c.world.control
source_at code c (Saved n) = slice_get (saved_in (frames_of c)) n

-- the registers of operands on which an operation depends, where the call's registers are numbered from this one on: a constant has none, and of a
-- register whose dependence is broken it does not depend
abbrev pub operand_locations : ℕ → List Arg → List Location
operand_locations first [] = []
operand_locations first (Number n ∷ args) = operand_locations first args
operand_locations first (Reg r true ∷ args) = operand_locations first args
operand_locations first (Reg r false ∷ args) = Register (first + r) ∷ operand_locations first args

-- the element, where there is one
abbrev pub element_location : Option ℕ → List Location
element_location None = []
element_location (Some e) = Element e ∷ []

-- what an act depends on that its operands don't say, where it reads or writes this element
unfoldable pub hidden_locations : Act → Option ℕ → List Location
hidden_locations does.Load element = element_location element
hidden_locations does.Input element = InCell ∷ []
hidden_locations (does.Output what) element = OutCell ∷ []
hidden_locations _ element = []

-- where what an act gives stands beside the register that its instruction sets
unfoldable pub effect_locations : Act → Option ℕ → List Location
effect_locations does.Store element = element_location element
effect_locations does.Input element = InCell ∷ []
effect_locations (does.Output what) element = OutCell ∷ []
effect_locations does.Test element = Control ∷ []
effect_locations _ element = []

-- the register, where there is one
abbrev pub register_location : ℕ → Option ℕ → List Location
register_location first None = []
register_location first (Some r) = Register (first + r) ∷ []

-- the element that an act of an instruction reads or writes
abbrev pub element_touched : Configuration → Do → Act → Option ℕ
element_touched c what does = touched does (values_of (reads_of c what)) c.world.memory

-- the locations on which the operation of an instruction depends, beside the control source
abbrev pub depends_on : ℕ → Do → Act → Option ℕ → List Location
depends_on first what does element = operand_locations first (operands what) ++ hidden_locations does element

-- the locations that hold what the operation of an instruction gave, once it was made: but for calls and returns, which go on otherwise
abbrev pub held_in : ℕ → Do → Act → Option ℕ → List Location
held_in first what does element = effect_locations does element ++ register_location first (register_set what)

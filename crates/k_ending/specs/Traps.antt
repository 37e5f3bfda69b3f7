-- Believed with the theorem on the top call.
-- The names of traps, and the traps of operations on numbers.
use Rattle.std.specs.Prelude.{ℕ, List, codes}
use Rattle.k_num.specs.declared.numbers.NumTrap.{NumTrap}
use Rattle.k_num.specs.declared.numbers.NumTrap.TheVariants as number
use Rattle.k_ending.specs.declared.ending.Trap.{Trap}
use Rattle.k_ending.specs.declared.ending.Trap.TheVariants as trap

-- a trap's name in messages
abbrev pub trap_name : Trap → List ℕ
trap_name trap.Overflow = codes "Overflow"
trap_name trap.DivideByZero = codes "DivideByZero"
trap_name trap.Shift = codes "Shift"
trap_name trap.Uninit = codes "Uninit"
trap_name trap.OutOfBounds = codes "OutOfBounds"
trap_name trap.PointerRange = codes "PointerRange"
trap_name trap.PointerOrder = codes "PointerOrder"
trap_name trap.Dangling = codes "Dangling"
trap_name trap.ReadOnly = codes "ReadOnly"
trap_name trap.MemoryLimit = codes "MemoryLimit"
trap_name trap.StackOverflow = codes "StackOverflow"
trap_name trap.FallOff = codes "FallOff"

-- the trap of an operation on numbers that has no value (C17 6.5p5, 6.5.5p5, 6.5.7p3)
abbrev pub trap_of : NumTrap → Trap
trap_of number.Overflow = trap.Overflow
trap_of number.DivideByZero = trap.DivideByZero
trap_of number.Shift = trap.Shift

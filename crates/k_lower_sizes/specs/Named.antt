-- Believed with a public law.
-- How many of a call's objects an instruction speaks of.
use Rattle.std.specs.Prelude.{ℕ, ◌+◌, max, List, [], ◌∷◌}
use Rattle.k_code.specs.declared.instruction.Do.{Do}
use Rattle.k_code.specs.declared.instruction.Do.TheVariants as act
use Rattle.k_code.specs.declared.instruction.Home.{Home}
use Rattle.k_code.specs.declared.instruction.Home.TheVariants.{File, Local}
use Rattle.k_code.specs.declared.instruction.Instr.{Instr}

-- so many of a call's objects have the one of this number among them
abbrev pub up_to_home : Home → ℕ
up_to_home (File n) = 0
up_to_home (Local n) = n + 1

-- one more than the number of the object that an instruction names, or how many it closes
unfoldable pub objects_named : Do → ℕ
objects_named (act.Address home offset to) = up_to_home home
objects_named (act.Fill local values) = local + 1
objects_named (act.ObjectsClose count) = count
objects_named _ = 0

-- the greatest of these numbers
abbrev pub objects_of : List Instr → ℕ
objects_of [] = 0
objects_of (i ∷ instrs) = max (objects_named i.act) (objects_of instrs)

-- For contracts between crates: nobody has to believe it.
-- The accesses that the operations of flat code make: of an instruction that is next, and of the first steps of a run.
use Rattle.std.specs.Prelude.{ℕ, Bool, List, map, Option, Some, None}
use Rattle.k_optab.specs.declared.class.Class.{Class}
use Rattle.k_world.specs.declared.act.Act.{Act}
use Rattle.k_world.specs.declared.value.Read.{Read}
use Rattle.k_code.specs.declared.code.Code.{Code}
use Rattle.k_code.specs.declared.instruction.Do.{Do}
use Rattle.k_code.specs.Runs.{world_of}
use Rattle.k_code.specs.Steps.{operation_of}
use Rattle.k_code.specs.Telling.{telling_of}
use Rattle.k_carry_storage_pairs.specs.declared.access.Access.{Access}
use Rattle.k_carry_storage_pairs.specs.Accesses.{access_of, accessed_by, element_in, way_of}

-- whether an operation accesses an element and stores to it, if there is one
abbrev pub way_made : Option (Class × Act) → Option Bool
way_made None = None
way_made (Some o) = way_of o.1

-- the same of the operation of an instruction
abbrev pub way_at : Do → Option Bool
way_at what = way_made (operation_of what)

-- the access that the operation of an instruction makes with these operands
abbrev pub access_by : Do → List Read → Option Access
access_by what reads = accessed_by (way_at what) (element_in reads)

-- THE ACCESSES of a run after so many steps: those of the operations that are told of
unfoldable pub accesses_of : Code → List ℕ → ℕ → ℕ → List (Option Access)
accesses_of code input budget n = map access_of (world_of (telling_of code input budget n)).deeds

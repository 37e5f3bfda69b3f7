-- Believed with a public law.
-- *Accesses* of elements: those that operations make, by what is told of each.
use Rattle.std.specs.Prelude.{Bool, true, false, List, [], ◌∷◌, Option, Some, None}
use Rattle.k_mem.specs.declared.pointer.Pointer.{Pointer}
use Rattle.k_world.specs.declared.act.Act.{Act}
use Rattle.k_world.specs.declared.act.Act.TheVariants as act
use Rattle.k_world.specs.declared.value.Read.{Read}
use Rattle.k_world.specs.Acts.{in_one, pointer_of}
use Rattle.k_world.specs.Deeds.{Deed}
use Rattle.k_world.specs.Operands.{value_in}
use Rattle.k_carry_storage_pairs.specs.declared.access.Access.{Access}
use Rattle.k_carry_storage_pairs.specs.Storage.{access}

-- the acts that access an element, and whether they store to it
unfoldable pub way_of : Act → Option Bool
way_of act.Load = Some false
way_of act.Store = Some true
way_of what = None

-- the element to which the first of these operands points
abbrev pub element_in : List Read → Option Pointer
element_in [] = None
element_in (r ∷ reads) = in_one pointer_of (value_in r.slot)

-- the access of an element, if there is one
abbrev pub accessed : Bool → Option Pointer → Option Access
accessed writes None = None
accessed writes (Some element) = Some (access writes element)

-- the same, where an act that accesses an element may store to it or load it, and another one accesses none
abbrev pub accessed_by : Option Bool → Option Pointer → Option Access
accessed_by None element = None
accessed_by (Some writes) element = accessed writes element

-- THE ACCESS that an operation makes, if it makes one: of the element to which its first operand points
abbrev pub access_of : Deed → Option Access
access_of d = accessed_by (way_of d.what) (element_in d.reads)

-- Believed with the theorem on the top call.
-- What operations do, which a run tells of where it is asked to.
use Rattle.std.specs.Prelude.{ℕ, Bool, true, false, List, [], ◌∷◌, ◌++◌, Option, Result, Ok, Err}
use Rattle.k_ending.specs.declared.ending.Trap.{Trap}
use Rattle.k_world.specs.declared.act.Act.{Act}
use Rattle.k_world.specs.declared.value.Read.{Read}
use Rattle.k_world.specs.declared.value.Value.{Value}

-- an operation of a run: its act, what its operands read, the source of what the construct does not write, the control source, and what it gave
pub record Deed : Type 0 where
  pub what : Act
  pub reads : List Read
  pub hidden : Option ℕ
  pub control : Option ℕ
  pub value : Value

-- what an operation does whose act gave this: nothing where that is a trap
abbrev pub deed : Act → List Read → Option ℕ → Option ℕ → Result Value Trap → List Deed
deed what reads hidden control (Ok v) = record { what = what; reads = reads; hidden = hidden; control = control; value = v } ∷ []
deed what reads hidden control (Err t) = []

-- what was told so far, and this behind it where a run tells of its operations
abbrev pub deeds_behind : Bool → List Deed → List Deed → List Deed
deeds_behind true deeds more = deeds ++ more
deeds_behind false deeds more = deeds

-- For contracts between crates: nobody has to believe it.
-- The unbroken sources of an operation, and the places of the operations that they name.
use Rattle.std.specs.Prelude.{ℕ, ◌≡◌, if◌then◌else◌, List, [], ◌∷◌, map, slice_get, Option, Some, None}
use Rattle.k_num.specs.declared.place.Place.{Place}
use Rattle.k_optab.specs.declared.event.Src.{Src}
use Rattle.k_optab.specs.Events.{Operation, operations}
use Rattle.k_world.specs.Operands.{sources_before}
use Rattle.k_code.specs.declared.code.Code.{Code}
use Rattle.k_code.specs.declared.instruction.Arg.{Arg}
use Rattle.k_code.specs.Runs.{run_of, world_of}
use Rattle.k_code.specs.Steps.{Configuration, read_of}
use Rattle.k_carry_pairs.specs.declared.origin.Origin.{Origin}
use Rattle.k_carry.specs.declared.cited.Cited.{Cited}
use Rattle.k_carry.specs.declared.places.Places.{Places}
use Rattle.k_carry.specs.declared.program.Program.{Program}
use Rattle.k_carry.specs.declared.row.Row.{Row}

-- the numbers of the sources whose dependence is not broken, in order
abbrev pub unbroken : List Src → List ℕ
unbroken [] = []
unbroken (src ∷ sources) = if src.broken then unbroken sources else src.number ∷ unbroken sources

-- the numbers of operations that are cited
abbrev pub cited_numbers : List Cited → List ℕ
cited_numbers cited = map (λ (c : Cited). c.number) cited

-- those with their places
abbrev pub origin_numbers : List Origin → List ℕ
origin_numbers origins = map (λ (x : Origin). x.number) origins

-- the sources of operands in a configuration, unbroken
abbrev pub operand_numbers : Configuration → List Arg → List ℕ
operand_numbers c args = unbroken (sources_before (map (read_of c.frame.registers) args) [])

-- the source, if there is one
abbrev pub one_number : Option ℕ → List ℕ
one_number None = []
one_number (Some n) = n ∷ []

-- a program with its input, the most operations that it may make, and the depth below which instances are tracked
pub record Setting : Type 0 where
  pub code : Code
  pub input : List ℕ
  pub budget : ℕ
  pub depth : ℕ

-- the setting that a program in memory stands for
abbrev pub setting_of : Program → Setting
setting_of p = record { code = p.code.now; input = p.input.now; budget = p.budget; depth = p.depth }

-- the operation of this number in its run, if there is one, stands at this place
abbrev pub IsPlaceOf : Setting → ℕ → Place → Type 0
IsPlaceOf s number place = (n : ℕ) (op : Operation) → slice_get (operations (world_of (run_of s.code s.input s.budget n)).events) number ≡ Some op → op.place ≡ place

-- an operation has its place, if there is one
abbrev pub IsTold : Setting → Option Origin → Type 0
IsTold s None = Unit {0}
IsTold s (Some x) = IsPlaceOf s x.number x.place

-- so have all of a list
abbrev pub AllTold : Setting → List (Option Origin) → Type 0
AllTold s items = (k : ℕ) (x : Option Origin) → slice_get items k ≡ Some x → IsTold s x

-- each place that a row keeps is that of its operation
abbrev pub RowTold : Setting → Row → Type 0
RowTold s row = AllTold s row.items.items

-- and all that are kept
pub record ArePlaces (s : Setting) (p : Places) : Type 0 where
  pub registers : RowTold s p.registers
  pub elements : RowTold s p.elements
  pub saved : RowTold s p.saved
  pub input : IsTold s p.input
  pub output : IsTold s p.output
  pub control : IsTold s p.control

-- each of these has its place
abbrev pub ArePlaced : Setting → List Origin → Type 0
ArePlaced s origins = (k : ℕ) (x : Origin) → slice_get origins k ≡ Some x → IsPlaceOf s x.number x.place

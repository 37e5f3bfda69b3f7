-- Believed with a public law.
-- That there is one answer, and what accesses do: the statements of the laws.
use Rattle.std.specs.Prelude.{ℕ, ◌≡◌, Bool, true, false, ℤ, List, Option, Some, None, Ok}
use Rattle.k_optab.specs.declared.event.Event.{Event}
use Rattle.k_optab.specs.declared.region.Region.{Region}
use Rattle.k_mem.specs.declared.pointer.Pointer.{Pointer}
use Rattle.k_mem.specs.Calls.{load_of, stored}
use Rattle.k_mem.specs.Memory.{Memory}
use Rattle.k_world.specs.declared.value.Value.{Value}
use Rattle.k_world.specs.declared.value.Value.TheVariants as held
use Rattle.k_world.specs.Acts.{effect, work}
use Rattle.k_world.specs.Deeds.{Deed}
use Rattle.k_world.specs.Operands.{are_set, values_of}
use Rattle.k_world.specs.Worlds.{World}
use Rattle.k_carry_storage_pairs.specs.declared.access.Access.{Access}
use Rattle.k_carry_storage_pairs.specs.Accesses.{access_of}
use Rattle.k_carry_storage_pairs.specs.declared.pairs.LoopStorage.{LoopStorage}
use Rattle.k_carry_storage_pairs.specs.Deep.{AreDeep}
use Rattle.k_carry_storage_pairs.specs.Storage.{AreShared}

-- no other list of loops tells of the same run
abbrev pub OneAnswer : Type 0
OneAnswer = (regions : List Region) (depth : ℕ) (events : List Event) (accesses : List (Option Access)) (a b : List LoopStorage)
    → AreShared regions depth events accesses a → AreShared regions depth events accesses b → a ≡ b

-- and some list does, whatever accesses the operations make
abbrev pub SomeAnswer : Type 0
SomeAnswer = (regions : List Region) (depth : ℕ) (events : List Event) (accesses : List (Option Access))
    → (loops : List LoopStorage) × AreShared regions depth events accesses loops

-- some flags tell which regions had an instance that was not tracked
abbrev pub SomeFlags : Type 0
SomeFlags = (depth : ℕ) (events : List Event) → (deep : List Bool) × AreDeep depth events deep

-- a load of an element gives what it holds, and a store sets it to what the store gives
abbrev pub DoesTo : Bool → Pointer → Value → Memory → Memory → Type 0
DoesTo false element v before after = (after ≡ before) × ((found : ℤ × ℕ) × (load_of before element ≡ Ok found) × (v ≡ held.Number found.0))
DoesTo true element v before after = (n : ℤ) × ((v ≡ held.Number n) × (after ≡ stored before element n))

-- what an operation of this access does to memory that gives this: without one nothing
abbrev pub DoesAccess : Option Access → Value → Memory → Memory → Type 0
DoesAccess None v before after = after ≡ before
DoesAccess (Some a) v before after = DoesTo a.writes a.element v before after

-- WHAT ACCESSES DO: an operation has that value and that effect on memory in each world in which its act gives what it gave
abbrev pub AccessesAreMade : Type 0
AccessesAreMade = (d : Deed) (number : ℕ) (w : World) → are_set d.reads ≡ true → work d.what (values_of d.reads) w ≡ Ok d.value
    → DoesAccess (access_of d) d.value w.memory (effect d.what number (values_of d.reads) w).memory

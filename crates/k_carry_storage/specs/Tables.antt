-- For contracts between crates: nobody has to believe it.
-- What is kept of elements, and what is noted of an access.
use Rattle.std.specs.Prelude.{ℕ, ◌≡◌, ◌≢◌, List, [], slice_get, Option, Some, None}
use Rattle.k_mem.specs.declared.pointer.Pointer.{Pointer}
use Rattle.k_carry_pairs.specs.declared.origin.Origin.{Origin}
use Rattle.k_carry_storage_pairs.specs.Firsts.{IsNoted}
use Rattle.k_carry_storage.specs.declared.table.Kept.{Kept}
use Rattle.k_carry_storage.specs.declared.table.Row.{Row}
use Rattle.k_carry_storage.specs.declared.table.Table.{Table}

-- the operations that are kept, if any are
abbrev pub kept_if : Option Kept → List Origin
kept_if None = []
kept_if (Some kept) = kept.items.items

-- those of an element, by its place in its object
abbrev pub kept_in : Row → ℕ → List Origin
kept_in row at = kept_if (slice_get row.elements.items at)

-- the same where the object may have no row
abbrev pub kept_in_if : Option Row → ℕ → List Origin
kept_in_if None at = []
kept_in_if (Some row) at = kept_in row at

-- those of an element
abbrev pub kept_at : Table → Pointer → List Origin
kept_at table element = kept_in_if (slice_get table.rows.items element.object) element.offset

-- an access of this element of an object was noted, and of no other
pub record IsNotedIn (at : ℕ) (starts : List ℕ) (x : Origin) (old new : Row) : Type 0 where
  pub noted : IsNoted starts x (kept_in old at) (kept_in new at)
  pub others : (k : ℕ) → k ≢ at → kept_in new k ≡ kept_in old k

-- so it was, of all elements
pub record IsNotedAt (element : Pointer) (starts : List ℕ) (x : Origin) (old new : Table) : Type 0 where
  pub noted : IsNoted starts x (kept_at old element) (kept_at new element)
  pub others : (other : Pointer) → other ≢ element → kept_at new other ≡ kept_at old other

-- For contracts between crates: nobody has to believe it.
-- How the objects are kept: the elements of all live objects in one list of cells, and for each object where
-- its own begin and how many they are.
use Rattle.std.specs.Prelude.{ℕ, ◌≡◌, ◌+◌, ◌^◌, ◌≤◌, ◌==◌, if◌then◌else◌, List, [], ◌∷◌, ◌++◌, take, drop, map, find, Option, Result, Ok, Err, ℤ, pos, ◌+ℤ◌}
use Rattle.k_mem.specs.declared.extent.Extent.{Extent}
use Rattle.k_mem.specs.declared.fault.MemTrap.{MemTrap}
use Rattle.k_mem.specs.declared.fault.MemTrap.TheVariants.{ReadOnly}
use Rattle.k_mem.specs.declared.pointer.Pointer.{Pointer}
use Rattle.k_mem.specs.declared.start.Start.{Start}
use Rattle.k_mem.specs.Memory.{Object, Memory}
use Rattle.k_mem.specs.Calls.{is_writable, with_values, where_live, where_within, pointer_to, offset_within}

-- the object whose elements are those cells
abbrev pub object_in : List (Option ℤ) → Extent → Object
object_in cells e = record { number = e.number; first = e.first; writable = e.writable; elements = take e.length (drop e.first cells) }

-- the objects of these extents
abbrev pub objects_in : List Extent → List (Option ℤ) → List Object
objects_in extents cells = map (object_in cells) extents

-- the extent of an object of that number whose n elements are the cells from `first` on
abbrev pub extent_made : Start → ℕ → ℕ → ℕ → Extent
extent_made start n number first = record { number = number; first = first; length = n; writable = is_writable start }

-- the cells with the values in those from `first` on that are an object's, and with 0 beyond the values
abbrev pub cells_set : List ℤ → List (Option ℤ) → ℕ → ℕ → List (Option ℤ)
cells_set values cells first len =
    take first cells ++ (with_values values (take len (drop first cells)) ++ drop (first + len) cells)

-- the memory that they are seen as
abbrev pub memory_in : List Extent → List (Option ℤ) → ℕ → Memory
memory_in extents cells made = record { live = objects_in extents cells; made = made }

-- the extents fill the cells from `start` to `end`, one after another
abbrev pub Fill : ℕ → List Extent → ℕ → Type 0
Fill start [] end = start ≡ end
Fill start (e ∷ extents) end = (e.first ≡ start) × Fill (start + e.length) extents end

-- the extents' numbers rise, from `low` on, and are below `made`
abbrev pub Ascend : ℕ → List Extent → ℕ → Type 0
Ascend low [] made = low ≤ made
Ascend low (e ∷ extents) made = (low ≤ e.number) × Ascend (e.number + 1) extents made

-- these extents can be those of `end` cells, where `made` objects were made
pub record AreKept (extents : List Extent) (end made : ℕ) : Type 0 where
  -- the extents fill the cells, from the first to the last
  pub fill : Fill 0 extents end
  -- their numbers rise, and are below the count of objects made
  pub ascend : Ascend 0 extents made
  -- there are at most 4,194,304 cells
  pub few_elements : end ≤ 4194304
  -- there were at most 2^62 objects
  pub few_objects : made ≤ 2 ^ 62

-- these extents are kept, among however many cells
abbrev pub AreExtents : List Extent → Type 0
AreExtents extents = (end : ℕ) × ((made : ℕ) × AreKept extents end made)

-- the extent of that number
abbrev pub extent_with : List Extent → ℕ → Option Extent
extent_with extents number = find (λ e. e.number == number) extents

-- the element pointed to, by the extents alone
abbrev pub element_among : List Extent → Pointer → Result ℕ MemTrap
element_among extents at = where_live (extent_with extents at.object) (λ e. where_within e.length at.offset (Ok (e.first + at.offset)))

-- the element written, by the extents alone
abbrev pub store_among : List Extent → Pointer → Result ℕ MemTrap
store_among extents at =
    where_live (extent_with extents at.object) (λ e. where_within e.length at.offset (if e.writable then Ok (e.first + at.offset) else Err ReadOnly))

-- the extent of an object that may be written
abbrev pub fill_among : List Extent → ℕ → Result Extent MemTrap
fill_among extents number = where_live (extent_with extents number) (λ e. if e.writable then Ok e else Err ReadOnly)

-- the pointer moved, by the extents alone
abbrev pub shift_among : List Extent → Pointer → ℤ → Result Pointer MemTrap
shift_among extents at by =
    where_live (extent_with extents at.object) (λ e. pointer_to at.object (offset_within e.length (pos at.offset +ℤ by)))

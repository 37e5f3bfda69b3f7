-- For contracts between crates: nobody has to believe it.
-- What is noted of what happened by an instruction.
use Rattle.std.specs.Prelude.{ℕ, zero, suc, ◌≡◌, Bool, true, false, List, [], length, min, take, Option, Some, None}
use Rattle.k_num.specs.declared.place.Place.{Place}
use Rattle.k_mem.specs.declared.pointer.Pointer.{Pointer}
use Rattle.k_carry_pairs.specs.declared.origin.Origin.{Origin}
use Rattle.k_carry.specs.declared.advance.Happened.{Happened}
use Rattle.k_carry.specs.declared.advance.Made.{Made}
use Rattle.k_carry.specs.Noting.{made_after}
use Rattle.k_carry_storage_pairs.specs.declared.access.Access.{Access}
use Rattle.k_carry_storage_pairs.specs.Firsts.{listed}
use Rattle.k_carry_storage_pairs.specs.Kept.{Kept, both_entered, both_left, both_shared}
use Rattle.k_carry_storage.specs.declared.table.Table.{Table}
use Rattle.k_carry_storage.specs.Tables.{IsNotedAt, kept_at}

-- the first operations of the open tracked instances
abbrev pub starts_in : Kept → List ℕ
starts_in g = take (min g.depth (length g.starts)) g.starts

-- the first of each open tracked instance of those that are kept of an element
abbrev pub firsts_in : Table → Pointer → Kept → List Origin
firsts_in table element g = listed (starts_in g) (kept_at table element) []

-- an operation at this place stores to an element
abbrev pub shared_by : Table → Table → Pointer → Place → Kept → Kept
shared_by loads stores element to g = both_shared (firsts_in loads element g) (firsts_in stores element g) to g

-- an operation loads an element
pub record IsLoaded (element : Pointer) (x : Origin) (g g' : Kept) (loads loads' stores stores' : Table) : Type 0 where
  pub gathering : g' ≡ g
  pub noted : IsNotedAt element (starts_in g) x loads loads'
  pub stores_are : stores' ≡ stores

-- an operation stores to an element
pub record IsStored (element : Pointer) (x : Origin) (g g' : Kept) (loads loads' stores stores' : Table) : Type 0 where
  pub gathering : g' ≡ shared_by loads stores element x.place g
  pub noted : IsNotedAt element (starts_in g) x stores stores'
  pub loads_are : loads' ≡ loads

-- an operation makes an access
abbrev pub IsAccessed : Bool → Pointer → Origin → Kept → Kept → Table → Table → Table → Table → Type 0
IsAccessed false element x g g' loads loads' stores stores' = IsLoaded element x g g' loads loads' stores stores'
IsAccessed true element x g g' loads loads' stores stores' = IsStored element x g g' loads loads' stores stores'

-- nothing was noted
pub record IsStill (g g' : Kept) (loads loads' stores stores' : Table) : Type 0 where
  pub gathering : g' ≡ g
  pub loads_are : loads' ≡ loads
  pub stores_are : stores' ≡ stores

-- an operation makes an access, or none
abbrev pub IsNotedIf : Option Access → Origin → Kept → Kept → Table → Table → Table → Table → Type 0
IsNotedIf None x g g' loads loads' stores stores' = IsStill g g' loads loads' stores stores'
IsNotedIf (Some a) x g g' loads loads' stores stores' = IsAccessed a.writes a.element x g g' loads loads' stores stores'

-- an operation was made, or none
abbrev pub IsNotedMade : Option Made → Option Access → Origin → Kept → Kept → Table → Table → Table → Table → Type 0
IsNotedMade None access x g g' loads loads' stores stores' = IsStill g g' loads loads' stores stores'
IsNotedMade (Some m) access x g g' loads loads' stores stores' = IsNotedIf access x g g' loads loads' stores stores'

-- an instance was entered, if one was
abbrev pub entered_if : ℕ → Option ℕ → Kept → Kept
entered_if made None g = g
entered_if made (Some region) g = both_entered region made g

-- so many instances were left
abbrev pub all_left : ℕ → ℕ → Kept → Kept
all_left made zero g = g
all_left made (suc n) g = all_left made n (both_left made g)

-- all that happened was noted
pub record IsNotedAll (access : Option Access) (x : Origin) (h : Happened) (g g' : Kept) (loads loads' stores stores' : Table) : Type 0 where
  pub between : Kept
  pub operation : IsNotedMade h.operation access x g between loads loads' stores stores'
  pub is : g' ≡ all_left (made_after x.number h.operation) h.left (entered_if (made_after x.number h.operation) h.entered between)

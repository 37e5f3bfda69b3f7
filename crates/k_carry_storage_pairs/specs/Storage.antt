-- Believed with a public law.
-- *Storage pairs*: the elements that the turns of loops share without handing them on.
use Rattle.std.specs.Prelude.{ℕ, ◌≡◌, ◌<◌, ◌&&◌, ◌||◌, nat_lt, Bool, true, false, not, List, slice_get, Option, Some}
use Rattle.k_optab.specs.declared.event.Event.{Event}
use Rattle.k_optab.specs.declared.region.Region.{Region}
use Rattle.k_optab.specs.Events.{Operation, made_before}
use Rattle.k_optab.specs.Open.{Open}
use Rattle.k_mem.specs.declared.pointer.Pointer.{Pointer}
use Rattle.k_carry_pairs.specs.declared.pairs.Pair.{Pair}
use Rattle.k_carry_pairs.specs.Carried.{AreSorted, IsAmong, IsTracked, LiesIn, StandsAt, is_loop_at, pair_before, turn}
use Rattle.k_carry_storage_pairs.specs.declared.access.Access.{Access}
use Rattle.k_carry_storage_pairs.specs.declared.pairs.LoopStorage.{LoopStorage}
use Rattle.k_carry_storage_pairs.specs.declared.pairs.Shared.{Shared}
use Rattle.k_carry_storage_pairs.specs.declared.pairs.Sharing.{Sharing}
use Rattle.k_carry_storage_pairs.specs.declared.pairs.Sharing.TheVariants as sharing

-- an access of an element: a store to it, or a load of it
abbrev pub access : Bool → Pointer → Access
access writes element = record { writes = writes; element = element }

-- The operation at this place among the events makes this access. The accesses are those of the operations by their numbers, none for an operation that
-- makes none.
pub record MakesAccess (events : List Event) (accesses : List (Option Access)) (at : ℕ) (op : Operation) (a : Access) : Type 0 where
  pub stands : StandsAt events at op
  pub accessed : slice_get accesses (made_before at events) ≡ Some (Some a)

-- no operation of the instance makes this access before this place
abbrev pub IsFirst : List Event → List (Option Access) → Open → ℕ → Access → Type 0
IsFirst events accesses o at a = (i : ℕ) (op : Operation) → i < at → LiesIn events i o → MakesAccess events accesses i op a → ⊥

-- a store that follows a load, and one that follows a store
abbrev pub kind_behind : Bool → Sharing
kind_behind false = sharing.Anti
kind_behind true = sharing.Output

-- THE INSTANCE SHARES an element between operations of these places of the source: the later one stores to it, the earlier one is in the instance the
-- first to load it or the first to store to it, and lies in an earlier turn.
pub record Shares (events : List Event) (accesses : List (Option Access)) (o : Open) (s : Shared) : Type 0 where
  pub j : ℕ
  pub k : ℕ
  pub earlier : Operation
  pub later : Operation
  pub writes : Bool
  pub element : Pointer
  pub made : MakesAccess events accesses j earlier (access writes element)
  pub stores : MakesAccess events accesses k later (access true element)
  pub begins_in : LiesIn events j o
  pub ends_in : LiesIn events k o
  pub before : j < k
  pub first : IsFirst events accesses o j (access writes element)
  pub turns : turn events o j < turn events o k
  pub kind : kind_behind writes ≡ s.kind
  pub from : earlier.place ≡ s.from
  pub to : later.place ≡ s.to

-- the storage pairs of a region: what its tracked instances share
abbrev pub IsShared : ℕ → List Event → List (Option Access) → ℕ → Shared → Type 0
IsShared depth events accesses region s = (o : Open) × IsTracked depth events region o × Shares events accesses o s

-- the places of a storage pair
abbrev pub places_of : Shared → Pair
places_of s = record { from = s.from; to = s.to }

-- a pair of this kind
abbrev pub as_shared : Sharing → Pair → Shared
as_shared kind pair = record { kind = kind; from = pair.from; to = pair.to }

-- the first kind stands before the second
abbrev pub kind_before : Sharing → Sharing → Bool
kind_before sharing.Anti sharing.Output = true
kind_before a b = false

-- one storage pair stands before the other: by kind, then as pairs do
abbrev pub shared_before : Shared → Shared → Bool
shared_before a b = kind_before a.kind b.kind || (not (kind_before b.kind a.kind) && pair_before (places_of a) (places_of b))

-- what is told of a loop: it has a tracked instance, and these are its storage pairs, sorted
pub record IsStorageOf (regions : List Region) (depth : ℕ) (events : List Event) (accesses : List (Option Access)) (l : LoopStorage) : Type 0 where
  pub is_loop : is_loop_at regions l.region ≡ true
  pub tracked : (o : Open) × IsTracked depth events l.region o
  pub sorted : AreSorted shared_before l.pairs
  pub sound : (s : Shared) → IsAmong s l.pairs → IsShared depth events accesses l.region s
  pub complete : (s : Shared) → IsShared depth events accesses l.region s → IsAmong s l.pairs

-- one loop stands before the other, by its region
abbrev pub storage_before : LoopStorage → LoopStorage → Bool
storage_before a b = nat_lt a.region b.region

-- STORAGE PAIRS: in order of region, each loop with a tracked instance, with its storage pairs
pub record AreShared (regions : List Region) (depth : ℕ) (events : List Event) (accesses : List (Option Access)) (loops : List LoopStorage) : Type 0 where
  pub sorted : AreSorted storage_before loops
  pub sound : (l : LoopStorage) → IsAmong l loops → IsStorageOf regions depth events accesses l
  pub complete : (region : ℕ) → is_loop_at regions region ≡ true → ((o : Open) × IsTracked depth events region o)
      → (l : LoopStorage) × IsAmong l loops × (l.region ≡ region)

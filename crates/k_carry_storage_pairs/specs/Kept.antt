-- For contracts between crates: nobody has to believe it.
-- What is gathered of a run, event by event, and what it means.
use Rattle.std.specs.Prelude.{ℕ, ◌≡◌, ◌+◌, ◌-◌, ◌<◌, nat_eq, nat_le, Bool, true, false, if◌then◌else◌, List, [], ◌∷◌, ◌++◌, length, map, replicate, take, slice_get, slice_set, Option, Some}
use Rattle.k_num.specs.declared.place.Place.{Place}
use Rattle.k_optab.specs.declared.event.Event.{Event}
use Rattle.k_optab.specs.declared.event.Event.TheVariants.{Op, Enter, Exit}
use Rattle.k_optab.specs.declared.event.Src.{Src}
use Rattle.k_optab.specs.declared.region.Region.{Region}
use Rattle.k_optab.specs.Events.{ListsUnbroken, Operation, made_before, operations}
use Rattle.k_optab.specs.Open.{Open, open_after}
use Rattle.k_mem.specs.declared.pointer.Pointer.{Pointer}
use Rattle.k_carry_pairs.specs.declared.origin.Origin.{Origin}
use Rattle.k_carry_pairs.specs.declared.pairs.LoopPairs.{LoopPairs}
use Rattle.k_carry_pairs.specs.Carried.{IsAmong, LiesIn, StandsAt}
use Rattle.k_carry_pairs.specs.Gathered.{Gathered, Gathers, depended_all, entered, left, loops_from, nothing}
use Rattle.k_carry_storage_pairs.specs.declared.access.Access.{Access}
use Rattle.k_carry_storage_pairs.specs.declared.pairs.LoopStorage.{LoopStorage}
use Rattle.k_carry_storage_pairs.specs.declared.pairs.Shared.{Shared}
use Rattle.k_carry_storage_pairs.specs.declared.pairs.Sharing.{Sharing}
use Rattle.k_carry_storage_pairs.specs.declared.pairs.Sharing.TheVariants as sharing
use Rattle.k_carry_storage_pairs.specs.Deep.{AreDeep}
use Rattle.k_carry_storage_pairs.specs.Storage.{IsFirst, MakesAccess, access, as_shared}

-- The pairs that follow a load, those that follow a store, the numbers of the first operations of the open instances, the outermost first, how deep
-- instances are tracked, and flags of the regions that had a deeper one. The pairs of both kinds are gathered as dependences are, of events in which a store lists the operations that it shares an element with.
pub record Kept : Type 0 where
  pub loads : Gathered
  pub stores : Gathered
  pub starts : List ℕ
  pub depth : ℕ
  pub deep : List Bool

-- nothing has happened
abbrev pub none_shared : List Region → ℕ → Kept
none_shared regions depth = record { loads = nothing regions depth; stores = nothing regions depth; starts = []; depth = depth; deep = [] }

-- the flag of a region is set, and those before it are there
abbrev pub flagged : ℕ → List Bool → List Bool
flagged region flags = slice_set (flags ++ replicate (region + 1 - length flags) false) region true

-- it is set where so many instances or more are open as are tracked
abbrev pub deep_behind : ℕ → ℕ → ℕ → List Bool → List Bool
deep_behind depth opened region deep = if nat_le depth opened then flagged region deep else deep

-- an instance of this region is entered, behind so many operations
abbrev pub both_entered : ℕ → ℕ → Kept → Kept
both_entered region made g = record g {
  loads = entered region made g.loads;
  stores = entered region made g.stores;
  starts = g.starts ++ made ∷ [];
  deep = deep_behind g.depth (length g.starts) region g.deep;
}

-- the innermost of the open instances is left, behind so many operations
abbrev pub both_left : ℕ → Kept → Kept
both_left made g = record g { loads = left made g.loads; stores = left made g.stores; starts = take (length g.starts - 1) g.starts }

-- an operation at this place stores to an element which these were the first to load, and these to store to
abbrev pub both_shared : List Origin → List Origin → Place → Kept → Kept
both_shared loads stores to g = record g { loads = depended_all loads to g.loads; stores = depended_all stores to g.stores }

-- the pairs of a loop, as pairs of a kind, if it is that of this region
abbrev pub pairs_of_one : Sharing → ℕ → LoopPairs → List Shared
pairs_of_one kind region l = if nat_eq l.region region then map (as_shared kind) l.pairs else []

-- the pairs of a region among those of loops, as pairs of a kind
abbrev pub pairs_among : Sharing → ℕ → List LoopPairs → List Shared
pairs_among kind region [] = []
pairs_among kind region (l ∷ loops) = pairs_of_one kind region l ++ pairs_among kind region loops

-- the storage pairs of a loop: those that follow a load, and those that follow a store
abbrev pub one_joined : List LoopPairs → LoopPairs → LoopStorage
one_joined stores l = record { region = l.region; pairs = map (as_shared sharing.Anti) l.pairs ++ pairs_among sharing.Output l.region stores }

-- those of all loops
abbrev pub joined : List LoopPairs → List LoopPairs → List LoopStorage
joined stores [] = []
joined stores (l ∷ loops) = one_joined stores l ∷ joined stores loops

-- the storage pairs of what is gathered
abbrev pub storage_of : Kept → List LoopStorage
storage_of g = joined (loops_from 0 g.stores.seen g.stores.found) (loops_from 0 g.loads.seen g.loads.found)

-- an event is the other one, but for what an operation lists
abbrev pub IsAlike : Event → Event → Type 0
IsAlike (Op class latency sources place) other = (sources' : List Src) × (other ≡ Op class latency sources' place)
IsAlike (Enter region) other = other ≡ Enter region
IsAlike Exit other = other ≡ Exit

-- so are all events
pub record AreAlike (events others : List Event) : Type 0 where
  pub long : length others ≡ length events
  pub each : (at : ℕ) (e : Event) → slice_get events at ≡ Some e → (other : Event) × ((slice_get others at ≡ Some other) × IsAlike e other)

-- The operation at place k stores to an element which that of number n loads or stores to before, first in an instance in which both lie.
pub record IsListed (writes : Bool) (events : List Event) (accesses : List (Option Access)) (k n : ℕ) : Type 0 where
  pub at : ℕ
  pub earlier : Operation
  pub later : Operation
  pub element : Pointer
  pub o : Open
  pub number : made_before at events ≡ n
  pub before : at < k
  pub made : MakesAccess events accesses at earlier (access writes element)
  pub stores : MakesAccess events accesses k later (access true element)
  pub begins_in : LiesIn events at o
  pub ends_in : LiesIn events k o
  pub first : IsFirst events accesses o at (access writes element)

-- these events are the others, but that each operation lists what it shares an element with
pub record Relists (writes : Bool) (depth : ℕ) (events : List Event) (accesses : List (Option Access)) (others : List Event) : Type 0 where
  pub alike : AreAlike events others
  pub sound : (k n : ℕ) (op : Operation) → StandsAt others k op → ListsUnbroken op.sources n → IsListed writes events accesses k n
  pub complete : (k n : ℕ) (op : Operation) (is : IsListed writes events accesses k n) → is.o.depth < depth → StandsAt others k op → ListsUnbroken op.sources n

-- what is gathered of one kind
pub record Follows (writes : Bool) (regions : List Region) (depth : ℕ) (events : List Event) (accesses : List (Option Access)) (g : Gathered) : Type 0 where
  pub others : List Event
  pub gathers : Gathers others g
  pub relists : Relists writes depth events accesses others
  pub regions_are : g.regions ≡ regions
  pub depth_is : g.depth ≡ depth

-- WHAT IS GATHERED is that of these events and accesses
pub record Keeps (regions : List Region) (depth : ℕ) (events : List Event) (accesses : List (Option Access)) (g : Kept) : Type 0 where
  pub numbered : length accesses ≡ length (operations events)
  pub loads : Follows false regions depth events accesses g.loads
  pub stores : Follows true regions depth events accesses g.stores
  pub starts : g.starts ≡ map (λ (o : Open). o.start) (open_after events)
  pub depth_is : g.depth ≡ depth
  pub deep : AreDeep depth events g.deep

-- an operation that makes this access, by its number and its place
pub record IsOrigin (events : List Event) (accesses : List (Option Access)) (a : Access) (x : Origin) : Type 0 where
  pub at : ℕ
  pub op : Operation
  pub made : MakesAccess events accesses at op a
  pub number : made_before at events ≡ x.number
  pub place : op.place ≡ x.place

-- WHAT IS KEPT OF AN ACCESS: operations that make it, and among them the first of each open tracked instance
pub record Knows (depth : ℕ) (events : List Event) (accesses : List (Option Access)) (a : Access) (origins : List Origin) : Type 0 where
  pub sound : (x : Origin) → IsAmong x origins → IsOrigin events accesses a x
  pub complete : (o : Open) (at : ℕ) (op : Operation) → IsAmong o (open_after events) → o.depth < depth → LiesIn events at o → MakesAccess events accesses at op a
      → IsFirst events accesses o at a → (x : Origin) × (IsAmong x origins × (x.number ≡ made_before at events))

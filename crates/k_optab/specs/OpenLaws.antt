-- Believed with a public law.
-- What each event does to the open instances and to the closed ones: the statements of the laws.
use Rattle.std.specs.Prelude.{ℕ, ◌≡◌, ◌<◌, ◌≤◌, List, [], ◌∷◌, ◌++◌, length, Some, slice_get, All, AllPairs}
use Rattle.k_num.specs.declared.place.Place.{Place}
use Rattle.k_optab.specs.declared.class.Class.{Class}
use Rattle.k_optab.specs.declared.closed.Closed.{Closed}
use Rattle.k_optab.specs.declared.event.Src.{Src}
use Rattle.k_optab.specs.declared.event.Event.{Event}
use Rattle.k_optab.specs.declared.event.Event.TheVariants.{Op, Enter, Exit}
use Rattle.k_optab.specs.Events.{operations}
use Rattle.k_optab.specs.Instances.{Balanced, tracked}
use Rattle.k_optab.specs.Open.{Open, left_at, open_after}

-- one event more closes no instance
abbrev pub ClosesNone : List Event → Event → Type 0
ClosesNone events event = (depth : ℕ) → tracked depth (events ++ event ∷ []) ≡ tracked depth events

-- an operation opens no instance and closes none
abbrev pub OperationsKeepInstances : Type 0
OperationsKeepInstances = (events : List Event) (class : Class) (latency : ℕ) (sources : List Src) (place : Place)
    → (open_after (events ++ Op class latency sources place ∷ []) ≡ open_after events) × ClosesNone events (Op class latency sources place)

-- the instance that an Enter of this region opens behind these events: it begins with the next operation
abbrev pub next_open : ℕ → List Event → Open
next_open region events =
    record { region = region; depth = length (open_after events); enter = length events; start = length (operations events) }

-- an Enter opens an instance within those that are open, and closes none
abbrev pub EntersOpenInstances : Type 0
EntersOpenInstances = (events : List Event) (region : ℕ)
    → (open_after (events ++ Enter region ∷ []) ≡ open_after events ++ next_open region events ∷ []) × ClosesNone events (Enter region)

-- an Exit with nothing open does nothing
abbrev pub IdleExitsKeepInstances : Type 0
IdleExitsKeepInstances = (events : List Event) → open_after events ≡ [] → (open_after (events ++ Exit ∷ []) ≡ []) × ClosesNone events Exit

-- in order of entry, this instance comes behind those that were left before it was entered, and before those within it
pub record IsPutIn (before inside : List Closed) (i : Closed) : Type 0 where
  pub earlier : All (λ j. j.exit < i.enter) before
  pub within : All (λ j. i.enter < j.enter) inside
  pub deeper : All (λ j. i.depth < j.depth) inside

-- an Exit behind these events closes this instance: it is put before those within it, where its depth is tracked
pub record Closes (depth : ℕ) (events : List Event) (i : Closed) : Type 0 where
  pub before : List Closed
  pub inside : List Closed
  pub so_far : tracked depth events ≡ before ++ inside
  pub put_in : IsPutIn before inside i
  pub shallow : i.depth < depth → tracked depth (events ++ Exit ∷ []) ≡ before ++ i ∷ inside
  pub deep : depth ≤ i.depth → tracked depth (events ++ Exit ∷ []) ≡ tracked depth events

-- an Exit leaves the open instance that was entered last, and no other
abbrev pub ExitsCloseTheLast : Type 0
ExitsCloseTheLast = (events : List Event) (outer : List Open) (last : Open) → open_after events ≡ outer ++ last ∷ []
    → (open_after (events ++ Exit ∷ []) ≡ outer) × ((depth : ℕ) → Closes depth events (left_at (length events) (length (operations events)) last))

-- each open instance has as many around it as its depth says
abbrev pub OpenDepthsCount : Type 0
OpenDepthsCount = (events : List Event) (k : ℕ) (o : Open) → slice_get (open_after events) k ≡ Some o → o.depth ≡ k

-- the one instance is entered before the other
pub record IsAround (a b : Open) : Type 0 where
  pub entered : a.enter < b.enter
  pub started : a.start ≤ b.start

-- each open instance lies around those behind it
abbrev pub OpenInstancesNest : Type 0
OpenInstancesNest = (events : List Event) → AllPairs IsAround (open_after events)

-- an open instance began among the events
abbrev pub OpenInstancesBegan : Type 0
OpenInstancesBegan = (events : List Event) → All (λ o. (o.enter < length events) × (o.start ≤ length (operations events))) (open_after events)

-- balanced events leave nothing open
abbrev pub BalancedLeaveNothingOpen : Type 0
BalancedLeaveNothingOpen = (events : List Event) → Balanced events → open_after events ≡ []

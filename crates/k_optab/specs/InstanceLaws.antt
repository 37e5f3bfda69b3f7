-- Believed with the theorem on the top call.
-- What holds of instances, whatever the events: the statements of the laws.
use Rattle.std.specs.Prelude.{ℕ, ◌≡◌, ◌<◌, ◌≤◌, ◌⊎◌, ◌↔◌, List, ◌∷◌, ◌++◌, length, Some, All, AllPairs}
use Rattle.k_optab.specs.declared.event.Event.{Event}
use Rattle.k_optab.specs.declared.event.Event.TheVariants.{Exit}
use Rattle.k_optab.specs.declared.closed.Closed.{Closed}
use Rattle.k_optab.specs.Events.{made_before}
use Rattle.k_optab.specs.Instances.{Balanced, until_exit, tracked}

-- the events before the matching Exit are the balanced ones that an Exit follows
abbrev pub ExitIsMatching : Type 0
ExitIsMatching = (events inside : List Event)
    → (until_exit events 0 ≡ Some inside) ↔ (Balanced inside × ((rest : List Event) × (events ≡ inside ++ Exit ∷ rest)))

-- the one instance is entered before the other, and is left after it or before it is entered
pub record Precedes (a b : Closed) : Type 0 where
  pub entered : a.enter < b.enter
  pub left : (b.exit < a.exit) ⊎ (a.exit < b.enter)

-- the closed instances stand in order of entry, and no two of them cross
abbrev pub InstancesNeverCross : Type 0
InstancesNeverCross = (depth : ℕ) (events : List Event) → AllPairs Precedes (tracked depth events)

-- each closed instance is left after it is entered
abbrev pub InstancesAreLeftLater : Type 0
InstancesAreLeftLater = (depth : ℕ) (events : List Event) → All (λ i. i.enter < i.exit) (tracked depth events)

-- the intervals of two instances, the first of which is entered first, lie as the instances do: one within
-- the other, or one behind the other
pub record LieAsInstances (a b : Closed) : Type 0 where
  pub within : b.exit < a.exit → (a.start ≤ b.start) × (b.end ≤ a.end)
  pub apart : a.exit < b.enter → a.end ≤ b.start

-- the intervals of any two closed instances lie as the instances do
abbrev pub IntervalsLieAsInstances : Type 0
IntervalsLieAsInstances = (depth : ℕ) (events : List Event) → AllPairs LieAsInstances (tracked depth events)

-- an instance's interval is that of the operations between its Enter and its Exit
pub record IsCounted (events : List Event) (i : Closed) : Type 0 where
  pub start : made_before i.enter events ≡ i.start
  pub end : made_before i.exit events ≡ i.end
  pub among : i.exit < length events

-- the intervals of closed instances count the operations among the events
abbrev pub IntervalsCountOperations : Type 0
IntervalsCountOperations = (depth : ℕ) (events : List Event) → All (IsCounted events) (tracked depth events)

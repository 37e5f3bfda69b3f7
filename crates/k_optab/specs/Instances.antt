-- Believed with the theorem on the top call.
-- *Instances*: an Enter with its matching Exit is a closed instance of a region.
use Rattle.std.specs.Prelude.{ℕ, zero, suc, ◌≡◌, ◌+◌, ◌-◌, ◌<◌, ◌≤◌, List, [], ◌∷◌, ◌++◌, length, Option, Some, None, option_map, nat_lt, filter, slice_get}
use Rattle.k_num.specs.declared.place.Place.{Place}
use Rattle.k_optab.specs.declared.class.Class.{Class}
use Rattle.k_optab.specs.declared.closed.Closed.{Closed}
use Rattle.k_optab.specs.declared.event.Src.{Src}
use Rattle.k_optab.specs.declared.event.Event.{Event}
use Rattle.k_optab.specs.declared.event.Event.TheVariants.{Op, Enter, Exit}
use Rattle.k_optab.specs.Events.{operations}

-- the events before the Exit that leaves an instance just entered, after so many more instances within it
-- are left; None where that Exit does not come
abbrev pub until_exit : List Event → ℕ → Option (List Event)
until_exit [] within = None
until_exit (Op class latency sources place ∷ events) within =
    option_map (λ inside. Op class latency sources place ∷ inside) (until_exit events within)
until_exit (Enter region ∷ events) within = option_map (λ inside. Enter region ∷ inside) (until_exit events (suc within))
until_exit (Exit ∷ events) zero = Some []
until_exit (Exit ∷ events) (suc within) = option_map (λ inside. Exit ∷ inside) (until_exit events within)

-- an instance that was entered, where it is left after these events
abbrev pub instance_of : ℕ → ℕ → ℕ → ℕ → Option (List Event) → List Closed
instance_of region depth enter start None = []
instance_of region depth enter start (Some inside) =
    record { region = region; depth = depth; enter = enter; exit = enter + 1 + length inside; start = start; end = start + length (operations inside) } ∷ []

-- the closed instances of these events, in order of entry, where `before` events with `made` operations stand
-- before them and `depth` instances are open; an Exit with nothing open is nothing
abbrev pub closed_from : List Event → ℕ → ℕ → ℕ → List Closed
closed_from [] before made depth = []
closed_from (Op class latency sources place ∷ events) before made depth = closed_from events (before + 1) (made + 1) depth
closed_from (Enter region ∷ events) before made depth =
    instance_of region depth before made (until_exit events 0) ++ closed_from events (before + 1) made (depth + 1)
closed_from (Exit ∷ events) before made depth = closed_from events (before + 1) made (depth - 1)

-- the closed instances of depth below `depth`, in order of entry
abbrev pub tracked : ℕ → List Event → List Closed
tracked depth events = filter (λ i. nat_lt i.depth depth) (closed_from events 0 0 0)

-- the one instance is entered and left within the other
pub record Encloses (outer inner : Closed) : Type 0 where
  pub entered : outer.enter < inner.enter
  pub left : inner.exit < outer.exit

-- of the instances of the list that enclose this one, the nearest, which is entered last, stands at this place in the list
pub record IsNearest (list : List Closed) (inner : Closed) (place : ℕ) : Type 0 where
  pub outer : Closed
  pub there : slice_get list place ≡ Some outer
  pub encloses : Encloses outer inner
  pub nearest : (other : ℕ) (instance : Closed) → slice_get list other ≡ Some instance → Encloses instance inner
      → instance.enter ≤ outer.enter

-- the place in the list of the nearest instance that encloses this one; None where none does
abbrev pub IsParent : List Closed → Closed → Option ℕ → Type 0
IsParent list inner None = (place : ℕ) (outer : Closed) → slice_get list place ≡ Some outer → ¬ Encloses outer inner
IsParent list inner (Some place) = IsNearest list inner place

-- each instance that was entered among these events is left among them, and nothing else is left
pub data Balanced : List Event → Type 0 where
  nothing : Balanced []
  operation : (class : Class) (latency : ℕ) (sources : List Src) (place : Place) (events : List Event) → Balanced events
      → Balanced (Op class latency sources place ∷ events)
  instance : (region : ℕ) (inside events : List Event) → Balanced inside → Balanced events
      → Balanced (Enter region ∷ inside ++ Exit ∷ events)

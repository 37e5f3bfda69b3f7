-- Believed with the theorem on the top call.
-- *Open instances*: an Enter whose matching Exit is not among the events is an open instance of a region.
use Rattle.std.specs.Prelude.{ℕ, ◌+◌, ◌-◌, List, [], ◌∷◌, ◌++◌, Option, Some, None}
use Rattle.k_optab.specs.declared.closed.Closed.{Closed}
use Rattle.k_optab.specs.declared.event.Event.{Event}
use Rattle.k_optab.specs.declared.event.Event.TheVariants.{Op, Enter, Exit}
use Rattle.k_optab.specs.Instances.{until_exit}

-- an open instance: its region, how many instances were open when it was entered, the place of its Enter among the events, and
-- how many operations were made before that
pub record Open : Type 0 where
  pub region : ℕ
  pub depth : ℕ
  pub enter : ℕ
  pub start : ℕ

-- an instance that was entered, where its Exit does not come
abbrev pub open_of : ℕ → ℕ → ℕ → ℕ → Option (List Event) → List Open
open_of region depth enter start None = record { region = region; depth = depth; enter = enter; start = start } ∷ []
open_of region depth enter start (Some inside) = []

-- the instances that these events leave open, in order of entry, where `before` events with `made` operations stand before
-- them and `depth` instances are open; an Exit with nothing open is nothing
abbrev pub open_from : List Event → ℕ → ℕ → ℕ → List Open
open_from [] before made depth = []
open_from (Op class latency sources place ∷ events) before made depth = open_from events (before + 1) (made + 1) depth
open_from (Enter region ∷ events) before made depth =
    open_of region depth before made (until_exit events 0) ++ open_from events (before + 1) made (depth + 1)
open_from (Exit ∷ events) before made depth = open_from events (before + 1) made (depth - 1)

-- the instances that are open after these events, in order of entry: each lies within the ones before it
abbrev pub open_after : List Event → List Open
open_after events = open_from events 0 0 0

-- the closed instance that an open one becomes where its Exit stands at this place among the events, behind so many operations
abbrev pub left_at : ℕ → ℕ → Open → Closed
left_at exit end o = record { region = o.region; depth = o.depth; enter = o.enter; exit = exit; start = o.start; end = end }

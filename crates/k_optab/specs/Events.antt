-- Believed with the theorem on the top call.
-- *Event*: the operations of a run, numbered from 0.
use Rattle.std.specs.Prelude.{ℕ, ◌≡◌, ◌+◌, ◌-◌, ◌<◌, ◌⊎◌, false, List, [], ◌∷◌, length, take, drop, slice_get, Some}
use Rattle.k_num.specs.declared.place.Place.{Place}
use Rattle.k_optab.specs.declared.class.Class.{Class}
use Rattle.k_optab.specs.declared.event.Event.{Event}
use Rattle.k_optab.specs.declared.event.Event.TheVariants.{Op, Enter, Exit}
use Rattle.k_optab.specs.declared.event.Src.{Src}

-- an operation of a run; its place is where in the source the construct stands that makes it
pub record Operation : Type 0 where
  pub class : Class
  pub latency : ℕ
  pub sources : List Src
  pub place : Place

-- the operations among events, in order: operation number k of a run stands at index k
abbrev pub operations : List Event → List Operation
operations [] = []
operations (Op class latency sources place ∷ events) =
    record { class = class; latency = latency; sources = sources; place = place } ∷ operations events
operations (Enter region ∷ events) = operations events
operations (Exit ∷ events) = operations events

-- how many operations stand before a place among events
abbrev pub made_before : ℕ → List Event → ℕ
made_before place events = length (operations (take place events))

-- operation number k is this one
abbrev pub IsOperation : List Operation → ℕ → Operation → Type 0
IsOperation ops k op = slice_get ops k ≡ Some op

-- these sources list the operation of that number, by a dependence that is not broken
abbrev pub ListsUnbroken : List Src → ℕ → Type 0
ListsUnbroken [] j = ⊥
ListsUnbroken (src ∷ sources) j = ((src.number ≡ j) × (src.broken ≡ false)) ⊎ ListsUnbroken sources j

-- these sources name operations before number k alone
abbrev pub AreBefore : ℕ → List Src → Type 0
AreBefore k [] = Unit {0}
AreBefore k (src ∷ sources) = (src.number < k) × AreBefore k sources

-- each source of each operation names an earlier operation, as in every run
abbrev pub SourcesAreEarlier : List Operation → Type 0
SourcesAreEarlier ops = (k : ℕ) (op : Operation) → IsOperation ops k op → AreBefore k op.sources

-- the latencies of these operations together
abbrev pub total_latency : List Operation → ℕ
total_latency [] = 0
total_latency (op ∷ ops) = op.latency + total_latency ops

-- the operations of the interval [s, e)
abbrev pub interval : List Operation → ℕ → ℕ → List Operation
interval ops s e = take (e - s) (drop s ops)

-- Believed with the theorem on the top call.
-- Which regions a run enters, and the shape of a run from which main returned.
use Rattle.std.specs.Prelude.{ℕ, ◌≡◌, ◌<◌, List, [], ◌∷◌, ◌++◌, Some, codes, slice_get}
use Rattle.k_optab.specs.declared.event.Event.{Event}
use Rattle.k_optab.specs.declared.event.Event.TheVariants.{Op, Enter, Exit}
use Rattle.k_optab.specs.declared.region.Region.{Region}
use Rattle.k_optab.specs.declared.region.RegionKind.TheVariants.{Func}
use Rattle.k_optab.specs.Instances.{Balanced}

-- each region that is entered is one of so many
abbrev pub EnterBelow : ℕ → List Event → Type 0
EnterBelow count [] = Unit {0}
EnterBelow count (Op class latency sources place ∷ events) = EnterBelow count events
EnterBelow count (Enter region ∷ events) = (region < count) × EnterBelow count events
EnterBelow count (Exit ∷ events) = EnterBelow count events

-- the events are one instance of the function main, with all others within it
pub record IsOfMain (regions : List Region) (events : List Event) : Type 0 where
  pub number : ℕ
  pub inside : List Event
  pub main : Region
  pub whole : events ≡ Enter number ∷ (inside ++ Exit ∷ [])
  pub balanced : Balanced inside
  pub there : slice_get regions number ≡ Some main
  pub kind : main.kind ≡ Func
  pub func : main.func ≡ codes "main"

-- For contracts between crates: nobody has to believe it.
-- Which locations hold the sources of an operation, and what its event does to events.
use Rattle.std.specs.Prelude.{ℕ, ◌≡◌, ◌<◌, true, false, List, [], ◌∷◌, ◌++◌, Some, None}
use Rattle.k_optab.specs.declared.event.Event.{Event}
use Rattle.k_optab.specs.declared.event.Src.{Src}
use Rattle.k_optab.specs.Events.{Operation, operations}
use Rattle.k_optab.specs.Open.{open_after}
use Rattle.k_code.specs.declared.code.Code.{Code}
use Rattle.k_code.specs.Steps.{Configuration}
use Rattle.k_hcpa_meaning.specs.Locations.{source_at}
use Rattle.k_hcpa_meaning.specs.Timings.{Location}

-- The unbroken ones of these sources are those of what these locations hold, in one order: a location may hold what no operation gave, and a source
-- whose dependence is broken is an operation that was made.
pub data DependsOn (code : Code) (c : Configuration) : List Src → List Location → Type 0 where
  nothing : DependsOn code c [] []
  without : (sources : List Src) (at : Location) (locations : List Location) → source_at code c at ≡ Some None
      → DependsOn code c sources locations → DependsOn code c sources (at ∷ locations)
  whole : (number : ℕ) (sources : List Src) (at : Location) (locations : List Location) → source_at code c at ≡ Some (Some number)
      → DependsOn code c sources locations → DependsOn code c (record { number = number; broken = false } ∷ sources) (at ∷ locations)
  broken : (number : ℕ) (sources : List Src) (locations : List Location) → number < c.world.made
      → DependsOn code c sources locations → DependsOn code c (record { number = number; broken = true } ∷ sources) locations

-- this operation stands behind these events, and the same instances are open
pub record OneMore (before after : List Event) (op : Operation) : Type 0 where
  pub operations : operations after ≡ operations before ++ op ∷ []
  pub opened : open_after after ≡ open_after before

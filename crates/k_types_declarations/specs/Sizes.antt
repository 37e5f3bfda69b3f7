-- For contracts between crates: nobody has to believe it.
-- What judging a dimension gives.
use Rattle.std.specs.Prelude.{◌≡◌, ℕ, List, ◌++◌, Result, Ok, Err}
use Rattle.k_types_meaning.specs.declared.fault.TypeFault.{TypeFault}
use Rattle.k_types_meaning.specs.Dimensions.{Dimension}
use Rattle.k_types_meaning.specs.Made.{Made, Fine}
use Rattle.k_types_rules.specs.Views.{Refuses}
use Rattle.k_types_objects.specs.declared.size.Size.{Size}
use Rattle.k_types_objects.specs.KeptSizes.{size_in}

-- a dimension was judged, and the variables to which `&` is applied in it were put behind the older ones; or it has a fault first
abbrev pub GivesSize : Result Size TypeFault → List ℕ → List ℕ → Made Dimension → Type 0
GivesSize (Ok size) older newer m = (taken : List ℕ) × (m ≡ Fine (record { size = size_in size; taken = taken })) × (newer ≡ older ++ taken)
GivesSize (Err f) older newer m = Refuses f m

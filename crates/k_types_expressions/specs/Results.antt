-- For contracts between crates: nobody has to believe it.
-- What judging an expression gives, and what it adds to the variables to which `&` is applied.
use Rattle.std.specs.Prelude.{◌≡◌, ℕ, List, ◌++◌, ◌⊎◌, Result, Ok, Err}
use Rattle.k_num.specs.declared.place.Place.{Place}
use Rattle.k_types_meaning.specs.declared.fault.TypeFault.{TypeFault}
use Rattle.k_types_meaning.specs.declared.fault.TypeFault.TheVariants as fault
use Rattle.k_types_meaning.specs.Conversions.{Typed}
use Rattle.k_types_meaning.specs.Made.{Made, Fine}
use Rattle.k_types_rules.specs.declared.judged.TypedExpr.{TypedExpr}
use Rattle.k_types_rules.specs.Views.{typed, Refuses}

-- A part of a source was judged, and the variables to which `&` is applied in it were put behind the older ones; or it has a fault first.
abbrev pub Gives : Result TypedExpr TypeFault → List ℕ → List ℕ → Made Typed → Type 0
Gives (Ok j) older newer m = (taken : List ℕ) × (m ≡ Fine (typed j taken)) × (newer ≡ older ++ taken)
Gives (Err f) older newer m = Refuses f m

-- The fault is that of a name that is not known, or want of memory.
abbrev pub IsUnknown : TypeFault → Place → List ℕ → Type 0
IsUnknown f place name = (f ≡ fault.Memory) ⊎ (f ≡ fault.Unknown name place)

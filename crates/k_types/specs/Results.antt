-- For contracts between crates: nobody has to believe it.
-- What the functions of this crate give.
use Rattle.std.specs.Prelude.{◌≡◌, ℕ, List, [], ◌⊎◌, Result, Ok, Err}
use Rattle.k_num.specs.declared.place.Place.{Place}
use Rattle.k_types_meaning.specs.declared.fault.TypeFault.{TypeFault}
use Rattle.k_types_meaning.specs.declared.fault.TypeFault.TheVariants as fault
use Rattle.k_types_meaning.specs.Made.{Made, Fine, StartsWith}
use Rattle.k_types_rules.specs.Views.{Refuses}

-- The fault is the first of these, or want of memory.
abbrev pub IsFirstFault : TypeFault → List TypeFault → Type 0
IsFirstFault f fs = (f ≡ fault.Memory) ⊎ StartsWith f fs

-- there are no faults, or this is the first of them; want of memory agrees with all
abbrev pub Tests : Result (Unit {0}) TypeFault → List TypeFault → Type 0
Tests (Ok done) fs = fs ≡ []
Tests (Err f) fs = IsFirstFault f fs

-- The fault is that of a call of a function that is not defined, or want of memory.
abbrev pub IsUndefined : TypeFault → Place → List ℕ → Type 0
IsUndefined f p x = (f ≡ fault.Memory) ⊎ (f ≡ fault.NotDefined x p)

-- this is made, or the fault is the first; want of memory agrees with all
abbrev pub MakesOrRefuses : {A : Type 0} → Result (Unit {0}) TypeFault → A → Made A → Type 0
MakesOrRefuses (Ok done) a m = m ≡ Fine a
MakesOrRefuses (Err f) a m = Refuses f m

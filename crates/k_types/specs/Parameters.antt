-- For contracts between crates: nobody has to believe it.
-- Parameters as they are judged.
use Rattle.std.specs.Prelude.{◌≡◌, ℕ, Bool, if◌then◌else◌, List, [], ◌∷◌, ◌++◌, length, Option, Result, Ok, Err}
use Rattle.k_tree.specs.declared.tree.declaration.Param.{Param}
use Rattle.k_types_meaning.specs.declared.fault.TypeFault.{TypeFault}
use Rattle.k_types_meaning.specs.declared.fault.TypeFault.TheVariants as fault
use Rattle.k_types_meaning.specs.declared.names.Meaning.TheVariants as meaning
use Rattle.k_types_meaning.specs.declared.types.CType.{CType}
use Rattle.k_types_meaning.specs.Functions.{entered_option, local_base, name_or_nothing, param_fixed, param_type}
use Rattle.k_types_meaning.specs.Made.{Made, Fine, refused}
use Rattle.k_types_meaning.specs.Specifiers.{says_const}
use Rattle.k_types_meaning.specs.Statements.{Judged, Known}
use Rattle.k_types_rules.specs.Views.{Refuses}

-- C17 6.7.6.3p7: the type of a parameter by the sizes behind the first
abbrev pub type_with : Param → List ℕ → Option CType
type_with p dims = param_type (says_const p.specs) (local_base p.specs) p dims

-- what is known behind a parameter of this type, which is the next variable
abbrev pub behind_variable : Known → Param → CType → Known
behind_variable known p of = record {
  names = entered_option p.name (meaning.Variable (length known.variables) of (param_fixed p)) known.names;
  variables = known.variables ++ record { place = p.place; of = of } ∷ [];
  taken = known.taken;
}

-- what is made of a parameter of this type, by whether its name stands there, it has a type and its sizes are right
abbrev pub checked_type : Bool → Bool → Bool → Param → CType → Made CType
checked_type twice typed fits p of =
    if twice then refused (fault.Twice (name_or_nothing p.name) p.place)
    else if typed then (if fits then Fine of else refused (fault.BadSize p.place))
    else refused (fault.Kinds p.place)

-- a parameter was judged, and this is known behind it; or it has a fault first
abbrev pub GoesOn : Result (Unit {0}) TypeFault → Known → Judged CType → Type 0
GoesOn (Ok done) newer j = (of : CType) × (j.made ≡ Fine of) × (newer ≡ j.after)
GoesOn (Err f) newer j = Refuses f j.made

-- so many parameters were judged, and this is known behind them; or there is a fault first
abbrev pub GoesAll : Result (Unit {0}) TypeFault → Known → ℕ → Judged (List CType) → Type 0
GoesAll (Ok done) newer count j = (types : List CType) × (j.made ≡ Fine types) × (length types ≡ count) × (newer ≡ j.after)
GoesAll (Err f) newer count j = Refuses f j.made

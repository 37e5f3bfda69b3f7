-- For contracts between crates: nobody has to believe it.
-- What typing a part of a source gives, and what is known behind it.
use Rattle.std.specs.Prelude.{◌≡◌, ℕ, List, [], ◌∷◌, ◌++◌, length, Result, Ok, Err}
use Rattle.k_types_meaning.specs.declared.fault.TypeFault.{TypeFault}
use Rattle.k_types_meaning.specs.declared.tree.unit.TObject.{TObject}
use Rattle.k_types_meaning.specs.Dimensions.{Size, Sizes}
use Rattle.k_types_meaning.specs.Made.{Made, Fine}
use Rattle.k_types_meaning.specs.Names.{Names}
use Rattle.k_types_meaning.specs.Statements.{Known, Judged}
use Rattle.k_types_meaning.specs.Units.{Placed}
use Rattle.k_types_rules.specs.Views.{Refuses}
use Rattle.k_types_declarations.specs.declared.known.Known as kept

-- what is known
abbrev pub seen : kept.Known → Known
seen k = record { names = k.names; variables = k.variables; taken = k.taken }

-- a part of a source was judged, and what is known goes on behind it; or it has a fault first
abbrev pub Goes : {A : Type 0} → Result A TypeFault → Known → Known → Judged A → Type 0
Goes (Ok x) older newer j = (j.made ≡ Fine x) × (newer ≡ j.after)
Goes (Err f) older newer j = Refuses f j.made

-- dimensions were judged, and the variables to which `&` is applied in them were put behind the older ones; or they have a fault first
abbrev pub GivesSizes : Result (List Size) TypeFault → List ℕ → List ℕ → Made Sizes → Type 0
GivesSizes (Ok sizes) older newer m = (taken : List ℕ) × (m ≡ Fine (record { sizes = sizes; taken = taken })) × (newer ≡ older ++ taken)
GivesSizes (Err f) older newer m = Refuses f m

-- a file object was declared, and its name is known behind it; or its declarator has a fault first
abbrev pub PlacesObject : Result TObject TypeFault → Names → Placed → Type 0
PlacesObject (Ok object) names p = (p.made ≡ Fine (record { objects = object ∷ []; functions = [] })) × (names ≡ p.after.names)
PlacesObject (Err f) names p = Refuses f p.made

-- file objects were declared and put behind the older ones, and their names are known behind them; or there is a fault first
abbrev pub PlacesObjects : Result (Unit {0}) TypeFault → List TObject → List TObject → Names → List (List ℕ) → Placed → Type 0
PlacesObjects (Ok done) older newer names functions p =
    (objects : List TObject)
    × (p.made ≡ Fine (record { objects = objects; functions = [] }))
    × (newer ≡ older ++ objects)
    × (p.after ≡ record { names = names; objects = length newer; functions = functions })
PlacesObjects (Err f) older newer names functions p = Refuses f p.made

-- For contracts between crates: nobody has to believe it.
-- What the items of a source come to, as it is kept.
use Rattle.std.specs.Prelude.{◌≡◌, ◌+◌, ℕ, List, [], ◌∷◌, ◌++◌, length, take, Result, Ok, Err}
use Rattle.k_types_meaning.specs.declared.fault.TypeFault.{TypeFault}
use Rattle.k_types_meaning.specs.Made.{Fine}
use Rattle.k_types_meaning.specs.Names.{library}
use Rattle.k_types_meaning.specs.Units.{FileKnown, Parts, Placed}
use Rattle.k_types_rules.specs.Views.{Refuses}
use Rattle.k_types.specs.declared.item.File.{File}
use Rattle.k_types.specs.Heads.{IsFile}

-- what is known at this place of a source that defines functions of these names
abbrev pub known_in : List (List ℕ) → File → FileKnown
known_in defined file =
    record { names = file.known.names; objects = length file.objects; functions = take (length file.functions) defined }

-- nothing is declared, and there is no object and no function
pub record IsNew (file : File) : Type 0 where
  pub names : file.known.names ≡ [] ∷ library ∷ []
  pub objects : file.objects ≡ []
  pub functions : file.functions ≡ []

-- Items that define functions of these names have no fault, what they come to was put behind the older parts, and this is known behind them.
pub record PlacesItems (defined names : List (List ℕ)) (older newer : File) (placed : Placed) : Type 0 where
  pub parts : Parts
  pub made : placed.made ≡ Fine parts
  pub objects : newer.objects ≡ older.objects ++ parts.objects
  pub functions : newer.functions ≡ older.functions ++ parts.functions
  pub counted : length newer.functions ≡ length older.functions + length names
  pub known : known_in defined newer ≡ placed.after
  pub file : IsFile newer.known.names

-- items were judged; or they have a fault first
abbrev pub GivesParts : Result (Unit {0}) TypeFault → List (List ℕ) → List (List ℕ) → File → File → Placed → Type 0
GivesParts (Ok done) defined names older newer placed = PlacesItems defined names older newer placed
GivesParts (Err f) defined names older newer placed = Refuses f placed.made

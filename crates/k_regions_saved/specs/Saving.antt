-- Believed with a public law.
-- What the regions of a source are to a saved profile.
use Rattle.std.specs.Prelude.{ℕ, ◌≡◌, ◌≤◌, true, List, [], slice_get, Some}
use Rattle.k_tree.specs.declared.tokens.Token.{Token}
use Rattle.k_tree.specs.declared.tokens.TokenKind.{TokenKind}
use Rattle.k_tree.specs.declared.tokens.TokenKind.TheVariants as token
use Rattle.k_tree.specs.declared.tree.unit.Unit as source
use Rattle.k_tree.specs.Count.{unit_count}
use Rattle.k_tree.specs.Places.{Placed}
use Rattle.k_scan.specs.Names.{is_name}
use Rattle.k_types_meaning.specs.declared.tree.unit.TUnit.{TUnit}
use Rattle.k_types_meaning.specs.Bare.{IsTyped}
use Rattle.k_types_meaning.specs.Units.{faults}
use Rattle.k_dict_saved.specs.Files.{AreRegions}
use Rattle.k_dict_saved.specs.Lines.{IsAmongPlaces}
use Rattle.k_regions.specs.Regions.{regions_of}

-- where a token is a name, it is one of the language
abbrev pub IsRightKind : TokenKind → Type 0
IsRightKind (token.Name name) = is_name name ≡ true
IsRightKind _ = Unit {0}

-- a token of a source: it stands among the places of sources
pub record IsRightToken (t : Token) : Type 0 where
  pub line : IsAmongPlaces t.place.line
  pub column : IsAmongPlaces t.place.column
  pub kind : IsRightKind t.what

-- the regions of a source without faults can be saved, where its tree stands at such tokens and has at most 262,144 nodes
abbrev pub RegionsCanBeSaved : Type 0
RegionsCanBeSaved =
    (unit : source.Unit) (typed : TUnit) (tokens : List Token)
    → Placed unit tokens
    → unit_count unit ≤ 262144
    → ((n : ℕ) (t : Token) → slice_get tokens n ≡ Some t → IsRightToken t)
    → IsTyped unit typed
    → faults unit ≡ []
    → AreRegions (regions_of typed)

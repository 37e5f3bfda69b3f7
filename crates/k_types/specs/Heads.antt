-- For contracts between crates: nobody has to believe it.
-- What judging the head of a function gives.
use Rattle.std.specs.Prelude.{◌≡◌, ℕ, Bool, List, [], ◌∷◌, length, Result, Ok, Err}
use Rattle.k_tree.specs.declared.tree.unit.Head.{Head}
use Rattle.k_types_meaning.specs.declared.fault.TypeFault.{TypeFault}
use Rattle.k_types_meaning.specs.declared.names.Signature.{Signature}
use Rattle.k_types_meaning.specs.declared.types.CType.{CType}
use Rattle.k_types_meaning.specs.Functions.{head_params, params_of, signature}
use Rattle.k_types_meaning.specs.Made.{Fine}
use Rattle.k_types_meaning.specs.Names.{Names, Scope, library}
use Rattle.k_types_meaning.specs.Statements.{Known}
use Rattle.k_types_rules.specs.Views.{Refuses}

-- The parameters of a head have no fault, its function has this signature, and this is known behind the parameters.
pub record HasHead (f : Signature) (defines : Bool) (defined : List (List ℕ)) (names : Names) (head : Head) (newer : Known) : Type 0 where
  pub types : List CType
  pub made : (head_params defines names head).made ≡ Fine types
  pub counted : length types ≡ length (params_of head.params)
  pub after : newer ≡ (head_params defines names head).after
  pub signed : f ≡ signature defined names head

-- a head was judged, and gave this signature; or its parameters have a fault first
abbrev pub GivesHead : Result Signature TypeFault → Bool → List (List ℕ) → Names → Head → Known → Type 0
GivesHead (Ok f) defines defined names head newer = HasHead f defines defined names head newer
GivesHead (Err e) defines defined names head newer = Refuses e (head_params defines names head).made

-- only the scope of the file is open, in that of the library
abbrev pub IsFile : Names → Type 0
IsFile names = (scope : Scope) × (names ≡ scope ∷ library ∷ [])

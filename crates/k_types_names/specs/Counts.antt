-- For contracts between crates: nobody has to believe it.
-- Lists of words that name a type, by how often they have each word.
use Rattle.std.specs.Prelude.{ℕ, if◌then◌else◌, List, [], ◌∷◌, Option, Some, None}
use Rattle.std.specs.Str.{bytes_eq}
use Rattle.k_types_meaning.specs.declared.types.Base.{Base}

-- the type of the first row that has these counts
abbrev pub found : List (List ℕ × Base) → List ℕ → Option Base
found [] counts = None
found (row ∷ rows) counts = if bytes_eq row.0 counts then Some row.1 else found rows counts

-- For contracts between crates: nobody has to believe it.
-- How the code keeps lists.
use Rattle.std.specs.Prelude.{◌≡◌, Bool, true, false, List, [], ◌∷◌, Option, Some, None, Result, Ok, Err}
use Rattle.k_num.specs.declared.memory.NoMemory.{NoMemory}
use Rattle.k_lex_expansion.specs.declared.tokens.Listed.{Listed}
use Rattle.k_lex_expansion.specs.Listing.{with_space}

-- the first token has blanks before it, or has none
abbrev pub respaced : Bool → List Listed → List Listed
respaced spaced [] = []
respaced spaced (t ∷ ts) = with_space spaced t ∷ ts

-- Two lists were glued, if it is told so; what they make is wanted.
abbrev pub Glues : Result Bool NoMemory → Option (List Listed) → List Listed → Type 0
Glues (Ok true) want new = want ≡ Some new
Glues (Ok false) want new = want ≡ None
Glues (Err _) want new = Unit {0}

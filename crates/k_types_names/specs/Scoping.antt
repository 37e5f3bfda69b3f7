-- For contracts between crates: nobody has to believe it.
-- The innermost scope, and what lies outside it (C17 6.2.1).
use Rattle.std.specs.Prelude.{ℕ, Bool, List, [], ◌∷◌, is_some}
use Rattle.k_types_meaning.specs.Names.{Names, Scope, meaning_in}

-- C17 6.2.1p4: what is known behind the end of the innermost scope
abbrev pub outside : Names → Names
outside [] = []
outside (scope ∷ names) = names

-- the innermost scope
abbrev pub innermost : Names → Scope
innermost [] = []
innermost (scope ∷ names) = scope

-- a name stands in a scope
abbrev pub stands_in : Scope → List ℕ → Bool
stands_in scope x = is_some (meaning_in scope x)

-- Believed with the theorem on the top call.
-- What the names of a source mean, and the scopes that they are declared in (C17 6.2.1, 6.2.3).
use Rattle.std.specs.Prelude.{ℕ, ◌+◌, if◌then◌else◌, List, [], ◌∷◌, Option, Some, None, codes}
use Rattle.std.specs.Str.{bytes_eq}
use Rattle.k_types_meaning.specs.declared.names.Library.TheVariants.{Getchar, Putchar, Puts, Printf}
use Rattle.k_types_meaning.specs.declared.names.Meaning.{Meaning}
use Rattle.k_types_meaning.specs.declared.names.Meaning.TheVariants as meaning

-- the names of one scope, the newest first
abbrev pub Scope : Type 0
Scope = List (List ℕ × Meaning)

-- the scopes around a place in a source, the innermost first
abbrev pub Names : Type 0
Names = List Scope

-- what a name means in one scope
abbrev pub meaning_in : Scope → List ℕ → Option Meaning
meaning_in [] x = None
meaning_in (entry ∷ scope) x = if bytes_eq entry.0 x then Some entry.1 else meaning_in scope x

-- this meaning, or else that one
abbrev pub or_meaning : Option Meaning → Option Meaning → Option Meaning
or_meaning None other = other
or_meaning (Some meaning) other = Some meaning

-- C17 6.2.1p4: what a name means where these scopes are open: what the innermost scope that has it says
abbrev pub meaning_of : Names → List ℕ → Option Meaning
meaning_of [] x = None
meaning_of (scope ∷ names) x = or_meaning (meaning_in scope x) (meaning_of names x)

-- the scope that all scopes lie in: the library functions, which are always known
abbrev pub library : Scope
library =
    (codes "getchar", meaning.Library Getchar) ∷
    (codes "putchar", meaning.Library Putchar) ∷
    (codes "puts", meaning.Library Puts) ∷
    (codes "printf", meaning.Library Printf) ∷
    []

-- the place of a name in a list of names, and the list's length where it is not in it
abbrev pub place_in : List (List ℕ) → List ℕ → ℕ
place_in [] x = 0
place_in (y ∷ ys) x = if bytes_eq y x then 0 else 1 + place_in ys x

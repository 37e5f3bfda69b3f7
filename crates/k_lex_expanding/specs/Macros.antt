-- For contracts between crates: nobody has to believe it.
-- Macros by their numbers.
use Rattle.std.specs.Prelude.{◌≡◌, ℕ, List, [], Option, Some, None, length, option_map, slice_get}
use Rattle.k_lex_expansion.specs.declared.tokens.Listed.{Listed}
use Rattle.k_lex_expansion.specs.declared.macros.Macro.{Macro}
use Rattle.k_lex_expansion.specs.declared.macros.Chain.{Chain}
use Rattle.k_lex_expansion.specs.Expansion.{named, used}

-- the macro of this number is the one that is looked for
pub record Is (macros : List Macro) (number : ℕ) (want : Option Macro) : Type 0 where
  pub one : Macro
  pub there : slice_get macros number ≡ Some one
  pub wanted : want ≡ Some one

-- there is a macro of this name, of this number, or none
abbrev pub IsNamed : Option ℕ → List Macro → List ℕ → Type 0
IsNamed None macros name = named macros name ≡ None
IsNamed (Some number) macros name = Is macros number (named macros name)

-- the token uses a macro, of this number, or none
abbrev pub IsUsed : Option ℕ → List Macro → Listed → Type 0
IsUsed None macros t = used macros t ≡ None
IsUsed (Some number) macros t = Is macros number (used macros t)

-- how many parameters the macro has, if it has a list of them
abbrev pub count_of : Option Macro → Option ℕ
count_of None = None
count_of (Some m) = option_map length m.parameters

-- the body of the macro
abbrev pub body_of : Option Macro → List Chain
body_of None = []
body_of (Some m) = m.body

-- For contracts between crates: nobody has to believe it.
-- What the code tells of headers.
use Rattle.std.specs.Prelude.{◌≡◌, ℕ, false, List, [], ◌∷◌, Result, Ok, Err}
use Rattle.k_num.specs.declared.memory.NoMemory.{NoMemory}
use Rattle.k_lex_expansion.specs.declared.macros.Macro.{Macro}
use Rattle.k_lex_expansion.specs.declared.macros.Chain.{Chain}
use Rattle.k_lex_expansion.specs.declared.macros.Operand.TheVariants as o
use Rattle.k_lex_lines.specs.Directives.{Included, no_header, another_macro, with_macros, part}
use Rattle.k_lex_reading.specs.declared.headers.Inclusion.{Inclusion}
use Rattle.k_lex_reading.specs.declared.headers.Inclusion.TheVariants as inclusion

-- a part of a body, a token of one byte
abbrev pub mark_part : ℕ → Chain
mark_part mark = part (mark ∷ [])

-- a part of a body, the first parameter
abbrev pub parameter_part : Chain
parameter_part = record { spaced = false; first = o.Parameter 0; more = [] }

-- the header was included, or can't be
abbrev pub Includes : Result Inclusion NoMemory → List Macro → Included → Type 0
Includes (Ok inclusion.Done) new want = want ≡ with_macros new
Includes (Ok inclusion.Another) new want = want ≡ another_macro
Includes (Ok inclusion.Unknown) new want = want ≡ no_header
Includes (Err _) new want = Unit {0}

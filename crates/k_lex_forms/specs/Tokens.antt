-- Believed with a public law.
-- The tokens of a line, and what is wrong with them.
use Rattle.std.specs.Prelude.{List, [], ◌∷◌, Option, Some, None, if◌then◌else◌, is_some}
use Rattle.k_lex_pieces.specs.declared.fault.Fault.{Fault}
use Rattle.k_lex_sources.specs.declared.rows.Cut.{Cut}
use Rattle.k_lex_lines.specs.declared.lines.Placed.{Placed}

-- the first fault of two
abbrev pub first_of_two : Option Fault → Option Fault → Option Fault
first_of_two None other = other
first_of_two (Some fault) other = Some fault

-- the first thing that is wrong with some tokens
abbrev pub first_fault : List Cut → Option Fault
first_fault [] = None
first_fault (cut ∷ cuts) = first_of_two cut.fault (first_fault cuts)

-- the token that a piece is
abbrev pub placed : Cut → Placed
placed cut = record { token = record { spelling = cut.spelling; spaced = cut.spaced }; place = cut.place }

-- the tokens before the first that is wrong
abbrev pub right_tokens : List Cut → List Placed
right_tokens [] = []
right_tokens (cut ∷ cuts) = if is_some cut.fault then [] else placed cut ∷ right_tokens cuts

-- Believed with a public law.
-- The lines of a source, by what they are (C17 6.10).
use Rattle.std.specs.Prelude.{ℕ, Bool, true, false, List, [], ◌∷◌, ◌++◌, Option, Some, None, if◌then◌else◌, codes}
use Rattle.k_num.specs.declared.place.Place.{Place}
use Rattle.k_lex_pieces.specs.declared.fault.Fault.{Fault}
use Rattle.k_lex_sources.specs.declared.rows.Cut.{Cut}
use Rattle.k_lex_sources.specs.declared.rows.Row.{Row}
use Rattle.k_lex_sources.specs.Rows.{rows}
use Rattle.k_lex_lines.specs.declared.lines.Placed.{Placed}
use Rattle.k_lex_lines.specs.declared.lines.Line.{Line}
use Rattle.k_lex_lines.specs.declared.lines.Line.TheVariants as l
use Rattle.k_lex_bodies.specs.Forms.{is_spelled}
use Rattle.k_lex_forms.specs.Tokens.{first_fault, right_tokens}
use Rattle.k_lex_forms.specs.Directives.{lexical, behind_hash}

-- a line that is broken by a fault, if there is one
abbrev pub broken_by : Bool → Option Fault → List Line
broken_by always None = []
broken_by always (Some fault) = l.Broken always (lexical fault) ∷ []

-- text, if there are tokens
abbrev pub text_of : List Placed → List Line
text_of [] = []
text_of (t ∷ ts) = l.Text (t ∷ ts) ∷ []

-- a line of text: its tokens up to the first that is wrong where it is read, and the fault that it has wherever it stands
abbrev pub text_lines : List Cut → Option Fault → List Line
text_lines cuts end = text_of (right_tokens cuts) ++ (broken_by false (first_fault cuts) ++ broken_by true end)

-- what a line is: a directive where its first token is `#` (6.10p2)
abbrev pub lines_of_row : List Cut → Option Fault → List Line
lines_of_row [] end = broken_by true end
lines_of_row (cut ∷ cuts) end = if is_spelled (codes "#") cut then behind_hash cut.place end cuts ∷ broken_by true end else text_lines (cut ∷ cuts) end

-- what some lines are
abbrev pub lines_of : List Row → List Line
lines_of [] = []
lines_of (row ∷ rows) = lines_of_row row.cuts row.fault ++ lines_of rows

-- THE LINES of a source, where the `#pragma`s with these `#` stand in groups that aren't read
abbrev pub lines : List Place → List ℕ → List Line
lines unread bytes = lines_of (rows unread bytes)

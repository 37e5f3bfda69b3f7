-- Believed with a public law.
-- The lines of a source, by what they are (C17 6.10).
use Rattle.std.specs.Prelude.{List, [], ◌∷◌, ◌++◌, Option, Some, None}
use Rattle.k_num.specs.declared.place.Place.{Place}
use Rattle.k_lex_pieces.specs.declared.fault.Refusal.TheVariants as r
use Rattle.k_lex_lines.specs.declared.lines.Placed.{Placed}
use Rattle.k_lex_lines.specs.declared.lines.Wrong.{Wrong}
use Rattle.k_lex_lines.specs.declared.lines.Fault.{Fault}
use Rattle.k_lex_lines.specs.declared.lines.Line.{Line}
use Rattle.k_lex_lines.specs.declared.lines.Wrong.TheVariants as wrong
use Rattle.k_lex_lines.specs.declared.lines.Line.TheVariants as l

-- a refusal at that place
abbrev pub fault_at : Wrong → Place → Fault
fault_at what place = record { what = what; place = place }

-- the text of the lines up to the first that is none: it is one list, since a use of a macro goes on over the ends of lines (6.10.3p10)
abbrev pub text_of : List Line → List Placed
text_of (l.Text ts ∷ lines) = ts ++ text_of lines
text_of _ = []

-- the lines from the first on that is no text
abbrev pub behind_text : List Line → List Line
behind_text (l.Text ts ∷ lines) = behind_text lines
behind_text lines = lines

-- the fault of a use that goes on where this text ends: none at the end of the source, BadDirective at a directive (6.10.3p11)
abbrev pub cut_by : List Line → Option Fault
cut_by [] = None
cut_by (l.Text ts ∷ lines) = cut_by lines
cut_by (l.Broken always fault ∷ lines) = Some fault
cut_by (l.Branch hash form it ∷ lines) = Some (fault_at (wrong.Lexical r.BadDirective) hash)
cut_by (l.Directive hash form it ∷ lines) = Some (fault_at (wrong.Lexical r.BadDirective) hash)

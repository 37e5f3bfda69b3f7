-- Believed with a public law.
-- What holds of the lines of a source.
use Rattle.std.specs.Prelude.{◌≡◌, ℕ, Bool, true, false, ◌&&◌, not, List, [], ◌∷◌, ◌++◌, Option, Some, None, codes}
use Rattle.k_num.specs.declared.place.Place.{Place}
use Rattle.k_lex_pieces.specs.declared.fault.Fault.{Fault}
use Rattle.k_lex_pieces.specs.declared.fault.Refusal.{Refusal}
use Rattle.k_lex_pieces.specs.declared.fault.Refusal.TheVariants as r
use Rattle.k_lex_pieces.specs.declared.pieces.Piece.{Piece}
use Rattle.k_lex_pieces.specs.declared.pieces.Piece.TheVariants as p
use Rattle.k_lex_pieces.specs.Bytes.{after}
use Rattle.k_lex.specs.Tokens.{first_place}
use Rattle.k_lex_sources.specs.declared.rows.Cut.{Cut}
use Rattle.k_lex_sources.specs.Rows.{row_of, rows}
use Rattle.k_lex_sources.specs.Splicing.{Byte, joins, source_of}

-- the bytes of a text that begins at this place, each with its own
abbrev pub located : Place → List ℕ → List Byte
located place [] = []
located place (b ∷ bs) = record { what = b; place = place } ∷ located (after place b) bs

-- no backslash stands directly before a newline
abbrev pub joins_nowhere : List ℕ → Bool
joins_nowhere [] = true
joins_nowhere (b ∷ bs) = not (joins (b ∷ bs)) && joins_nowhere bs

-- C17 5.1.1.2p1, phase 2: nothing is left out of a source in which no backslash stands directly before a newline
abbrev pub OnlyJoinsAreLeftOut : Type 0
OnlyJoinsAreLeftOut = (bytes : List ℕ) → joins_nowhere bytes ≡ true → source_of bytes ≡ located first_place bytes

-- ---- examples

-- a string that goes on in the next line, with a backslash that begins no escape
abbrev pub joined_string : List ℕ
joined_string = codes "\"a\\\nb\\q\""

-- it is one token, and its fault is in the second line
abbrev pub JoinedStringIsOne : Type 0
JoinedStringIsOne = rows [] joined_string ≡ row_of (record {
  place = first_place;
  spaced = false;
  what = p.Str;
  spelling = codes "\"ab\\q\"";
  fault = Some (record { what = r.BadEscape; place = record { line = 2; column = 2 } });
} ∷ []) None ∷ []

-- a `#pragma` with a quote before `/*`
abbrev pub quoting_pragma : List ℕ
quoting_pragma = codes "#pragma '/*"

-- a piece of the first line in which nothing is wrong, at this column
abbrev pub piece_at : ℕ → Bool → Piece → List ℕ → Option Fault → Cut
piece_at column spaced what spelling fault = record { place = record { line = 1; column = column }; spaced = spaced; what = what; spelling = spelling; fault = fault }

-- the fault of the first line at this column
abbrev pub fault_at : Refusal → ℕ → Fault
fault_at what column = record { what = what; place = record { line = 1; column = column } }

-- the pieces `#` and `pragma`
abbrev pub pragma_pieces : List Cut
pragma_pieces = piece_at 1 false p.Unknown (codes "#") (Some (fault_at r.BadByte 1)) ∷ piece_at 2 false p.Name (codes "pragma") None ∷ []

-- where it is read a comment begins there that nothing ends, and where it isn't the quote goes on to the end of the line (6.10.1p6)
abbrev pub ReadPragmasHaveNoQuotes : Type 0
ReadPragmasHaveNoQuotes =
    (rows [] quoting_pragma ≡ row_of pragma_pieces (Some (fault_at r.OpenComment 10)) ∷ [])
    × (rows (first_place ∷ []) quoting_pragma ≡ row_of (pragma_pieces ++ piece_at 9 true p.OpenLiteral (codes "'/*") (Some (fault_at r.OpenLiteral 9)) ∷ []) None ∷ [])

-- the trigraph for a backslash at the end of a `//` comment is refused, whether the line is read or not
abbrev pub TrigraphsJoinNoLines : Type 0
TrigraphsJoinNoLines = rows [] (codes "a//??/\n") ≡ row_of (piece_at 1 false p.Name (codes "a") None ∷ []) (Some (fault_at r.BadByte 4)) ∷ []

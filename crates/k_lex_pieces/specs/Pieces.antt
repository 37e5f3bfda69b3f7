-- Believed with the theorem on the top call.
-- The pieces of a text: which spellings are pieces, and the longest one at a point (C17 6.4p4).
use Rattle.std.specs.Prelude.{ℕ, suc, zero, ◌+◌, Bool, true, false, ◌&&◌, ◌||◌, not, List, [], ◌∷◌, Option, Some, None, nat_le, ◌==◌, if◌then◌else◌, length, take, min, codes}
use Rattle.k_lex_pieces.specs.Bytes.{is_digit, is_letter, in_name, is_octal, is_hexadecimal, is_blank, every, span, same, begins}
use Rattle.k_lex_pieces.specs.Marks.{mark_of}
use Rattle.k_tree.specs.declared.tokens.mark.Mark.{Mark}
use Rattle.k_lex_pieces.specs.declared.pieces.Piece.{Piece}
use Rattle.k_lex_pieces.specs.declared.pieces.Piece.TheVariants as p

-- a name, or a keyword (C17 6.4.1, 6.4.2.1)
abbrev pub is_name : List ℕ → Bool
is_name [] = false
is_name (b ∷ bs) = is_letter b && every in_name bs

-- a letter behind which a sign belongs to a number (C17 6.4.8)
abbrev pub takes_sign : ℕ → Bool
takes_sign b = b == 101 || b == 69 || b == 112 || b == 80

-- a number goes on with the byte, where another byte stands before it (C17 6.4.8)
abbrev pub goes_on : ℕ → ℕ → Bool
goes_on before b = in_name b || b == 46 || (takes_sign before && (b == 43 || b == 45))

-- a number goes on with each of the bytes (C17 6.4.8)
abbrev pub number_goes_on : ℕ → List ℕ → Bool
number_goes_on before [] = true
number_goes_on before (b ∷ bs) = goes_on before b && number_goes_on b bs

-- whether a number begins with a byte and what stands behind it
abbrev pub starts_number : ℕ → List ℕ → Bool
starts_number b [] = is_digit b
starts_number b (c ∷ cs) = is_digit b || (b == 46 && is_digit c)

-- a number: a digit, or a point and a digit, and what goes on (C17 6.4.8)
abbrev pub is_number : List ℕ → Bool
is_number [] = false
is_number (b ∷ []) = is_digit b
is_number (b ∷ c ∷ cs) = starts_number b (c ∷ cs) && number_goes_on b (c ∷ cs)

-- What stands behind an opening quote ends with the closing one, which is the first in the line that
-- no backslash stands before (C17 6.4.4.4, 6.4.5).
abbrev pub closes : ℕ → Bool → List ℕ → Bool
closes quote escaped [] = false
closes quote escaped (b ∷ bs) =
    if not escaped && b == quote then same bs []
    else not (b == 10) && closes quote (not escaped && b == 92) bs

-- a string, with its quotes (C17 6.4.5)
abbrev pub is_string : List ℕ → Bool
is_string [] = false
is_string (b ∷ bs) = b == 34 && closes 34 false bs

-- how many bytes behind a backslash belong to the escape, or to what stands in the place of one
abbrev pub escape_length : List ℕ → ℕ
escape_length [] = 0
escape_length (b ∷ bs) = if is_octal b then min 3 (span is_octal (b ∷ bs)) else (if b == 120 then suc (span is_hexadecimal bs) else 1)

-- how many bytes the first character or escape has
abbrev pub item_length : List ℕ → ℕ
item_length [] = 0
item_length (b ∷ bs) = if b == 92 then suc (escape_length bs) else 1

-- a character constant of one character or escape, with its quotes (C17 6.4.4.4)
abbrev pub is_character : List ℕ → Bool
is_character [] = false
is_character (b ∷ bs) = b == 39 && closes 39 false bs && (item_length bs + 1 == length bs)

-- What stands behind `/*` ends with the first `*/` (C17 6.4.9); star says whether a `*` came before.
abbrev pub ends_comment : Bool → List ℕ → Bool
ends_comment star [] = false
ends_comment star (b ∷ bs) = if star && b == 47 then same bs [] else ends_comment (b == 42) bs

-- no end of line
abbrev pub in_line : ℕ → Bool
in_line b = not (b == 10)

-- a comment, in either form (C17 6.4.9)
abbrev pub is_comment : List ℕ → Bool
is_comment [] = false
is_comment (b ∷ []) = false
is_comment (b ∷ c ∷ cs) = b == 47 && ((c == 42 && ends_comment false cs) || (c == 47 && every in_line cs))

-- What stands behind `<` ends with the first `>` of the line (C17 6.4.7).
abbrev pub closes_header : List ℕ → Bool
closes_header [] = false
closes_header (b ∷ bs) = if b == 62 then same bs [] else not (b == 10) && closes_header bs

-- the name of a header, with its brackets (C17 6.4.7)
abbrev pub is_header : List ℕ → Bool
is_header [] = false
is_header (b ∷ bs) = b == 60 && closes_header bs

-- one blank
abbrev pub is_blank_piece : List ℕ → Bool
is_blank_piece [] = false
is_blank_piece (b ∷ bs) = same bs [] && is_blank b

-- the piece that a punctuator is, if there is one
abbrev pub mark_piece : Option Mark → Piece
mark_piece None = p.Unknown
mark_piece (Some m) = p.Mark m

-- what a whole spelling is
abbrev pub class_of : List ℕ → Piece
class_of s =
    if is_name s then p.Name
    else (if is_number s then p.Number
    else (if is_character s then p.Character
    else (if is_string s then p.Str
    else (if is_comment s then p.Comment
    else (if is_blank_piece s then p.Blank
    else (if same s (10 ∷ []) then p.Newline
    else mark_piece (mark_of s)))))))

-- the same in a `#pragma`, where any other byte is as good as a blank
abbrev pub class_in_pragma : List ℕ → Piece
class_in_pragma s =
    if is_comment s then p.Comment
    else (if same s (10 ∷ []) then p.Newline
    else (if length s == 1 then p.Blank
    else p.Unknown))

-- the same behind `#include`, where `<` begins a header's name
abbrev pub class_in_include : List ℕ → Piece
class_in_include s =
    if begins (codes "<") s then (if is_header s then p.Header else p.Unknown)
    else class_of s

-- the spelling is a piece
abbrev pub is_known : Piece → Bool
is_known p.Unknown = false
is_known _ = true

-- the length of the longest front of the text, of at most n bytes, that passes
abbrev pub longest : (List ℕ → Bool) → List ℕ → ℕ → ℕ
longest passes text zero = zero
longest passes text (suc n) = if passes (take (suc n) text) then suc n else longest passes text n

-- The piece at the front of a text, and its length. Where no front is a piece it is that of one byte.
abbrev pub piece_of_length : (List ℕ → Piece) → List ℕ → ℕ → Piece × ℕ
piece_of_length class text n =
    if begins (codes "/*") text && nat_le n 1 then (p.OpenComment, 1)
    else (if n == 0 then ((if begins (codes "'") text || begins (codes "\"") text then p.OpenLiteral else p.Unknown), 1)
    else (class (take n text), n))

-- the longest piece at the front of a text, and its length, where class says what a spelling is (C17 6.4p4)
unfoldable pub piece_by : (List ℕ → Piece) → List ℕ → Piece × ℕ
piece_by class text = piece_of_length class text (longest (λ s. is_known (class s)) text (length text))

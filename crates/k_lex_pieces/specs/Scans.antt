-- For contracts between crates: nobody has to believe it.
-- How far a text goes on in one way: what the scanners count.
use Rattle.std.specs.Prelude.{ℕ, suc, ◌+◌, Bool, ◌&&◌, not, List, [], ◌∷◌, Option, Some, None, ◌==◌, if◌then◌else◌}
use Rattle.k_tree.specs.declared.tokens.mark.Mark.{Mark}
use Rattle.k_lex_pieces.specs.declared.scan.Class.{Class}
use Rattle.k_lex_pieces.specs.declared.scan.Class.TheVariants as c
use Rattle.k_lex_pieces.specs.declared.pieces.Piece.{Piece}
use Rattle.k_lex_pieces.specs.declared.pieces.Piece.TheVariants as p
use Rattle.k_lex_pieces.specs.Bytes.{is_digit, in_name, is_octal, is_hexadecimal}
use Rattle.k_lex_pieces.specs.Marks.{mark_of}
use Rattle.k_lex_pieces.specs.Pieces.{goes_on, in_line}

-- the byte is of the class
abbrev pub is_in : Class → ℕ → Bool
is_in c.Name b = in_name b
is_in c.Digit b = is_digit b
is_in c.Octal b = is_octal b
is_in c.Hexadecimal b = is_hexadecimal b
is_in c.Line b = in_line b

-- how many bytes behind the first go on as a number
abbrev pub number_span : ℕ → List ℕ → ℕ
number_span before [] = 0
number_span before (b ∷ bs) = if goes_on before b then suc (number_span b bs) else 0

-- behind how many bytes the closing quote ends, where count bytes came before
abbrev pub close_at : ℕ → Bool → ℕ → List ℕ → Option ℕ
close_at quote escaped count [] = None
close_at quote escaped count (b ∷ bs) =
    if not escaped && b == quote then Some (count + 1)
    else (if b == 10 then None
    else close_at quote (not escaped && b == 92) (count + 1) bs)

-- behind how many bytes the comment ends, where count bytes came before
abbrev pub comment_at : Bool → ℕ → List ℕ → Option ℕ
comment_at star count [] = None
comment_at star count (b ∷ bs) = if star && b == 47 then Some (count + 1) else comment_at (b == 42) (count + 1) bs

-- behind how many bytes a header's name ends, where count bytes came before
abbrev pub header_at : ℕ → List ℕ → Option ℕ
header_at count [] = None
header_at count (b ∷ bs) =
    if b == 62 then Some (count + 1)
    else (if b == 10 then None
    else header_at (count + 1) bs)

-- the first of the two that is one
abbrev pub or_mark : Option Mark → ℕ → Piece × ℕ → Piece × ℕ
or_mark None n other = other
or_mark (Some m) n other = (p.Mark m, n)

-- the mark of most bytes at the front of a text
abbrev pub mark_at : List ℕ → Piece × ℕ
mark_at [] = (p.Unknown, 1)
mark_at (a ∷ []) = or_mark (mark_of (a ∷ [])) 1 (p.Unknown, 1)
mark_at (a ∷ b ∷ []) = or_mark (mark_of (a ∷ b ∷ [])) 2 (or_mark (mark_of (a ∷ [])) 1 (p.Unknown, 1))
mark_at (a ∷ b ∷ c ∷ cs) =
    or_mark (mark_of (a ∷ b ∷ c ∷ [])) 3 (or_mark (mark_of (a ∷ b ∷ [])) 2 (or_mark (mark_of (a ∷ [])) 1 (p.Unknown, 1)))

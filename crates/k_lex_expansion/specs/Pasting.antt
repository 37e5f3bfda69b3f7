-- Believed with a public law.
-- `##`: one token of two (C17 6.10.3.3).
use Rattle.std.specs.Prelude.{ℕ, Bool, true, false, ◌&&◌, ◌==◌, length, List, [], ◌∷◌, ◌++◌, Option, Some, None, if◌then◌else◌, option_map}
use Rattle.k_lex_pieces.specs.declared.pieces.Piece.{Piece}
use Rattle.k_lex_pieces.specs.declared.pieces.Piece.TheVariants as p
use Rattle.k_lex_pieces.specs.Pieces.{class_of, piece_by}
use Rattle.k_lex_expansion.specs.declared.tokens.Listed.{Listed}
use Rattle.k_lex_expansion.specs.Names.{both}

-- such a piece is a token
abbrev pub is_token_piece : Piece → Bool
is_token_piece p.Name = true
is_token_piece p.Number = true
is_token_piece p.Character = true
is_token_piece p.Str = true
is_token_piece (p.Mark _) = true
is_token_piece _ = false

-- that piece is a token and has so many bytes
abbrev pub is_whole : ℕ → Piece × ℕ → Bool
is_whole size piece = piece.1 == size && is_token_piece piece.0

-- the bytes spell one token: the longest piece at their front has them all
unfoldable pub is_token : List ℕ → Bool
is_token s = is_whole (length s) (piece_by class_of s)

-- the two in one: spaced as the left one, and hidden in it is what is hidden in both
abbrev pub pasted : Listed → Listed → Listed
pasted a b = record { spelling = a.spelling ++ b.spelling; spaced = a.spaced; hidden = both a.hidden b.hidden }

-- the token that the two make, if they make one
abbrev pub pasted_of : Listed → Listed → Option Listed
pasted_of a b = if is_token (a.spelling ++ b.spelling) then Some (pasted a b) else None

-- a token and the first of a list become one; with nothing it stays as it is
abbrev pub pasted_to : Listed → List Listed → Option (List Listed)
pasted_to a [] = Some (a ∷ [])
pasted_to a (b ∷ bs) = option_map (λ t. t ∷ bs) (pasted_of a b)

-- the last token of one list and the first of the next become one
abbrev pub glue : List Listed → List Listed → Option (List Listed)
glue [] bs = Some bs
glue (a ∷ []) bs = pasted_to a bs
glue (a ∷ c ∷ cs) bs = option_map (λ ts. a ∷ ts) (glue (c ∷ cs) bs)

-- with these lists behind it, from left to right
abbrev pub glued : Option (List Listed) → List (List Listed) → Option (List Listed)
glued None lists = None
glued (Some ts) [] = Some ts
glued (Some ts) (us ∷ lists) = glued (glue ts us) lists

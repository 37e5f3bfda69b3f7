-- Believed with a public law.
-- Listed tokens: tokens of a list that is expanded, each with the names that are hidden in it (C17 6.10.3.4p2).
use Rattle.std.specs.Prelude.{ℕ, Bool, false, ◌||◌, List, [], ◌∷◌, ◌++◌}
use Rattle.k_lex_expansion.specs.declared.tokens.Spelled.{Spelled}
use Rattle.k_lex_expansion.specs.declared.tokens.Listed.{Listed}
use Rattle.k_lex_pieces.specs.Bytes.{same}
use Rattle.k_lex_expansion.specs.Names.{either}

-- a token of the source, in which nothing is hidden
abbrev pub unhidden : Spelled → Listed
unhidden t = record { spelling = t.spelling; spaced = t.spaced; hidden = [] }

-- a token of this spelling, in which nothing is hidden
abbrev pub fresh : List ℕ → Listed
fresh spelling = record { spelling = spelling; spaced = false; hidden = [] }

-- the token is spelled so
abbrev pub is_spelled : List ℕ → Listed → Bool
is_spelled spelling t = same t.spelling spelling

-- the same token, with blanks before it or without
abbrev pub with_space : Bool → Listed → Listed
with_space spaced t = record { spelling = t.spelling; spaced = spaced; hidden = t.hidden }

-- the same token, with more names hidden in it
abbrev pub hide : List (List ℕ) → Listed → Listed
hide names t = record { spelling = t.spelling; spaced = t.spaced; hidden = either t.hidden names }

-- what is replaced by nothing hands its blanks to the token behind it
abbrev pub handed : Bool → List Listed → List Listed
handed spaced [] = []
handed spaced (t ∷ ts) = with_space (spaced || t.spaced) t ∷ ts

-- The list in the place of something that blanks stood before or not, and then the rest: its first token is spaced as that was.
abbrev pub in_place : Bool → List Listed → List Listed → List Listed
in_place spaced [] rest = handed spaced rest
in_place spaced (t ∷ ts) rest = with_space spaced t ∷ ts ++ rest

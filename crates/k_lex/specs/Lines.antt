-- Believed with the theorem on the top call.
-- Lines and directives (C17 6.10): what a piece of the text does, by what has been read of its line.
use Rattle.std.specs.Prelude.{ℕ, ◌+◌, Bool, true, false, ◌&&◌, ◌||◌, not, List, [], ◌∷◌, ◌++◌, Option, Some, None, Result, Ok, nat_le, ◌==◌, if◌then◌else◌, length, map, codes, is_some}
use Rattle.k_num.specs.declared.place.Place.{Place}
use Rattle.k_tree.specs.declared.tokens.Token.{Token}
use Rattle.k_tree.specs.declared.tokens.word.Word.{Word}
use Rattle.k_tree.specs.declared.tokens.TokenKind.{TokenKind}
use Rattle.k_tree.specs.declared.tokens.TokenKind.TheVariants as t
use Rattle.k_num.specs.declared.numbers.Kind.{Kind}
use Rattle.k_lex_pieces.specs.declared.fault.Fault.{Fault}
use Rattle.k_lex_pieces.specs.declared.fault.Refusal.TheVariants as r
use Rattle.k_lex_pieces.specs.declared.pieces.Piece.{Piece}
use Rattle.k_lex_pieces.specs.declared.pieces.Piece.TheVariants as p
use Rattle.k_lex.specs.declared.lines.Mode.{Mode}
use Rattle.k_lex.specs.declared.lines.Mode.TheVariants as m
use Rattle.k_lex.specs.declared.lines.Limits.{Limits}
use Rattle.k_lex_macros.specs.declared.macros.Lexeme.{Lexeme}
use Rattle.k_lex_macros.specs.declared.headers.Header.{Header}
use Rattle.k_lex_pieces.specs.Bytes.{same, begins, after}
use Rattle.k_lex_pieces.specs.Words.{word_of}
use Rattle.k_lex_pieces.specs.Numbers.{number_of}
use Rattle.k_lex_pieces.specs.Literals.{content, inside, character_of}
use Rattle.k_lex_macros.specs.Macros.{Macro, lexeme, find, body_at, replaced, defined, is_named, mentions, stands_at, header_of, header_macros, breaks_order, changes, included, sizes, placed}
use Rattle.k_lex_pieces.specs.Outcome.{◌>>=◌, refused}

-- what has been read
pub record State : Type 0 where
  pub limits : Limits
  pub mode : Mode
  pub name : List ℕ
  pub body : List Lexeme
  pub macros : List Macro
  pub tokens : List Token
  pub spelled : ℕ

-- the state in another mode
abbrev pub in_mode : Mode → State → State
in_mode mode s = record s { mode = mode }

-- ---- tokens

-- a word, or a name that is no word (C17 6.4.1, 6.4.2)
abbrev pub name_token : List ℕ → Option Word → TokenKind
name_token s None = t.Name s
name_token s (Some w) = t.Word w

-- a number with its kind, or BadNumber (C17 6.4.4.1)
abbrev pub number_token : Place → Option (Kind × ℕ) → Result TokenKind Fault
number_token place None = refused r.BadNumber place
number_token place (Some n) = Ok (t.Number n.0 n.1)

-- the token that a piece is
abbrev pub token_of : Place → List ℕ → Piece → Result TokenKind Fault
token_of place s p.Name = Ok (name_token s (word_of s))
token_of place s p.Number = number_token place (number_of s)
token_of place s p.Character = character_of (after place 39) (inside s) >>= λ c. Ok (t.Char c)
token_of place s p.Str = content (after place 34) 0 (inside s) >>= λ bytes. Ok (t.Str bytes)
token_of place s (p.Mark mark) = Ok (t.Mark mark)
token_of place s p.OpenComment = refused r.OpenComment place
token_of place s p.OpenLiteral = refused r.OpenLiteral place
token_of place s _ = refused r.BadByte place

-- so many tokens more, spelled with so many bytes, are within the limits
abbrev pub has_room : State → ℕ → ℕ → Bool
has_room s count bytes = nat_le (length s.tokens + count) s.limits.tokens && nat_le (s.spelled + bytes) s.limits.spelling

-- adds the tokens that one token of a line is replaced by
abbrev pub add : Place → List Lexeme → State → Result State Fault
add place xs s =
    if has_room s (length xs) (sizes xs)
    then Ok (record s { mode = m.Middle; tokens = s.tokens ++ map (placed place) xs; spelled = s.spelled + sizes xs })
    else refused r.TokensMany place

-- a character constant or a string
abbrev pub is_literal : Piece → Bool
is_literal p.Character = true
is_literal p.Str = true
is_literal _ = false

-- A token outside of directives. What is wrong inside a literal stands behind its first byte, so it comes last.
abbrev pub token_in_text : Place → List ℕ → Piece → State → Result State Fault
token_in_text place s piece old =
    if is_literal piece && not (has_room old 1 (length s)) then refused r.TokensMany place
    else token_of place s piece >>= λ what. add place (replaced old.macros (lexeme what (length s))) old

-- a piece outside of directives
abbrev pub in_text : Place → List ℕ → Piece → State → Result State Fault
in_text place s p.Blank old = Ok old
in_text place s p.Comment old = Ok old
in_text place s p.Newline old = Ok (in_mode m.Start old)
in_text place s piece old = token_in_text place s piece old

-- ---- directives

-- what the word behind `#` begins, if it is one of the three (C17 6.10.2, 6.10.3, 6.10.6)
abbrev pub directive_mode : Place → List ℕ → Option Mode
directive_mode hash s =
    if same s (codes "define") then Some (m.Define hash)
    else (if same s (codes "include") then Some (m.Include hash)
    else (if same s (codes "pragma") then Some m.Pragma
    else None))

-- the line goes on as that directive, or there is none of this name
abbrev pub directive : Place → Option Mode → State → Result State Fault
directive hash None old = refused r.BadDirective hash
directive hash (Some mode) old = Ok (in_mode mode old)

-- a piece behind the `#`: a directive with nothing behind the `#` does nothing (C17 6.10.7)
abbrev pub in_hash : Place → List ℕ → Piece → State → Result State Fault
in_hash hash s p.Blank old = Ok old
in_hash hash s p.Comment old = Ok old
in_hash hash s p.Newline old = Ok (in_mode m.Start old)
in_hash hash s p.Name old = directive hash (directive_mode hash s) old
in_hash hash s _ old = refused r.BadDirective hash

-- a macro's name is known, or it is new and stands in no earlier body
abbrev pub named : Place → List ℕ → Option ℕ → State → Result State Fault
named place s (Some number) old = Ok (in_mode (m.Again (record { name = place; number = number; at = 0 })) old)
named place s None old =
    if mentions old.macros s then refused r.MacroOrder place
    else Ok (record old { mode = m.Body place; name = s; body = [] })

-- a piece behind `#define`: the name, which is no word and has no parameters (C17 6.10.3)
abbrev pub in_define : Place → Place → List ℕ → List ℕ → Piece → State → Result State Fault
in_define hash place s rest p.Blank old = Ok old
in_define hash place s rest p.Comment old = Ok old
in_define hash place s rest p.Name old =
    if is_some (word_of s) || begins (codes "(") rest then refused r.BadDirective hash
    else named place s (find old.macros s) old
in_define hash place s rest _ old = refused r.BadDirective hash

-- one token more of a new body
abbrev pub body_token : Place → Place → List ℕ → Piece → State → Result State Fault
body_token at place s piece old = token_of place s piece >>= λ what.
    if is_named old.name what then refused r.MacroOrder at
    else Ok (record old { body = old.body ++ lexeme what (length s) ∷ [] })

-- the macro that has been read comes into the table
abbrev pub end_body : State → State
end_body old = record old { mode = m.Start; name = []; body = []; macros = defined old.macros old.name old.body }

-- a piece behind the name of a new macro
abbrev pub in_body : Place → Place → List ℕ → Piece → State → Result State Fault
in_body at place s p.Blank old = Ok old
in_body at place s p.Comment old = Ok old
in_body at place s p.Newline old = Ok (end_body old)
in_body at place s piece old = body_token at place s piece old

-- one token more of a body that has to be the known one
abbrev pub again_token : Place → ℕ → ℕ → Place → List ℕ → Piece → State → Result State Fault
again_token at number count place s piece old = token_of place s piece >>= λ what.
    if stands_at (body_at old.macros number) count what then Ok (in_mode (m.Again (record { name = at; number = number; at = count + 1 })) old)
    else refused r.MacroAgain at

-- a piece behind the name of a known macro (C17 6.10.3p2)
abbrev pub in_again : Place → ℕ → ℕ → Place → List ℕ → Piece → State → Result State Fault
in_again at number count place s p.Blank old = Ok old
in_again at number count place s p.Comment old = Ok old
in_again at number count place s p.Newline old =
    if length (body_at old.macros number) == count then Ok (in_mode m.Start old) else refused r.MacroAgain at
in_again at number count place s piece old = again_token at number count place s piece old

-- a piece behind `#include` (C17 6.10.2)
abbrev pub in_include : Place → Place → List ℕ → Piece → State → Result State Fault
in_include hash place s p.Blank old = Ok old
in_include hash place s p.Comment old = Ok old
in_include hash place s p.Header old = Ok (in_mode (m.Header (record { hash = hash; name = place; header = header_of s })) old)
in_include hash place s _ old =
    if begins (codes "<") s || begins (codes "\"") s then refused r.UnknownHeader place
    else refused r.BadDirective hash

-- the macros of a header come in
abbrev pub include : Place → Option Header → State → Result State Fault
include at None old = refused r.UnknownHeader at
include at (Some header) old =
    if breaks_order old.macros (header_macros header) then refused r.MacroOrder at
    else (if changes old.macros (header_macros header) then refused r.MacroAgain at
    else Ok (record old { macros = included old.macros (header_macros header) }))

-- Behind a header a token is wrong. What begins no token comes after what is wrong with the header.
abbrev pub in_header : Place → Place → Option Header → Place → Piece → State → Result State Fault
in_header hash at header place p.Blank old = Ok old
in_header hash at header place p.Comment old = Ok old
in_header hash at header place p.Newline old = include at header old >>= λ new. Ok (in_mode m.Start new)
in_header hash at header place p.OpenComment old = include at header old >>= λ new. refused r.OpenComment place
in_header hash at header place p.OpenLiteral old = include at header old >>= λ new. refused r.OpenLiteral place
in_header hash at header place p.Unknown old = include at header old >>= λ new. refused r.BadByte place
in_header hash at header place _ old = refused r.BadDirective hash

-- a piece behind `#pragma`, which is skipped (C17 6.10.6)
abbrev pub in_pragma : Place → Piece → State → Result State Fault
in_pragma place p.Newline old = Ok (in_mode m.Start old)
in_pragma place p.OpenComment old = refused r.OpenComment place
in_pragma place _ old = Ok old

-- a piece where the line has had blanks and comments alone: `#` begins a directive (C17 6.10p2)
abbrev pub in_start : Place → List ℕ → Piece → State → Result State Fault
in_start place s piece old = if same s (codes "#") then Ok (in_mode (m.Hash place) old) else in_text place s piece old

-- ---- lines that C would join

-- Where C would join the next line to this one (C17 5.1.1.2p1): BadByte, but a directive without its name is BadDirective,
-- and what is wrong with a header comes first.
abbrev pub joins_lines : Mode → Place → State → Result State Fault
joins_lines (m.Define hash) at old = refused r.BadDirective hash
joins_lines (m.Include hash) at old = refused r.BadDirective hash
joins_lines (m.Header d) at old = include d.name d.header old >>= λ new. refused r.BadByte at
joins_lines _ at old = refused r.BadByte at

-- ---- what a piece at this place does, with what stands behind it

-- what a piece does, by what has been read of its line
abbrev pub step_in : Mode → Place → List ℕ → List ℕ → Piece → State → Result State Fault
step_in m.Start place s rest piece old = in_start place s piece old
step_in m.Middle place s rest piece old = in_text place s piece old
step_in (m.Hash hash) place s rest piece old = in_hash hash s piece old
step_in (m.Define hash) place s rest piece old = in_define hash place s rest piece old
step_in (m.Body at) place s rest piece old = in_body at place s piece old
step_in (m.Again a) place s rest piece old = in_again a.name a.number a.at place s piece old
step_in (m.Include hash) place s rest piece old = in_include hash place s piece old
step_in (m.Header d) place s rest piece old = in_header d.hash d.name d.header place piece old
step_in m.Pragma place s rest piece old = in_pragma place piece old

-- what a piece at this place does, with what stands behind it
abbrev pub step : Place → List ℕ → List ℕ → Piece → State → Result State Fault
step place s rest piece old = step_in old.mode place s rest piece old

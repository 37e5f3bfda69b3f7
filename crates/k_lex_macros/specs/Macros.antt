-- Believed with the theorem on the top call.
-- Macros (C17 6.10.3): names with token lists that are already fully replaced.
use Rattle.std.specs.Prelude.{ℕ, zero, suc, ◌+◌, Bool, true, false, ◌&&◌, ◌||◌, not, List, [], ◌∷◌, ◌++◌, Option, Some, None, if◌then◌else◌, codes, is_none}
use Rattle.std.specs.List.{flat_map}
use Rattle.k_num.specs.declared.place.Place.{Place}
use Rattle.k_tree.specs.declared.tokens.Token.{Token}
use Rattle.k_tree.specs.declared.tokens.TokenKind.{TokenKind}
use Rattle.k_tree.specs.declared.tokens.TokenKind.TheVariants as t
use Rattle.k_tree.specs.declared.tokens.mark.Mark.TheVariants.{LeftParen, RightParen, Minus}
use Rattle.k_tree.specs.declared.tokens.word.Word.TheVariants.{Unsigned, Long}
use Rattle.k_tree.specs.contracts.tokens.TokenKindPartialEq.TheImpl as equality
use Rattle.k_num.specs.declared.numbers.Kind.TheVariants.{I32, U32, I64, U64}
use Rattle.k_lex_macros.specs.declared.macros.Lexeme.{Lexeme}
use Rattle.k_lex_macros.specs.declared.headers.Header.{Header}
use Rattle.k_lex_macros.specs.declared.headers.Header.TheVariants as h
use Rattle.k_lex_pieces.specs.Bytes.{same, look_up}

-- a macro as it is written: its name and its body
abbrev pub Macro : Type 0
Macro = List ℕ × List Lexeme

-- a token of a body, and how many bytes spell it
abbrev pub lexeme : TokenKind → ℕ → Lexeme
lexeme what size = record { what = what; size = size }

-- a token of a body, at the place of its use
abbrev pub placed : Place → Lexeme → Token
placed place x = record { what = x.what; place = place }

-- the number of the macro of this name, where count macros came before
abbrev pub find_from : ℕ → List Macro → List ℕ → Option ℕ
find_from count [] name = None
find_from count (m ∷ ms) name = if same m.0 name then Some count else find_from (count + 1) ms name

-- the number of the macro of this name, counted from 0 in the order of the lines
abbrev pub find : List Macro → List ℕ → Option ℕ
find table name = find_from 0 table name

-- the body of the macro of this number
abbrev pub body_at : List Macro → ℕ → List Lexeme
body_at [] k = []
body_at (m ∷ ms) zero = m.1
body_at (m ∷ ms) (suc k) = body_at ms k

-- the list of this number
abbrev pub full_at : List (List Lexeme) → ℕ → List Lexeme
full_at [] k = []
full_at (xs ∷ lists) zero = xs
full_at (xs ∷ lists) (suc k) = full_at lists k

-- the macro that a token uses
abbrev pub used : List Macro → TokenKind → Option ℕ
used table (t.Name name) = find table name
used table _ = None

-- the token itself, or the list of the macro that it uses
abbrev pub full_or : List (List Lexeme) → Lexeme → Option ℕ → List Lexeme
full_or lists x None = x ∷ []
full_or lists x (Some k) = full_at lists k

-- what a token is replaced by, where lists are the macros' tokens
abbrev pub replaced_by : List Macro → List (List Lexeme) → Lexeme → List Lexeme
replaced_by table lists x = full_or lists x (used table x.what)

-- The token list of each macro, already fully replaced: its body, replaced by the macros before it.
abbrev pub fulls_from : List Macro → List (List Lexeme) → List Macro → List (List Lexeme)
fulls_from seen lists [] = lists
fulls_from seen lists (m ∷ ms) = fulls_from (seen ++ m ∷ []) (lists ++ flat_map (replaced_by seen lists) m.1 ∷ []) ms

-- the token list of each macro, already fully replaced, in the order of the lines
unfoldable pub fulls : List Macro → List (List Lexeme)
fulls table = fulls_from [] [] table

-- what a token is replaced by
abbrev pub replaced : List Macro → Lexeme → List Lexeme
replaced table x = replaced_by table (fulls table) x

-- the table with a macro more
abbrev pub defined : List Macro → List ℕ → List Lexeme → List Macro
defined table name body = table ++ (name, body) ∷ []

-- the token is this name
abbrev pub is_named : List ℕ → TokenKind → Bool
is_named name (t.Name n) = same n name
is_named name _ = false

-- the name stands in the body
abbrev pub stands_in : List ℕ → List Lexeme → Bool
stands_in name [] = false
stands_in name (x ∷ xs) = is_named name x.what || stands_in name xs

-- the name stands in the body of some macro
abbrev pub mentions : List Macro → List ℕ → Bool
mentions [] name = false
mentions (m ∷ ms) name = stands_in name m.1 || mentions ms name

-- the two are one token: of one kind, with one value
abbrev pub same_kind : TokenKind → TokenKind → Bool
same_kind a b = equality.ghosts.eq a b

-- the token stands at this place of the body
abbrev pub stands_at : List Lexeme → ℕ → TokenKind → Bool
stands_at [] k what = false
stands_at (x ∷ xs) zero what = same_kind x.what what
stands_at (x ∷ xs) (suc k) what = stands_at xs k what

-- the two bodies have equal tokens (C17 6.10.3p1), however they are spelled
abbrev pub same_body : List Lexeme → List Lexeme → Bool
same_body [] [] = true
same_body [] (y ∷ ys) = false
same_body (x ∷ xs) [] = false
same_body (x ∷ xs) (y ∷ ys) = same_kind x.what y.what && same_body xs ys

-- the headers, with their brackets (C17 7.10, 7.19, 7.21, 7.22)
abbrev pub headers : List (List ℕ × Header)
headers =
    (codes "<stdio.h>", h.Stdio) ∷
    (codes "<stdlib.h>", h.Stdlib) ∷
    (codes "<stddef.h>", h.Stddef) ∷
    (codes "<limits.h>", h.Limits) ∷
    []

-- the header of this spelling
abbrev pub header_of : List ℕ → Option Header
header_of s = look_up headers s

-- `size_t` is `unsigned long` (C17 7.19)
abbrev pub size_type : Macro
size_type = (codes "size_t", lexeme (t.Word Unsigned) 8 ∷ lexeme (t.Word Long) 4 ∷ [])

-- the token `(`
abbrev pub open_paren : Lexeme
open_paren = lexeme (t.Mark LeftParen) 1

-- the token `)`
abbrev pub close_paren : Lexeme
close_paren = lexeme (t.Mark RightParen) 1

-- the token `-`
abbrev pub minus : Lexeme
minus = lexeme (t.Mark Minus) 1

-- the token `1`
abbrev pub one : Lexeme
one = lexeme (t.Number I32 1) 1

-- the macros of a header
abbrev pub header_macros : Header → List Macro
header_macros h.Stdio = (codes "EOF", open_paren ∷ minus ∷ one ∷ close_paren ∷ []) ∷ size_type ∷ []
header_macros h.Stdlib = size_type ∷ []
header_macros h.Stddef = size_type ∷ []
header_macros h.Limits =
    (codes "INT_MIN", open_paren ∷ minus ∷ lexeme (t.Number I32 2147483647) 10 ∷ minus ∷ one ∷ close_paren ∷ []) ∷
    (codes "INT_MAX", lexeme (t.Number I32 2147483647) 10 ∷ []) ∷
    (codes "UINT_MAX", lexeme (t.Number U32 4294967295) 11 ∷ []) ∷
    (codes "LONG_MIN", open_paren ∷ minus ∷ lexeme (t.Number I64 9223372036854775807) 20 ∷ minus ∷ one ∷ close_paren ∷ []) ∷
    (codes "LONG_MAX", lexeme (t.Number I64 9223372036854775807) 20 ∷ []) ∷
    (codes "ULONG_MAX", lexeme (t.Number U64 18446744073709551615) 22 ∷ []) ∷
    []

-- a new name that stands in an earlier body
abbrev pub breaks_order : List Macro → List Macro → Bool
breaks_order table [] = false
breaks_order table (d ∷ ds) = (is_none (find table d.0) && mentions table d.0) || breaks_order table ds

-- the macro of this number has another body, if there is one
abbrev pub differs : List Macro → List Lexeme → Option ℕ → Bool
differs table body None = false
differs table body (Some k) = not (same_body (body_at table k) body)

-- a known name with another body
abbrev pub changes : List Macro → List Macro → Bool
changes table [] = false
changes table (d ∷ ds) = differs table d.1 (find table d.0) || changes table ds

-- the table with those of the macros that are new
abbrev pub included : List Macro → List Macro → List Macro
included table [] = table
included table (d ∷ ds) = if is_none (find table d.0) then included (defined table d.0 d.1) ds else included table ds

-- the bytes of the spellings
abbrev pub sizes : List Lexeme → ℕ
sizes [] = 0
sizes (x ∷ xs) = x.size + sizes xs

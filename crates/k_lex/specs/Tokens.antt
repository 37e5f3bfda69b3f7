-- Believed with the theorem on the top call.
-- The tokens of a source (C17 5.1.1.2, 6.4).
use Rattle.std.specs.Prelude.{ℕ, zero, suc, ◌-◌, Bool, true, false, ◌&&◌, ◌||◌, not, List, [], ◌∷◌, ◌++◌, Option, Some, None, Result, Ok, Err, nat_lt, if◌then◌else◌, length, take, drop, codes}
use Rattle.k_num.specs.declared.place.Place.{Place}
use Rattle.k_tree.specs.declared.tokens.Token.{Token}
use Rattle.k_tree.specs.declared.tokens.TokenKind.{TokenKind}
use Rattle.k_tree.specs.declared.tokens.TokenKind.TheVariants as t
use Rattle.k_lex_pieces.specs.declared.fault.Fault.{Fault}
use Rattle.k_lex.specs.declared.fault.LexFault.{LexFault}
use Rattle.k_lex.specs.declared.fault.LexFault.TheVariants as l
use Rattle.k_lex_pieces.specs.declared.fault.Refusal.{Refusal}
use Rattle.k_lex_pieces.specs.declared.fault.Refusal.TheVariants as r
use Rattle.k_lex_pieces.specs.declared.pieces.Piece.{Piece}
use Rattle.k_lex_pieces.specs.declared.pieces.Piece.TheVariants.{Newline}
use Rattle.k_lex.specs.declared.lines.Mode.{Mode}
use Rattle.k_lex.specs.declared.lines.Mode.TheVariants as m
use Rattle.k_lex.specs.declared.lines.Limits.{Limits}
use Rattle.k_lex_pieces.specs.Bytes.{after, begins}
use Rattle.k_lex_pieces.specs.Pieces.{class_of, class_in_pragma, class_in_include, piece_by}
use Rattle.k_lex_pieces.specs.Splices.{splice_in}
use Rattle.k_lex.specs.Lines.{State, joins_lines, step}
use Rattle.k_lex_pieces.specs.Outcome.{◌>>=◌, refused}

-- the longest piece at the front of the text (C17 6.4p4)
abbrev pub piece_in : Mode → List ℕ → Piece × ℕ
piece_in m.Pragma text = piece_by class_in_pragma text
piece_in (m.Include _) text = piece_by class_in_include text
piece_in _ text = piece_by class_of text

-- the line is a `#pragma`
abbrev pub is_pragma : Mode → Bool
is_pragma m.Pragma = true
is_pragma _ = false

-- the text begins with a `//` comment, or with what stands in a `#pragma` and in no comment: the end of the line ends it
abbrev pub ends_with_line : Mode → List ℕ → Bool
ends_with_line mode text = begins (codes "//") text || (is_pragma mode && not (begins (codes "/*") text))

-- C17 5.1.1.2p1: where C would join the next line to a `//` comment or a `#pragma`, in a piece of n bytes at the front of the text
abbrev pub splice_of : Mode → Place → List ℕ → ℕ → Option Place
splice_of mode place text n = if ends_with_line mode text then splice_in place n text else None

-- the step of a piece, unless C would join lines there
abbrev pub turn_at : Option Place → Place → State → List ℕ → Piece × ℕ → Result State Fault
turn_at None place old text piece = step place (take piece.1 text) (drop piece.1 text) piece.0 old
turn_at (Some at) place old text piece = joins_lines old.mode at old

-- what that piece does
abbrev pub turn : Place → State → List ℕ → Piece × ℕ → Result State Fault
turn place old text piece = turn_at (splice_of old.mode place text piece.1) place old text piece

-- What has been read at the end of the text, and the end's place. The first skip bytes belong to the piece
-- before. The end of the source ends its last line.
abbrev pub run : ℕ → Place → State → List ℕ → Result (State × Place) Fault
run skip place old [] = step place [] [] Newline old >>= λ new. Ok (new, place)
run (suc skip) place old (b ∷ bs) = run skip (after place b) old bs
run zero place old (b ∷ bs) =
    let piece = piece_in old.mode (b ∷ bs) in
    turn place old (b ∷ bs) piece >>= λ new. run (piece.1 - 1) (after place b) new bs

-- two neighbouring strings are one (C17 6.4.5p5)
abbrev pub join_kinds : Token → List Token → Token → TokenKind → TokenKind → List Token
join_kinds a ts b (t.Str x) (t.Str y) = record { what = t.Str (x ++ y); place = a.place } ∷ ts
join_kinds a ts b _ _ = a ∷ b ∷ ts

-- a token before a list that is already joined
abbrev pub join : Token → List Token → List Token
join a [] = a ∷ []
join a (b ∷ ts) = join_kinds a ts b a.what b.what

-- the tokens with neighbouring strings joined, at the place of the first of them (C17 5.1.1.2, phase 6)
abbrev pub joined : List Token → List Token
joined [] = []
joined (a ∷ ts) = join a (joined ts)

-- the place of the first byte
abbrev pub first_place : Place
first_place = record { line = 1; column = 1 }

-- the state before the first byte
abbrev pub nothing_read : Limits → State
nothing_read limits = record { limits = limits; mode = m.Start; name = []; body = []; macros = []; tokens = []; spelled = 0 }

-- the tokens, the last of which is the end, or the first fault
abbrev pub tokens_within : Limits → List ℕ → Result (List Token) Fault
tokens_within limits bytes =
    if nat_lt limits.source (length bytes) then refused r.SourceLong first_place
    else (run 0 first_place (nothing_read limits) bytes >>= λ end.
    Ok (joined end.0.tokens ++ record { what = t.End; place = end.1 } ∷ []))

-- a fault as the caller sees it
abbrev pub fault_of : Refusal → Place → LexFault
fault_of r.BadByte place = l.BadByte place
fault_of r.OpenComment place = l.OpenComment place
fault_of r.OpenLiteral place = l.OpenLiteral place
fault_of r.BadEscape place = l.BadEscape place
fault_of r.BadNumber place = l.BadNumber place
fault_of r.BadDirective place = l.BadDirective place
fault_of r.UnknownHeader place = l.UnknownHeader place
fault_of r.MacroOrder place = l.MacroOrder place
fault_of r.MacroAgain place = l.MacroAgain place
fault_of r.SourceLong place = l.SourceLong place
fault_of r.TokensMany place = l.TokensMany place

-- the token list, or the fault as the caller sees it
abbrev pub answer : Result (List Token) Fault → Result (List Token) LexFault
answer (Ok list) = Ok list
answer (Err f) = Err (fault_of f.what f.place)

-- the limits of a source
abbrev pub limits : Limits
limits = record { source = 1048576; tokens = 400000; spelling = 4194304 }

-- the token list of a source, or its first fault
abbrev pub tokens : List ℕ → Result (List Token) LexFault
tokens bytes = answer (tokens_within limits bytes)

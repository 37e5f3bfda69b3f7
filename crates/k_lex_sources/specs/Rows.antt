-- Believed with a public law.
-- The lines of a source, cut into pieces (C17 5.1.1.2p1, phase 3).
use Rattle.std.specs.Prelude.{ℕ, zero, suc, ◌-◌, Bool, true, false, ◌&&◌, ◌||◌, not, ◌==◌, List, [], ◌∷◌, ◌++◌, Option, Some, None, Result, Ok, Err, if◌then◌else◌, take, drop, codes, is_some}
use Rattle.k_num.specs.declared.place.Place.{Place}
use Rattle.k_tree.specs.declared.tokens.TokenKind.{TokenKind}
use Rattle.k_lex_pieces.specs.declared.fault.Fault.{Fault}
use Rattle.k_lex_pieces.specs.declared.fault.Refusal.TheVariants as r
use Rattle.k_lex_pieces.specs.declared.pieces.Piece.{Piece}
use Rattle.k_lex_pieces.specs.declared.pieces.Piece.TheVariants as p
use Rattle.k_lex_pieces.specs.Bytes.{same, begins}
use Rattle.k_lex_pieces.specs.Pieces.{class_of, class_in_pragma, piece_by}
use Rattle.k_lex.specs.Lines.{token_of}
use Rattle.k_lex.specs.Tokens.{first_place}
use Rattle.k_lex_sources.specs.declared.rows.Cut.{Cut}
use Rattle.k_lex_sources.specs.declared.rows.Row.{Row}
use Rattle.k_lex_sources.specs.declared.rows.Turn.{Turn}
use Rattle.k_lex_sources.specs.declared.rows.Turn.TheVariants as t
use Rattle.k_lex_sources.specs.Splicing.{source_of, texts, places}

-- ---- pieces

-- the place of the first of some bytes
abbrev pub front : List Place → Place
front [] = first_place
front (place ∷ _) = place

-- how many bytes behind an opening quote belong to it: to the same quote, past a backslash and the byte behind that, or to the end of the line
abbrev pub quoted : ℕ → Bool → List ℕ → ℕ
quoted quote escaped [] = 0
quoted quote escaped (b ∷ bs) =
    if b == 10 then 0
    else (if not escaped && b == quote then 1
    else suc (quoted quote (not escaped && b == 92) bs))

-- how many bytes a quote has with what belongs to it
abbrev pub quote_length : List ℕ → ℕ
quote_length [] = 1
quote_length (b ∷ bs) = suc (quoted b false bs)

-- a piece, or, of a literal that is none, all that belongs to its quote
abbrev pub with_quoted : List ℕ → Piece × ℕ → Piece → Piece × ℕ
with_quoted text piece p.OpenLiteral = (p.OpenLiteral, quote_length text)
with_quoted text piece _ = piece

-- the piece at the front of a text, in a `#pragma` or elsewhere
abbrev pub piece_in : Bool → List ℕ → Piece × ℕ
piece_in pragma text = if pragma then piece_by class_in_pragma text else with_quoted text (piece_by class_of text) (piece_by class_of text).0

-- the place of the `#` of a line that begins with these pieces, if it is a `#pragma`
abbrev pub pragma_of : List Cut → Option Place
pragma_of (hash ∷ word ∷ _) = if same hash.spelling (codes "#") && same word.spelling (codes "pragma") then Some hash.place else None
pragma_of _ = None

-- the two places are one
abbrev pub same_place : Place → Place → Bool
same_place a b = a.line == b.line && a.column == b.column

-- the place is one of these
abbrev pub is_among : List Place → Place → Bool
is_among [] place = false
is_among (p ∷ places) place = same_place p place || is_among places place

-- the line is a `#pragma` that is read: not one of those that stand where nothing is
abbrev pub is_read_pragma : List Place → Option Place → Bool
is_read_pragma unread None = false
is_read_pragma unread (Some hash) = not (is_among unread hash)

-- ---- what is wrong

-- the fault of what is no token
abbrev pub faulty : Result TokenKind Fault → Option Fault
faulty (Ok what) = None
faulty (Err fault) = Some fault

-- a fault at the byte of its column, where the bytes have these places
abbrev pub moved : List Place → Option Fault → Option Fault
moved places None = None
moved places (Some fault) = Some (record { what = fault.what; place = front (drop (fault.place.column - 1) places) })

-- what is wrong with a piece as a token (C17 6.4), at the byte where it is: a token has no end of line, so that its columns count its bytes
abbrev pub wrong : List ℕ → Piece → List Place → Option Fault
wrong spelling piece places = moved places (faulty (token_of first_place spelling piece))

-- the place of the first of the first n bytes that the trigraph for a backslash begins at, before a newline (C17 5.2.1.1)
abbrev pub trigraph_in : ℕ → List ℕ → List Place → Option Place
trigraph_in n [] places = None
trigraph_in n (b ∷ bs) places =
    if n == 0 then None
    else (if begins (codes "??/\n") (b ∷ bs) then Some (front places)
    else trigraph_in (n - 1) bs (drop 1 places))

-- the end of the line ends a piece: a `//` comment, or what stands in a `#pragma` and in no comment
abbrev pub ends_with_line : Bool → List ℕ → Bool
ends_with_line pragma text = begins (codes "//") text || (pragma && not (begins (codes "/*") text))

-- that trigraph in a piece of n bytes that the end of the line ends
abbrev pub trigraph_of : Bool → ℕ → List ℕ → List Place → Option Place
trigraph_of pragma n text places = if ends_with_line pragma text then trigraph_in n text places else None

-- ---- lines

-- what a piece does at this place: blanks and comments stand between tokens, a newline ends the line
abbrev pub turn_of : Place → Piece → Turn
turn_of place p.Blank = t.Skips
turn_of place p.Comment = t.Skips
turn_of place p.Newline = t.Ends
turn_of place p.OpenComment = t.Stops (record { what = r.OpenComment; place = place })
turn_of place piece = t.Takes piece

-- the same, but for a trigraph at a place
abbrev pub turn_at : Option Place → Place → Piece → Turn
turn_at None place piece = turn_of place piece
turn_at (Some at) place piece = t.Stops (record { what = r.BadByte; place = at })

-- a piece that is a token, or stands where one should
abbrev pub cut_of : Bool → List ℕ → List Place → Piece → Cut
cut_of spaced spelling places piece = record { place = front places; spaced = spaced; what = piece; spelling = spelling; fault = wrong spelling piece places }

-- a line, with the fault that it has also where nothing is read
abbrev pub row_of : List Cut → Option Fault → Row
row_of cuts fault = record { cuts = cuts; fault = fault }

-- The lines from here on: behind these pieces of the line, after what a piece does. Next gives them where the line has those pieces, and blanks before the next one or not.
abbrev pub behind : List Cut → (Piece → Cut) → (List Cut → Bool → List Row) → Turn → List Row
behind row cut next t.Skips = next row true
behind row cut next t.Ends = row_of row None ∷ next [] true
behind row cut next (t.Stops fault) = row_of row (Some fault) ∷ []
behind row cut next (t.Takes piece) = next (row ++ cut piece ∷ []) false

-- what is at the front of a text: a piece with its length, what it does, and what it is as a token
pub record Front : Type 0 where
  pub count : ℕ
  pub turn : Turn
  pub cut : Piece → Cut

-- the same behind these pieces of the line, where the text's bytes have these places
abbrev pub front_of : List Place → List Cut → Bool → List ℕ → List Place → Front
front_of unread row spaced text places =
    let pragma = pragma_of row in
    let piece = piece_in (is_read_pragma unread pragma) text in
    record {
      count = piece.1;
      turn = turn_at (trigraph_of (is_some pragma) piece.1 text places) (front places) piece.0;
      cut = cut_of spaced (take piece.1 text) places;
    }

-- The lines of a text whose bytes have these places, behind these pieces of the first line. The first skip bytes belong to the piece before.
abbrev pub rows_from : List Place → ℕ → List Cut → Bool → List ℕ → List Place → List Row
rows_from unread skip row spaced [] places = row_of row None ∷ []
rows_from unread (suc skip) row spaced (b ∷ bs) places = rows_from unread skip row spaced bs (drop 1 places)
rows_from unread zero row spaced (b ∷ bs) places =
    let it = front_of unread row spaced (b ∷ bs) places in
    behind row it.cut (λ cuts blank. rows_from unread (it.count - 1) cuts blank bs (drop 1 places)) it.turn

-- THE LINES of a source, where the `#pragma`s with these `#` stand in groups that aren't read
abbrev pub rows : List Place → List ℕ → List Row
rows unread bytes = rows_from unread 0 [] false (texts (source_of bytes)) (places (source_of bytes))

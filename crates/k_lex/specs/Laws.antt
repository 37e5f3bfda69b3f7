-- Believed with a public law.
-- Laws of the definition of tokens, in words that its modes and tables are not needed for.
use Rattle.std.specs.Prelude.{◌≡◌, ℕ, zero, suc, ◌-◌, ◌<◌, ◌≤◌, Bool, true, false, not, ◌==◌, if◌then◌else◌, ◌⊎◌, List, [], ◌∷◌, ◌++◌, Option, Some, None, Result, Ok, Err, All, map, take, length, codes}
use Rattle.std.specs.List.{list_any}
use Rattle.k_num.specs.declared.place.Place.{Place}
use Rattle.k_tree.specs.declared.tokens.Token.{Token}
use Rattle.k_tree.specs.declared.tokens.TokenKind.{TokenKind}
use Rattle.k_tree.specs.declared.tokens.TokenKind.TheVariants as t
use Rattle.k_tree.specs.Spelling.{Spelled}
use Rattle.k_tree.specs.Closed.{EndsOnce}
use Rattle.k_tree.specs.Literals.{NumbersAreHeld, StringsFit}
use Rattle.k_lex_pieces.specs.declared.fault.Fault.{Fault}
use Rattle.k_lex_pieces.specs.declared.fault.Refusal.TheVariants as r
use Rattle.k_lex.specs.declared.fault.LexFault.{LexFault}
use Rattle.k_lex.specs.declared.fault.LexFault.TheVariants as l
use Rattle.k_lex_macros.specs.declared.headers.Header.{Header}
use Rattle.k_lex_pieces.specs.declared.pieces.Piece.{Piece}
use Rattle.k_lex_pieces.specs.declared.pieces.Piece.TheVariants as p
use Rattle.k_lex_pieces.specs.Bytes.{same, begins, every, after, behind}
use Rattle.k_lex_pieces.specs.Pieces.{class_of, is_name, piece_by}
use Rattle.k_lex_pieces.specs.Splices.{splice_in}
use Rattle.k_lex_pieces.specs.Words.{word_of}
use Rattle.k_lex_macros.specs.Macros.{header_of, header_macros}
use Rattle.k_lex.specs.Lines.{token_of}
use Rattle.k_lex_pieces.specs.Outcome.{◌>>=◌, refused}
use Rattle.k_lex.specs.Tokens.{joined, first_place, nothing_read, answer, limits, tokens}
use Rattle.k_lex.specs.Cuts.{Cut, cuts, joined_pieces}

-- ---- each accepted list

-- the tokens without their places
abbrev pub kinds_of : List Token → Spelled
kinds_of list = map (λ token. token.what) list

-- C17 5.1.1.2: the last token of a source is the end, and no other token is
abbrev pub EachListEndsOnce : Type 0
EachListEndsOnce = (source : List ℕ) (list : List Token) → tokens source ≡ Ok list → EndsOnce list

-- C17 6.4.4.1p5: each integer constant of a source is held by its kind
abbrev pub EachNumberIsHeld : Type 0
EachNumberIsHeld = (source : List ℕ) (list : List Token) → tokens source ≡ Ok list → NumbersAreHeld (kinds_of list)

-- C17 6.4.5: the strings of a source have together at most 4,194,304 bytes
abbrev pub StringsAreWithinLimit : Type 0
StringsAreWithinLimit = (source : List ℕ) (list : List Token) → tokens source ≡ Ok list → StringsFit (kinds_of list)

-- the last line and the last column that a source of 1,048,576 bytes may have
abbrev pub most_place : ℕ
most_place = 1048577

-- a place in a source
pub record IsInside (place : Place) : Type 0 where
  pub line : 1 ≤ place.line
  pub last_line : place.line ≤ most_place
  pub column : 1 ≤ place.column
  pub last_column : place.column ≤ most_place

-- C17 6.4.2.1, 6.4.1: the spelling of a name, which is no keyword
pub record IsNamed (text : List ℕ) : Type 0 where
  pub name : is_name text ≡ true
  pub no_word : word_of text ≡ None

-- a name is spelled as one
abbrev pub IsRightKind : TokenKind → Type 0
IsRightKind (t.Name name) = IsNamed name
IsRightKind _ = Unit {0}

-- a token of a source
pub record IsRightToken (token : Token) : Type 0 where
  pub inside : IsInside token.place
  pub kind : IsRightKind token.what

-- each token of a source stands in it, also one that a macro gives, and each name is one and no keyword
abbrev pub EachTokenIsRight : Type 0
EachTokenIsRight = (source : List ℕ) (list : List Token) → tokens source ≡ Ok list → All IsRightToken list

-- ---- sources without directives

-- The pieces of a text, each the longest where it stands (C17 6.4p4). The first skip bytes belong to the piece before.
abbrev pub pieces_from : ℕ → Place → List ℕ → List Cut
pieces_from skip place [] = []
pieces_from (suc skip) place (b ∷ bs) = pieces_from skip (after place b) bs
pieces_from zero place (b ∷ bs) =
    let piece = piece_by class_of (b ∷ bs) in
    record { place = place; what = piece.0; spelling = take piece.1 (b ∷ bs) } ∷ pieces_from (piece.1 - 1) (after place b) bs

-- C17 5.1.1.2: blanks, comments and the ends of lines are no tokens
abbrev pub is_space : Piece → Bool
is_space p.Blank = true
is_space p.Comment = true
is_space p.Newline = true
is_space _ = false

-- C17 5.1.1.2p1: where C would join the next line to a piece that is a `//` comment, by the pieces behind it
abbrev pub splice_at : Cut → List Cut → Option Place
splice_at cut cuts =
    let text = cut.spelling ++ joined_pieces cuts in
    if begins (codes "//") text then splice_in cut.place (length cut.spelling) text else None

-- what is made of pieces, or BadByte where C would join lines
abbrev pub unjoined : Option Place → Result (List Token) Fault → Result (List Token) Fault
unjoined None made = made
unjoined (Some at) made = refused r.BadByte at

-- the tokens that the pieces are, each at its piece's place, or the first fault
abbrev pub tokens_of : List Cut → Result (List Token) Fault
tokens_of [] = Ok []
tokens_of (cut ∷ cuts) = unjoined (splice_at cut cuts) (
    if is_space cut.what then tokens_of cuts
    else token_of cut.place cut.spelling cut.what >>= λ what. tokens_of cuts >>= λ more. Ok (record { what = what; place = cut.place } ∷ more))

-- C17 5.1.1.2: the list of a source that ends at this place, its neighbouring strings joined
abbrev pub with_end : Place → List Token → List Token
with_end place made = joined made ++ record { what = t.End; place = place } ∷ []

-- no byte is `#`
abbrev pub has_no_hash : List ℕ → Bool
has_no_hash text = every (λ b. not (b == 35)) text

-- refused by a limit of the source or of its tokens
abbrev pub IsLimit : Result (List Token) LexFault → Type 0
IsLimit (Err (l.SourceLong place)) = Unit {0}
IsLimit (Err (l.TokensMany place)) = Unit {0}
IsLimit _ = ⊥

-- C17 5.1.1.2: A source without `#` is its pieces: blanks, comments and ends of lines dropped, each token at its piece's
-- place, neighbouring strings joined, or the first piece that is no token or is joined to the next line. Only one of
-- more than 400,000 bytes may also be refused by a limit.
abbrev pub SourceIsItsPieces : Type 0
SourceIsItsPieces = (source : List ℕ) → has_no_hash source ≡ true →
    (tokens source ≡ answer (tokens_of (pieces_from 0 first_place source) >>= λ made. Ok (with_end (behind first_place source) made)))
    ⊎ (IsLimit (tokens source) × (400000 < length source))

-- ---- directives

-- C17 6.10p2: what a line is, as far as it has been read: blanks and comments alone, text, or a directive
pub data Line : Type 0 where
  Fresh : Line
  Text : Line
  Directive : Line

-- what a line of blanks alone is behind a piece that is not `#`
abbrev pub begun : Piece → Line
begun p.Blank = Fresh
begun p.Comment = Fresh
begun p.Newline = Fresh
begun _ = Text

-- what the line is behind a piece; behind the end of a line it is the next one
abbrev pub line_behind : Line → Piece → List ℕ → Line
line_behind Fresh piece spelling = if same spelling (codes "#") then Directive else begun piece
line_behind line p.Newline spelling = Fresh
line_behind line piece spelling = line

-- the line is text
abbrev pub is_text : Line → Bool
is_text Text = true
is_text _ = false

-- the line is a directive
abbrev pub is_directive : Line → Bool
is_directive Directive = true
is_directive _ = false

-- the pieces that make their line one that passes, or stand in such a line
abbrev pub pieces_of : (Line → Bool) → Line → List Cut → List Cut
pieces_of passes line [] = []
pieces_of passes line (cut ∷ cuts) =
    let now = line_behind line cut.what cut.spelling in
    if passes now then cut ∷ pieces_of passes now cuts else pieces_of passes now cuts

-- the names of a header's macros
abbrev pub header_names : Option Header → List (List ℕ)
header_names None = []
header_names (Some header) = map (λ macro. macro.0) (header_macros header)

-- the names that a piece of a directive may define: itself, or those of the header that it is
abbrev pub names_in : Piece → List ℕ → List (List ℕ)
names_in p.Name spelling = spelling ∷ []
names_in p.Header spelling = header_names (header_of spelling)
names_in _ spelling = []

-- the same for some pieces
abbrev pub names_of : List Cut → List (List ℕ)
names_of [] = []
names_of (cut ∷ cuts) = names_in cut.what cut.spelling ++ names_of cuts

-- C17 6.10.3: the name stands in a directive, or a header that a directive names has it
abbrev pub is_in_directive : List Cut → List ℕ → Bool
is_in_directive cuts name = list_any (λ (n : List ℕ). same n name) (names_of (pieces_of is_directive Fresh cuts))

-- the group is the one token that the piece is, at the piece's place
abbrev pub IsToken : Piece → Place → List ℕ → List Token → Type 0
IsToken piece place spelling group = (what : TokenKind) × ((token_of place spelling piece ≡ Ok what) × (group ≡ record { what = what; place = place } ∷ []))

-- C17 6.10.3p9: What a piece gives, where known tells the names that may be macros. A blank, a comment and the end of a
-- line give nothing; a name that may be a macro gives tokens at its place; all else gives the token that it is.
abbrev pub Gives : (List ℕ → Bool) → Piece → Place → List ℕ → List Token → Type 0
Gives known p.Blank place spelling group = group ≡ []
Gives known p.Comment place spelling group = group ≡ []
Gives known p.Newline place spelling group = group ≡ []
Gives known p.Name place spelling group = All (λ token. token.place ≡ place) group × (known spelling ≡ false → IsToken p.Name place spelling group)
Gives known piece place spelling group = IsToken piece place spelling group

-- the tokens are what the pieces give, one behind another
abbrev pub Come : (List ℕ → Bool) → List Cut → List Token → Type 0
Come known [] made = made ≡ []
Come known (cut ∷ cuts) made =
    (group : List Token) × ((rest : List Token) × ((made ≡ group ++ rest) × Gives known cut.what cut.place cut.spelling group × Come known cuts rest))

-- C17 6.10: The tokens of an accepted source are what its pieces outside of directives give, one behind another: no piece
-- of a directive gives a token, and a name that stands in no directive, nor in a header that one names, is that name.
abbrev pub TokensComeOfText : Type 0
TokensComeOfText = (source : List ℕ) (list : List Token) → tokens source ≡ Ok list →
    let read = cuts 0 first_place (nothing_read limits) source in
    (made : List Token) × ((list ≡ with_end (behind first_place source) made) × Come (is_in_directive read) (pieces_of is_text Fresh read) made)

-- Believed with a public law.
-- Text in which macros are replaced (C17 6.10.3): each use is the list of its name alone, with the text behind it as its source.
use Rattle.std.specs.Prelude.{ℕ, ◌+◌, ◌-◌, Bool, ◌&&◌, ◌==◌, List, [], ◌∷◌, ◌++◌, Option, Some, None, Result, Ok, Err, if◌then◌else◌, nat_le, length, map, drop, is_none}
use Rattle.k_num.specs.declared.place.Place.{Place}
use Rattle.k_tree.specs.declared.tokens.Token.{Token}
use Rattle.k_tree.specs.declared.tokens.TokenKind.{TokenKind}
use Rattle.k_lex_pieces.specs.declared.fault.Refusal.TheVariants as r
use Rattle.k_lex_pieces.specs.declared.fault.Fault as pieces
use Rattle.k_lex_pieces.specs.declared.pieces.Piece.{Piece}
use Rattle.k_lex_pieces.specs.Pieces.{class_of, piece_by}
use Rattle.k_lex_pieces.specs.Outcome.{refused}
use Rattle.k_lex.specs.Lines.{token_of}
use Rattle.k_lex_expansion.specs.declared.tokens.Listed.{Listed}
use Rattle.k_lex_expansion.specs.declared.macros.Macro.{Macro}
use Rattle.k_lex_expansion.specs.declared.failure.Failure.{Failure}
use Rattle.k_lex_expansion.specs.declared.failure.Failure.TheVariants as f
use Rattle.k_lex_expansion.specs.Listing.{unhidden}
use Rattle.k_lex_expansion.specs.Expansion.{Work, Done, Expands}
use Rattle.k_lex_lines.specs.declared.lines.Placed.{Placed}
use Rattle.k_lex_lines.specs.declared.lines.Fault.{Fault}
use Rattle.k_lex_lines.specs.declared.rules.Sizes.{Sizes}
use Rattle.k_lex_lines.specs.declared.rules.Limits.{Limits}
use Rattle.k_lex_lines.specs.declared.rules.Count.{Count}
use Rattle.k_lex_lines.specs.declared.lines.Wrong.TheVariants as wrong
use Rattle.k_lex_lines.specs.Lines.{fault_at}

-- ---- tokens

-- what bytes spell whose longest piece at the front is this, where it has them all
abbrev pub kind_by : Place → List ℕ → Piece × ℕ → Result TokenKind pieces.Fault
kind_by place s piece = if piece.1 == length s then token_of place s piece.0 else refused r.BadByte place

-- what bytes spell that are one piece (6.4)
abbrev pub kind_of : Place → List ℕ → Result TokenKind pieces.Fault
kind_of place s = kind_by place s (piece_by class_of s)

-- the token at this place, or what is wrong in it
abbrev pub token_at : Place → Result TokenKind pieces.Fault → Result Token Fault
token_at place (Ok what) = Ok (record { what = what; place = place })
token_at place (Err e) = Err (fault_at (wrong.Lexical e.what) e.place)

-- a token before others, or the first fault
abbrev pub before_tokens : Result Token Fault → Result (List Token) Fault → Result (List Token) Fault
before_tokens (Err e) others = Err e
before_tokens (Ok t) (Ok ts) = Ok (t ∷ ts)
before_tokens (Ok t) (Err e) = Err e

-- the tokens of a use, each of which has its place
abbrev pub tokens_of : Place → List Listed → Result (List Token) Fault
tokens_of place [] = Ok []
tokens_of place (t ∷ ts) = before_tokens (token_at place (kind_of place t.spelling)) (tokens_of place ts)

-- how many bytes spell the tokens
abbrev pub spelled : List Listed → ℕ
spelled [] = 0
spelled (t ∷ ts) = length t.spelling + spelled ts

-- with these tokens more
abbrev pub sized : List Listed → Sizes → Sizes
sized ts sizes = record { tokens = sizes.tokens + length ts; bytes = sizes.bytes + spelled ts }

-- so many may be there
abbrev pub fits : Limits → Sizes → Bool
fits limits sizes = nat_le sizes.tokens limits.tokens && nat_le sizes.bytes limits.bytes

-- tokens, and how many there are with them, or a fault
abbrev pub Judged : Type 0
Judged = Result (List Token × Sizes) Fault

-- these tokens of a use make so many, if so many may be there
abbrev pub within : Limits → Place → Sizes → Result (List Token) Fault → Judged
within limits place sizes (Ok us) = if fits limits sizes then Ok (us, sizes) else Err (fault_at (wrong.Lexical r.TokensMany) place)
within limits place sizes (Err e) = Err e

-- what is made of the tokens that a use at this place gives
abbrev pub Judge : Type 0
Judge = Place → List Listed → Sizes → Judged

-- in the text of a source: its tokens
abbrev pub in_text : Limits → Judge
in_text limits place ts sizes = within limits place (sized ts sizes) (tokens_of place ts)

-- these tokens of a condition, or BadCondition at the `#`
abbrev pub for_condition : Place → Sizes → Result (List Token) Fault → Judged
for_condition hash sizes (Ok us) = Ok (us, sizes)
for_condition hash sizes (Err e) = Err (fault_at wrong.BadCondition hash)

-- in the condition of the directive with this `#`: its tokens, which no limit counts; with what is no token there is no condition
abbrev pub in_condition : Place → Judge
in_condition hash place ts sizes = for_condition hash sizes (tokens_of place ts)

-- ---- uses

-- what text gives: its tokens, and how much there is behind it, or its first fault
abbrev pub TextRead : Type 0
TextRead = Result (List Token × Count) Fault

-- tokens before those
abbrev pub before : List Token → TextRead → TextRead
before us (Ok (vs, count)) = Ok (us ++ vs, count)
before us (Err e) = Err e

-- the list of a name alone, before this text, with which the source ends or not
abbrev pub use_of : ℕ → Placed → List Placed → Bool → Work
use_of made t ts ends = record { list = unhidden t.token ∷ []; source = record { tokens = map (λ (p : Placed). p.token) ts; ends = ends }; made = made }

-- why a use at this place fails, where what follows the text has that fault
abbrev pub failure_at : Option Fault → Place → Failure → Fault
failure_at cut place f.Arguments = fault_at wrong.MacroArguments place
failure_at cut place f.Paste = fault_at wrong.BadPaste place
failure_at cut place f.TokensMany = fault_at (wrong.Lexical r.TokensMany) place
failure_at (Some fault) place f.Cut = fault
failure_at None place f.Cut = fault_at wrong.MacroArguments place

-- what a use gives: tokens, how much there is, and the text that is left
abbrev pub Used : Type 0
Used = Result (List Token × Count × List Placed) Fault

-- so much is made, and so much is left
abbrev pub leaving : ℕ → List Placed → Judged → Used
leaving made ts (Ok (us, sizes)) = Ok (us, record { made = made; sizes = sizes }, ts)
leaving made ts (Err e) = Err e

-- what the expansion of a token before this text gives
abbrev pub used : Judge → Option Fault → Placed → List Placed → Sizes → Result Done Failure → Used
used judge cut t ts sizes (Ok d) = leaving d.made (drop (length ts - length d.source.tokens) ts) (judge t.place d.tokens sizes)
used judge cut t ts sizes (Err failure) = Err (failure_at cut t.place failure)

mutual
  -- The text gives that, where cut is the fault of a use that goes on at its end. Each token that no use before it took is a use of its own.
  pub data Text (macros : List Macro) (limit : ℕ) (judge : Judge) (cut : Option Fault) : Count → List Placed → TextRead → Type 0 where
    over : (count : Count) → Text macros limit judge cut count [] (Ok ([], count))
    use_first : (count : Count) (t : Placed) (ts : List Placed) (r : Result Done Failure) (read : TextRead) → Expands macros limit (use_of count.made t ts (is_none cut)) r
        → Follows macros limit judge cut (used judge cut t ts count.sizes r) read → Text macros limit judge cut count (t ∷ ts) read

  -- the text goes on behind that use, or it failed
  pub data Follows (macros : List Macro) (limit : ℕ) (judge : Judge) (cut : Option Fault) : Used → TextRead → Type 0 where
    on : (us : List Token) (count : Count) (ts : List Placed) (read : TextRead) → Text macros limit judge cut count ts read
        → Follows macros limit judge cut (Ok (us, count, ts)) (before us read)
    failed : (e : Fault) → Follows macros limit judge cut (Err e) (Err e)

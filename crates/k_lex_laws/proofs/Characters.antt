-- What a character constant stands for is the value of a char: a byte below 128, or an escape's value of at most 255, which is one of a char as a byte.
use Rattle.std.proofs.Common.{◌≡◌, ℕ, ◌<◌, Bool, true, false, if◌then◌else◌, List, [], ◌∷◌, Option, Some, None, Ok, nat_lt, rules, arith, refl}
use Rattle.std.specs.Prelude.{IfOk, IsTrue, ◌==◌, nat_le, pos, ◌-ℤ◌}
use Rattle.std.proofs.lemmas.Bool.Decides.{nat_tests}
use Rattle.std.proofs.lemmas.Int.{ints}
use Rattle.k_num.specs.declared.place.Place.{Place}
use Rattle.k_num.specs.declared.numbers.Kind.TheVariants.{I8}
use Rattle.k_num.specs.Kind.{is_held}
use Rattle.k_tree.specs.declared.tokens.TokenKind.TheVariants as t
use Rattle.k_tree.specs.declared.tokens.word.Word.{Word}
use Rattle.k_num.specs.declared.numbers.Kind.{Kind}
use Rattle.k_lex_pieces.specs.declared.fault.Refusal.TheVariants as r
use Rattle.k_lex_pieces.specs.declared.pieces.Piece.{Piece}
use Rattle.k_lex_pieces.specs.declared.pieces.Piece.TheVariants as p
use Rattle.k_lex_macros.specs.declared.headers.Header.{Header}
use Rattle.k_lex_macros.specs.declared.headers.Header.TheVariants as h
use Rattle.k_lex_macros.specs.declared.macros.Lexeme.{Lexeme}
use Rattle.k_lex_macros.specs.Macros.{Macro, header_macros}
use Rattle.k_lex_pieces.specs.Bytes.{after}
use Rattle.k_lex_pieces.specs.Literals.{as_char, begins_high, byte_or_fault, character_of, content, escape_value, in_byte, inside, item_at}
use Rattle.k_lex_pieces.specs.Numbers.{number_of}
use Rattle.k_lex_pieces.specs.Outcome.{◌>>=◌, refused}
use Rattle.k_lex_pieces.specs.Words.{word_of}
use Rattle.k_lex.specs.Lines
use Rattle.k_lex.proofs.Outcomes.{Each, bind_ok, bind_any}
use Rattle.k_lex_laws.specs.Laws.{CharacterIsAChar, EachCharacterIsAChar}
use Rattle.k_lex_laws.proofs.EachToken.{each_token}

-- a byte
abbrev IsByte : ℕ → Type 0
IsByte v = v < 256

-- as a char it is one
char_held : (v : ℕ) → IsByte v → IsTrue (is_held I8 (as_char v))
char_held v byte = by (nat_lt v 128) refl
  where
    by : (b : Bool) → nat_lt v 128 ≡ b → IsTrue (is_held I8 (if b then pos v else pos v -ℤ pos 256))
    by true low = grind (arith, ints, nat_tests, low)
    by false high = grind (arith, ints, nat_tests, high, byte)

byte_given : (place : Place) (o : Option ℕ) → IfOk (byte_or_fault place (in_byte o)) IsByte
byte_given place None = tt
byte_given place (Some v) = by (nat_le v 255) refl
  where
    by : (b : Bool) → nat_le v 255 ≡ b → IfOk (byte_or_fault place (if b then Some v else None)) IsByte
    by true low = grind (arith, nat_tests, low)
    by false high = tt

item_given : (place : Place) (text : List ℕ) → begins_high text ≡ false → IfOk (item_at place text) IsByte
item_given place [] low = tt
item_given place (b ∷ bs) low = by (b == 92)
  where
    by : (escape : Bool) → IfOk (if escape then byte_or_fault place (in_byte (escape_value bs)) else Ok b) IsByte
    by true = byte_given place (escape_value bs)
    by false = grind (arith, nat_tests, low)

character_held : (place : Place) (text : List ℕ) → IfOk (character_of place text) (λ z. IsTrue (is_held I8 z))
character_held place text = by (begins_high text) refl
  where
    by : (high : Bool) → begins_high text ≡ high → IfOk (if high then refused r.BadByte place else item_at place text >>= λ v. Ok (as_char v)) (λ z. IsTrue (is_held I8 z))
    by true high = tt
    by false low = bind_ok IsByte (λ z. IsTrue (is_held I8 z)) (item_at place text) (λ v. Ok (as_char v)) (item_given place text low) char_held

name_given : (s : List ℕ) (word : Option Word) → CharacterIsAChar (Lines.name_token s word)
name_given s None = tt
name_given s (Some word) = tt

number_given : (place : Place) (number : Option (Kind × ℕ)) → IfOk (Lines.number_token place number) CharacterIsAChar
number_given place None = tt
number_given place (Some number) = tt

piece_given : (place : Place) (s : List ℕ) (piece : Piece) → IfOk (Lines.token_of place s piece) CharacterIsAChar
piece_given place s p.Name = name_given s (word_of s)
piece_given place s p.Number = number_given place (number_of s)
piece_given place s p.Character =
    bind_ok (λ z. IsTrue (is_held I8 z)) CharacterIsAChar (character_of (after place 39) (inside s)) (λ c. Ok (t.Char c)) (character_held (after place 39) (inside s)) (λ c held. held)
piece_given place s p.Str = bind_any CharacterIsAChar (content (after place 34) 0 (inside s)) (λ bytes. Ok (t.Str bytes)) (λ bytes. tt)
piece_given place s (p.Mark mark) = tt
piece_given place s p.Blank = tt
piece_given place s p.Newline = tt
piece_given place s p.Comment = tt
piece_given place s p.Header = tt
piece_given place s p.OpenComment = tt
piece_given place s p.OpenLiteral = tt
piece_given place s p.Unknown = tt

header_given : (header : Header) → Each (λ (macro : Macro). Each (λ (x : Lexeme). CharacterIsAChar x.what) macro.1) (header_macros header)
header_given h.Stdio = search rules
header_given h.Stdlib = search rules
header_given h.Stddef = search rules
header_given h.Limits = search rules

pub characters_are_chars : EachCharacterIsAChar
characters_are_chars = each_token CharacterIsAChar (record { pieces = piece_given; headers = header_given; strings = λ bytes. tt; end = tt })

-- Believed with a public law.
-- What the literals of a source stand for, by the tokens that it has.
use Rattle.std.specs.Prelude.{◌≡◌, ℕ, IsTrue, List, Ok, All}
use Rattle.k_num.specs.declared.numbers.Kind.TheVariants.{I8}
use Rattle.k_num.specs.Kind.{is_held}
use Rattle.k_tree.specs.declared.tokens.Token.{Token}
use Rattle.k_tree.specs.declared.tokens.TokenKind.{TokenKind}
use Rattle.k_tree.specs.declared.tokens.TokenKind.TheVariants as token
use Rattle.k_lex.specs.Laws.{kinds_of}
use Rattle.k_lex.specs.Tokens.{tokens}

-- C17 6.4.4.4p10: where a token is a character constant, it has the value of a char
abbrev pub CharacterIsAChar : TokenKind → Type 0
CharacterIsAChar (token.Char value) = IsTrue (is_held I8 value)
CharacterIsAChar _ = Unit {0}

-- C17 6.4.4.4p10: each character constant of a source has the value of a char, from -128 to 127
abbrev pub EachCharacterIsAChar : Type 0
EachCharacterIsAChar = (source : List ℕ) (list : List Token) → tokens source ≡ Ok list → All CharacterIsAChar (kinds_of list)

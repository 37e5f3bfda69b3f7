-- Believed with a public law.
-- The literals of tokens and of trees, by the tokens that spell them (C17 6.4.4, 6.4.5).
use Rattle.std.specs.Prelude.{ℕ, ◌≤◌, IsTrue, map, sum, length, All, pos}
use Rattle.k_num.specs.Kind.{is_held}
use Rattle.k_tree.specs.declared.tokens.TokenKind.{TokenKind}
use Rattle.k_tree.specs.declared.tokens.TokenKind.TheVariants as token
use Rattle.k_tree.specs.declared.tree.unit.Unit as source
use Rattle.k_tree.specs.Spelling.{Spelled, spelling}

-- C17 6.4.5: how many bytes a token has as a string, 0 where it is none
abbrev pub string_bytes : TokenKind → ℕ
string_bytes (token.Str bytes) = length bytes
string_bytes _ = 0

-- C17 6.4.5: the strings among these tokens have together at most 4,194,304 bytes
abbrev pub StringsFit : Spelled → Type 0
StringsFit tokens = sum (map string_bytes tokens) ≤ 4194304

-- C17 6.4.4.1p5: where a token is an integer constant, its kind holds its value
abbrev pub NumberIsHeld : TokenKind → Type 0
NumberIsHeld (token.Number kind value) = IsTrue (is_held kind (pos value))
NumberIsHeld _ = Unit {0}

-- C17 6.4.4.1p5: each integer constant among these tokens is held by its kind
abbrev pub NumbersAreHeld : Spelled → Type 0
NumbersAreHeld tokens = All NumberIsHeld tokens

-- C17 6.4.5: the strings of a source have together at most 4,194,304 bytes
abbrev pub StringsOfUnitFit : source.Unit → Type 0
StringsOfUnitFit unit = StringsFit (spelling unit)

-- C17 6.4.4.1p5: each integer constant of a source is held by its kind
abbrev pub NumbersOfUnitAreHeld : source.Unit → Type 0
NumbersOfUnitAreHeld unit = NumbersAreHeld (spelling unit)

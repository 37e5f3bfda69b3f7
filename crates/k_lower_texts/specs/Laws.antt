-- Believed with a public law.
-- What holds of the strings, the calls and the constants in the functions of every source.
use Rattle.std.specs.Prelude.{ℕ, ◌≡◌, ◌<◌, ◌≤◌, true, List, [], length, slice_get, Some, All, ℤ, pos}
use Rattle.k_num.specs.declared.numbers.Kind.{Kind}
use Rattle.k_num.specs.declared.numbers.Kind.TheVariants.{I32, U64}
use Rattle.k_num.specs.Kind.{converted}
use Rattle.k_tree.specs.declared.tokens.TokenKind.{TokenKind}
use Rattle.k_tree.specs.declared.tokens.TokenKind.TheVariants as token
use Rattle.k_tree.specs.declared.tree.unit.Unit as source
use Rattle.k_tree.specs.Ranked.{RankedUnit}
use Rattle.k_tree.specs.Spelling.{spelling}
use Rattle.k_types_meaning.specs.declared.tree.unit.TFunc.{TFunc}
use Rattle.k_types_meaning.specs.declared.tree.unit.TUnit.{TUnit}
use Rattle.k_types_meaning.specs.declared.types.TType.{TType}
use Rattle.k_types_meaning.specs.declared.types.TType.TheVariants as ttype
use Rattle.k_types_meaning.specs.Bare.{IsTyped}
use Rattle.k_types_meaning.specs.Formats.{FormatMark, marks_of, pieces_of}
use Rattle.k_types_meaning.specs.Units.{faults}
use Rattle.k_lower_fits.specs.Fits.{has_values}
use Rattle.k_lower_texts.specs.Passing.{Asks, body_passes}

-- the bytes of a string that spells a format pass with its pieces
abbrev pub FormatsFollow : Asks → Type 0
FormatsFollow asks = (bytes : List ℕ) (marks : List FormatMark) → asks.bytes bytes ≡ true → marks_of bytes ≡ Some marks → asks.format (pieces_of marks) ≡ true

-- the token passes, if it is a string, an integer constant or a character constant
abbrev pub TokenPasses : Asks → TokenKind → Type 0
TokenPasses asks (token.Str bytes) = asks.bytes bytes ≡ true
TokenPasses asks (token.Number kind n) = asks.number (ttype.Number kind) (pos n) ≡ true
TokenPasses asks (token.Char z) = asks.number (ttype.Number I32) z ≡ true
TokenPasses asks _ = Unit {0}

-- the strings and the constants of a source pass
abbrev pub LiteralsPass : Asks → source.Unit → Type 0
LiteralsPass asks unit = All (TokenPasses asks) (spelling unit)

-- What typing makes of constants passes: what is converted to a kind, and the sizes of types, which are below 2^27. Strings that pass are within the
-- limit
pub record NumbersFollow (asks : Asks) : Type 0 where
  pub conversions : (kind : Kind) (z : ℤ) → asks.number (ttype.Number kind) (converted kind z) ≡ true
  pub sizes : (n : ℕ) → n < 134217728 → asks.number (ttype.Number U64) (pos n) ≡ true
  pub short : (bytes : List ℕ) → asks.bytes bytes ≡ true → length bytes ≤ 4194304

-- a call passes that has a value exactly where its function has one
abbrev pub CallsPass : Asks → TUnit → Type 0
CallsPass asks typed =
    (of : TType) (n : ℕ) (f : TFunc) → slice_get typed.functions n ≡ Some f → has_values of ≡ has_values f.result → asks.call of n ≡ true

-- in each function of a source that the grammar gives, without faults, strings, formats, calls and constants pass
abbrev pub FunctionsPass : Type 0
FunctionsPass =
    (asks : Asks) (unit : source.Unit) (typed : TUnit) (n : ℕ) (f : TFunc)
    → FormatsFollow asks → NumbersFollow asks → LiteralsPass asks unit → CallsPass asks typed
    → RankedUnit unit → IsTyped unit typed → faults unit ≡ [] → slice_get typed.functions n ≡ Some f → body_passes asks f.body ≡ true

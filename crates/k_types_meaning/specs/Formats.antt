-- Believed with the theorem on the top call.
-- The formats of printf (C17 7.21.6.1), of which the language has these conversions.
use Rattle.std.specs.Prelude.{ℕ, zero, suc, ◌≡◌, ◌==◌, nat_lt, ◌&&◌, if◌then◌else◌, List, [], ◌∷◌, ◌++◌, Option, Some, None, codes, Contains}
use Rattle.k_num.specs.declared.numbers.Kind.{Kind}
use Rattle.k_num.specs.declared.numbers.Kind.TheVariants.{I32, U32, I64, U64}
use Rattle.k_types_meaning.specs.declared.tree.expression.Piece.{Piece}
use Rattle.k_types_meaning.specs.declared.tree.expression.Piece.TheVariants as piece
use Rattle.k_types_meaning.specs.declared.tree.expression.Written.{Written}
use Rattle.k_types_meaning.specs.declared.tree.expression.Written.TheVariants.{Byte, Decimal, Hex}

-- what stands in a format: a byte that is written, or the place of an argument of a kind
pub data FormatMark : Type 0 where
  Literal : ℕ → FormatMark
  Takes : Written → Kind → FormatMark

-- the conversions, as they are spelled
abbrev pub conversions : List (List ℕ × FormatMark)
conversions =
    (codes "%%", Literal 37) ∷
    (codes "%c", Takes Byte I32) ∷
    (codes "%d", Takes Decimal I32) ∷
    (codes "%i", Takes Decimal I32) ∷
    (codes "%u", Takes Decimal U32) ∷
    (codes "%x", Takes Hex U32) ∷
    (codes "%ld", Takes Decimal I64) ∷
    (codes "%li", Takes Decimal I64) ∷
    (codes "%lu", Takes Decimal U64) ∷
    (codes "%lx", Takes Hex U64) ∷
    (codes "%lld", Takes Decimal I64) ∷
    (codes "%lli", Takes Decimal I64) ∷
    (codes "%llu", Takes Decimal U64) ∷
    (codes "%llx", Takes Hex U64) ∷
    []

-- a byte that stands for itself
abbrev pub IsPlain : ℕ → Type 0
IsPlain b = (b ≡ 0 → ⊥) × (b ≡ 37 → ⊥)

-- Text spells marks: each conversion as the list says, and each other byte but `%` and 0 for itself.
pub data Spells : List ℕ → List FormatMark → Type 0 where
  ends : Spells [] []
  byte : (b : ℕ) (text : List ℕ) (marks : List FormatMark) → IsPlain b → Spells text marks → Spells (b ∷ text) (Literal b ∷ marks)
  conversion : (spelled : List ℕ) (mark : FormatMark) (text : List ℕ) (marks : List FormatMark) → Contains conversions (spelled, mark) → Spells text marks → Spells (spelled ++ text) (mark ∷ marks)

-- how a number of 32 or of 64 bits is taken: behind `%` come no, one or two `l`
abbrev pub takes : Written → Kind → Kind → ℕ → Option FormatMark
takes written short long zero = Some (Takes written short)
takes written short long (suc n) = Some (Takes written long)

-- what stands behind `%` alone
abbrev pub only_alone : FormatMark → ℕ → Option FormatMark
only_alone mark zero = Some mark
only_alone mark (suc n) = None

-- the mark that a byte ends behind `%` and so many `l`
abbrev pub mark_ended : ℕ → ℕ → Option FormatMark
mark_ended n b =
    if b == 100 then takes Decimal I32 I64 n
    else if b == 105 then takes Decimal I32 I64 n
    else if b == 117 then takes Decimal U32 U64 n
    else if b == 120 then takes Hex U32 U64 n
    else if b == 99 then only_alone (Takes Byte I32) n
    else if b == 37 then only_alone (Literal 37) n
    else None

-- a mark before others, where there are both
abbrev pub mark_before : Option FormatMark → Option (List FormatMark) → Option (List FormatMark)
mark_before None marks = None
mark_before (Some mark) None = None
mark_before (Some mark) (Some marks) = Some (mark ∷ marks)

-- where a text is read: outside a conversion, or behind `%` and so many `l`
pub data Reading : Type 0 where
  Outside : Reading
  Behind : ℕ → Reading

-- The marks that a text spells, read from its start; none where it spells none: the text of `Spells`, from left to right.
abbrev pub marks_from : Reading → List ℕ → Option (List FormatMark)
marks_from Outside [] = Some []
marks_from Outside (b ∷ text) =
    if b == 37 then marks_from (Behind 0) text
    else if b == 0 then None
    else mark_before (Some (Literal b)) (marks_from Outside text)
marks_from (Behind n) [] = None
marks_from (Behind n) (b ∷ text) =
    if b == 108 && nat_lt n 2 then marks_from (Behind (suc n)) text
    else mark_before (mark_ended n b) (marks_from Outside text)

-- the marks of a format, or none where it is no format
abbrev pub marks_of : List ℕ → Option (List FormatMark)
marks_of text = marks_from Outside text

-- a byte before pieces: neighbouring bytes are one piece
abbrev pub byte_before : ℕ → List Piece → List Piece
byte_before b [] = piece.Bytes (b ∷ []) ∷ []
byte_before b (piece.Bytes bytes ∷ pieces) = piece.Bytes (b ∷ bytes) ∷ pieces
byte_before b (piece.Argument written ∷ pieces) = piece.Bytes (b ∷ []) ∷ piece.Argument written ∷ pieces

-- the pieces of a format
abbrev pub pieces_of : List FormatMark → List Piece
pieces_of [] = []
pieces_of (Literal b ∷ marks) = byte_before b (pieces_of marks)
pieces_of (Takes written kind ∷ marks) = piece.Argument written ∷ pieces_of marks

-- the kinds of the arguments that a format takes
abbrev pub kinds_taken : List FormatMark → List Kind
kinds_taken [] = []
kinds_taken (Literal b ∷ marks) = kinds_taken marks
kinds_taken (Takes written kind ∷ marks) = kind ∷ kinds_taken marks

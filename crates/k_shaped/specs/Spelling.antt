-- Believed with a public law.
-- How a conversion is spelled behind its `%` (C17 7.21.6.1p4): flags in any order and number, a width, a point and a precision, a length, and the letter.
use Rattle.std.specs.Prelude.{ℕ, ◌+◌, ◌-◌, ◌*◌, ◌≡◌, Bool, true, false, ◌||◌, ◌==◌, List, [], ◌∷◌, ◌++◌, codes, Option, Some, None, ⊤}
use Rattle.std.specs.List.{list_all}
use Rattle.std.specs.Char.{is_ascii_digit}
use Rattle.k_shaped.specs.declared.shape.Shape.{Shape}
use Rattle.k_shaped.specs.declared.shape.Length.{Length}
use Rattle.k_shaped.specs.declared.shape.Length.TheVariants.{Plain, Char, Short, Long, LongLong, Size, Greatest, Difference}
use Rattle.k_shaped.specs.Accepted.{is_accepted}

-- `- + space # 0`
unfoldable pub is_flag : ℕ → Bool
is_flag b = b == 45 || b == 43 || b == 32 || b == 35 || b == 48

-- a byte stands among some
abbrev pub has : ℕ → List ℕ → Bool
has f [] = false
has f (b ∷ bs) = b == f || has f bs

-- the number that decimal digits write behind others, which write n
abbrev pub value : ℕ → List ℕ → ℕ
value n [] = n
value n (d ∷ ds) = value (n * 10 + (d - 48)) ds

-- the lengths, as they are spelled
abbrev pub spelling : Length → List ℕ
spelling Plain = []
spelling Char = codes "hh"
spelling Short = codes "h"
spelling Long = codes "l"
spelling LongLong = codes "ll"
spelling Size = codes "z"
spelling Greatest = codes "j"
spelling Difference = codes "t"

-- decimal digits
abbrev pub AreDigits : List ℕ → Type 0
AreDigits ds = list_all is_ascii_digit ds ≡ true

-- the first is not `0`, which would be a flag
abbrev pub BeginsAboveZero : List ℕ → Type 0
BeginsAboveZero [] = ⊤
BeginsAboveZero (d ∷ ds) = (d == 48) ≡ false

-- a point and digits, which may be none, spell a precision
abbrev pub SpellsPrecision : List ℕ → Option ℕ → Type 0
SpellsPrecision bytes None = bytes ≡ []
SpellsPrecision bytes (Some p) = (ds : List ℕ) × (bytes ≡ 46 ∷ ds) × AreDigits ds × (p ≡ value 0 ds)

-- the bytes spell a conversion of this shape and length, which a format may have
pub record Spells (bytes : List ℕ) (s : Shape) (l : Length) : Type 0 where
  pub flags : List ℕ
  pub width : List ℕ
  pub precision : List ℕ
  pub spelled : bytes ≡ flags ++ (width ++ (precision ++ (spelling l ++ s.conversion ∷ [])))
  pub are_flags : list_all is_flag flags ≡ true
  pub minus : s.minus ≡ has 45 flags
  pub plus : s.plus ≡ has 43 flags
  pub space : s.space ≡ has 32 flags
  pub hash : s.hash ≡ has 35 flags
  pub zero : s.zero ≡ has 48 flags
  pub width_digits : AreDigits width
  pub width_begins : BeginsAboveZero width
  pub width_is : s.width ≡ value 0 width
  pub precision_is : SpellsPrecision precision s.precision
  pub accepted : is_accepted s l ≡ true

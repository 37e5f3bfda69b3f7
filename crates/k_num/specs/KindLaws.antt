-- Believed with a public law.
-- What holds of conversion, of promotion and of the common kind of two operands: the statements of the laws.
use Rattle.std.specs.Prelude.{ℕ, ◌*◌, ◌^◌, ◌<◌, ◌≤◌, true, false, IsTrue, ◌≡◌, ℤ, pos, negsuc, ◌+ℤ◌}
use Rattle.k_num.specs.declared.numbers.Kind.{Kind}
use Rattle.k_num.specs.Kind.{width, is_signed, is_held, remainder, converted, promoted, common_kind}

-- two numbers are equal modulo m: they differ by a multiple of m
pub record IsSameModulo (m : ℕ) (a b : ℤ) : Type 0 where
  pub over : ℕ
  pub under : ℕ
  pub same : a +ℤ pos (over * m) ≡ b +ℤ pos (under * m)

-- each value of the first kind is one of the second
abbrev pub Covers : Kind → Kind → Type 0
Covers from to = (v : ℤ) → IsTrue (is_held from v) → IsTrue (is_held to v)

-- a conversion gives a value of the kind
abbrev pub ConvertedIsHeld : Type 0
ConvertedIsHeld = (kind : Kind) (v : ℤ) → IsTrue (is_held kind (converted kind v))

-- it equals the number modulo 2^n
abbrev pub ConvertedIsSame : Type 0
ConvertedIsSame = (kind : Kind) (v : ℤ) → IsSameModulo (2 ^ width kind) (converted kind v) v

-- no other value of the kind does
abbrev pub ConvertedIsUnique : Type 0
ConvertedIsUnique = (kind : Kind) (v r : ℤ) → IsTrue (is_held kind r) → IsSameModulo (2 ^ width kind) r v → converted kind v ≡ r

-- so it leaves what the kind holds (6.3.1.3p1)
abbrev pub ConvertedKeepsHeld : Type 0
ConvertedKeepsHeld = (kind : Kind) (v : ℤ) → IsTrue (is_held kind v) → converted kind v ≡ v

-- and it is alike for numbers that are equal modulo 2^n
abbrev pub ConvertedIsAlike : Type 0
ConvertedIsAlike = (kind : Kind) (a b : ℤ) → IsSameModulo (2 ^ width kind) a b → converted kind a ≡ converted kind b

-- to an unsigned kind it gives the remainder modulo 2^n (6.3.1.3p2)
abbrev pub ConvertedIsRemainder : Type 0
ConvertedIsRemainder = (kind : Kind) (v : ℤ) → is_signed kind ≡ false → converted kind v ≡ pos (remainder kind v)

-- a kind that is no narrower, and signed alike, has all values of the other
abbrev pub WiderCovers : Type 0
WiderCovers = (from to : Kind) → is_signed from ≡ is_signed to → width from ≤ width to → Covers from to

-- a wider kind has all values of an unsigned one, whether it is signed or not
abbrev pub WiderCoversUnsigned : Type 0
WiderCoversUnsigned = (from to : Kind) → is_signed from ≡ false → width from < width to → Covers from to

-- a promotion keeps the value (6.3.1.1p3)
abbrev pub PromotedKeepsValue : Type 0
PromotedKeepsValue = (kind : Kind) (v : ℤ) → IsTrue (is_held kind v) → converted (promoted kind) v ≡ v

-- the common kind is the same whichever operand stands first
abbrev pub CommonIsSymmetric : Type 0
CommonIsSymmetric = (a b : Kind) → common_kind a b ≡ common_kind b a

-- it is the wider of the two promoted kinds
abbrev pub CommonIsWider : Type 0
CommonIsWider = (a b : Kind) → width (promoted a) < width (promoted b) → common_kind a b ≡ promoted b

-- of two that are equally wide it is the unsigned one
abbrev pub CommonIsUnsigned : Type 0
CommonIsUnsigned = (a b : Kind) → width (promoted a) ≡ width (promoted b) → is_signed (promoted b) ≡ false → common_kind a b ≡ promoted b

-- so it is no narrower than an operand's own kind
abbrev pub CommonIsNotNarrower : Type 0
CommonIsNotNarrower = (a b : Kind) → width a ≤ width (common_kind a b)

-- a signed common kind keeps the value of an operand
abbrev pub CommonKeepsValue : Type 0
CommonKeepsValue = (a b : Kind) (v : ℤ) → is_signed (common_kind a b) ≡ true → IsTrue (is_held a v) → converted (common_kind a b) v ≡ v

-- every common kind keeps one that is not negative
abbrev pub CommonKeepsNatural : Type 0
CommonKeepsNatural = (a b : Kind) (v : ℕ) → IsTrue (is_held a (pos v)) → converted (common_kind a b) (pos v) ≡ pos v

-- an unsigned common kind has the remainder modulo 2^n of an operand, which for a negative one is the value and 2^n
abbrev pub CommonLiftsNegative : Type 0
CommonLiftsNegative = (a b : Kind) (v : ℕ) → is_signed (common_kind a b) ≡ false → IsTrue (is_held a (negsuc v))
    → converted (common_kind a b) (negsuc v) ≡ negsuc v +ℤ pos (2 ^ width (common_kind a b))

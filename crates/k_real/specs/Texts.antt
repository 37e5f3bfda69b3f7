-- Believed with a public law.
-- *Real texts* (C17 7.21.6.1p8): the exact value of a real, rounded to the digits asked for, to nearest, ties to even.
use Rattle.std.specs.Prelude.{ℕ, zero, suc, ◌+◌, ◌*◌, ◌/◌, ◌%◌, ◌^◌, max, List, [], ◌∷◌, ◌++◌, ◌==◌, if◌then◌else◌, codes}
use Rattle.std.specs.Float.{Float, nan, inf, fin, is_sign_negative}
use Rattle.std.specs.Float.Ieee.Nearest.{closest}
use Rattle.std.specs.Float.Ieee.Positive.{num, den}

-- the lowest k decimal digits of a number, the highest of them first
unfoldable pub digits : ℕ → ℕ → List ℕ
digits zero v = []
digits (suc k) v = (48 + v / 10 ^ k % 10) ∷ digits k v

-- how many decimal digits a number has, none for 0: at most `most`
unfoldable pub count_within : ℕ → ℕ → ℕ
count_within zero v = 0
count_within (suc most) v = if v == 0 then 0 else suc (count_within most (v / 10))

-- how many decimal digits a number has, none for 0
abbrev pub count : ℕ → ℕ
count v = count_within v v

-- the size of a finite real, num / den, times 10 ^ p, as the nearest whole number, ties to even
abbrev pub scaled : ℕ → Float → ℕ
scaled p x = closest (num x * 10 ^ p) (den x)

-- a point and the p digits behind it, if there are any
abbrev pub fraction : ℕ → ℕ → List ℕ
fraction zero v = []
fraction (suc p) v = 46 ∷ digits (suc p) v

-- the number v / 10 ^ p: at least one digit before the point, and p of them behind it
abbrev pub pointed : ℕ → ℕ → List ℕ
pointed p v = digits (max 1 (count (v / 10 ^ p))) (v / 10 ^ p) ++ fraction p v

-- `f` of a finite real, without its sign
abbrev pub fixed : ℕ → Float → List ℕ
fixed p x = pointed p (scaled p x)

-- `f` of a real: a `-` where it is negative, the NaN never
unfoldable pub unsigned_text : ℕ → Float → List ℕ
unsigned_text p nan = codes "nan"
unsigned_text p (inf s) = codes "inf"
unsigned_text p (fin s m e) = fixed p (fin s m e)

-- `f` of a real with a precision, its `-` before it where the sign is negative
abbrev pub fixed_text : ℕ → Float → List ℕ
fixed_text p x = (if is_sign_negative x then 45 ∷ [] else []) ++ unsigned_text p x

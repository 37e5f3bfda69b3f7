-- Believed with a public law.
-- *Real texts* of so many digits (C17 7.21.6.1p8, `g`): as with `f` where the exponent is from -4 to below their number, else as with `e`, in both without the
-- zeros that end a fraction.
use Rattle.std.specs.Prelude.{ℕ, zero, suc, ◌+◌, ◌-◌, ◌/◌, ◌%◌, ◌^◌, max, List, [], ◌∷◌, ◌++◌, ◌==◌, nat_lt, nat_le, ◌&&◌, Bool, if◌then◌else◌, codes}
use Rattle.std.specs.Float.{Float, nan, inf, fin, is_sign_negative}
use Rattle.k_real.specs.Codes.{real_of}
use Rattle.k_real.specs.Sizes.{places}
use Rattle.k_real.specs.Texts.{digits, count, scaled, fraction}
use Rattle.k_real.specs.Scientific.{all_digits, leading, signed_digits}

-- the point and the p digits behind it, without the zeros at their end; a bare point falls away
abbrev pub stripped : ℕ → ℕ → List ℕ
stripped zero v = []
stripped (suc p) v = if v % 10 == 0 then stripped p (v / 10) else fraction (suc p) v

-- so many first digits, and k such that they have the exponent all_digits - k: a carry drops a zero
abbrev pub carries : ℕ → ℕ → Bool
carries many a = nat_lt many (count (leading many a))

-- the digits that are shown, as a number
abbrev pub shown : ℕ → ℕ → ℕ
shown many a = if carries many a then leading many a / 10 else leading many a

-- the k of above: one more without a carry
abbrev pub point_at : ℕ → ℕ → ℕ
point_at many a = if carries many a then places a else suc (places a)

-- with a point at its place, and with one behind the first digit
abbrev pub plain : ℕ → ℕ → List ℕ
plain p v = digits (max 1 (count (v / 10 ^ p))) (v / 10 ^ p) ++ stripped p v

-- as `e`, its fraction without zeros at the end
abbrev pub with_exponent : ℕ → ℕ → ℕ → ℕ → List ℕ
with_exponent p v c k = (48 + v / 10 ^ p % 10) ∷ (stripped p v ++ 101 ∷ signed_digits c k)

-- many digits, of an exponent c - k
abbrev pub general_by : ℕ → ℕ → ℕ → ℕ → List ℕ
general_by many a c k =
    if nat_lt c (k + many) && nat_le (k - 4) c then plain (k + many - c - 1) (scaled (k + many - c - 1) (real_of a))
    else with_exponent (many - 1) (shown many a) c k

-- `g` of a finite real without its sign
abbrev pub general : ℕ → ℕ → List ℕ
general many a = general_by many a (all_digits a) (point_at many a)

-- `g` of a real with a precision, where 0 counts as 1
unfoldable pub unsigned_general : ℕ → ℕ → Float → List ℕ
unsigned_general many a nan = codes "nan"
unsigned_general many a (inf s) = codes "inf"
unsigned_general many a (fin s m e) = general many a

-- `g` of a real, its `-` before it where the sign is negative
abbrev pub general_text : ℕ → ℕ → List ℕ
general_text p a = (if is_sign_negative (real_of a) then 45 ∷ [] else []) ++ unsigned_general (max 1 p) a (real_of a)

-- Believed with a public law.
-- *Real texts* with an exponent (C17 7.21.6.1p8, `e`): the exact decimal text of a double, rounded to so many digits from the first that is not 0.
use Rattle.std.specs.Prelude.{ℕ, suc, ◌+◌, ◌-◌, ◌*◌, ◌/◌, ◌%◌, ◌^◌, List, [], ◌∷◌, ◌++◌, ◌==◌, nat_lt, if◌then◌else◌, codes}
use Rattle.std.specs.Float.{Float, nan, inf, fin, is_sign_negative}
use Rattle.std.specs.Float.Ieee.Nearest.{closest}
use Rattle.k_real.specs.Codes.{real_of}
use Rattle.k_real.specs.Sizes.{exact, places}
use Rattle.k_real.specs.Texts.{count, fraction}

-- how many digits the exact text has from the first that is not 0, so that this one counts for 10 ^ (c - 1 - places); of a zero the exponent is 0
abbrev pub all_digits : ℕ → ℕ
all_digits a = if exact a == 0 then suc (places a) else count (exact a)

-- so many digits from the first on, rounded to nearest, ties to even: a digit more where a carry makes the first a 10
abbrev pub leading : ℕ → ℕ → ℕ
leading many a = closest (exact a * 10 ^ (many - count (exact a))) (10 ^ (count (exact a) - many))

-- the exponent c - k: `e`, a sign and at least two digits
abbrev pub exponent_digits : ℕ → List ℕ
exponent_digits n = if nat_lt n 100 then (48 + n / 10 % 10) ∷ (48 + n / 1 % 10) ∷ [] else (48 + n / 100 % 10) ∷ (48 + n / 10 % 10) ∷ (48 + n / 1 % 10) ∷ []

-- the sign of c - k, and its digits
abbrev pub signed_digits : ℕ → ℕ → List ℕ
signed_digits c k = if nat_lt c k then 45 ∷ exponent_digits (k - c) else 43 ∷ exponent_digits (c - k)

-- p + 1 digits, the point behind the first, and the exponent
abbrev pub one_digit : ℕ → ℕ → ℕ → ℕ → List ℕ
one_digit p v c k = (48 + v / 10 ^ p % 10) ∷ (fraction p v ++ 101 ∷ signed_digits c k)

-- `e` of a finite real without its sign: a carry drops a zero and makes the exponent one more
abbrev pub scientific : ℕ → ℕ → List ℕ
scientific p a =
    if nat_lt (suc p) (count (leading (suc p) a)) then one_digit p (leading (suc p) a / 10) (all_digits a) (places a)
    else one_digit p (leading (suc p) a) (all_digits a) (suc (places a))

-- `e` of a real
unfoldable pub unsigned_scientific : ℕ → ℕ → Float → List ℕ
unsigned_scientific p a nan = codes "nan"
unsigned_scientific p a (inf s) = codes "inf"
unsigned_scientific p a (fin s m e) = scientific p a

-- `e` of a real with a precision, its `-` before it where the sign is negative
abbrev pub scientific_text : ℕ → ℕ → List ℕ
scientific_text p a = (if is_sign_negative (real_of a) then 45 ∷ [] else []) ++ unsigned_scientific p a (real_of a)

-- For contracts between crates: nobody has to believe it.
-- Numbers as lists of their decimal digits, the lowest first and the highest not 0, so that 0 has none.
use Rattle.std.specs.Prelude.{ℕ, ◌+◌, ◌*◌, ◌/◌, ◌%◌, ◌<◌, ◌≡◌, ◌==◌, nat_lt, if◌then◌else◌, Bool, true, false, List, [], ◌∷◌, ⊤}
use Prim.Native.Nat.{Ordering}

-- the number that these are the digits of
abbrev pub value : List ℕ → ℕ
value [] = 0
value (x ∷ xs) = x + 10 * value xs

-- each is a digit, and what stands from each on is a number above 0
abbrev pub AreDigits : List ℕ → Type 0
AreDigits [] = ⊤
AreDigits (x ∷ xs) = (x < 10) × (0 < x + 10 * value xs) × AreDigits xs

-- these are the digits of n
pub record Spells (xs : List ℕ) (n : ℕ) : Type 0 where
  pub digits : AreDigits xs
  pub value_is : value xs ≡ n

-- the digits of f times the number and c
abbrev pub multiplied : ℕ → ℕ → List ℕ → List ℕ
multiplied f c [] = if c == 0 then [] else c ∷ []
multiplied f c (x ∷ xs) = (x * f + c) % 10 ∷ multiplied f ((x * f + c) / 10) xs

-- whether a number q that was cut off is to be one more, by how twice the rest compares with what it was divided by: at a tie where it is odd
abbrev pub is_up : ℕ → Ordering → Bool
is_up q Ordering.lt = false
is_up q Ordering.eq = q % 2 == 1
is_up q Ordering.gt = true

-- the same by the first digit that was cut off, whether the others are zeros, and the last digit that stays
abbrev pub up_by : ℕ → Bool → ℕ → Bool
up_by first exact last = if first == 5 then (if exact then last % 2 == 1 else true) else nat_lt 5 first

-- Believed with the theorem on the top call.
-- Ratios in lowest terms.
use Rattle.std.specs.Prelude.{ℕ, ◌≡◌, ◌*◌, ◌^◌, ◌<◌, ◌⊎◌}
use Rattle.std.specs.Ordering.{nat_cmp}
use Rattle.std.specs.declared.cmp.Ordering.{Ordering}

-- a number divides another
abbrev pub Divides : ℕ → ℕ → Type 0
Divides d n = (k : ℕ) × (n ≡ k * d)

-- num/den is in lowest terms: no number but 1 divides both
abbrev pub IsLowest : ℕ → ℕ → Type 0
IsLowest num den = (d : ℕ) → Divides d num → Divides d den → d ≡ 1

-- num/den is a/b in lowest terms, and 1/1 where b is 0
abbrev pub IsRatio : ℕ → ℕ → ℕ → ℕ → Type 0
IsRatio a b num den =
    ((b ≡ 0) × (num ≡ 1) × (den ≡ 1))
    ⊎ ((0 < b) × (0 < den) × (num * b ≡ a * den) × IsLowest num den)

-- two numbers have one ratio
abbrev pub OneRatio : Type 0
OneRatio = (a b num den num' den' : ℕ) → IsRatio a b num den → IsRatio a b num' den' → (num ≡ num') × (den ≡ den')

-- a numerator and a denominator, below 2^62, that are a fraction in lowest terms
pub record IsFraction (f : ℕ × ℕ) : Type 0 where
  pub divisible : 0 < f.1
  pub num_fits : f.0 < 2 ^ 62
  pub den_fits : f.1 < 2 ^ 62
  pub lowest : IsLowest f.0 f.1

-- how two fractions compare: as their products with both denominators do
abbrev pub compared : ℕ × ℕ → ℕ × ℕ → Ordering
compared f g = nat_cmp (f.0 * g.1) (g.0 * f.1)

-- two fractions of equal value are equal
abbrev pub OneFraction : Type 0
OneFraction = (f g : ℕ × ℕ) → IsFraction f → IsFraction g → f.0 * g.1 ≡ g.0 * f.1 → f ≡ g

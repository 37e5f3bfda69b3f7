-- Believed with a public law.
-- What holds of statements beside one that keeps the least or the greatest.
use Rattle.std.specs.Prelude.{ℕ, ◌+◌, ◌≡◌, nat_lt, List, [], ◌∷◌, ◌++◌, Option, Some, if◌then◌else◌}
use Rattle.k_types_meaning.specs.declared.tree.expression.TExpr.{TExpr}
use Rattle.k_wide_meaning.specs.declared.occurrences.Occurrence.{Occurrence}
use Rattle.k_wide_meaning.specs.declared.occurrences.Occurrence.TheVariants.{Reduces}
use Rattle.k_wide_meaning.specs.declared.occurrences.Reducing.{Reducing}
use Rattle.k_wide_meaning.specs.Reductions.{kept_if}
use Rattle.k_advise_order.specs.Order.{kept_scalar, led_by}

-- the least of s and of values that come one behind the other
abbrev pub least : ℕ → List ℕ → ℕ
least s [] = s
least s (e ∷ es) = if nat_lt e s then least e es else least s es

-- how often `if (e < s) { s = e; n++; }` makes n one more
abbrev pub replaced : ℕ → List ℕ → ℕ
replaced s [] = 0
replaced s (e ∷ es) = if nat_lt e s then 1 + replaced e es else replaced s es

-- THE ORDER TELLS: two values in either order have one least, and replace it once or twice
pub record OrderTells : Type 0 where
  pub same : least 9 (3 ∷ 1 ∷ []) ≡ least 9 (1 ∷ 3 ∷ [])
  pub twice : replaced 9 (3 ∷ 1 ∷ []) ≡ 2
  pub once : replaced 9 (1 ∷ 3 ∷ []) ≡ 1

-- a statement alone leads nothing
abbrev pub AloneIsFree : Type 0
AloneIsFree = (test : TExpr) (action : Option TExpr) → led_by test (action ∷ []) ≡ []

-- one that keeps the least or the greatest of a scalar, with another beside it, leads this scalar
abbrev pub CompanyIsLed : Type 0
CompanyIsLed = (test : TExpr) (action beside : Option TExpr) (r : Reducing) (os : List Occurrence) → kept_if test action ≡ Some (Reduces r ∷ os)
    → led_by test (action ∷ beside ∷ []) ≡ r.scalar ∷ (kept_scalar (kept_if test beside) ++ [])

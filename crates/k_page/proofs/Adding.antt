-- A number that is added at a place of a list.
use Rattle.std.proofs.Common.{ℕ, zero, suc, ◌+◌, ◌<◌, ◌≤◌, ◌≡◌, List, [], ◌∷◌, length, get_or, set, ap, arith, refl}
use Rattle.k_page.specs.Tiles.{added}

pub added_within : (place number : ℕ) (xs : List ℕ) → place < length xs → added place number xs ≡ set xs place (get_or xs place 0 + number)
added_within place number [] within = absurd (omega arith)
added_within zero number (x ∷ xs) within = refl
added_within (suc place) number (x ∷ xs) within = ap (λ rest. x ∷ rest) (added_within place number xs (omega arith))

pub added_past : (place number : ℕ) (xs : List ℕ) → length xs ≤ place → added place number xs ≡ xs
added_past place number [] past = refl
added_past zero number (x ∷ xs) past = absurd (omega arith)
added_past (suc place) number (x ∷ xs) past = ap (λ rest. x ∷ rest) (added_past place number xs (omega arith))

-- Lists that are empty, and that are not.
use Rattle.std.proofs.Common.{ℕ, ◌≡◌, ◌≢◌, ◌+◌, ◌<◌, List, [], ◌∷◌, ◌++◌, length, refl, ap, arith}
use Rattle.std.proofs.lemmas.List.{length-append}

-- a list without an item is empty
pub none_long : (xs : List ℕ) → length xs ≡ 0 → xs ≡ []
none_long [] none = refl
none_long (x ∷ xs) none = absurd (omega (arith, none))

-- what has an item is not empty
pub long_some : (xs : List ℕ) → 0 < length xs → xs ≢ []
long_some xs long none =
    let empty : length xs ≡ 0 = ap (λ (l : List ℕ). length l) none in
    omega (arith, empty, long)

-- both parts of an empty list are empty
pub first_none : (xs ys : List ℕ) → xs ++ ys ≡ [] → xs ≡ []
first_none xs ys none =
    let both : length (xs ++ ys) ≡ length xs + length ys = length-append xs ys in
    let empty : length (xs ++ ys) ≡ 0 = ap (λ (l : List ℕ). length l) none in
    none_long xs (omega (arith, both, empty))

pub second_none : (xs ys : List ℕ) → xs ++ ys ≡ [] → ys ≡ []
second_none xs ys none =
    let both : length (xs ++ ys) ≡ length xs + length ys = length-append xs ys in
    let empty : length (xs ++ ys) ≡ 0 = ap (λ (l : List ℕ). length l) none in
    none_long ys (omega (arith, both, empty))

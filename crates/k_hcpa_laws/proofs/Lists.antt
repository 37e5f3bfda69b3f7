-- What is found in lists that were cut, joined and mapped.
use Rattle.std.proofs.Common.{ℕ, zero, suc, ◌≡◌, ◌+◌, ◌<◌, ◌⊎◌, List, [], ◌∷◌, ◌++◌, length, take, slice_get, Option, Some, None, arith, refl, ap, inl, inr}
use Rattle.std.specs.Option.{option_map}

-- what is found in the front of a list is found in the list
pub get_taken : {X : Type 0} (n : ℕ) (xs : List X) (k : ℕ) (x : X) → slice_get (take n xs) k ≡ Some x → slice_get xs k ≡ Some x
get_taken zero xs k x is = absurd (cc is)
get_taken (suc n) [] k x is = is
get_taken (suc n) (y ∷ xs) zero x is = is
get_taken (suc n) (y ∷ xs) (suc k) x is = get_taken n xs k x is

-- what is found in a list with one item more is found in the list, or is that item
pub get_pushed : {X : Type 0} (xs : List X) (y : X) (k : ℕ) (x : X) → slice_get (xs ++ y ∷ []) k ≡ Some x
    → (slice_get xs k ≡ Some x) ⊎ ((k ≡ length xs) × (y ≡ x))
get_pushed [] y zero x is = inr (refl, cc is)
get_pushed [] y (suc k) x is = absurd (cc is)
get_pushed (z ∷ xs) y zero x is = inl is
get_pushed (z ∷ xs) y (suc k) x is = elim (get_pushed xs y k x is) [
  | inl before ↦ inl before
  | inr last ↦ (let next : suc k ≡ suc (length xs) = ap (λ (n : ℕ). suc n) last.0 in inr (next, last.1))
]

-- what is found in a list that was mapped was found before
pub get_mapped : {X Y : Type 0} (f : X → Y) (found : Option X) (y : Y) → option_map f found ≡ Some y → (x : X) × (found ≡ Some x) × (f x ≡ y)
get_mapped f None y is = absurd (cc is)
get_mapped f (Some x) y is = (x, refl, cc is)

-- a list with items has a last one
pub last_split : {X : Type 0} (xs : List X) → 0 < length xs → (front : List X) × ((last : X) × (xs ≡ front ++ last ∷ []))
last_split [] some = absurd (omega arith)
last_split (x ∷ []) some = ([], (x, refl))
last_split {X = X} (x ∷ y ∷ xs) some =
    let rest = last_split (y ∷ xs) (omega arith) in
    (x ∷ rest.0, (rest.1.0, ap (λ (all : List X). x ∷ all) rest.1.1))

-- what is found in a list is found with more behind it
pub get_before : {X : Type 0} (xs ys : List X) (k : ℕ) (x : X) → slice_get xs k ≡ Some x → slice_get (xs ++ ys) k ≡ Some x
get_before [] ys k x is = absurd (cc is)
get_before (y ∷ xs) ys zero x is = is
get_before (y ∷ xs) ys (suc k) x is = get_before xs ys k x is

-- what stands behind the front of a list
pub get_behind : {X : Type 0} (xs ys : List X) (k j : ℕ) → k ≡ length xs + j → slice_get (xs ++ ys) k ≡ slice_get ys j
get_behind [] ys k j is = (let same : k ≡ j = omega arith in ap (λ (n : ℕ). slice_get ys n) same)
get_behind (x ∷ xs) ys zero j is = absurd (omega arith)
get_behind (x ∷ xs) ys (suc k) j is = get_behind xs ys k j (omega arith)

-- Where items stand in a list.
use Rattle.std.proofs.Common.{◌≡◌, ℕ, zero, suc, ◌<◌, ◌⊎◌, inl, inr, List, [], ◌∷◌, ◌++◌, length, take, Some, slice_get, Contains, refl, sym, ap}
use Rattle.std.proofs.lemmas.Option.{none-some, same_Some, slice_get_within, get_or_from_slice_get}

-- an item of a list with one more at its end is one of the list, or that one
pub place_of_push : {X : Type 0} (xs : List X) (y : X) (n : ℕ) (x : X) → slice_get (xs ++ y ∷ []) n ≡ Some x
    → (slice_get xs n ≡ Some x) ⊎ ((n ≡ length xs) × (x ≡ y))
place_of_push [] y zero x h = inr (refl, sym (same_Some y x h))
place_of_push [] y (suc n) x h = absurd (none-some x h)
place_of_push (a ∷ xs) y zero x h = inl h
place_of_push (a ∷ xs) y (suc n) x h = elim (place_of_push xs y n x h) [ inl k ↦ inl k | inr k ↦ inr (ap suc k.0, k.1) ]

-- an item stays in its place where others follow
pub place_kept : {X : Type 0} (xs ys : List X) (n : ℕ) (x : X) → slice_get xs n ≡ Some x → slice_get (xs ++ ys) n ≡ Some x
place_kept [] ys n x h = absurd (none-some x h)
place_kept (a ∷ xs) ys zero x h = h
place_kept (a ∷ xs) ys (suc n) x h = place_kept xs ys n x h

-- the item behind a list stands at its length
pub place_behind : {X : Type 0} (xs : List X) (y : X) (ys : List X) → slice_get (xs ++ y ∷ ys) (length xs) ≡ Some y
place_behind [] y ys = refl
place_behind (a ∷ xs) y ys = place_behind xs y ys

-- an item of the first items stands in the list
pub place_in_take : {X : Type 0} (m : ℕ) (xs : List X) (n : ℕ) (x : X) → slice_get (take m xs) n ≡ Some x → slice_get xs n ≡ Some x
place_in_take zero xs n x h = absurd (none-some x h)
place_in_take (suc m) [] n x h = absurd (none-some x h)
place_in_take (suc m) (a ∷ xs) zero x h = h
place_in_take (suc m) (a ∷ xs) (suc n) x h = place_in_take m xs n x h

-- an item that stands somewhere is in the list
pub is_there : {X : Type 0} (xs : List X) (n : ℕ) (x : X) → slice_get xs n ≡ Some x → Contains xs x
is_there xs n x h = (n, slice_get_within xs n x h, get_or_from_slice_get xs n x x h)

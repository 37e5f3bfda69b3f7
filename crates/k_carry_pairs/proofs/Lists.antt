-- What is among the items of lists, and what is found in lists with more behind them.
use Rattle.std.proofs.Common.{ℕ, zero, suc, ◌≡◌, ◌<◌, ◌≤◌, ◌⊎◌, Bool, true, List, [], ◌∷◌, ◌++◌, length, take, reverse, slice_get, Some, None, arith, refl, sym, subst, ap, inl, inr}
use Rattle.std.proofs.lemmas.List.{reverse-append}
use Rattle.k_carry_pairs.specs.Carried.{AllPass, IsAmong}

pub among_left : {X : Type 0} (x : X) (xs ys : List X) → IsAmong x xs → IsAmong x (xs ++ ys)
among_left x [] ys is = absurd is
among_left x (z ∷ xs) ys (inl here) = inl here
among_left x (z ∷ xs) ys (inr later) = inr (among_left x xs ys later)

pub among_right : {X : Type 0} (x : X) (xs ys : List X) → IsAmong x ys → IsAmong x (xs ++ ys)
among_right x [] ys is = is
among_right x (z ∷ xs) ys is = inr (among_right x xs ys is)

pub among_either : {X : Type 0} (x : X) (xs ys : List X) → IsAmong x (xs ++ ys) → IsAmong x xs ⊎ IsAmong x ys
among_either x [] ys is = inr is
among_either x (z ∷ xs) ys (inl here) = inl (inl here)
among_either x (z ∷ xs) ys (inr later) = elim (among_either x xs ys later) [
  | inl before ↦ inl (inr before)
  | inr behind ↦ inr behind
]

-- a list and one more, turned round
pub reverse_push : {X : Type 0} (xs : List X) (y : X) → reverse (xs ++ y ∷ []) ≡ y ∷ reverse xs
reverse_push xs y = reverse-append xs (y ∷ [])

pub reverse_cons : {X : Type 0} (x : X) (xs : List X) → reverse (x ∷ xs) ≡ reverse xs ++ x ∷ []
reverse_cons x xs = reverse-append (x ∷ []) xs

-- a list that is turned round has the same items
pub among_reverse : {X : Type 0} (x : X) (xs : List X) → IsAmong x xs → IsAmong x (reverse xs)
among_reverse x [] is = absurd is
among_reverse {X = X} x (z ∷ xs) (inl here) =
    subst (λ (all : List X). IsAmong x all) (sym (reverse_cons z xs)) (among_right x (reverse xs) (z ∷ []) (inl here))
among_reverse {X = X} x (z ∷ xs) (inr later) =
    subst (λ (all : List X). IsAmong x all) (sym (reverse_cons z xs)) (among_left x (reverse xs) (z ∷ []) (among_reverse x xs later))

pub among_reversed : {X : Type 0} (x : X) (xs : List X) → IsAmong x (reverse xs) → IsAmong x xs
among_reversed x [] is = is
among_reversed {X = X} x (z ∷ xs) is = elim (among_either x (reverse xs) (z ∷ []) (subst (λ (all : List X). IsAmong x all) (reverse_cons z xs) is)) [
  | inl before ↦ inr (among_reversed x xs before)
  | inr (inl here) ↦ inl here
  | inr (inr none) ↦ absurd none
]

-- a test that holds of each holds of what is among them
pub passes : {X : Type 0} (test : X → Bool) (xs : List X) (x : X) → AllPass test xs → IsAmong x xs → test x ≡ true
passes test [] x all is = absurd is
passes {X = X} test (y ∷ ys) x all (inl here) = subst (λ (z : X). test z ≡ true) here all.0
passes test (y ∷ ys) x all (inr later) = passes test ys x all.1 later

-- what is found at a place is among the items
pub among_at : {X : Type 0} (xs : List X) (n : ℕ) (x : X) → slice_get xs n ≡ Some x → IsAmong x xs
among_at [] n x is = absurd (cc is)
among_at (y ∷ ys) zero x is = inl (cc is)
among_at (y ∷ ys) (suc n) x is = inr (among_at ys n x is)

-- the front of a list is that of the list with more behind it
pub take_front : {X : Type 0} (n : ℕ) (xs ys : List X) → n ≤ length xs → take n (xs ++ ys) ≡ take n xs
take_front zero xs ys low = refl
take_front (suc n) [] ys low = absurd (omega arith)
take_front {X = X} (suc n) (x ∷ xs) ys low = ap (λ (all : List X). x ∷ all) (take_front n xs ys (omega arith))

pub take_whole : {X : Type 0} (n : ℕ) (xs : List X) → length xs ≤ n → take n xs ≡ xs
take_whole zero [] high = refl
take_whole (suc n) [] high = refl
take_whole zero (x ∷ xs) high = absurd (omega arith)
take_whole {X = X} (suc n) (x ∷ xs) high = ap (λ (all : List X). x ∷ all) (take_whole n xs (omega arith))

pub get_front : {X : Type 0} (n : ℕ) (xs ys : List X) → n < length xs → slice_get (xs ++ ys) n ≡ slice_get xs n
get_front n [] ys low = absurd (omega arith)
get_front zero (x ∷ xs) ys low = refl
get_front (suc n) (x ∷ xs) ys low = get_front n xs ys (omega arith)

pub get_last : {X : Type 0} (xs : List X) (y : X) → slice_get (xs ++ y ∷ []) (length xs) ≡ Some y
get_last [] y = refl
get_last (x ∷ xs) y = get_last xs y

-- what is found in a list and one more is found in the list, or is the one
pub get_pushed : {X : Type 0} (xs : List X) (y : X) (n : ℕ) (x : X) → slice_get (xs ++ y ∷ []) n ≡ Some x
    → ((n < length xs) × (slice_get xs n ≡ Some x)) ⊎ ((n ≡ length xs) × (y ≡ x))
get_pushed [] y zero x is = inr (refl, cc is)
get_pushed [] y (suc n) x is = absurd (cc is)
get_pushed (z ∷ xs) y zero x is = inl (omega arith, is)
get_pushed (z ∷ xs) y (suc n) x is = elim (get_pushed xs y n x is) [
  | inl before ↦ (let low : n < length xs = before.0 in inl (omega arith, before.1))
  | inr last ↦ (let same : n ≡ length xs = last.0 in inr (omega arith, last.1))
]

-- the front of a list with the next item
pub take_next : {X : Type 0} (n : ℕ) (xs : List X) (x : X) → slice_get xs n ≡ Some x → take (suc n) xs ≡ take n xs ++ x ∷ []
take_next n [] x is = absurd (cc is)
take_next {X = X} zero (y ∷ xs) x is = ap (λ (z : X). z ∷ []) (cc is)
take_next {X = X} (suc n) (y ∷ xs) x is = ap (λ (all : List X). y ∷ all) (take_next n xs x is)

-- a list is empty, or has a last item
pub last_or_none : {X : Type 0} (xs : List X) → (xs ≡ []) ⊎ ((front : List X) × ((last : X) × (xs ≡ front ++ last ∷ [])))
last_or_none [] = inl refl
last_or_none {X = X} (x ∷ xs) = elim (last_or_none xs) [
  | inl none ↦ inr ([], (x, ap (λ (all : List X). x ∷ all) none))
  | inr some ↦ inr (x ∷ some.0, (some.1.0, ap (λ (all : List X). x ∷ all) some.1.1))
]

-- what is not found lies past the end
pub get_none : {X : Type 0} (xs : List X) (n : ℕ) → slice_get xs n ≡ None → length xs ≤ n
get_none [] n none = omega arith
get_none (x ∷ xs) zero none = absurd (cc none)
get_none (x ∷ xs) (suc n) none = (let rest : length xs ≤ n = get_none xs n none in omega arith)

-- Numbers, and places in lists.
use Rattle.std.proofs.Common.{◌≡◌, ◌≢◌, ℕ, zero, suc, ◌<◌, ◌≤◌, ◌⊎◌, inl, inr, List, [], ◌∷◌, ◌++◌, length, Some, Contains, Bool, true, false, refl, sym, ap, arith}
use Rattle.std.specs.Prelude.{◌&&◌, slice_get}
use Rattle.k_replay_record.specs.declared.record.Operand.TheVariants.{From}
use Rattle.std.proofs.lemmas.Option.{none-some, same_Some}

-- two numbers are equal, or not
pub same_or_not : (a b : ℕ) → (a ≡ b) ⊎ (a ≢ b)
same_or_not zero zero = inl refl
same_or_not zero (suc b) = inr (λ e. omega arith)
same_or_not (suc a) zero = inr (λ e. omega arith)
same_or_not (suc a) (suc b) = elim (same_or_not a b) [ inl e ↦ inl (ap (λ n. suc n) e) | inr ne ↦ inr (λ e. ne (omega arith)) ]

-- one is below the other, or not
pub below_or_not : (a b : ℕ) → (a < b) ⊎ (b ≤ a)
below_or_not a zero = inr (omega arith)
below_or_not zero (suc b) = inl (omega arith)
below_or_not (suc a) (suc b) = elim (below_or_not a b) [ inl h ↦ inl (omega arith) | inr h ↦ inr (omega arith) ]

-- what is in a list stands first or behind
pub contains_cases : {A : Type 0} (y : A) (xs : List A) (x : A) → Contains (y ∷ xs) x → (y ≡ x) ⊎ Contains xs x
contains_cases y xs x (zero, h, e) = inl e
contains_cases y xs x (suc n, h, e) = inr (n, omega arith, e)

pub contains_none : {A : Type 0} (x : A) → Contains [] x → ⊥
contains_none x (n, h, e) = omega arith

pub contains_first : {A : Type 0} (x : A) (xs : List A) → Contains (x ∷ xs) x
contains_first x xs = (0, omega arith, refl)

pub contains_behind : {A : Type 0} (y : A) (xs : List A) (x : A) → Contains xs x → Contains (y ∷ xs) x
contains_behind y xs x (n, h, e) = (suc n, omega arith, e)

-- one of a list is found in it
pub step_at : {A : Type 0} (xs : List A) (k : ℕ) → k < length xs → (x : A) × (slice_get xs k ≡ Some x)
step_at [] k h = absurd (omega arith)
step_at (x ∷ xs) zero h = (x, refl)
step_at (x ∷ xs) (suc k) h = step_at xs k (omega arith)

-- an item of a list with one more at its end is one of the list, or that one
pub place_of_push : {A : Type 0} (xs : List A) (y : A) (n : ℕ) (x : A) → slice_get (xs ++ y ∷ []) n ≡ Some x
    → (slice_get xs n ≡ Some x) ⊎ ((n ≡ length xs) × (x ≡ y))
place_of_push [] y zero x h = inr (refl, sym (same_Some y x h))
place_of_push [] y (suc n) x h = absurd (none-some x h)
place_of_push (a ∷ xs) y zero x h = inl h
place_of_push (a ∷ xs) y (suc n) x h = elim (place_of_push xs y n x h) [ inl k ↦ inl k | inr k ↦ inr (ap (λ m. suc m) k.0, k.1) ]

-- operands that are equal come from one step
pub same_number : (i j : ℕ) → From i ≡ From j → i ≡ j
same_number i j e = cc

-- the parts of two tests
pub both_left : (a b : Bool) → a && b ≡ true → a ≡ true
both_left true b h = refl
both_left false b h = absurd (cc)

pub both_right : (a b : Bool) → a && b ≡ true → b ≡ true
both_right true b h = h
both_right false b h = absurd (cc)

-- Where a pair is put among sorted ones.
use Rattle.std.proofs.Common.{ℕ, zero, suc, ◌≡◌, ◌+◌, ◌-◌, ◌/◌, ◌<◌, ◌≤◌, Bool, true, false, List, [], ◌∷◌, length, get_or, slice_get, Some, arith, refl, sym, subst, ap, ◌∙◌}
use Rattle.std.specs.Prelude.{if◌then◌else◌, not}
use Rattle.std.specs.List.{insert}
use Rattle.std.proofs.lemmas.Option.{slice_get-get_or, slice_get_within}
use Rattle.k_carry_pairs.specs.declared.found.Found.{Found}
use Rattle.k_carry_pairs.specs.Carried.{AllPass, AreSorted}
use Rattle.k_carry_pairs.specs.Gathered.{IsPlaceFor, found_before, put, stands_at}
use Rattle.k_carry_pairs.proofs.Order.{found_on}

-- a test that holds of each holds of the one at a place
passes_at : (test : Found → Bool) (xs : List Found) (j : ℕ) (x : Found) → AllPass test xs → slice_get xs j ≡ Some x → test x ≡ true
passes_at test [] j x all is = absurd (cc is)
passes_at test (y ∷ xs) zero x all is = (let same : y ≡ x = cc is in subst (λ (z : Found). test z ≡ true) same all.0)
passes_at test (y ∷ xs) (suc j) x all is = passes_at test xs j x all.1 is

-- of sorted ones those that stand before another one come first
pub partitioned : (f : Found) (xs : List Found) (i j : ℕ) (x y : Found) → AreSorted found_before xs → i ≤ j → slice_get xs i ≡ Some x → slice_get xs j ≡ Some y
    → found_before y f ≡ true → found_before x f ≡ true
partitioned f [] i j x y sorted low first second is = absurd (cc first)
partitioned f (z ∷ xs) zero zero x y sorted low first second is =
    (let same : y ≡ x = (let a : z ≡ x = cc first in let b : z ≡ y = cc second in sym b ∙ a) in subst (λ (w : Found). found_before w f ≡ true) same is)
partitioned f (z ∷ xs) zero (suc j) x y sorted low first second is =
    let same : z ≡ x = cc first in
    found_on x y f (subst (λ (w : Found). found_before w y ≡ true) same (passes_at (found_before z) xs j y sorted.0 second)) is
partitioned f (z ∷ xs) (suc i) zero x y sorted low first second is = absurd (omega arith)
partitioned f (z ∷ xs) (suc i) (suc j) x y sorted low first second is = partitioned f xs i j x y sorted.1 (omega arith) first second is

-- a search is narrowed to what lies behind one that stands before
pub record IsBetween (f : Found) (xs : List Found) (low high : ℕ) : Type 0 where
  pub up : low ≤ high
  pub within : high ≤ length xs
  pub below : (k : ℕ) (x : Found) → k < low → slice_get xs k ≡ Some x → found_before x f ≡ true
  pub behind : (k : ℕ) (x : Found) → high ≤ k → slice_get xs k ≡ Some x → found_before x f ≡ false

pub all_between : (f : Found) (xs : List Found) → IsBetween f xs 0 (length xs)
all_between f xs = record {
  up = omega arith;
  within = omega arith;
  below = λ k x low is. absurd (omega (arith, low));
  behind = λ k x high is. absurd (omega (arith, high, slice_get_within xs k x is));
}

pub narrow_up : (f m : Found) (xs : List Found) (low high middle : ℕ) → AreSorted found_before xs → IsBetween f xs low high → middle < high → slice_get xs middle ≡ Some m
    → found_before m f ≡ true → IsBetween f xs (middle + 1) high
narrow_up f m xs low high middle sorted was under there is = record {
  up = omega (arith, under);
  within = was.within;
  below = λ k x less found. partitioned f xs k middle x m sorted (omega (arith, less)) found there is;
  behind = was.behind;
}

pub narrow_down : (f m : Found) (xs : List Found) (low high middle : ℕ) → AreSorted found_before xs → IsBetween f xs low high → low ≤ middle → middle < high
    → slice_get xs middle ≡ Some m → found_before m f ≡ false → IsBetween f xs low middle
narrow_down f m xs low high middle sorted was over under there is = record {
  up = over;
  within = omega (arith, under, was.within);
  below = was.below;
  behind = λ k x high found. not_before x k high found (found_before x f) refl;
}
  where
    not_before : (x : Found) (k : ℕ) → middle ≤ k → slice_get xs k ≡ Some x → (b : Bool) → found_before x f ≡ b → b ≡ false
    not_before x k high found false same = refl
    not_before x k high found true same = absurd (let wrong : true ≡ false = sym (partitioned f xs middle k m x sorted high there found same) ∙ is in cc wrong)

-- what is compared is the one in the middle
middle_there : (xs : List Found) (low high : ℕ) (d : Found) → low < high → high ≤ length xs → slice_get xs (low + (high - low) / 2) ≡ Some (get_or xs (low + (high - low) / 2) d)
middle_there xs low high d less within = slice_get-get_or xs (low + (high - low) / 2) d (omega arith)

pub goes_up : (f d : Found) (xs : List Found) (low high : ℕ) → AreSorted found_before xs → IsBetween f xs low high → low < high
    → found_before (get_or xs (low + (high - low) / 2) d) f ≡ true → IsBetween f xs (low + (high - low) / 2 + 1) high
goes_up f d xs low high sorted was less is =
    narrow_up f (get_or xs (low + (high - low) / 2) d) xs low high (low + (high - low) / 2) sorted was (omega arith) (middle_there xs low high d less was.within) is

pub goes_down : (f d : Found) (xs : List Found) (low high : ℕ) → AreSorted found_before xs → IsBetween f xs low high → low < high
    → found_before (get_or xs (low + (high - low) / 2) d) f ≡ false → IsBetween f xs low (low + (high - low) / 2)
goes_down f d xs low high sorted was less is =
    narrow_down f (get_or xs (low + (high - low) / 2) d) xs low high (low + (high - low) / 2) sorted was (omega arith) (omega arith)
    (middle_there xs low high d less was.within) is

pub narrowed : (f : Found) (xs : List Found) (low high : ℕ) → IsBetween f xs low high → high ≤ low → IsPlaceFor f xs low
narrowed f xs low high is end = record { below = is.below; behind = λ k x over found. is.behind k x (omega (arith, end, over)) found }

-- where it is put
pub record IsPut (f : Found) (xs : List Found) (at : ℕ) : Type 0 where
  pub there : stands_at xs at f ≡ true → put f xs ≡ xs
  pub new : stands_at xs at f ≡ false → insert xs at f ≡ put f xs

not_true : (b : Bool) → not b ≡ true → b ≡ false
not_true true is = absurd (cc is)
not_true false is = refl

not_false : (b : Bool) → not b ≡ false → b ≡ true
not_false true is = refl
not_false false is = absurd (cc is)

pub put_point : (f : Found) (xs : List Found) (at : ℕ) → at ≤ length xs
    → IsPlaceFor f xs at → IsPut f xs at
put_point f [] zero low is = record { there = λ stands. absurd (cc stands); new = λ stands. refl }
put_point f [] (suc at) low is = absurd (omega arith)
put_point f (x ∷ xs) zero low is =
    let behind : found_before x f ≡ false = is.behind 0 x (omega arith) refl in
    record {
      there = λ stands. (let same : found_before f x ≡ false = not_true (found_before f x) stands in
          (λ i. if behind i then x ∷ put f xs else (if same i then f ∷ x ∷ xs else x ∷ xs)));
      new = λ stands. (let before : found_before f x ≡ true = not_false (found_before f x) stands in
          sym (λ i. if behind i then x ∷ put f xs else (if before i then f ∷ x ∷ xs else x ∷ xs)));
    }
put_point f (x ∷ xs) (suc at) low is =
    let before : found_before x f ≡ true = is.below 0 x (omega arith) refl in
    let rest : IsPut f xs at = put_point f xs at (omega arith)
    (record { below = λ k y low found. is.below (suc k) y (omega (arith, low)) found; behind = λ k y high found. is.behind (suc k) y (omega (arith, high)) found }) in
    record {
      there = λ stands. (λ i. if before i then x ∷ put f xs else (if found_before f x then f ∷ x ∷ xs else x ∷ xs)) ∙ ap (λ (all : List Found). x ∷ all) (rest.there stands);
      new = λ stands. ap (λ (all : List Found). x ∷ all) (rest.new stands)
          ∙ sym (λ i. if before i then x ∷ put f xs else (if found_before f x then f ∷ x ∷ xs else x ∷ xs));
    }

-- so it is in a list that was lent
pub put_in : (f : Found) (xs lent : List Found) (at : ℕ) → lent ≡ xs → at ≤ length lent → IsPlaceFor f lent at → IsPut f xs at
put_in f xs lent at same low is = subst (λ (ys : List Found). IsPut f ys at) same (put_point f lent at low is)

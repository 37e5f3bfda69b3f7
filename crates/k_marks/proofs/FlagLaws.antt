-- Flags that are raised one by one are those of the numbers among these.
use Rattle.std.proofs.Common.{◌≡◌, ℕ, zero, suc, ◌+◌, ◌≤◌, Bool, true, false, List, [], ◌∷◌, map, replicate, refl, sym, ◌∙◌, ap, arith}
use Rattle.std.specs.Prelude.{nat_eq, ◌||◌, slice_set}
use Rattle.std.specs.List.{list_any}
use Rattle.std.proofs.lemmas.Bool.Decides.{nat_tests}
use Rattle.k_types_meaning.specs.Numbered.{numbers_from}
use Rattle.k_marks.specs.Flags.{raised}
use Rattle.k_marks_meaning.specs.Marking.{flags}

-- two tests that agree from a number on flag the numbers from there alike
agree : (f g : ℕ → Bool) (a count : ℕ) → ((k : ℕ) → a ≤ k → f k ≡ g k) → map f (numbers_from a count) ≡ map g (numbers_from a count)
agree f g a zero h = refl
agree f g a (suc count) h =
    let here : f a ≡ g a = h a (omega arith) in
    let rest : map f (numbers_from (suc a) count) ≡ map g (numbers_from (suc a) count) =
    agree f g (suc a) count (λ (k : ℕ) (above : suc a ≤ k). h k (omega arith)) in
    λ i. here i ∷ rest i

-- another number does not count
other : (a n k : ℕ) (b : Bool) → ((a + n ≡ k) → ⊥) → b ≡ (nat_eq (a + n) k || b)
other a n k b apart = let e : nat_eq (a + n) k ≡ false = grind (arith, nat_tests, apart) in sym (ap (λ t. t || b) e)

-- one flag that is raised
raised_one : (p : ℕ → Bool) (a count n : ℕ)
    → slice_set (map p (numbers_from a count)) n true ≡ map (λ k. nat_eq (a + n) k || p k) (numbers_from a count)
raised_one p a zero n = refl
raised_one p a (suc count) zero =
    let here : true ≡ (nat_eq (a + 0) a || p a) = grind (arith, nat_tests) in
    let rest : map p (numbers_from (suc a) count) ≡ map (λ k. nat_eq (a + 0) k || p k) (numbers_from (suc a) count) =
    agree p (λ k. nat_eq (a + 0) k || p k) (suc a) count (λ (k : ℕ) (above : suc a ≤ k). other a 0 k (p k) (λ e. omega arith)) in
    λ i. here i ∷ rest i
raised_one p a (suc count) (suc n) =
    let here : p a ≡ (nat_eq (a + suc n) a || p a) = other a (suc n) a (p a) (λ e. omega arith) in
    let rest : slice_set (map p (numbers_from (suc a) count)) n true ≡ map (λ k. nat_eq (a + suc n) k || p k) (numbers_from (suc a) count) =
    raised_one p (suc a) count n
    ∙ ap (λ (m : ℕ). map (λ k. nat_eq m k || p k) (numbers_from (suc a) count)) (let e : suc a + n ≡ a + suc n = omega arith in e) in
    λ i. here i ∷ rest i

-- one test and then others, and the other way round
regroup : (a b c : Bool) → (b || (a || c)) ≡ ((a || b) || c)
regroup true true c = refl
regroup true false c = refl
regroup false true c = refl
regroup false false c = refl

-- flags that are raised above those of a test
raised_above : (p : ℕ → Bool) (count : ℕ) (numbers : List ℕ)
    → raised numbers (map p (numbers_from 0 count)) ≡ map (λ k. list_any (λ m. nat_eq m k) numbers || p k) (numbers_from 0 count)
raised_above p count [] = refl
raised_above p count (n ∷ ns) =
    let one : slice_set (map p (numbers_from 0 count)) n true ≡ map (λ k. nat_eq n k || p k) (numbers_from 0 count) =
    raised_one p 0 count n ∙ ap (λ (m : ℕ). map (λ k. nat_eq m k || p k) (numbers_from 0 count)) (let e : 0 + n ≡ n = omega arith in e) in
    ap (raised ns) one
    ∙ (raised_above (λ k. nat_eq n k || p k) count ns
    ∙ agree (λ k. list_any (λ m. nat_eq m k) ns || (nat_eq n k || p k)) (λ k. (nat_eq n k || list_any (λ m. nat_eq m k) ns) || p k) 0 count
    (λ k h. regroup (nat_eq n k) (list_any (λ m. nat_eq m k) ns) (p k)))

-- flags that are all down
all_down : (a count : ℕ) → replicate count false ≡ map (λ k. false) (numbers_from a count)
all_down a zero = refl
all_down a (suc count) = let rest : replicate count false ≡ map (λ k. false) (numbers_from (suc a) count) = all_down (suc a) count in λ i. false ∷ rest i

-- a test or nothing
or_false : (b : Bool) → (b || false) ≡ b
or_false true = refl
or_false false = refl

-- raised from all down, the flags are those of the numbers among these
pub raised_all : (count : ℕ) (numbers : List ℕ) → raised numbers (replicate count false) ≡ flags count numbers
raised_all count numbers =
    ap (raised numbers) (all_down 0 count)
    ∙ (raised_above (λ k. false) count numbers
    ∙ agree (λ k. list_any (λ m. nat_eq m k) numbers || false) (λ k. list_any (λ m. nat_eq m k) numbers) 0 count
    (λ k h. or_false (list_any (λ m. nat_eq m k) numbers)))

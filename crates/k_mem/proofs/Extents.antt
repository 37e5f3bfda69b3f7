-- What a search by number finds among extents.
use Rattle.std.proofs.Common.{◌≡◌, ◌≢◌, ℕ, zero, suc, ◌+◌, ◌<◌, ◌≤◌, List, [], ◌∷◌, length, get_or, Some, None, arith, refl}
use Rattle.std.specs.List.Sorted.{IsNonDecreasingBy, IsPartitionPoint}
use Rattle.std.specs.Ordering.{nat_cmp, ordering_index}
use Rattle.std.specs.declared.cmp.Ordering.TheVariants.{Less, Greater}
use Rattle.std.proofs.lemmas.Bool.Decides.{nat_tests}
use Rattle.k_mem.specs.declared.extent.Extent.{Extent}
use Rattle.k_mem.specs.Layout.{Fill, Ascend, extent_with}

-- what fills from `start` to `end` doesn't end before it starts
pub fill_le : (extents : List Extent) (start end : ℕ) → Fill start extents end → start ≤ end
fill_le [] start end fill = omega (arith, fill)
fill_le (e ∷ extents) start end fill = omega (arith, fill_le extents (start + e.length) end fill.1)

-- each extent lies between the start and the end
pub fill_at : (extents : List Extent) (start end i : ℕ) (d : Extent) → Fill start extents end → i < length extents
    → (start ≤ (get_or extents i d).first) × ((get_or extents i d).first + (get_or extents i d).length ≤ end)
fill_at [] start end i d fill within = absurd (omega (arith, within))
fill_at (e ∷ extents) start end zero d fill within =
    (omega (arith, fill.0), omega (arith, fill.0, fill_le extents (start + e.length) end fill.1))
fill_at (e ∷ extents) start end (suc i) d fill within =
    let rest = fill_at extents (start + e.length) end i d fill.1 (omega (arith, within)) in
    (omega (arith, rest.0), rest.1)

-- each number is at least the lowest
pub ascend_at : (extents : List Extent) (low made i : ℕ) (d : Extent) → Ascend low extents made → i < length extents
    → low ≤ (get_or extents i d).number
ascend_at [] low made i d ascend within = absurd (omega (arith, within))
ascend_at (e ∷ extents) low made zero d ascend within = ascend.0
ascend_at (e ∷ extents) low made (suc i) d ascend within =
    omega (arith, ascend.0, ascend_at extents (e.number + 1) made i d ascend.1 (omega (arith, within)))

-- numbers rise along the list
numbers_rise : (extents : List Extent) (low made i j : ℕ) (d : Extent) → Ascend low extents made → i ≤ j → j < length extents
    → (get_or extents i d).number ≤ (get_or extents j d).number
numbers_rise [] low made i j d ascend le within = absurd (omega (arith, within))
numbers_rise (e ∷ extents) low made zero zero d ascend le within = omega arith
numbers_rise (e ∷ extents) low made zero (suc j) d ascend le within =
    omega (arith, ascend_at extents (e.number + 1) made j d ascend.1 (omega (arith, within)))
numbers_rise (e ∷ extents) low made (suc i) zero d ascend le within = absurd (omega (arith, le))
numbers_rise (e ∷ extents) low made (suc i) (suc j) d ascend le within =
    numbers_rise extents (e.number + 1) made i j d ascend.1 (omega (arith, le)) (omega (arith, within))

-- so their comparisons with a number rise too, as a binary search asks
pub comparisons_rise : (extents : List Extent) (low made number : ℕ) → Ascend low extents made
    → IsNonDecreasingBy (λ e. ordering_index (nat_cmp e.number number)) extents
comparisons_rise extents low made number ascend i j d le within =
    let rise = numbers_rise extents low made i j d ascend le within in
    grind (arith, nat_tests)

-- the extent of a number is the one that stands where the number is
pub found_at : (extents : List Extent) (low made number i : ℕ) (d : Extent) → Ascend low extents made → i < length extents
    → (get_or extents i d).number ≡ number → extent_with extents number ≡ Some (get_or extents i d)
found_at [] low made number i d ascend within same = absurd (omega (arith, within))
found_at (e ∷ extents) low made number zero d ascend within same = grind (arith, nat_tests)
found_at (e ∷ extents) low made number (suc i) d ascend within same =
    let in_rest : i < length extents = omega (arith, within) in
    let later = ascend_at extents (e.number + 1) made i d ascend.1 in_rest in
    let found = found_at extents (e.number + 1) made number i d ascend.1 in_rest same in
    grind (arith, nat_tests)

-- no extent has a number that stands nowhere
pub found_nowhere : (extents : List Extent) (number : ℕ) → ((i : ℕ) (d : Extent) → i < length extents → (get_or extents i d).number ≢ number)
    → extent_with extents number ≡ None
found_nowhere [] number other = refl
found_nowhere (e ∷ extents) number other =
    let first = other 0 e (omega arith) in
    let rest = found_nowhere extents number (λ i d within. other (suc i) d (omega (arith, within))) in
    grind (arith, nat_tests)

-- nor one that would stand between smaller and greater ones
pub found_in_gap : (extents : List Extent) (number i : ℕ)
    → IsPartitionPoint (λ e. nat_cmp e.number number ≡ Less) (λ e. nat_cmp e.number number ≡ Greater) extents i
    → extent_with extents number ≡ None
found_in_gap extents number i gap = found_nowhere extents number (λ k d within same.
    grind (arith, nat_tests, gap.0 k d, gap.1 k d))

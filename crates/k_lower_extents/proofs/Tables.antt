-- Entries of a table that are set one by one.
use Rattle.std.proofs.Common.{ℕ, zero, suc, ◌≡◌, ◌+◌, ◌<◌, ◌≤◌, List, [], ◌∷◌, length, take, get_or, slice_get, slice_set, Option, Some, None, refl, sym, subst, arith}
use Rattle.std.proofs.lemmas.List.{get_or_default, take_all}
use Rattle.std.proofs.lemmas.Option.{none-some}
use Rattle.k_lower_extents.specs.declared.extent.Extent.{Extent}
use Rattle.k_lower_extents.specs.declared.extent.NumberedExtent.{NumberedExtent}
use Rattle.k_lower_extents.specs.Extents.{AreEntries, IsEntry, Notes}

-- the entry that is set
placed : (t : List (Option Extent)) (n : ℕ) (x : Extent) → slice_get t n ≡ Some None → slice_get (slice_set t n (Some x)) n ≡ Some (Some x)
placed [] n x is = absurd (none-some None is)
placed (o ∷ t) zero x is = refl
placed (o ∷ t) (suc n) x is = placed t n x is

-- another one, which was set
kept : (t : List (Option Extent)) (n m : ℕ) (x y : Extent) → slice_get t n ≡ Some None → slice_get t m ≡ Some (Some y)
    → slice_get (slice_set t n (Some x)) m ≡ Some (Some y)
kept [] n m x y free is = absurd (none-some None free)
kept (o ∷ t) zero zero x y free is = cc
kept (o ∷ t) zero (suc m) x y free is = is
kept (o ∷ t) (suc n) zero x y free is = is
kept (o ∷ t) (suc n) (suc m) x y free is = kept t n m x y free is

all_kept : (old new : List (Option Extent)) (it : NumberedExtent) → Notes old new it → (xs : List NumberedExtent) → AreEntries old xs → AreEntries new xs
all_kept old new it notes [] all = tt
all_kept old new it notes (x ∷ xs) all = (
  subst (λ (t : List (Option Extent)). IsEntry t x) (sym notes.1) (kept old it.number x.number it.extent x.extent notes.0 all.0),
  all_kept old new it notes xs all.1,
)

-- one more
more_entries : (t : List (Option Extent)) (xs : List NumberedExtent) (i : ℕ) (x : NumberedExtent) → i < length xs → x ≡ get_or xs i x
    → AreEntries t (take i xs) → IsEntry t x → AreEntries t (take (suc i) xs)
more_entries t [] i x below is all one = tt
more_entries t (y ∷ xs) zero x below is all one = (subst (IsEntry t) is one, tt)
more_entries t (y ∷ xs) (suc i) x below is all one = (all.0, more_entries t xs i x (omega (arith, below)) is all.1 one)

-- the entry of the item of this number is set, and those before stay
pub one_more : (old new : List (Option Extent)) (xs : List NumberedExtent) (i : ℕ) (d : NumberedExtent) → i < length xs → Notes old new (get_or xs i d)
    → AreEntries old (take i xs) → AreEntries new (take (i + 1) xs)
one_more old new xs i d below notes all =
    (let x : NumberedExtent = get_or xs i d in
    (let next : suc i ≡ i + 1 = omega arith in
    subst (λ n. AreEntries new (take n xs)) next
    (more_entries new xs i x below (get_or_default xs i d x below) (all_kept old new x notes (take i xs) all)
    (subst (λ (t : List (Option Extent)). IsEntry t x) (sym notes.1) (placed old x.number x.extent notes.0)))))

-- all are set
pub all_set : (t : List (Option Extent)) (xs : List NumberedExtent) (i : ℕ) → length xs ≤ i → AreEntries t (take i xs) → AreEntries t xs
all_set t xs i past all = subst (AreEntries t) (take_all i xs past) all

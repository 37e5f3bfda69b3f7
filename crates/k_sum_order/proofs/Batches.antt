-- The entries of a level as they are found and sorted.
use Rattle.std.proofs.Common.{◌≡◌, ℕ, zero, suc, ◌+◌, ◌<◌, inl, inr, false, All, List, [], ◌∷◌, length, map, get_or, sym, subst, arith}
use Rattle.std.proofs.lemmas.List.Elements.{All-tail}
use Rattle.std.proofs.lemmas.List.Sorted.{All-permutation, Contains-permutation, IsPermutation-map}
use Rattle.std.specs.Cmp.Lexicographic.{slice_cmp}
use Rattle.std.specs.List.Sorted.{IsPermutation}
use Rattle.std.specs.Ordering.{is_lt, nat_cmp}
use Rattle.k_dict_entries.specs.Entries.{NameEarlier}
use Rattle.k_dict_entries.specs.declared.entry.Entry.{Entry}
use Rattle.k_sum_order.specs.Order.{ComesBefore, key_of}
use Rattle.k_sum_order.specs.Placing.{AreLevels, AreOrderedTo, AreRanked, HaveRisingKeys, Ordering, OrdersLevel, entry_with}
use Rattle.k_sum_order.specs.declared.batch.Ranked.{Ranked}
use Rattle.k_sum_order.proofs.Comparing.{not_lower}
use Rattle.k_sum_order.proofs.Placed.{AreOfLevel, IsAmong, Rise, level_ordered}

-- the numbers of these
abbrev pub numbers_of : List Ranked → List ℕ
numbers_of items = map (λ r. r.number) items

among_at : (list : List ℕ) (n k : ℕ) → k < length list → get_or list k n ≡ n → IsAmong n list
among_at [] n k less is = absurd (omega arith)
among_at (m ∷ list) n zero less is = inl (sym is)
among_at (m ∷ list) n (suc k) less is = inr (among_at list n k (omega arith) is)

-- sorted they are the same
pub ranked_sorted : (entries : List Entry) (levels numbers : List ℕ) (level high : ℕ) (items sorted : List Ranked) → AreRanked entries levels numbers level high items
    → IsPermutation items sorted → AreRanked entries levels numbers level high sorted
ranked_sorted entries levels numbers level high items sorted are moved = record {
  each = All-permutation (λ (r : Ranked). (r.number < high) × (get_or levels r.number 0 ≡ level) × (r.key.items ≡ key_of (entry_with entries numbers r.number))) items sorted moved are.each;
  all = λ n within is. Contains-permutation (numbers_of items) (numbers_of sorted) n (IsPermutation-map (λ (r : Ranked). r.number) items sorted moved) (are.all n within is);
}

module _ (entries : List Entry) (levels : List ℕ) (earlier : NameEarlier entries) (are : AreLevels entries levels) (level : ℕ) (numbers : List ℕ) where
  abbrev IsOne : Ranked → Type 0
  IsOne r = (r.number < length entries) × (get_or levels r.number 0 ≡ level) × (r.key.items ≡ key_of (entry_with entries numbers r.number))

  of_level : (items : List Ranked) → All IsOne items → AreOfLevel entries levels earlier are level numbers (numbers_of items)
  of_level [] each = tt
  of_level (r ∷ items) each =
      let one = each 0 r (omega arith) in (one.0, one.1, of_level items (All-tail IsOne r items each))

  -- where one of these stands
  place_of : (items : List Ranked) (n : ℕ) → IsAmong n (numbers_of items) → (k : ℕ) × (k < length items) × ((d : Ranked) → n ≡ (get_or items k d).number)
  place_of [] n among = absurd among
  place_of (r ∷ items) n among = elim among [
    | inl same ↦ (0, omega arith, λ d. same)
    | inr later ↦ (let rest = place_of items n later in (suc rest.0, (let less = rest.1 in omega arith), λ d. rest.2 d))
  ]

  rising : (items : List Ranked) → All IsOne items → HaveRisingKeys items → Rise entries levels earlier are level numbers (numbers_of items)
  rising [] each keys = tt
  rising (r ∷ items) each keys = (
    λ n among before.
        let at = place_of items n among in
        let k : ℕ = at.0 in
        let less : k < length items = at.1 in
        let s : Ranked = get_or items k r in
        let one : IsOne r = each 0 r (omega arith) in
        let other : IsOne s = each (suc k) r (omega arith) in
        let lower : is_lt (slice_cmp nat_cmp s.key.items r.key.items) ≡ false = keys 0 (suc k) r (omega arith) (omega arith) in
        let P : List ℕ → Type 0 = λ l. is_lt (slice_cmp nat_cmp l r.key.items) ≡ false in
        let Q : List ℕ → Type 0 = λ l. is_lt (slice_cmp nat_cmp (key_of (entry_with entries numbers s.number)) l) ≡ false in
        let R : ℕ → Type 0 = λ m. ComesBefore (entry_with entries numbers m) (entry_with entries numbers r.number) in
        not_lower (entry_with entries numbers s.number) (entry_with entries numbers r.number) (subst Q one.2 (subst P other.2 lower)) (subst R (at.2 r) before),
    rising items (All-tail IsOne r items each) (λ j k d less within. keys (suc j) (suc k) d (omega arith) (omega arith)),
  )

-- a level is in order
pub orders_level : (entries : List Entry) (levels : List ℕ) (level : ℕ) (old new : Ordering) → NameEarlier entries → AreLevels entries levels
    → AreOrderedTo entries levels level old → OrdersLevel entries levels level old new → AreOrderedTo entries levels (level + 1) new
orders_level entries levels level old new earlier are at orders =
    let items : List Ranked = orders.0 in
    let P : Ordering → Type 0 = AreOrderedTo entries levels (level + 1) in
    subst P (sym orders.3)
    (level_ordered entries levels level old (numbers_of items) earlier are at
    (of_level entries levels earlier are level old.numbers items orders.1.each)
    (rising entries levels earlier are level old.numbers items orders.1.each orders.2)
    (λ n within is. let there = orders.1.all n within is in among_at (numbers_of items) n there.0 there.1 there.2))

-- the finding of a level's entries, below a number so far
pub ranked_start : (entries : List Entry) (levels numbers : List ℕ) (level : ℕ) (items : List Ranked) → items ≡ [] → AreRanked entries levels numbers level 0 items
ranked_start entries levels numbers level items none =
    let P : List Ranked → Type 0 = AreRanked entries levels numbers level 0 in
    subst P (sym none) (record { each = λ k d less. absurd (omega arith); all = λ n less is. absurd (omega arith) })

-- Lists of items, and what they give.
use Rattle.std.proofs.Common.{◌≡◌, ℕ, suc, ◌+◌, ◌*◌, ◌<◌, ◌≤◌, inl, inr, ◌==◌, List, [], ◌∷◌, ◌++◌, length, get_or, refl, sym, ap, ◌∙◌, subst, arith, if◌then◌else◌}
use Rattle.std.specs.Prelude.{All, sum_by}
use Rattle.std.specs.List.Sorted.{IsPermutation, IsNonDecreasingBy}
use Rattle.std.proofs.lemmas.Bool.{cases_eq, cases_lt, cond-true, cond-false, eq-eqb, ne_eqb, lt-ltb, le-ltb}
use Rattle.std.proofs.lemmas.List.Elements.{All-cons, All-head, All-nil, All-tail, All-weaker}
use Rattle.std.proofs.lemmas.List.Sorted.{All-permutation, sum_by-IsPermutation}
use Rattle.std.proofs.lemmas.List.Sums.{sum_by-cons}
use Rattle.k_dict_entries.specs.Trees.{Label, Forest}
use Rattle.k_dict_entries.specs.declared.entry.Entry.{Entry}
use Rattle.k_selfpar.specs.declared.item.Item.{Item}
use Rattle.k_selfpar.specs.Counts.{AreCounts, dot}
use Rattle.k_selfpar.specs.Items.{AreItems, AreItemsOf, BeginsElsewhere, IsItem, Rise, item_of, items_in, occurring, total}
use Rattle.k_selfpar.specs.Sums.{own_of, region_at, within}

pub total-append : (g : ℕ → ℕ) (xs ys : List Item) → total g (xs ++ ys) ≡ total g xs + total g ys
total-append g [] ys = omega arith
total-append g (i ∷ xs) ys = let rest = total-append g xs ys in omega arith

-- in another order they give the same
pub total-permutation : (g : ℕ → ℕ) (xs ys : List Item) → IsPermutation xs ys → total g ys ≡ total g xs
total-permutation g xs ys same =
    is ys ∙ sum_by-IsPermutation (λ (i : Item). i.run.count * g i.run.entry) xs ys same ∙ sym (is xs)
  where
    is : (l : List Item) → total g l ≡ sum_by (λ (i : Item). i.run.count * g i.run.entry) l
    is [] = refl
    is (i ∷ l) = ap (λ x. i.run.count * g i.run.entry + x) (is l) ∙ sym (sum_by-cons (λ (j : Item). j.run.count * g j.run.entry) i l)

-- entries that occur give what is counted
pub total-occurring : (entries : List Entry) (g : ℕ → ℕ) (k : ℕ) (counts : List ℕ) → total g (occurring entries k counts) ≡ dot k counts g
total-occurring entries g k [] = refl
total-occurring entries g k (count ∷ counts) = elim (cases_lt 0 count) [
  | inl some ↦
      ap (λ b. total g (if b then item_of entries k count ∷ occurring entries (k + 1) counts else occurring entries (k + 1) counts)) (lt-ltb 0 count some)
      ∙ ap (λ x. count * g k + x) (total-occurring entries g (k + 1) counts)
  | inr none ↦
      ap (λ b. total g (if b then item_of entries k count ∷ occurring entries (k + 1) counts else occurring entries (k + 1) counts)) (le-ltb 0 count none)
      ∙ total-occurring entries g (k + 1) counts
      ∙ nothing count (g k) (dot (k + 1) counts g) none
]
  where
    nothing : (c x d : ℕ) → c ≤ 0 → d ≡ c * x + d
    nothing c x d le = let e : c ≡ 0 = omega arith in let f : c * x ≡ 0 * x = ap (λ y. y * x) e in omega arith

-- and they are items
pub items-occurring : (entries : List Entry) (k : ℕ) (counts : List ℕ) → k + length counts ≤ length entries → AreItems entries (occurring entries k counts)
items-occurring entries k [] few = All-nil (IsItem entries)
items-occurring entries k (count ∷ counts) few = elim (cases_lt 0 count) [
  | inl some ↦
      subst (λ b. AreItems entries (if b then item_of entries k count ∷ occurring entries (k + 1) counts else occurring entries (k + 1) counts)) (sym (lt-ltb 0 count some))
      (All-cons (IsItem entries) (item_of entries k count) (occurring entries (k + 1) counts) (record { entry = omega arith; region = refl; count = some })
      (items-occurring entries (k + 1) counts (omega arith)))
  | inr none ↦
      subst (λ b. AreItems entries (if b then item_of entries k count ∷ occurring entries (k + 1) counts else occurring entries (k + 1) counts)) (sym (le-ltb 0 count none))
      (items-occurring entries (k + 1) counts (omega arith))
]

-- one more is put behind those that occur so far, or none
pub occurring-some : (entries : List Entry) (k count : ℕ) (counts : List ℕ) → 0 < count
    → occurring entries k (count ∷ counts) ≡ item_of entries k count ∷ occurring entries (k + 1) counts
occurring-some entries k count counts some =
    ap (λ b. if b then item_of entries k count ∷ occurring entries (k + 1) counts else occurring entries (k + 1) counts) (lt-ltb 0 count some)

pub occurring-none : (entries : List Entry) (k count : ℕ) (counts : List ℕ) → count ≤ 0 → occurring entries k (count ∷ counts) ≡ occurring entries (k + 1) counts
occurring-none entries k count counts none =
    ap (λ b. if b then item_of entries k count ∷ occurring entries (k + 1) counts else occurring entries (k + 1) counts) (le-ltb 0 count none)

-- the items of a region
pub items_in-here : (region : ℕ) (i : Item) (items : List Item) → i.region ≡ region → items_in region (i ∷ items) ≡ i ∷ items_in region items
items_in-here region i items is = cond-true (i.region == region) (i ∷ items_in region items) (items_in region items) (eq-eqb i.region region is)

pub items_in-other : (region : ℕ) (i : Item) (items : List Item) → ¬ (i.region ≡ region) → items_in region (i ∷ items) ≡ items_in region items
items_in-other region i items other = cond-false (i.region == region) (i ∷ items_in region items) (items_in region items) (ne_eqb i.region region other)

pub items_in-same : (region : ℕ) (items : List Item) → All (λ (i : Item). i.region ≡ region) items → items_in region items ≡ items
items_in-same region [] all = refl
items_in-same region (i ∷ items) all =
    items_in-here region i items (All-head (λ (j : Item). j.region ≡ region) i items all)
    ∙ ap (λ l. i ∷ l) (items_in-same region items (All-tail (λ (j : Item). j.region ≡ region) i items all))

pub items_in-none : (region : ℕ) (items : List Item) → All (λ (i : Item). ¬ (i.region ≡ region)) items → items_in region items ≡ []
items_in-none region [] all = refl
items_in-none region (i ∷ items) all =
    items_in-other region i items (All-head (λ (j : Item). ¬ (j.region ≡ region)) i items all)
    ∙ items_in-none region items (All-tail (λ (j : Item). ¬ (j.region ≡ region)) i items all)

-- what the items of a region give is what all give, where another region's give nothing
pub total-in : (entries : List Entry) (own : Label → Forest → ℕ) (region : ℕ) (items : List Item) → AreItems entries items
    → total (own_of own entries) (items_in region items) ≡ total (own_of (within region own) entries) items
total-in entries own region [] are = refl
total-in entries own region (i ∷ items) are = elim (cases_eq i.region region) [
  | inl is ↦
      ap (total (own_of own entries)) (items_in-here region i items is)
      ∙ ap (λ x. i.run.count * own_of own entries i.run.entry + x) (total-in entries own region items (All-tail (IsItem entries) i items are))
      ∙ ap (λ x. i.run.count * x + total (own_of (within region own) entries) items)
      (sym (cond-true (region_at entries i.run.entry == region) (own_of own entries i.run.entry) 0 (eq-eqb (region_at entries i.run.entry) region (sym this ∙ is))))
  | inr other ↦
      ap (total (own_of own entries)) (items_in-other region i items other)
      ∙ total-in entries own region items (All-tail (IsItem entries) i items are)
      ∙ nothing i.run.count (total (own_of (within region own) entries) items)
      ∙ ap (λ x. i.run.count * x + total (own_of (within region own) entries) items)
      (sym (cond-false (region_at entries i.run.entry == region) (own_of own entries i.run.entry) 0 (ne_eqb (region_at entries i.run.entry) region (λ same. other (this ∙ same)))))
]
  where
    this : i.region ≡ region_at entries i.run.entry
    this = (All-head (IsItem entries) i items are).region

    nothing : (c d : ℕ) → d ≡ c * 0 + d
    nothing c d = omega arith

-- items that stand in order, from a list that does not decrease
pub rise_of : (low : ℕ) (items : List Item) → ((d : Item) → 0 < length items → low ≤ (get_or items 0 d).region)
    → IsNonDecreasingBy (λ (i : Item). i.region) items → Rise low items
rise_of low [] least up = tt
rise_of low (i ∷ items) least up = (
  least i (omega arith),
  rise_of i.region items (λ d some. up 0 (suc 0) d (omega arith) (omega arith)) (λ a b d le lt. up (suc a) (suc b) d (omega arith) (omega arith)),
)

-- items that stand in order do so from their first region on
pub rise_first : (low : ℕ) (i : Item) (items : List Item) → Rise low (i ∷ items) → Rise i.region (i ∷ items)
rise_first low i items rise = (omega arith, rise.1)

-- what stands behind the items of the first region rises from the next one on
pub rise_behind : (region : ℕ) (group later : List Item) → All (λ (i : Item). i.region ≡ region) group → BeginsElsewhere region later
    → Rise region (group ++ later) → Rise (region + 1) later
rise_behind region [] [] same other rise = tt
rise_behind region [] (i ∷ later) same other rise = let low : region ≤ i.region = rise.0 in (next i.region low other, rise.1)
  where
    next : (n : ℕ) → region ≤ n → (n ≡ region → ⊥) → region + 1 ≤ n
    next n le ne = elim (cases_lt region n) [ inl lt ↦ omega arith | inr ge ↦ absurd (ne (omega arith)) ]
rise_behind region (i ∷ group) later same other rise =
    let here : i.region ≡ region = All-head (λ (j : Item). j.region ≡ region) i group same in
    rise_behind region group later (All-tail (λ (j : Item). j.region ≡ region) i group same) other (subst (λ low. Rise low (group ++ later)) here rise.1)

-- the parts of lists of which something holds
pub all_front : {X : Type 0} (P : X → Type 0) (xs ys : List X) → All P (xs ++ ys) → All P xs
all_front P [] ys all = All-nil P
all_front P (x ∷ xs) ys all = All-cons P x xs (All-head P x (xs ++ ys) all) (all_front P xs ys (All-tail P x (xs ++ ys) all))

pub all_back : {X : Type 0} (P : X → Type 0) (xs ys : List X) → All P (xs ++ ys) → All P ys
all_back P [] ys all = all
all_back P (x ∷ xs) ys all = all_back P xs ys (All-tail P x (xs ++ ys) all)

-- items have instances
pub total_some : (entries : List Entry) (items : List Item) → AreItems entries items → 0 < length items → 0 < total (λ n. 1) items
total_some entries [] are some = absurd (omega arith)
total_some entries (i ∷ items) are some = let count : 1 ≤ i.run.count = (All-head (IsItem entries) i items are).count in omega arith

-- entries that occur so often, in order of their regions, stand for the tree
pub items_of_tree : (entries : List Entry) (root : ℕ) (counts : List ℕ) (listed items : List Item) → root < length entries → AreCounts entries root counts
    → listed ≡ occurring entries 0 counts → IsPermutation listed items → Rise 0 items → AreItemsOf entries root items
items_of_tree entries root counts listed items lt counted is same rise = record {
  are = All-permutation (IsItem entries) listed items same
      (subst (AreItems entries) (sym is) (items-occurring entries 0 counts (let size : length counts ≡ root + 1 = counted.count in omega arith)));
  rise = rise;
  gives = λ own f add. total-permutation own listed items same ∙ ap (total own) is ∙ total-occurring entries own 0 counts ∙ counted.adds own f add;
}

-- items that rise from a number on are of no lower region
pub rise_all : (low : ℕ) (items : List Item) → Rise low items → All (λ (i : Item). low ≤ i.region) items
rise_all low [] rise = All-nil (λ (i : Item). low ≤ i.region)
rise_all low (i ∷ items) rise =
    let here : low ≤ i.region = rise.0 in
    All-cons (λ (j : Item). low ≤ j.region) i items here
    (All-weaker (λ (j : Item). i.region ≤ j.region) (λ (j : Item). low ≤ j.region) (λ j le. omega arith) items (rise_all i.region items rise.1))

-- the items of the first region at the front are some
pub front_some : (first : Item) (others front later rest : List Item) → rest ≡ first ∷ others → rest ≡ front ++ later → BeginsElsewhere first.region later → 0 < length front
front_some first others [] later rest begins split other = absurd (subst (λ l. BeginsElsewhere first.region l) (sym split ∙ begins) other refl)
front_some first others (i ∷ front) later rest begins split other = omega arith

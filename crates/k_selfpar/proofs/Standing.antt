-- The forests that items stand for.
use Rattle.std.proofs.Common.{◌≡◌, ℕ, zero, suc, ◌+◌, ◌*◌, ◌<◌, ◌≤◌, inl, inr, List, [], ◌∷◌, ◌++◌, length, get_or, set, map, Some, slice_get, refl, sym, ap, ◌∙◌, subst, arith, if◌then◌else◌, suc-mul, zero-add}
use Rattle.std.specs.Prelude.{All}
use Rattle.std.specs.List.Sorted.{IsPermutation}
use Rattle.std.proofs.Math.Nat.{mul-le-mul_right}
use Rattle.std.proofs.lemmas.Bool.{cases_eq, eq-eqb, ne_eqb}
use Rattle.std.proofs.lemmas.List.Edits.{swap_is}
use Rattle.std.proofs.lemmas.List.Elements.{All-cons, All-head, All-nil, All-tail}
use Rattle.std.proofs.lemmas.List.Sorted.{IsPermutation-keeps}
use Rattle.std.proofs.lemmas.Option.{slice_get-get_or}
use Rattle.k_dict_entries.specs.Trees.{Alike, Forest, Label, Tree, alone, bare, both, further, grown, size}
use Rattle.k_dict_entries.specs.Entries.{AreRuns, NameEarlier, copies, laid, no_tree, tree_at, trees_of}
use Rattle.k_dict_entries.specs.Rules.{AreProfile, NameRegions, entry_of, no_entry}
use Rattle.k_dict_entries.specs.Tallies.{counted, total as count_all}
use Rattle.k_dict_entries.specs.declared.entry.Entry.{Entry}
use Rattle.k_dict_entries.specs.declared.entry.Run.{Run}
use Rattle.k_dict_entries.proofs.Coding.{laid_counted}
use Rattle.k_dict_entries.proofs.Counting.{AreRuns-counted}
use Rattle.k_dict_entries.proofs.EntryTrees.{tree_is}
use Rattle.k_dict_entries.proofs.Forests.{Alike-refl, Alike-same, SameShape-refl, copies_alike}
use Rattle.k_selfpar.specs.declared.item.Item.{Item}
use Rattle.k_selfpar.specs.Contexts.{NoneBelow, inner_forest, chosen, others, with_beside}
use Rattle.k_selfpar.specs.Grouping.{item_for, standing, tallied}
use Rattle.k_selfpar.specs.Items.{AreItems, IsItem, Rise, items_in, total}
use Rattle.k_selfpar.specs.Sums.{one, outer, own_of}
use Rattle.k_selfpar.proofs.Besides.{with_beside_exchanged, with_beside_front, with_beside_right}
use Rattle.k_selfpar.proofs.ItemLists.{items_in-here, items_in-other}
use Rattle.k_selfpar.proofs.Profile.{Bounded, bounded_copies, bounded_tree}
use Rattle.k_selfpar.proofs.Under.{Names}

copies-add : (a b : ℕ) (t : Tree) (f : Forest) → copies (a + b) t f ≡ copies a t (copies b t f)
copies-add zero b t f = ap (λ n. copies n t f) (zero-add b)
copies-add (suc a) b t f =
    let sums : suc a + b ≡ suc (a + b) = omega arith in
    ap (λ n. copies n t f) sums ∙ ap (grown t.label t.inner) (copies-add a b t f)

-- copies of a tree may stand anywhere among others
beside_copies : (f : Forest) (n : ℕ) (t : Tree) (g : Forest) → Alike (with_beside f (copies n t g)) (copies n t (with_beside f g))
beside_copies f zero t g = Alike-refl (with_beside f g)
beside_copies f (suc n) t g =
    further (with_beside f (grown t.label t.inner (copies n t g))) (grown t.label t.inner (with_beside f (copies n t g))) (grown t.label t.inner (copies n t (with_beside f g)))
    (with_beside_front f t.label t.inner (copies n t g))
    (both t.label t.inner t.inner (with_beside f (copies n t g)) (copies n t (with_beside f g)) (Alike-refl t.inner) (beside_copies f n t g))

copies_beside : (n : ℕ) (t : Tree) (f g : Forest) → with_beside (copies n t f) g ≡ copies n t (with_beside f g)
copies_beside zero t f g = refl
copies_beside (suc n) t f g = ap (grown t.label t.inner) (copies_beside n t f g)

copies_same : (n : ℕ) (t : Tree) (f g : Forest) → Alike f g → Alike (copies n t f) (copies n t g)
copies_same n t f g are = copies_alike n t t f g (SameShape-refl t) are

pub copies_exchanged : (m : ℕ) (s : Tree) (n : ℕ) (t : Tree) (f : Forest) → Alike (copies m s (copies n t f)) (copies n t (copies m s f))
copies_exchanged m s n t f =
    subst (λ x. Alike x (copies n t (copies m s f))) (copies_beside m s bare (copies n t f))
    (subst (λ x. Alike (with_beside (copies m s bare) (copies n t f)) (copies n t x)) (copies_beside m s bare f) (beside_copies (copies m s bare) n t f))

-- so many times a forest, beside another
abbrev pub repeated : ℕ → Forest → Forest → Forest
repeated zero f g = g
repeated (suc n) f g = with_beside f (repeated n f g)

repeated_bare : (n : ℕ) (g : Forest) → repeated n bare g ≡ g
repeated_bare zero g = refl
repeated_bare (suc n) g = repeated_bare n g

repeated_right : (n : ℕ) (f g h : Forest) → Alike g h → Alike (repeated n f g) (repeated n f h)
repeated_right zero f g h are = are
repeated_right (suc n) f g h are = with_beside_right f (repeated n f g) (repeated n f h) (repeated_right n f g h are)

repeated_copies : (m : ℕ) (f : Forest) (n : ℕ) (t : Tree) (g : Forest) → Alike (repeated m f (copies n t g)) (copies n t (repeated m f g))
repeated_copies zero f n t g = Alike-refl (copies n t g)
repeated_copies (suc m) f n t g =
    further (with_beside f (repeated m f (copies n t g))) (with_beside f (copies n t (repeated m f g))) (copies n t (with_beside f (repeated m f g)))
    (with_beside_right f (repeated m f (copies n t g)) (copies n t (repeated m f g)) (repeated_copies m f n t g))
    (beside_copies f n t (repeated m f g))

-- so many times copies are as many copies in all
copies_in_all : (c k : ℕ) (t : Tree) (f g : Forest) → Alike (repeated c f (copies (c * k) t g)) (repeated c (copies k t f) g)
copies_in_all zero k t f g = Alike-same (copies (0 * k) t g) g (ap (λ n. copies n t g) (none k))
  where
    none : (k : ℕ) → 0 * k ≡ 0
    none k = omega arith
copies_in_all (suc c) k t f g =
    let here : Forest = with_beside f (repeated c f (copies (suc c * k) t g)) in
    let split : copies (suc c * k) t g ≡ copies k t (copies (c * k) t g) = ap (λ n. copies n t g) (sums c k) ∙ copies-add k (c * k) t g in
    let inner : Forest = repeated c f (copies (c * k) t g) in
    further here (with_beside f (copies k t inner)) (with_beside (copies k t f) (repeated c (copies k t f) g))
    (with_beside_right f (repeated c f (copies (suc c * k) t g)) (copies k t inner)
    (subst (λ x. Alike (repeated c f x) (copies k t inner)) (sym split) (repeated_copies c f k t (copies (c * k) t g))))
    (further (with_beside f (copies k t inner)) (copies k t (with_beside f inner)) (with_beside (copies k t f) (repeated c (copies k t f) g))
    (beside_copies f k t inner)
    (subst (λ x. Alike (copies k t (with_beside f inner)) x) (sym (copies_beside k t f (repeated c (copies k t f) g)))
    (copies_same k t (with_beside f inner) (with_beside f (repeated c (copies k t f) g))
    (with_beside_right f inner (repeated c (copies k t f) g) (copies_in_all c k t f g)))))
  where
    sums : (c k : ℕ) → suc c * k ≡ k + c * k
    sums c k = omega (arith, suc-mul c k)

-- runs with the children that so many instances have by others
pub laid_tallied : (trees : List Tree) (count : ℕ) (runs known : List Run)
    → Alike (laid trees (tallied count runs known)) (repeated count (laid trees runs) (laid trees known))
laid_tallied trees count [] known = Alike-same (laid trees known) (repeated count bare (laid trees known)) (sym (repeated_bare count (laid trees known)))
laid_tallied trees count (run ∷ runs) known =
    let t : Tree = get_or trees run.entry no_tree in
    let more : List Run = counted run.entry (count * run.count) known in
    further (laid trees (tallied count runs more)) (repeated count (laid trees runs) (laid trees more)) (repeated count (copies run.count t (laid trees runs)) (laid trees known))
    (laid_tallied trees count runs more)
    (further (repeated count (laid trees runs) (laid trees more)) (repeated count (laid trees runs) (copies (count * run.count) t (laid trees known)))
    (repeated count (copies run.count t (laid trees runs)) (laid trees known))
    (repeated_right count (laid trees runs) (laid trees more) (copies (count * run.count) t (laid trees known)) (laid_counted trees run.entry (count * run.count) known))
    (copies_in_all count run.count t (laid trees runs) (laid trees known)))

with_beside_assoc : (f g h : Forest) → with_beside (with_beside f g) h ≡ with_beside f (with_beside g h)
with_beside_assoc bare g h = refl
with_beside_assoc (grown x i l) g h = ap (grown x i) (with_beside_assoc l g h)

-- what is repeated beside one forest may be so beside another
pub repeated_moved : (n : ℕ) (f g h : Forest) → Alike (with_beside (repeated n f g) h) (with_beside g (repeated n f h))
repeated_moved zero f g h = Alike-refl (with_beside g h)
repeated_moved (suc n) f g h =
    subst (λ x. Alike x (with_beside g (with_beside f (repeated n f h)))) (sym (with_beside_assoc f (repeated n f g) h))
    (further (with_beside f (with_beside (repeated n f g) h)) (with_beside f (with_beside g (repeated n f h))) (with_beside g (with_beside f (repeated n f h)))
    (with_beside_right f (with_beside (repeated n f g) h) (with_beside g (repeated n f h)) (repeated_moved n f g h))
    (with_beside_exchanged f g (repeated n f h)))

pub beside-bare : (f : Forest) → with_beside f bare ≡ f
beside-bare bare = refl
beside-bare (grown x i l) = ap (grown x i) (beside-bare l)

-- the children of copies
pub children-copies : (n : ℕ) (t : Tree) (f : Forest) → inner_forest (copies n t f) ≡ repeated n t.inner (inner_forest f)
children-copies zero t f = refl
children-copies (suc n) t f = ap (with_beside t.inner) (children-copies n t f)

-- how many trees there are
pub outer-copies : (own : Label → Forest → ℕ) (n : ℕ) (t : Tree) (f : Forest) → outer own (copies n t f) ≡ n * own t.label t.inner + outer own f
outer-copies own zero t f = omega arith
outer-copies own (suc n) t f = more (own t.label t.inner) n (outer own (copies n t f)) (outer own f) (outer-copies own n t f)
  where
    more : (x n c l : ℕ) → c ≡ n * x + l → x + c ≡ suc n * x + l
    more x n c l e = omega (arith, e, suc-mul n x)

pub count-laid : (trees : List Tree) (runs : List Run) → outer one (laid trees runs) ≡ count_all runs
count-laid trees [] = refl
count-laid trees (run ∷ runs) =
    let a = outer-copies one run.count (get_or trees run.entry no_tree) (laid trees runs) in let b = count-laid trees runs in omega arith

pub count-beside : (f g : Forest) → outer one (with_beside f g) ≡ outer one f + outer one g
count-beside bare g = omega arith
count-beside (grown x i l) g = let rest = count-beside l g in omega arith

pub count-repeated : (n : ℕ) (f g : Forest) → outer one (repeated n f g) ≡ n * outer one f + outer one g
count-repeated zero f g = omega arith
count-repeated (suc n) f g =
    let a = count-beside f (repeated n f g) in let b = count-repeated n f g in omega (arith, a, b, suc-mul n (outer one f))

-- runs that are tallied are runs of entries
pub runs-tallied : (high count low : ℕ) (runs known : List Run) → 1 ≤ count → AreRuns low high runs → AreRuns 0 high known → AreRuns 0 high (tallied count runs known)
runs-tallied high count low [] known some are known_are = known_are
runs-tallied high count low (run ∷ runs) known some are known_are =
    let one_run : 1 ≤ run.count = are.2 in
    let product : 1 * run.count ≤ count * run.count = mul-le-mul_right run.count some in
    runs-tallied high count (run.entry + 1) runs (counted run.entry (count * run.count) known) some are.3
    (AreRuns-counted 0 high run.entry (count * run.count) known (omega arith) are.1 (omega arith) known_are)

-- items of runs
pub standing-runs : (entries : List Entry) (runs : List Run) → standing entries (map (item_for entries) runs) ≡ laid (trees_of entries) runs
standing-runs entries [] = refl
standing-runs entries (run ∷ runs) = ap (copies run.count (tree_at entries run.entry)) (standing-runs entries runs)

pub items-runs : (entries : List Entry) (low : ℕ) (runs : List Run) → AreRuns low (length entries) runs → AreItems entries (map (item_for entries) runs)
items-runs entries low [] are = All-nil (IsItem entries)
items-runs entries low (run ∷ runs) are =
    All-cons (IsItem entries) (item_for entries run) (map (item_for entries) runs) (record { entry = are.1; region = refl; count = are.2 })
    (items-runs entries (run.entry + 1) runs are.3)

-- items in another order stand for the same trees in another order
module _ (entries : List Entry) where
  item_exchanged : (x y : Item) (items : List Item) → Alike (standing entries (x ∷ y ∷ items)) (standing entries (y ∷ x ∷ items))
  item_exchanged x y items =
      copies_exchanged x.run.count (tree_at entries x.run.entry) y.run.count (tree_at entries y.run.entry) (standing entries items)

  item_kept : (x : Item) (xs ys : List Item) → Alike (standing entries xs) (standing entries ys) → Alike (standing entries (x ∷ xs)) (standing entries (x ∷ ys))
  item_kept x xs ys are = copies_same x.run.count (tree_at entries x.run.entry) (standing entries xs) (standing entries ys) are

  first_moved : (xs : List Item) (j : ℕ) (x d : Item) → j < length xs → Alike (standing entries (get_or xs j d ∷ set xs j x)) (standing entries (x ∷ xs))
  first_moved [] j x d lt = absurd (omega arith)
  first_moved (z ∷ zs) zero x d lt = item_exchanged z x zs
  first_moved (z ∷ zs) (suc j) x d lt =
      let g : Item = get_or zs j d in
      further (standing entries (g ∷ z ∷ set zs j x)) (standing entries (z ∷ g ∷ set zs j x)) (standing entries (x ∷ z ∷ zs))
      (item_exchanged g z (set zs j x))
      (further (standing entries (z ∷ g ∷ set zs j x)) (standing entries (z ∷ x ∷ zs)) (standing entries (x ∷ z ∷ zs))
      (item_kept z (g ∷ set zs j x) (x ∷ zs) (first_moved zs j x d (omega arith)))
      (item_exchanged z x zs))

  two_moved : (xs : List Item) (i j : ℕ) (d : Item) → i < length xs → j < length xs
      → Alike (standing entries (set (set xs i (get_or xs j d)) j (get_or xs i d))) (standing entries xs)
  two_moved [] i j d p q = absurd (omega arith)
  two_moved (x ∷ xs) zero zero d p q = Alike-refl (standing entries (x ∷ xs))
  two_moved (x ∷ xs) zero (suc j) d p q = first_moved xs j x d (omega arith)
  two_moved (x ∷ xs) (suc i) zero d p q = first_moved xs i x d (omega arith)
  two_moved (x ∷ xs) (suc i) (suc j) d p q =
      item_kept x (set (set xs i (get_or xs j d)) j (get_or xs i d)) xs (two_moved xs i j d (omega arith) (omega arith))

  no_item : Item
  no_item = record { region = 0; run = record { entry = 0; count = 0 } }

  pub standing-permutation : (xs ys : List Item) → IsPermutation xs ys → Alike (standing entries ys) (standing entries xs)
  standing-permutation xs ys same =
      IsPermutation-keeps xs (λ l. Alike (standing entries l) (standing entries xs)) (Alike-refl (standing entries xs))
      (λ l i j p q are. subst (λ m. Alike (standing entries m) (standing entries xs)) (swap_is l i j no_item p q)
      (further (standing entries (set (set l i (get_or l j no_item)) j (get_or l i no_item))) (standing entries l) (standing entries xs)
      (two_moved l i j no_item p q) are)) ys same

-- the trees of one region
chosen-copies-same : (region n : ℕ) (t : Tree) (f : Forest) → t.label.region ≡ region → chosen region (copies n t f) ≡ copies n t (chosen region f)
chosen-copies-same region zero t f is = refl
chosen-copies-same region (suc n) t f is =
    ap (λ b. if b then grown t.label t.inner (chosen region (copies n t f)) else chosen region (copies n t f)) (eq-eqb t.label.region region is)
    ∙ ap (grown t.label t.inner) (chosen-copies-same region n t f is)

chosen-copies-other : (region n : ℕ) (t : Tree) (f : Forest) → ¬ (t.label.region ≡ region) → chosen region (copies n t f) ≡ chosen region f
chosen-copies-other region zero t f other = refl
chosen-copies-other region (suc n) t f other =
    ap (λ b. if b then grown t.label t.inner (chosen region (copies n t f)) else chosen region (copies n t f)) (ne_eqb t.label.region region other)
    ∙ chosen-copies-other region n t f other

others-copies-same : (region n : ℕ) (t : Tree) (f : Forest) → t.label.region ≡ region → others region (copies n t f) ≡ others region f
others-copies-same region zero t f is = refl
others-copies-same region (suc n) t f is =
    ap (λ b. if b then others region (copies n t f) else grown t.label t.inner (others region (copies n t f))) (eq-eqb t.label.region region is)
    ∙ others-copies-same region n t f is

others-copies-other : (region n : ℕ) (t : Tree) (f : Forest) → ¬ (t.label.region ≡ region) → others region (copies n t f) ≡ copies n t (others region f)
others-copies-other region zero t f other = refl
others-copies-other region (suc n) t f other =
    ap (λ b. if b then others region (copies n t f) else grown t.label t.inner (others region (copies n t f))) (ne_eqb t.label.region region other)
    ∙ ap (grown t.label t.inner) (others-copies-other region n t f other)

module _ (entries : List Entry) (region : ℕ) where
  region_of : (i : Item) (items : List Item) → AreItems entries (i ∷ items) → i.region ≡ (tree_at entries i.run.entry).label.region
  region_of i items are = (All-head (IsItem entries) i items are).region

  pub chosen-standing : (items : List Item) → AreItems entries items → chosen region (standing entries items) ≡ standing entries (items_in region items)
  chosen-standing [] are = refl
  chosen-standing (i ∷ items) are = elim (cases_eq i.region region) [
    | inl is ↦
        chosen-copies-same region i.run.count (tree_at entries i.run.entry) (standing entries items) (sym (region_of i items are) ∙ is)
        ∙ ap (copies i.run.count (tree_at entries i.run.entry)) (chosen-standing items (All-tail (IsItem entries) i items are))
        ∙ ap (standing entries) (sym (items_in-here region i items is))
    | inr other ↦
        chosen-copies-other region i.run.count (tree_at entries i.run.entry) (standing entries items) (λ same. other (region_of i items are ∙ same))
        ∙ chosen-standing items (All-tail (IsItem entries) i items are)
        ∙ ap (standing entries) (sym (items_in-other region i items other))
  ]

  others-none : (items : List Item) → AreItems entries items → All (λ (i : Item). ¬ (i.region ≡ region)) items → others region (standing entries items) ≡ standing entries items
  others-none [] are none = refl
  others-none (i ∷ items) are none =
      others-copies-other region i.run.count (tree_at entries i.run.entry) (standing entries items)
      (λ same. All-head (λ (j : Item). ¬ (j.region ≡ region)) i items none (region_of i items are ∙ same))
      ∙ ap (copies i.run.count (tree_at entries i.run.entry))
      (others-none items (All-tail (IsItem entries) i items are) (All-tail (λ (j : Item). ¬ (j.region ≡ region)) i items none))

  pub others-standing : (group later : List Item) → AreItems entries (group ++ later) → All (λ (i : Item). i.region ≡ region) group
      → All (λ (i : Item). ¬ (i.region ≡ region)) later → others region (standing entries (group ++ later)) ≡ standing entries later
  others-standing [] later are same none = others-none later are none
  others-standing (i ∷ group) later are same none =
      others-copies-same region i.run.count (tree_at entries i.run.entry) (standing entries (group ++ later))
      (sym (region_of i (group ++ later) are) ∙ All-head (λ (j : Item). j.region ≡ region) i group same)
      ∙ others-standing group later (All-tail (IsItem entries) i (group ++ later) are) (All-tail (λ (j : Item). j.region ≡ region) i group same) none

  none_below_copies : (n : ℕ) (t : Tree) (f : Forest) → region ≤ t.label.region → NoneBelow region f → NoneBelow region (copies n t f)
  none_below_copies zero t f le none = none
  none_below_copies (suc n) t f le none = (le, none_below_copies n t f le none)

  pub none_below : (low : ℕ) (items : List Item) → region ≤ low → AreItems entries items → Rise low items → NoneBelow region (standing entries items)
  none_below low [] le are rise = tt
  none_below low (i ∷ items) le are rise =
      let here : i.region ≡ (tree_at entries i.run.entry).label.region = region_of i items are in
      let up : low ≤ i.region = rise.0 in
      none_below_copies i.run.count (tree_at entries i.run.entry) (standing entries items) (omega arith)
      (none_below i.region items (omega arith) (All-tail (IsItem entries) i items are) rise.1)

-- what the trees of items give
pub outer-standing : (own : Label → Forest → ℕ) (entries : List Entry) (items : List Item) → outer own (standing entries items) ≡ total (own_of own entries) items
outer-standing own entries [] = refl
outer-standing own entries (i ∷ items) =
    outer-copies own i.run.count (tree_at entries i.run.entry) (standing entries items)
    ∙ ap (λ x. i.run.count * own_of own entries i.run.entry + x) (outer-standing own entries items)

size-copies : (n : ℕ) (t : Tree) (f : Forest) → size (copies n t f) ≡ n * (1 + size t.inner) + size f
size-copies zero t f = omega arith
size-copies (suc n) t f = more (1 + size t.inner) n (size (copies n t f)) (size f) (size-copies n t f)
  where
    more : (x n c l : ℕ) → c ≡ n * x + l → x + c ≡ suc n * x + l
    more x n c l e = omega (arith, e, suc-mul n x)

-- how many instances there are within each
abbrev pub size_at : List Entry → ℕ → ℕ
size_at entries n = 1 + size (tree_at entries n).inner

pub size-standing : (entries : List Entry) (items : List Item) → size (standing entries items) ≡ total (size_at entries) items
size-standing entries [] = refl
size-standing entries (i ∷ items) =
    size-copies i.run.count (tree_at entries i.run.entry) (standing entries items)
    ∙ ap (λ x. i.run.count * size_at entries i.run.entry + x) (size-standing entries items)

-- the trees of items are bounded, and name regions
pub bounded_standing : (entries : List Entry) → AreProfile entries → (items : List Item) → AreItems entries items → Bounded (standing entries items)
bounded_standing entries profile [] are = tt
bounded_standing entries profile (i ∷ items) are =
    bounded_copies i.run.count (tree_at entries i.run.entry) (standing entries items)
    (bounded_tree entries profile.interned.earlier profile.numbers i.run.entry (All-head (IsItem entries) i items are).entry)
    (bounded_standing entries profile items (All-tail (IsItem entries) i items are))

names_copies : (count n : ℕ) (t : Tree) (f : Forest) → Names count (alone t) → Names count f → Names count (copies n t f)
names_copies count zero t f names rest = rest
names_copies count (suc n) t f names rest = (names.0, names.1, names_copies count n t f names rest)

names_laid : (count : ℕ) (trees : List Tree) (low high : ℕ) (runs : List Run) → AreRuns low high runs
    → ((m : ℕ) → m < high → Names count (alone (get_or trees m no_tree))) → Names count (laid trees runs)
names_laid count trees low high [] are each = tt
names_laid count trees low high (run ∷ runs) are each =
    names_copies count run.count (get_or trees run.entry no_tree) (laid trees runs) (each run.entry are.1)
    (names_laid count trees (run.entry + 1) high runs are.3 each)

names_below : (entries : List Entry) → NameEarlier entries → (count : ℕ) → NameRegions count entries → (bound n : ℕ) → n < bound → n < length entries
    → Names count (alone (tree_at entries n))
names_below entries earlier count names zero n less lt = absurd (omega arith)
names_below entries earlier count names (suc bound) n less lt =
    let e : Entry = entry_of entries n in
    let at : slice_get entries n ≡ Some e = slice_get-get_or entries n no_entry lt in
    subst (λ (t : Tree). Names count (alone t)) (sym (tree_is entries n e at (earlier n e at))) (
      names n e at,
      names_laid count (trees_of entries) 0 n e.runs (earlier n e at) (λ m before. names_below entries earlier count names bound m (omega arith) (omega arith)),
      tt,
    )

pub names_standing : (entries : List Entry) → NameEarlier entries → (count : ℕ) → NameRegions count entries → (items : List Item) → AreItems entries items
    → Names count (standing entries items)
names_standing entries earlier count names [] are = tt
names_standing entries earlier count names (i ∷ items) are =
    let lt : i.run.entry < length entries = (All-head (IsItem entries) i items are).entry in
    names_copies count i.run.count (tree_at entries i.run.entry) (standing entries items)
    (names_below entries earlier count names (suc i.run.entry) i.run.entry (omega arith) lt)
    (names_standing entries earlier count names items (All-tail (IsItem entries) i items are))

-- items behind others stand for trees beside theirs
pub standing-append : (entries : List Entry) (xs ys : List Item) → standing entries (xs ++ ys) ≡ with_beside (standing entries xs) (standing entries ys)
standing-append entries [] ys = refl
standing-append entries (i ∷ xs) ys =
    ap (copies i.run.count (tree_at entries i.run.entry)) (standing-append entries xs ys)
    ∙ sym (copies_beside i.run.count (tree_at entries i.run.entry) (standing entries xs) (standing entries ys))

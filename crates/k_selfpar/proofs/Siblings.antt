-- Rows and contexts do not depend on the order of siblings, and a tree has one list of each.
use Rattle.std.proofs.Common.{◌≡◌, ℕ, zero, suc, ◌+◌, ◌<◌, ◌≤◌, ◌==◌, List, [], ◌∷◌, length, Some, slice_get, refl, sym, ap, ◌∙◌, subst, arith, if◌then◌else◌}
use Rattle.std.proofs.lemmas.Option.{none-some, same_Some}
use Rattle.k_optab.specs.declared.node.Node.{Node}
use Rattle.k_optab.specs.Meaning.{paths, serial_of, works}
use Rattle.k_dict_entries.specs.Trees.{Alike, Forest, Label, SameShape, Tree, alone, bare, both, exchanged, further, list_of, neither}
use Rattle.k_dict_entries.proofs.Forests.{grown_alike}
use Rattle.k_dict_entries.proofs.Lists.{same_tree}
use Rattle.k_selfpar.specs.Contexts.{AreUnder}
use Rattle.k_selfpar.specs.Laws.{ContextsAreUnique, ContextsForgetOrder, RowsAreUnique, RowsForgetOrder}
use Rattle.k_selfpar.specs.Ratio.{IsRatio}
use Rattle.k_selfpar.specs.Rows.{AreRows, IsRow, of_region}
use Rattle.k_selfpar.specs.Sums.{one, path, serial_in, sum_of, within, work}
use Rattle.k_selfpar.specs.declared.row.Row.{Row}
use Rattle.k_selfpar.proofs.Besides.{serial_same}
use Rattle.k_selfpar.proofs.Listed.{instances_are, paths_are, serials_are, works_are}
use Rattle.k_selfpar.proofs.Lowest.{one_ratio}
use Rattle.k_selfpar.proofs.Under.{one_list, under_alike}

-- what the instances of alike forests give is the same, where alike children change nothing
sum_alike : (own : Label → Forest → ℕ) → ((x : Label) (i j : Forest) → Alike i j → own x i ≡ own x j) → (f g : Forest) → Alike f g → sum_of own f ≡ sum_of own g
sum_alike own same _ _ neither = let P : sum_of own bare ≡ sum_of own bare = refl in P
sum_alike own same _ _ (both x i i' l l' inner later) =
    let a = same x i i' inner in let b = sum_alike own same i i' inner in let c = sum_alike own same l l' later in omega arith
sum_alike own same _ _ (exchanged x y i j l) = turned (own x i) (sum_of own i) (own y j) (sum_of own j) (sum_of own l)
  where
    turned : (a b c d e : ℕ) → a + (b + (c + (d + e))) ≡ c + (d + (a + (b + e)))
    turned a b c d e = omega arith
sum_alike own same _ _ (further f g h first second) = sum_alike own same f g first ∙ sum_alike own same g h second

within_alike : (region : ℕ) (own : Label → Forest → ℕ) → ((x : Label) (i j : Forest) → Alike i j → own x i ≡ own x j) → (f g : Forest) → Alike f g
    → sum_of (within region own) f ≡ sum_of (within region own) g
within_alike region own same =
    sum_alike (within region own) (λ x i j are. ap (λ n. if x.region == region then n else 0) (same x i j are))

-- the numbers of a region in trees of one shape
module _ (s t : Tree) (same : SameShape s t) (region : ℕ) where
  are : Alike (alone s) (alone t)
  are = grown_alike s t bare bare same neither

  instances_same : length (of_region region (list_of s)) ≡ length (of_region region (list_of t))
  instances_same = instances_are region s ∙ within_alike region one (λ x i j a. refl) (alone s) (alone t) are ∙ sym (instances_are region t)

  works_same : works (of_region region (list_of s)) ≡ works (of_region region (list_of t))
  works_same = works_are region s ∙ within_alike region work (λ x i j a. refl) (alone s) (alone t) are ∙ sym (works_are region t)

  paths_same : paths (of_region region (list_of s)) ≡ paths (of_region region (list_of t))
  paths_same = paths_are region s ∙ within_alike region path (λ x i j a. refl) (alone s) (alone t) are ∙ sym (paths_are region t)

  serials_same : serial_of region (list_of s) ≡ serial_of region (list_of t)
  serials_same = serials_are region s ∙ within_alike region serial_in serial_same (alone s) (alone t) are ∙ sym (serials_are region t)

row_same : (s t : Tree) → SameShape s t → (row : Row) → IsRow (list_of s) row → IsRow (list_of t) row
row_same s t same row is = record {
  some = is.some;
  instances = is.instances ∙ instances_same s t same row.region;
  work = is.work ∙ works_same s t same row.region;
  path = is.path ∙ paths_same s t same row.region;
  sp = subst (λ n. IsRatio n (paths (of_region row.region (list_of t))) row.sp.0 row.sp.1) (serials_same s t same row.region)
      (subst (λ n. IsRatio (serial_of row.region (list_of s)) n row.sp.0 row.sp.1) (paths_same s t same row.region) is.sp);
}

rows_same : (s t : Tree) → SameShape s t → (rows : List Row) → AreRows (list_of s) rows → AreRows (list_of t) rows
rows_same s t same rows are = record {
  each = λ k row at. row_same s t same row (are.each k row at);
  whole = λ region some. are.whole region (subst (λ n. 0 < n) (sym (instances_same s t same region)) some);
  order = are.order;
}

pub rows_forget_order : RowsForgetOrder
rows_forget_order one_nodes other_nodes rows alike are =
    subst (λ (l : List Node). AreRows l rows) (sym alike.3)
    (rows_same alike.0 alike.1 alike.4 rows (subst (λ (l : List Node). AreRows l rows) alike.2 are))

pub contexts_forget_order : ContextsForgetOrder
contexts_forget_order regions one_nodes other_nodes contexts alike are =
    let s : Tree = alike.0 in
    let t : Tree = alike.1 in
    let is : are.0 ≡ s = same_tree are.0 s (sym are.1 ∙ alike.2) in (
      t,
      alike.3,
      under_alike regions 0 0 (alone s) (alone t) contexts (subst (λ (u : Tree). AreUnder regions 0 0 (alone u) contexts) is are.2)
          (grown_alike s t bare bare alike.4 neither),
    )

pub contexts_are_unique : ContextsAreUnique
contexts_are_unique regions nodes cs ds one_is other_is =
    let is : other_is.0 ≡ one_is.0 = same_tree other_is.0 one_is.0 (sym other_is.1 ∙ one_is.1) in
    one_list regions 0 0 (alone one_is.0) cs ds one_is.2 (subst (λ (u : Tree). AreUnder regions 0 0 (alone u) ds) is other_is.2)

-- there is one row of a region
one_row : (nodes : List Node) (a b : Row) → a.region ≡ b.region → IsRow nodes a → IsRow nodes b → a ≡ b
one_row nodes a b same is also = λ i. record {
  region = same i;
  instances = (is.instances ∙ ap (λ r. length (of_region r nodes)) same ∙ sym also.instances) i;
  work = (is.work ∙ ap (λ r. works (of_region r nodes)) same ∙ sym also.work) i;
  path = (is.path ∙ ap (λ r. paths (of_region r nodes)) same ∙ sym also.path) i;
  sp = (sp.0 i, sp.1 i);
}
  where
    sp : (a.sp.0 ≡ b.sp.0) × (a.sp.1 ≡ b.sp.1)
    sp =
        one_ratio (serial_of b.region nodes) (paths (of_region b.region nodes)) a.sp.0 a.sp.1 b.sp.0 b.sp.1
        (subst (λ r. IsRatio (serial_of r nodes) (paths (of_region r nodes)) a.sp.0 a.sp.1) same is.sp) also.sp

-- rows that rise, where each is one of the others, are these
abbrev Rises : List Row → Type 0
Rises rows = (j k : ℕ) (a b : Row) → j < k → slice_get rows j ≡ Some a → slice_get rows k ≡ Some b → a.region < b.region

abbrev AreAmong : List Row → List Row → Type 0
AreAmong some all = (k : ℕ) (row : Row) → slice_get some k ≡ Some row → (n : ℕ) × (slice_get all n ≡ Some row)

rises_tail : (a : Row) (rows : List Row) → Rises (a ∷ rows) → Rises rows
rises_tail a rows rise = λ j k x y lt at also. rise (suc j) (suc k) x y (omega arith) at also

first_least : (a : Row) (rows : List Row) → Rises (a ∷ rows) → (n : ℕ) (row : Row) → slice_get (a ∷ rows) n ≡ Some row → a.region ≤ row.region
first_least a rows rise zero row at = let e : a.region ≡ row.region = ap (λ (r : Row). r.region) (same_Some a row at) in omega arith
first_least a rows rise (suc n) row at = let lt : a.region < row.region = rise 0 (suc n) a row (omega arith) refl at in omega arith

-- without the first of both
among_tail : (a b : Row) (rows others : List Row) → a ≡ b → Rises (a ∷ rows) → AreAmong (a ∷ rows) (b ∷ others) → AreAmong rows others
among_tail a b rows others same rise among k row at = by (among (suc k) row at)
  where
    by : (n : ℕ) × (slice_get (b ∷ others) n ≡ Some row) → (n : ℕ) × (slice_get others n ≡ Some row)
    by (zero, first) =
        absurd (let lt : a.region < row.region = rise 0 (suc k) a row (omega arith) refl at in
        let e : b.region ≡ row.region = ap (λ (r : Row). r.region) (same_Some b row first) in
        let f : a.region ≡ b.region = ap (λ (r : Row). r.region) same in omega arith)
    by (suc n, there) = (n, there)

same_rows : (rows others : List Row) → Rises rows → Rises others → AreAmong rows others → AreAmong others rows
    → ((a b : Row) (j k : ℕ) → slice_get rows j ≡ Some a → slice_get others k ≡ Some b → a.region ≡ b.region → a ≡ b) → rows ≡ others
same_rows [] [] rise also among back one_each = refl
same_rows [] (b ∷ others) rise also among back one_each = absurd (none-some b (back 0 b refl).1)
same_rows (a ∷ rows) [] rise also among back one_each = absurd (none-some a (among 0 a refl).1)
same_rows (a ∷ rows) (b ∷ others) rise also among back one_each =
    let there = among 0 a refl in
    let here = back 0 b refl in
    let one_way : b.region ≤ a.region = first_least b others also there.0 a there.1 in
    let other_way : a.region ≤ b.region = first_least a rows rise here.0 b here.1 in
    let first : a ≡ b = one_each a b 0 0 refl refl (omega arith) in
    λ i. first i ∷ same_rows rows others (rises_tail a rows rise) (rises_tail b others also) (among_tail a b rows others first rise among)
    (among_tail b a others rows (sym first) also back) (λ x y j k at is. one_each x y (suc j) (suc k) at is) i

rows_among : (nodes : List Node) (some all : List Row) → AreRows nodes some → AreRows nodes all → AreAmong some all
rows_among nodes some all are also k row at =
    let is : IsRow nodes row = are.each k row at in
    let found = also.whole row.region (subst (λ n. 0 < n) is.instances is.some) in
    (found.0, subst (λ (r : Row). slice_get all found.0 ≡ Some r) (one_row nodes found.1 row found.3 (also.each found.0 found.1 found.2) is) found.2)

pub rows_are_unique : RowsAreUnique
rows_are_unique nodes rows others are also =
    same_rows rows others are.order also.order (rows_among nodes rows others are also) (rows_among nodes others rows also are)
    (λ a b j k at is same. one_row nodes a b same (are.each j a at) (also.each k b is))

-- The rows and the contexts of runs.
use Rattle.std.proofs.Common.{◌≡◌, ℕ, zero, suc, ◌+◌, ◌*◌, ◌^◌, ◌<◌, ◌≤◌, inl, inr, ◌==◌, List, [], ◌∷◌, ◌++◌, length, map, Ok, Err, refl, sym, ap, ◌∙◌, subst, append-nil, arith, if◌then◌else◌}
use Rattle.std.proofs.Math.Nat.{mul-le-mul_right}
use Rattle.std.proofs.lemmas.Bool.{cases_eq, eq-eqb, ne_eqb}
use Rattle.std.proofs.lemmas.List.Elements.{All-filter}
use Rattle.k_optab.specs.Meaning.{paths, serial_of, works}
use Rattle.k_optab.specs.declared.region.Region.{Region}
use Rattle.k_dict_entries.specs.Entries.{AreRuns, NameEarlier, copies, tree_at, trees_of}
use Rattle.k_dict_entries.specs.Rules.{AreProfile, child_works, entry_of}
use Rattle.k_dict_entries.specs.Trees.{Alike, Forest, Label, Tree, alone, bare, grown, height, nodes_of, size}
use Rattle.k_dict_entries.specs.declared.entry.Entry.{Entry}
use Rattle.k_dict_entries.specs.declared.entry.Run.{Run}
use Rattle.k_selfpar.specs.Contexts.{AreUnder, ContextsAreAtLeastOne, chosen, count_in, others}
use Rattle.k_selfpar.specs.Counts.{weighed}
use Rattle.k_selfpar.specs.Grouping.{AddsContexts, Fits, item_for, standing}
use Rattle.k_selfpar.specs.Items.{AreItems, AreRowsOf, IsItem, IsRowOf, Rise, items_in, total, totals}
use Rattle.k_selfpar.specs.Nested.{CanPlan}
use Rattle.k_selfpar.specs.Ratio.{IsRatio}
use Rattle.k_selfpar.specs.Rows.{AreAtLeastOne, AreRows, IsRow, of_region}
use Rattle.k_selfpar.specs.Sums.{AreSmall, all_of, one, outer, outer_works, own_of, path, serial_in, sum_of, within, work, work_at}
use Rattle.k_selfpar.specs.declared.context.Context.{Context}
use Rattle.k_selfpar.specs.declared.context.ContextFault.{ContextFault}
use Rattle.k_selfpar.specs.declared.context.ContextFault.TheVariants.{Wide, Memory}
use Rattle.k_selfpar.specs.declared.item.Item.{Item}
use Rattle.k_selfpar.specs.declared.row.Row.{Row}
use Rattle.k_selfpar.proofs.Besides.{serial_same}
use Rattle.k_selfpar.proofs.Giving.{outer_works-laid, sums_add}
use Rattle.k_selfpar.proofs.ItemLists.{total-in, total_some}
use Rattle.k_selfpar.proofs.Listed.{gross_is_sum, length_is_gross, serial_of_forest, sum_is_gross}
use Rattle.k_selfpar.proofs.Nested.{forest_can_be_planned}
use Rattle.k_profile_trees.proofs.Labels.{label_is}
use Rattle.k_selfpar.proofs.Profile.{Bounded, count_is_size, paths_limit, serial_limit, works_limit}
use Rattle.k_selfpar.proofs.Rowed.{ratio_at_least_one, within_less}
use Rattle.k_selfpar.proofs.Standing.{bounded_standing, count-laid, items-runs, standing-runs}
use Rattle.k_selfpar.proofs.Under.{one_list, under_alike, under_at_least_one}
use Rattle.k_sum.specs.Laws.{forest_of, together}
use Rattle.k_sum.specs.Sums.{both}
use Rattle.k_sum.specs.declared.sum.Sum.{Sum}
use Rattle.k_sum.proofs.Meaning.{both_tell_of_all}
use Rattle.k_sum_rows.specs.Laws.{ContextsAreOne, ContextsForgetOrder, OneRunIsItsTree, RowsAddUp, RowsForgetOrder, root_of}
use Rattle.k_sum_rows.specs.Runs.{AreItemsOfRuns, AreRunRoots, GivesRunContexts, run_trees}
use Rattle.k_sum_rows.proofs.Forests.{gives_trees, sum_together, within_alike}
use Rattle.k_sum_saved.specs.SumLines.{AreOfOneRegion, AreOfRegion}
use Rattle.k_sum_saved.specs.SumRules.{IsSum}

-- ---- the nodes of trees side by side

instances_are : (region : ℕ) (f : Forest) → length (of_region region (nodes_of 0 f)) ≡ sum_of (within region one) f
instances_are region f = length_is_gross region (nodes_of 0 f) ∙ gross_is_sum region (λ n. 1) (λ l. 1) (λ d l. refl) f 0

works_are : (region : ℕ) (f : Forest) → works (of_region region (nodes_of 0 f)) ≡ sum_of (within region work) f
works_are region f = sum_is_gross region (λ n. n.work) (nodes_of 0 f) ∙ gross_is_sum region (λ n. n.work) (λ l. l.work) (λ d l. refl) f 0

paths_are : (region : ℕ) (f : Forest) → paths (of_region region (nodes_of 0 f)) ≡ sum_of (within region path) f
paths_are region f = sum_is_gross region (λ n. n.path) (nodes_of 0 f) ∙ gross_is_sum region (λ n. n.path) (λ l. l.path) (λ d l. refl) f 0

serials_are : (region : ℕ) (f : Forest) → serial_of region (nodes_of 0 f) ≡ sum_of (within region serial_in) f
serials_are region f =
    ap (λ l. serial_of region l) (sym (append-nil (nodes_of 0 f))) ∙ serial_of_forest region f 0 [] tt ∙ nothing (sum_of (within region serial_in) f)
  where
    nothing : (x : ℕ) → x + 0 ≡ x
    nothing x = omega arith

-- ---- rows

-- what the items of a region give is what the instances of that region give
module _ (entries : List Entry) (roots : List Run) (earlier : NameEarlier entries) (items : List Item) (of : AreItemsOfRuns entries roots items) where
  abbrev trees : Forest
  trees = run_trees entries roots

  pub tells_all : (own : Label → Forest → ℕ) → total (own_of own entries) items ≡ sum_of own trees
  tells_all own = of.gives (own_of own entries) (all_of own entries) (sums_add own entries earlier) ∙ sym (gives_trees own entries roots)

  tells : (own : Label → Forest → ℕ) (region : ℕ) → total (own_of own entries) (items_in region items) ≡ sum_of (within region own) trees
  tells own region = total-in entries own region items of.are ∙ tells_all (within region own)

  items_in_items : (region : ℕ) → AreItems entries (items_in region items)
  items_in_items region = All-filter (λ (i : Item). i.region == region) (IsItem entries) items of.are

  row_tells : (row : Row) → IsRowOf row.region (totals entries (items_in row.region items)) row → 0 < length (items_in row.region items) → IsRow (nodes_of 0 trees) row
  row_tells row is occurs = record {
    some = subst (λ n. 0 < n) (sym is.instances) (total_some entries (items_in row.region items) (items_in_items row.region) occurs);
    instances = is.instances ∙ tells one row.region ∙ sym (instances_are row.region trees);
    work = is.work ∙ tells work row.region ∙ sym (works_are row.region trees);
    path = is.path ∙ path_tells;
    sp = subst (λ x. IsRatio x (paths (of_region row.region (nodes_of 0 trees))) row.sp.0 row.sp.1) serial_tells
        (subst (λ x. IsRatio (total (own_of serial_in entries) (items_in row.region items)) x row.sp.0 row.sp.1) path_tells is.sp);
  }
    where
      path_tells : total (own_of path entries) (items_in row.region items) ≡ paths (of_region row.region (nodes_of 0 trees))
      path_tells = tells path row.region ∙ sym (paths_are row.region trees)

      serial_tells : total (own_of serial_in entries) (items_in row.region items) ≡ serial_of row.region (nodes_of 0 trees)
      serial_tells = tells serial_in row.region ∙ sym (serials_are row.region trees)

  pub rows_tell : (rows : List Row) → AreRowsOf entries items rows → AreRows (nodes_of 0 trees) rows
  rows_tell rows are = record {
    each = λ k row at. row_tells row (are.each k row at) (are.occurs k row at);
    whole = λ region some. are.whole region (there region some);
    order = are.order;
  }
    where
      some_items : (l : List Item) → 0 < total (λ n. 1) l → 0 < length l
      some_items [] some = absurd (omega arith)
      some_items (i ∷ l) some = omega arith

      there : (region : ℕ) → 0 < length (of_region region (nodes_of 0 trees)) → 0 < length (items_in region items)
      there region some = some_items (items_in region items) (subst (λ n. 0 < n) (instances_are region trees ∙ sym (tells one region)) some)

  -- and no self-parallelism is below 1
  pub at_least_one : (rows : List Row) → Bounded trees → AreRowsOf entries items rows → AreAtLeastOne rows
  at_least_one rows bounded are k row at =
      ratio_at_least_one (total (own_of serial_in entries) (items_in row.region items)) (total (own_of path entries) (items_in row.region items)) row.sp.0 row.sp.1
      less (are.each k row at).sp
    where
      less : total (own_of path entries) (items_in row.region items) ≤ total (own_of serial_in entries) (items_in row.region items)
      less = let a = tells path row.region in let b = tells serial_in row.region in let c = within_less row.region trees bounded in omega arith

-- ---- the trees are bounded, and low

module _ (entries : List Entry) (profile : AreProfile entries) (roots : List Run) (are : AreRunRoots entries roots) where
  pub bounded_trees : Bounded (run_trees entries roots)
  bounded_trees = subst Bounded (standing-runs entries roots) (bounded_standing entries profile (map (item_for entries) roots) (items-runs entries 0 roots are.rise))

  height_copies : (n : ℕ) (t : Tree) (later : Forest) (most : ℕ) → height (alone t) ≤ most → height later ≤ most → height (copies n t later) ≤ most
  height_copies zero t later most low rest = rest
  height_copies (suc n) t later most low rest = let more = height_copies n t later most low rest in omega arith

  height_trees : (low high : ℕ) (runs : List Run) → AreRuns low high runs → high ≤ length entries → height (run_trees entries runs) ≤ 32
  height_trees low high [] rise within = omega arith
  height_trees low high (run ∷ runs) rise within =
      let below : run.entry < high = rise.1 in
      height_copies run.count (tree_at entries run.entry) (run_trees entries runs) 32 (profile.levels run.entry (omega arith))
      (height_trees (run.entry + 1) high runs rise.3 within)

  works_weighed : (low high : ℕ) (runs : List Run) → AreRuns low high runs → high ≤ length entries → child_works entries runs ≡ weighed (work_at entries) runs
  works_weighed low high [] rise within = refl
  works_weighed low high (run ∷ runs) rise within =
      let below : run.entry < high = rise.1 in
      ap (λ (l : Label). run.count * l.work + child_works entries runs) (sym (label_is entries profile.interned.earlier run.entry (omega arith)))
      ∙ ap (λ x. run.count * work_at entries run.entry + x) (works_weighed (run.entry + 1) high runs rise.3 within)

  outer_few : outer_works (run_trees entries roots) ≤ 17592186044416
  outer_few =
      let same : child_works entries roots ≡ weighed (work_at entries) roots = works_weighed 0 (length entries) roots are.rise (omega arith) in
      let laid' = outer_works-laid (trees_of entries) roots in
      let few = are.works in omega arith

  works_few : sum_of work (run_trees entries roots) ≤ 2 ^ 49
  works_few =
      let limit = works_limit (run_trees entries roots) bounded_trees in
      let low = height_trees 0 (length entries) roots are.rise (omega arith) in
      let small = outer_few in
      let b : height (run_trees entries roots) * outer_works (run_trees entries roots) ≤ 32 * outer_works (run_trees entries roots) =
      mul-le-mul_right (outer_works (run_trees entries roots)) low in
      omega (arith, b, limit, small)

  -- what items of the runs come to is small
  pub totals_small : (items : List Item) → AreItemsOfRuns entries roots items → AreSmall (totals entries items)
  totals_small items of = record {
    instances = let a = tells_all entries roots profile.interned.earlier items of one in let b = count_is_size (run_trees entries roots) in let c = are.few in omega arith;
    work = let a = tells_all entries roots profile.interned.earlier items of work in let b = works_few in omega arith;
    path = let a = tells_all entries roots profile.interned.earlier items of path in let b = works_few in let c = paths_limit (run_trees entries roots) bounded_trees in omega arith;
    serial = let a = tells_all entries roots profile.interned.earlier items of serial_in in let b = works_few in let c = serial_limit (run_trees entries roots) bounded_trees in omega arith;
  }

  -- ---- contexts

  pub items_are : AreItems entries (map (item_for entries) roots)
  items_are = items-runs entries 0 roots are.rise

  pub items_fit : Fits entries (map (item_for entries) roots)
  items_fit = let P : Forest → Type 0 = λ f. (outer_works f ≤ 2 ^ 44) × (size f ≤ 2 ^ 59) in
      let works = outer_few in let few = are.few in
      let both : P (standing entries (map (item_for entries) roots)) = subst P (sym (standing-runs entries roots)) (omega arith, omega arith) in
      record { works = both.0; few = both.1 }

  region_of : (n : ℕ) → n < length entries → (tree_at entries n).label.region ≡ (entry_of entries n).region
  region_of n within = ap (λ (l : Label). l.region) (label_is entries profile.interned.earlier n within)

  module _ (region : ℕ) where
    rise_from : (low high from : ℕ) (runs : List Run) → AreRuns low high runs → high ≤ length entries → AreOfRegion region entries runs → from ≤ region → Rise from (map (item_for entries) runs)
    rise_from low high from [] rise within of le = tt
    rise_from low high from (run ∷ runs) rise within of le =
        let below : run.entry < high = rise.1 in
        let here : (tree_at entries run.entry).label.region ≡ region = region_of run.entry (omega arith) ∙ of.0 in
        (omega arith, rise_from (run.entry + 1) high (tree_at entries run.entry).label.region runs rise.3 within of.1 (omega arith))

    others_copies : (n : ℕ) (t : Tree) (later : Forest) → t.label.region ≡ region → others region later ≡ bare → others region (copies n t later) ≡ bare
    others_copies zero t later same rest = rest
    others_copies (suc n) t later same rest =
        ap (λ b. if b then others region (copies n t later) else grown t.label t.inner (others region (copies n t later))) (eq-eqb t.label.region region same)
        ∙ others_copies n t later same rest

    none_other : (low high : ℕ) (runs : List Run) → AreRuns low high runs → high ≤ length entries → AreOfRegion region entries runs → others region (run_trees entries runs) ≡ bare
    none_other low high [] rise within of = refl
    none_other low high (run ∷ runs) rise within of =
        let below : run.entry < high = rise.1 in
        others_copies run.count (tree_at entries run.entry) (run_trees entries runs) (region_of run.entry (omega arith) ∙ of.0)
        (none_other (run.entry + 1) high runs rise.3 within of.1)

    -- where no instance is of another region, that which has some is this one
    that_one : (f : Forest) (other : ℕ) → others region f ≡ bare → 0 < count_in other f → others other f ≡ bare
    that_one f other none some = subst (λ r. others r f ≡ bare) (sym (same f none some)) none
      where
        same : (f : Forest) → others region f ≡ bare → 0 < count_in other f → other ≡ region
        same bare none some = absurd (omega arith)
        same (grown x i l) none some = elim (cases_eq x.region region) [
          | inl here ↦ elim (cases_eq x.region other) [
            | inl there ↦ sym there ∙ here
            | inr away ↦ same l (ap (λ b. if b then others region l else grown x i (others region l)) (sym (eq-eqb x.region region here)) ∙ none)
                (subst (λ b. 0 < outer one (if b then grown x i (chosen other l) else chosen other l)) (ne_eqb x.region other away) some)
          ]
          | inr away ↦ absurd (grown_not_bare (others region l)
              (ap (λ b. if b then others region l else grown x i (others region l)) (sym (ne_eqb x.region region away)) ∙ none))
        ]
          where
            grown_not_bare : (g : Forest) → grown x i g ≡ bare → ⊥
            grown_not_bare g is = let no : 1 + size i + size g ≡ 0 = ap size is in absurd (omega arith)

  pub items_rise : AreOfOneRegion entries roots → Rise 0 (map (item_for entries) roots)
  items_rise of = rise_from of.0 0 (length entries) 0 roots are.rise (omega arith) of.1 (omega arith)

  module _ (regions : List Region) (items : List Item) (is : items ≡ map (item_for entries) roots) where
    trees_are : standing entries items ≡ run_trees entries roots
    trees_are = ap (standing entries) is ∙ standing-runs entries roots

    module _ (old contexts : List Context) (none : old ≡ []) where
      under : AddsContexts regions entries 0 items old (Ok tt) contexts → AreUnder regions 0 0 (run_trees entries roots) contexts
      under adds =
          let whole : contexts ≡ adds.0 = adds.1 ∙ ap (λ (l : List Context). l ++ adds.0) none in
          let U : ℕ → Type 0 = λ n. AreUnder regions 0 n (standing entries items) adds.0 in
          let V : Forest → Type 0 = λ f. AreUnder regions 0 0 f adds.0 in
          let W : List Context → Type 0 = AreUnder regions 0 0 (run_trees entries roots) in
          subst W (sym whole) (subst V trees_are (subst U (ap length none) adds.2))

      pub contexts_given : AddsContexts regions entries 0 items old (Ok tt) contexts → GivesRunContexts regions (run_trees entries roots) (Ok contexts)
      contexts_given adds = (under adds, adds.3)

      pub contexts_at_least_one : AddsContexts regions entries 0 items old (Ok tt) contexts → ContextsAreAtLeastOne contexts
      contexts_at_least_one adds = under_at_least_one regions 0 0 (run_trees entries roots) contexts (under adds) bounded_trees

      pub contexts_can_plan : AreOfOneRegion entries roots → AddsContexts regions entries 0 items old (Ok tt) contexts → CanPlan contexts
      contexts_can_plan of adds =
          let some = are.some in let count = count-laid (trees_of entries) roots in
          forest_can_be_planned regions (run_trees entries roots) contexts bounded_trees (let works = outer_few in omega arith) (omega arith)
          (λ other there. that_one of.0 (run_trees entries roots) other (none_other of.0 0 (length entries) roots are.rise (omega arith) of.1) there) (under adds) adds.3

      pub contexts_refused : (fault : ContextFault) → AddsContexts regions entries 0 items old (Err fault) contexts → GivesRunContexts regions (run_trees entries roots) (Err fault)
      contexts_refused Wide adds =
          let U : ℕ → Type 0 = λ n. AreUnder regions 0 n (standing entries items) adds.0 in
          let V : Forest → Type 0 = λ f. AreUnder regions 0 0 f adds.0 in
          let many = adds.2 in let empty : length old ≡ 0 = ap length none in
          (adds.0, subst V trees_are (subst U (ap length none) adds.1), omega arith)
      contexts_refused Memory adds = tt

-- ---- the runs of a sum

-- the roots of a sum that can be saved are those of runs
pub sum_roots : (sum : Sum) → IsSum sum → AreRunRoots sum.dict sum.roots
sum_roots sum is =
    let some = is.some in let count = is.roots.count in
    record { rise = is.roots.rise; some = omega arith; works = is.roots.work; few = is.roots.instances }

-- they are of one region
pub sum_of_one : (sum : Sum) → IsSum sum → AreOfOneRegion sum.dict sum.roots
sum_of_one sum is = (is.roots.main.region, is.roots.main.each)

-- where its contexts are no more than may be, they can be planned
pub sum_can_plan : (sum : Sum) → IsSum sum → (contexts : List Context) → AreUnder sum.regions 0 0 (forest_of sum) contexts → length contexts ≤ 65536 → CanPlan contexts
sum_can_plan sum is contexts under few =
    let are : AreRunRoots sum.dict sum.roots = sum_roots sum is in
    let of : AreOfOneRegion sum.dict sum.roots = sum_of_one sum is in
    let some = are.some in let count = count-laid (trees_of sum.dict) sum.roots in let works = outer_few sum.dict is.profile sum.roots are in
    forest_can_be_planned sum.regions (run_trees sum.dict sum.roots) contexts (bounded_trees sum.dict is.profile sum.roots are) (omega arith) (omega arith)
    (λ other there. that_one sum.dict is.profile sum.roots are of.0 (run_trees sum.dict sum.roots) other
    (none_other sum.dict is.profile sum.roots are of.0 0 (length sum.dict) sum.roots are.rise (omega arith) of.1) there) under few

-- ---- laws

pub one_run : OneRunIsItsTree
one_run profile saved = (refl, λ regions contexts under. (tree_at profile.dict (root_of profile), refl, under))

row_same : (f g : Forest) → Alike f g → (row : Row) → IsRow (nodes_of 0 f) row → IsRow (nodes_of 0 g) row
row_same f g are row is = record {
  some = is.some;
  instances = is.instances ∙ instances_same;
  work = is.work ∙ works_are row.region f ∙ within_alike row.region work (λ x i j a. refl) f g are ∙ sym (works_are row.region g);
  path = is.path ∙ paths_same;
  sp = subst (λ n. IsRatio n (paths (of_region row.region (nodes_of 0 g))) row.sp.0 row.sp.1)
      (serials_are row.region f ∙ within_alike row.region serial_in serial_same f g are ∙ sym (serials_are row.region g))
      (subst (λ n. IsRatio (serial_of row.region (nodes_of 0 f)) n row.sp.0 row.sp.1) paths_same is.sp);
}
  where
    instances_same : length (of_region row.region (nodes_of 0 f)) ≡ length (of_region row.region (nodes_of 0 g))
    instances_same = instances_are row.region f ∙ within_alike row.region one (λ x i j a. refl) f g are ∙ sym (instances_are row.region g)

    paths_same : paths (of_region row.region (nodes_of 0 f)) ≡ paths (of_region row.region (nodes_of 0 g))
    paths_same = paths_are row.region f ∙ within_alike row.region path (λ x i j a. refl) f g are ∙ sym (paths_are row.region g)

pub rows_forget_order : RowsForgetOrder
rows_forget_order f g rows are of = record {
  each = λ k row at. row_same f g are row (of.each k row at);
  whole = λ region some. of.whole region (subst (λ n. 0 < n) (sym (instances_are region f ∙ within_alike region one (λ x i j a. refl) f g are ∙ sym (instances_are region g))) some);
  order = of.order;
}

pub contexts_forget_order : ContextsForgetOrder
contexts_forget_order regions f g contexts are under = under_alike regions 0 0 f g contexts under are

pub rows_add_up : RowsAddUp
rows_add_up one' other region is is' = record {
  instances = instances_are region f ∙ gives one (λ x i j a. refl) ∙ (λ i. sym (instances_are region g) i + sym (instances_are region h) i);
  works = works_are region f ∙ gives work (λ x i j a. refl) ∙ (λ i. sym (works_are region g) i + sym (works_are region h) i);
  paths = paths_are region f ∙ gives path (λ x i j a. refl) ∙ (λ i. sym (paths_are region g) i + sym (paths_are region h) i);
  serial = serials_are region f ∙ gives serial_in serial_same ∙ (λ i. sym (serials_are region g) i + sym (serials_are region h) i);
}
  where
    f : Forest
    f = forest_of (both one' other)

    g : Forest
    g = forest_of one'

    h : Forest
    h = forest_of other

    gives : (own : Label → Forest → ℕ) → ((x : Label) (i j : Forest) → Alike i j → own x i ≡ own x j) → sum_of (within region own) f ≡ sum_of (within region own) g + sum_of (within region own) h
    gives own same = within_alike region own same f (together g h) (both_tell_of_all one' other is is').1 ∙ sum_together (within region own) g h

pub contexts_are_one : ContextsAreOne
contexts_are_one regions f one other under also = one_list regions 0 0 f one other under also

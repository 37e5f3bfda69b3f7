-- A sum in order keeps the rules of one that can be saved.
use Rattle.std.proofs.Common.{◌≡◌, ℕ, zero, suc, ◌<◌, ◌≤◌, ◌⊎◌, inl, inr, List, [], ◌∷◌, length, get_or, Some, slice_get, sym, ap, ◌∙◌, subst, arith}
use Rattle.std.proofs.lemmas.Bool.{cases_lt}
use Rattle.std.proofs.lemmas.Option.{none-some, same_Some, slice_get_within}
use Rattle.k_optab.specs.declared.region.Region.{Region}
use Rattle.k_dict_entries.specs.Entries.{AreInterned, NameBelow, NameEarlier, copies, laid, tree_at, tree_of, trees_of}
use Rattle.k_dict_entries.specs.Rules.{child_works, entry_of}
use Rattle.k_dict_entries.specs.Tallies.{total}
use Rattle.k_dict_entries.specs.Trees.{Alike, Forest, Label, SameShape, Tree, size}
use Rattle.k_dict_entries.specs.declared.entry.Entry.{Entry}
use Rattle.k_dict_entries.specs.declared.entry.Run.{Run}
use Rattle.k_dict_entries.proofs.Coding.{AreProper}
use Rattle.k_dict_entries.proofs.EntryTrees.{below_bound, tree_is}
use Rattle.k_dict_entries.proofs.Forests.{Alike-size, Alike-sym, SameShape-sym}
use Rattle.k_dict_saved.specs.Files.{AreRegions}
use Rattle.k_dict_saved.specs.Formats.{IsNamedBy, Names}
use Rattle.k_profile_trees.proofs.Shapes.{tops_alike, works_laid}
use Rattle.k_sum.specs.Exits as ends
use Rattle.k_sum.specs.Laws.{TellsOfRuns, forest_of}
use Rattle.k_sum.specs.Sums.{HasBounds}
use Rattle.k_sum.specs.declared.exits.Exit.{Exit}
use Rattle.k_sum.specs.declared.sum.Sum.{Sum}
use Rattle.k_sum.proofs.Meaning.{proper_of, same_number}
use Rattle.k_sum_merge.specs.Merges.{IsPast}
use Rattle.k_sum_merge.proofs.Forests.{Outermost, each_alike, each_has, of_copies, outermost_alike}
use Rattle.k_sum_merge.proofs.Kept.{IsKept, IsOfMain, of_region, region_is}
use Rattle.k_sum_merge.proofs.Rules.{KeepsRules, labels_are, numbers_bounded, region_named, rules_stay}
use Rattle.k_sum_order.specs.Laws.{Has, NoneIsLeft}
use Rattle.k_sum_order.specs.Order.{IsOrdered}
use Rattle.k_sum_order.proofs.ExitOrder.{AreExits}
use Rattle.k_sum_order.proofs.Left.{has_alike, has_shape}
use Rattle.k_sum_order.proofs.OneOrder.{entry_there}
use Rattle.k_sum_order.proofs.Ordered.{order_keeps_runs, tree_stays}
use Rattle.k_sum_saved.specs.SumLines.{AreOfMain, AreOfOneRegion, AreOfRegion}
use Rattle.k_sum_saved.specs.SumRules.{IsSum}
use Rattle.k_sum_saved.specs.SumRules as rules
use Rattle.k_sum_saved.proofs.Rising.{Fit, rising_behind}

-- ---- no entry is left over

-- a sum in order has none left over, where it had none before
pub ordered_none_left : (sum ordered : Sum) → TellsOfRuns sum → NoneIsLeft sum → IsOrdered sum ordered → NoneIsLeft ordered
ordered_none_left sum ordered tells none is n within =
    let from = is.dict.no_other n (entry_of ordered.dict n) (entry_there ordered.dict n within) in
    let k : ℕ = from.0 in
    let t : Tree = tree_at sum.dict k in
    let stays : SameShape t (tree_at ordered.dict (get_or is.numbers k 0)) = tree_stays sum.dict is.numbers ordered.dict tells.earlier is.dict k from.1 in
    let P : ℕ → Type 0 = λ m. SameShape t (tree_at ordered.dict m) in
    let here : SameShape t (tree_at ordered.dict n) = subst P from.2 stays in
    let alike : Alike (forest_of ordered) (forest_of sum) = (order_keeps_runs sum ordered tells is).1 in
    has_shape (tree_at ordered.dict n) t (forest_of ordered) (SameShape-sym t (tree_at ordered.dict n) here)
    (has_alike t (forest_of sum) (forest_of ordered) (Alike-sym (forest_of ordered) (forest_of sum) alike) (none k from.1))

has_in_copies : (t : Tree) (count : ℕ) (u : Tree) (later : Forest) → Has t (copies count u later) → SameShape t u ⊎ (Has t u.inner ⊎ Has t later)
has_in_copies t zero u later has = inr (inr has)
has_in_copies t (suc count) u later has = elim has [
  | inl here ↦ inl here
  | inr rest ↦ elim rest [ inl within ↦ inr (inl within) | inr behind ↦ has_in_copies t count u later behind ]
]

names_at : (entries : List Entry) (m : ℕ) (e : Entry) (n : ℕ) → slice_get entries m ≡ Some e → Names n e.runs → IsNamedBy n entries
names_at [] m e n at names = absurd (none-some e at)
names_at (d ∷ entries) zero e n at names = let P : Entry → Type 0 = λ x. Names n x.runs in inl (subst P (sym (same_Some d e at)) names)
names_at (d ∷ entries) (suc m) e n at names = inr (names_at entries m e n at names)

-- an entry whose tree stands in those of runs is named
module _ (entries : List Entry) (proper : AreProper entries) (n : ℕ) (within : n < length entries) where
  abbrev t : Tree
  t = tree_at entries n

  named_runs : (high : ℕ) → high ≤ length entries → ((m : ℕ) → m < high → Has t (tree_at entries m).inner → IsNamedBy n entries) → (runs : List Run) → NameBelow high runs
      → Has t (laid (trees_of entries) runs) → IsNamedBy n entries ⊎ Names n runs
  named_runs high low inner [] below has = absurd has
  named_runs high low inner (run ∷ runs) below has = elim (has_in_copies t run.count (tree_at entries run.entry) (laid (trees_of entries) runs) has) [
    | inl here ↦ (let less : run.entry < high = below.0 in inr (inl (sym (same_number entries proper n run.entry within (omega arith) here))))
    | inr rest ↦ elim rest [
      | inl inside ↦ inl (inner run.entry below.0 inside)
      | inr later ↦ elim (named_runs high low inner runs below.2 later) [ inl named ↦ inl named | inr names ↦ inr (inr names) ]
    ]
  ]

  inner_named : (fuel m : ℕ) → m < fuel → m < length entries → Has t (tree_at entries m).inner → IsNamedBy n entries
  inner_named zero m less inside has = absurd (omega arith)
  inner_named (suc fuel) m less inside has =
      let e : Entry = entry_of entries m in
      let at : slice_get entries m ≡ Some e = entry_there entries m inside in
      let same : tree_at entries m ≡ tree_of (trees_of entries) e = tree_is entries m e at (proper.earlier m e at) in
      let P : Tree → Type 0 = λ u. Has t u.inner in
      elim (named_runs m (omega arith) (λ k low. inner_named fuel k (omega arith) (omega arith)) e.runs (below_bound 0 m e.runs (proper.earlier m e at)) (subst P same has)) [
        | inl named ↦ named
        | inr names ↦ names_at entries m e n at names
      ]

  pub is_named : (roots : List Run) → NameBelow (length entries) roots → Has t (laid (trees_of entries) roots) → IsNamedBy n entries ⊎ Names n roots
  is_named roots below has = named_runs (length entries) (omega arith) (λ m low. inner_named (suc m) m (omega arith) low) roots below has

-- ---- roots

module _ (entries : List Entry) (earlier : NameEarlier entries) where
  region_from : (region : ℕ) (roots : List Run) → NameBelow (length entries) roots → Outermost (λ x. x.region ≡ region) (laid (trees_of entries) roots) → AreOfRegion region entries roots
  region_from region [] below each = tt
  region_from region (root ∷ roots) below each =
      let parts = of_copies (λ x. x.region ≡ region) root.count (tree_at entries root.entry) (laid (trees_of entries) roots) below.1 each in
      (sym (region_is entries earlier root.entry below.0) ∙ parts.0, region_from region roots below.2 parts.1)

  main_of : (regions : List Region) (region : ℕ) (roots : List Run) → NameBelow (length entries) roots → 1 ≤ total roots → AreOfRegion region entries roots
      → Outermost (IsOfMain regions) (laid (trees_of entries) roots) → AreOfMain regions entries roots
  main_of regions region [] below some of each = absurd (omega arith)
  main_of regions region (root ∷ roots) below some of each =
      let first = (of_copies (IsOfMain regions) root.count (tree_at entries root.entry) (laid (trees_of entries) roots) below.1 each).0 in
      let same : (tree_at entries root.entry).label.region ≡ region = region_is entries earlier root.entry below.0 ∙ of.0 in
      record { region = region; main = first.main; there = ap (slice_get regions) (sym same) ∙ first.there; kind = first.kind; func = first.func; each = of }

some_entry : (high : ℕ) (roots : List Run) → NameBelow high roots → 1 ≤ total roots → 1 ≤ high
some_entry high [] below some = absurd (omega arith)
some_entry high (root ∷ roots) below some = let less : root.entry < high = below.0 in omega arith

-- ---- exit values

some_exits : (exits : List Exit) → 1 ≤ ends.total exits → 1 ≤ length exits
some_exits [] some = absurd (omega arith)
some_exits (x ∷ exits) some = omega arith

few_exits : (exits : List Exit) → AreExits exits → length exits ≤ ends.total exits
few_exits [] are = omega arith
few_exits (x ∷ exits) are = let rest = few_exits exits are.2 in let some : 1 ≤ x.runs = are.0 in omega arith

exits_are : (runs : ℕ) (exits : List Exit) → AreExits exits → Fit exits → 1 ≤ runs → ends.total exits ≡ runs → rules.AreExits runs exits
exits_are runs exits are fit some whole =
    let few = few_exits exits are in
    record { some = some_exits exits (omega arith); few = omega arith; each = rising_behind runs exits are fit (omega arith); whole = whole }

-- ---- the sum in order

-- runs that are not past the limits
within_work : (sum : Sum) → (IsPast sum → ⊥) → sum.work ≤ 17592186044416
within_work sum within = elim (cases_lt 17592186044416 sum.work) [ inl more ↦ absurd (within (inl more)) | inr few ↦ omega arith ]

within_instances : (sum : Sum) → (IsPast sum → ⊥) → size (forest_of sum) ≤ 576460752303423488
within_instances sum within = elim (cases_lt 576460752303423488 (size (forest_of sum))) [ inl more ↦ absurd (within (inr more)) | inr few ↦ omega arith ]

-- where roots are of one region, that is main
pub of_main : (sum : Sum) → IsKept sum → AreOfOneRegion sum.dict sum.roots → AreOfMain sum.regions sum.dict sum.roots
of_main sum has one =
    let before : NameBelow (length sum.dict) sum.roots = below_bound 0 (length sum.dict) sum.roots has.tells.roots in
    let count = has.bounds.count in let runs = has.some in
    main_of sum.dict has.tells.earlier sum.regions one.0 sum.roots before (omega arith) one.1 has.main

module _ (sum ordered : Sum) (has : IsKept sum) (is : IsOrdered sum ordered) (bounds : HasBounds ordered) where
  tells : TellsOfRuns ordered
  tells = (order_keeps_runs sum ordered has.tells is).0

  alike : Alike (forest_of sum) (forest_of ordered)
  alike = Alike-sym (forest_of ordered) (forest_of sum) (order_keeps_runs sum ordered has.tells is).1

  left : NoneIsLeft ordered
  left = ordered_none_left sum ordered has.tells has.none is

  below : NameBelow (length ordered.dict) ordered.roots
  below = below_bound 0 (length ordered.dict) ordered.roots tells.roots

  some_runs : 1 ≤ total ordered.roots
  some_runs = let count = bounds.count in let runs = is.runs in let some = has.some in omega arith

  abbrev count : ℕ
  count = length sum.regions

  keep : (n : ℕ) → n < length ordered.dict → KeepsRules count (tree_at ordered.dict n)
  keep n within =
      each_has (KeepsRules count) (rules_stay count) (tree_at ordered.dict n) (forest_of ordered) (left n within)
      (each_alike (KeepsRules count) (rules_stay count) (forest_of sum) (forest_of ordered) alike has.rules)

  main : AreOfOneRegion sum.dict sum.roots → AreOfMain sum.regions ordered.dict ordered.roots
  main one =
      let P : Label → Type 0 = λ x. x.region ≡ one.0 in
      let before : NameBelow (length sum.dict) sum.roots = below_bound 0 (length sum.dict) sum.roots has.tells.roots in
      let each = outermost_alike P (forest_of sum) (forest_of ordered) alike (of_region sum.dict has.tells.earlier P one.0 (λ x same. same) sum.roots before one.1) in
      main_of ordered.dict tells.earlier sum.regions one.0 ordered.roots below some_runs (region_from ordered.dict tells.earlier one.0 ordered.roots below each)
      (outermost_alike (IsOfMain sum.regions) (forest_of sum) (forest_of ordered) alike has.main)

  works : ordered.work ≡ child_works ordered.dict ordered.roots
  works =
      is.work ∙ has.work ∙ tops_alike (λ x. x.work) (forest_of sum) (forest_of ordered) alike
      ∙ works_laid ordered.dict (length ordered.dict) (labels_are ordered.dict tells.earlier) ordered.roots below

  -- it can be saved
  pub can_save : AreOfOneRegion sum.dict sum.roots → (IsPast sum → ⊥) → AreInterned ordered.dict → IsSum ordered
  can_save one within interned =
      let work = works in let before = is.work in let few_work = within_work sum within in
      let sizes = Alike-size (forest_of sum) (forest_of ordered) alike in let few_instances = within_instances sum within in
      let runs = is.runs in let some = has.some in let few = bounds.runs in
      let P : List Region → Type 0 = AreRegions in
      let Q : List Region → Type 0 = λ l. AreOfMain l ordered.dict ordered.roots in
      let R : List Exit → Type 0 = AreExits in
      let S : List Exit → Type 0 = Fit in
      let proper : AreProper ordered.dict = proper_of ordered tells in
      let same : length ordered.regions ≡ count = ap length is.regions in
      record {
        some = omega arith;
        few = omega arith;
        exits = exits_are ordered.runs ordered.exits (subst R (sym is.exits) has.exits) (subst S (sym is.exits) has.fit) (omega arith) bounds.exits;
        ops = bounds.ops;
        regions = subst P (sym is.regions) has.regions;
        profile = record {
          some = some_entry (length ordered.dict) ordered.roots below some_runs;
          interned = interned;
          numbers = λ n e at. numbers_bounded ordered.dict tells.earlier n e at count (keep n (slice_get_within ordered.dict n e at));
          levels = λ n less. (keep n less).levels;
          instances = λ n less. (keep n less).instances;
        };
        in_list = λ n e at. let named = region_named ordered.dict tells.earlier n e at count (keep n (slice_get_within ordered.dict n e at)) in omega arith;
        order = is.dict.order;
        roots = record {
          rise = bounds.roots;
          main = subst Q (sym is.regions) (main one);
          count = bounds.count;
          work = omega arith;
          instances = omega arith;
          none_left = λ n less. is_named ordered.dict proper n less ordered.roots below (left n less);
        };
        work = work;
      }

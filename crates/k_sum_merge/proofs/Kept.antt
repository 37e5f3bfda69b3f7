-- What holds of every sum that is put together of files.
use Rattle.std.proofs.Common.{◌≡◌, ℕ, ℤ, zero, suc, ◌+◌, ◌-◌, ◌<◌, ◌≤◌, ◌⊎◌, inl, inr, Bool, true, false, List, [], ◌∷◌, length, Some, slice_get, refl, sym, ap, ◌∙◌, subst, arith, int_lt, if◌then◌else◌}
use Rattle.std.specs.Prelude.{FitsSigned, Result, Ok, Err, codes}
use Rattle.std.specs.Int.{w32}
use Rattle.std.proofs.lemmas.Option.{slice_get_within}
use Rattle.k_optab.specs.declared.region.Region.{Region}
use Rattle.k_optab.specs.declared.region.RegionKind.TheVariants.{Func}
use Rattle.k_dict_entries.specs.Entries.{NameBelow, NameEarlier, laid, tree_at, tree_of, trees_of}
use Rattle.k_dict_entries.specs.Rules.{entry_of}
use Rattle.k_dict_entries.specs.Trees.{Alike, Forest, Label, Tree}
use Rattle.k_dict_entries.specs.declared.dict.DictFault.TheVariants.{Full, Memory}
use Rattle.k_dict_entries.specs.declared.entry.Entry.{Entry}
use Rattle.k_dict_entries.specs.declared.entry.Run.{Run}
use Rattle.k_dict_entries.proofs.EntryTrees.{below_bound, tree_is}
use Rattle.k_dict_entries.proofs.Forests.{Alike-sym}
use Rattle.k_dict_saved.specs.Files.{AreRegions}
use Rattle.k_dict_saved.specs.Formats.{IsNamedBy, Names}
use Rattle.k_dict_saved.specs.Profile.{IsSaved}
use Rattle.k_dict_saved.specs.declared.saved.Saved.{Saved}
use Rattle.k_profile_trees.proofs.Shapes.{tops, tops_alike, works_laid}
use Rattle.k_sum.specs.Exits.{counted, with_exits}
use Rattle.k_sum.specs.Laws.{TellsOfRuns, forest_of, together}
use Rattle.k_sum.specs.Sums.{AddsTo, HasBounds, sum_of}
use Rattle.k_sum.specs.Sums as sums
use Rattle.k_sum.specs.declared.exits.Exit.{Exit}
use Rattle.k_sum.specs.declared.sum.Sum.{Sum}
use Rattle.k_sum.specs.declared.sum.SumFault.{SumFault}
use Rattle.k_sum.specs.declared.sum.SumFault.TheVariants.{Other, Large, Dict}
use Rattle.k_sum.proofs.Bounds.{bounds_one}
use Rattle.k_sum.proofs.Meaning.{both_tell_of_all, one_tells_of_its_run}
use Rattle.k_sum_merge.specs.Laws.{MergedHaveBounds}
use Rattle.k_sum_merge.proofs.Forests.{Each, Outermost, each_alike, each_entry, each_laid, each_together, outermost_alike, outermost_copies, outermost_together, tops_together}
use Rattle.k_sum_merge.proofs.Rules.{KeepsRules, labels_are, rules_stay, trees_keep}
use Rattle.k_sum_order.specs.Laws.{Has, NoneIsLeft}
use Rattle.k_sum_order.proofs.ExitOrder.{AreExits, exits-with}
use Rattle.k_sum_order.proofs.Left.{both_have_none_left, has_named, has_within, named_at, names_below, one_has_none_left}
use Rattle.k_sum_order.proofs.OneOrder.{entry_there}
use Rattle.k_sum_saved.specs.Merged.{IsMerged, of_both, of_file, of_run}
use Rattle.k_sum_saved.specs.SumLines.{AreOfRegion}
use Rattle.k_sum_saved.specs.SumRules.{IsSum}
use Rattle.k_sum_saved.proofs.Rising.{Fit, exits_fit, exits_rise}
use Rattle.k_sum_saved.proofs.SumBounds.{sum_has_bounds}

-- the region of a run's root is the function main
pub record IsOfMain (regions : List Region) (x : Label) : Type 0 where
  pub main : Region
  pub there : slice_get regions x.region ≡ Some main
  pub kind : main.kind ≡ Func
  pub func : main.func ≡ codes "main"

-- what holds of such a sum, told of the trees of its runs
pub record IsKept (sum : Sum) : Type 0 where
  pub bounds : HasBounds sum
  pub tells : TellsOfRuns sum
  pub none : NoneIsLeft sum
  pub some : 1 ≤ sum.runs
  pub exits : AreExits sum.exits
  pub fit : Fit sum.exits
  pub regions : AreRegions sum.regions
  pub rules : Each (KeepsRules (length sum.regions)) (forest_of sum)
  pub main : Outermost (IsOfMain sum.regions) (forest_of sum)
  pub work : sum.work ≡ tops (λ x. x.work) (forest_of sum)

-- ---- a sum that was saved

module _ (entries : List Entry) (earlier : NameEarlier entries) where
  -- the region of an entry's instances
  pub region_is : (n : ℕ) → n < length entries → (tree_at entries n).label.region ≡ (entry_of entries n).region
  region_is n within = ap (λ (x : Label). x.region) (labels_are entries earlier n within)

  -- the trees of roots of a region are of it
  pub of_region : (P : Label → Type 0) (region : ℕ) → ((x : Label) → x.region ≡ region → P x) → (roots : List Run) → NameBelow (length entries) roots → AreOfRegion region entries roots
      → Outermost P (laid (trees_of entries) roots)
  of_region P region each [] below of = tt
  of_region P region each (root ∷ roots) below of =
      outermost_copies P root.count (tree_at entries root.entry) (laid (trees_of entries) roots) (each (tree_at entries root.entry).label (region_is root.entry below.0 ∙ of.0))
      (of_region P region each roots below.2 of.1)

  -- each entry stands for a tree of the runs, where it is named by another or is a root
  module _ (roots : List Run) (below : NameBelow (length entries) roots)
      (left : (n : ℕ) → n < length entries → IsNamedBy n entries ⊎ Names n roots) where
    has_from : (fuel n : ℕ) → length entries ≤ n + fuel → n < length entries → Has (tree_at entries n) (laid (trees_of entries) roots)
    has_from zero n far within = absurd (omega arith)
    has_from (suc fuel) n far within = elim (left n within) [
      | inl named ↦ (let at = named_at n entries named in
          let m : ℕ = at.0 in
          let e : Entry = at.1 in
          let under : NameBelow m e.runs = below_bound 0 m e.runs (earlier m e at.2) in
          let more : n < m = names_below n m e.runs under at.3 in
          let inside = slice_get_within entries m e at.2 in
          let tree : tree_at entries m ≡ tree_of (trees_of entries) e = tree_is entries m e at.2 (earlier m e at.2) in
          let P : Tree → Type 0 = λ u. Has (tree_at entries n) u.inner in
          has_within (tree_at entries n) (tree_at entries m) (laid (trees_of entries) roots)
          (subst P (sym tree) (has_named (trees_of entries) n m e.runs under at.3)) (has_from fuel m (omega arith) inside))
      | inr root ↦ has_named (trees_of entries) n (length entries) roots below root
    ]

    pub has_each : (n : ℕ) → n < length entries → Has (tree_at entries n) (laid (trees_of entries) roots)
    has_each n within = has_from (length entries) n (omega arith) within

kept_file : (sum : Sum) → IsSum sum → IsKept sum
kept_file sum is =
    let earlier : NameEarlier sum.dict = is.profile.interned.earlier in
    let below : NameBelow (length sum.dict) sum.roots = below_bound 0 (length sum.dict) sum.roots is.roots.rise in
    let count : ℕ = length sum.regions in
    let main = is.roots.main in
    record {
      bounds = sum_has_bounds sum is;
      tells = record { earlier = earlier; apart = is.profile.interned.apart; roots = is.roots.rise };
      none = has_each sum.dict earlier sum.roots below is.roots.none_left;
      some = is.some;
      exits = exits_rise sum.runs [] sum.exits is.exits.each;
      fit = exits_fit sum.runs [] sum.exits is.exits.each;
      regions = is.regions;
      rules = each_laid (KeepsRules count) (trees_of sum.dict) (length sum.dict)
          (each_entry (KeepsRules count) sum.dict earlier (trees_keep sum.dict earlier count is.in_list is.profile.numbers is.profile.levels is.profile.instances)) sum.roots below;
      main = of_region sum.dict earlier (IsOfMain sum.regions) main.region
          (λ x same. record { main = main.main; there = ap (slice_get sum.regions) same ∙ main.there; kind = main.kind; func = main.func }) sum.roots below main.each;
      work = is.work ∙ sym (works_laid sum.dict (length sum.dict) (labels_are sum.dict earlier) sum.roots below);
    }

-- ---- the sum of one run

kept_run : (profile : Saved) → IsSaved profile → IsKept (sum_of profile)
kept_run profile is =
    let some = is.profile.some in
    let root : ℕ = length profile.dict - 1 in
    let within : root < length profile.dict = omega arith in
    let earlier : NameEarlier profile.dict = is.profile.interned.earlier in
    let count : ℕ = length profile.regions in
    let label = labels_are profile.dict earlier root within in
    let last = is.main.last in
    let same : root ≡ is.main.root = omega arith in
    let work : (tree_at profile.dict root).label.work ≡ (entry_of profile.dict root).work = ap (λ (x : Label). x.work) label in
    record {
      bounds = bounds_one profile is profile.exit (record { value = profile.exit; runs = 1 } ∷ []) refl root (entry_of profile.dict root) within (entry_there profile.dict root within)
          (record { entry = root; count = 1 } ∷ []) refl;
      tells = (one_tells_of_its_run profile is).0;
      none = one_has_none_left profile is;
      some = omega arith;
      exits = (omega arith, tt, tt);
      fit = (is.exit, tt);
      regions = is.regions;
      rules = each_entry (KeepsRules count) profile.dict earlier (trees_keep profile.dict earlier count is.in_list is.profile.numbers is.profile.levels is.profile.instances) root within;
      main = (
        record {
          main = is.main.main;
          there = ap (slice_get profile.regions) (ap (λ (x : Label). x.region) label ∙ ap (λ n. (entry_of profile.dict n).region) same) ∙ is.main.there;
          kind = is.main.kind;
          func = is.main.func;
        },
        tt,
      );
      work = omega arith;
    }

-- ---- two sums together

fit_counted : (value : ℤ) (runs : ℕ) (exits : List Exit) → FitsSigned w32 value → Fit exits → Fit (counted value runs exits)
fit_counted value runs [] fits fit = (fits, tt)
fit_counted value runs (x ∷ exits) fits fit = by (fit_counted value runs exits fits fit.1) (int_lt value x.value) (int_lt x.value value)
  where
    by : Fit (counted value runs exits) → (one other : Bool)
        → Fit (if one then record { value = value; runs = runs } ∷ x ∷ exits else (if other then x ∷ counted value runs exits else record { value = x.value; runs = runs + x.runs } ∷ exits))
    by rest true other = (fits, fit)
    by rest false true = (fit.0, rest)
    by rest false false = fit

fit_with : (exits more : List Exit) → Fit exits → Fit more → Fit (with_exits exits more)
fit_with exits [] fit others = fit
fit_with exits (x ∷ more) fit others = fit_with (counted x.value x.runs exits) more (fit_counted x.value x.runs exits others.0 fit) others.1

kept_both : (one other : Sum) → IsKept one → IsKept other → one.regions ≡ other.regions → HasBounds (sums.both one other) → IsKept (sums.both one other)
kept_both one other is others same bounds =
    let all : Sum = sums.both one other in
    let f : Forest = forest_of one in
    let g : Forest = forest_of other in
    let both = both_tell_of_all one other is.tells others.tells in
    let back : Alike (together f g) (forest_of all) = Alike-sym (forest_of all) (together f g) both.1 in
    let count : ℕ = length one.regions in
    let P : List Region → Type 0 = λ l. Each (KeepsRules (length l)) g in
    let Q : List Region → Type 0 = λ l. Outermost (IsOfMain l) g in
    let some = is.some in
    let work : one.work ≡ tops (λ x. x.work) f = is.work in
    let work' : other.work ≡ tops (λ x. x.work) g = others.work in
    let tops' = tops_together (λ x. x.work) f g in
    let stay = tops_alike (λ x. x.work) (together f g) (forest_of all) back in
    record {
      bounds = bounds;
      tells = both.0;
      none = both_have_none_left one other is.tells others.tells is.none others.none;
      some = omega arith;
      exits = exits-with (with_exits [] one.exits) other.exits (exits-with [] one.exits tt is.exits) others.exits;
      fit = fit_with (with_exits [] one.exits) other.exits (fit_with [] one.exits tt is.fit) others.fit;
      regions = is.regions;
      rules = each_alike (KeepsRules count) (rules_stay count) (together f g) (forest_of all) back (each_together (KeepsRules count) f g is.rules (subst P (sym same) others.rules));
      main = outermost_alike (IsOfMain one.regions) (together f g) (forest_of all) back (outermost_together (IsOfMain one.regions) f g is.main (subst Q (sym same) others.main));
      work = omega arith;
    }

-- ---- all sums

pub kept : (sum : Sum) → IsMerged sum → IsKept sum
kept _ (of_file sum is) = kept_file sum is
kept _ (of_run profile is) = kept_run profile is
kept _ (of_both one other first second same bounds) = kept_both one other (kept one first) (kept other second) same bounds

pub merged_have_bounds : MergedHaveBounds
merged_have_bounds sum merged = (kept sum merged).bounds

-- its entries name earlier ones, and its roots name entries
pub entries_earlier : (sum : Sum) → IsMerged sum → NameEarlier sum.dict
entries_earlier sum merged = (kept sum merged).tells.earlier

pub roots_below : (sum : Sum) → IsMerged sum → NameBelow (length sum.dict) sum.roots
roots_below sum merged = below_bound 0 (length sum.dict) sum.roots (kept sum merged).tells.roots

-- with other runs put to them they are put together of files too
pub merged_stays : (old other new : Sum) → IsMerged old → IsMerged other → (result : Result (Unit {0}) SumFault) → AddsTo old other result new → IsMerged new
merged_stays old other new merged more (Ok x) adds = let P : Sum → Type 0 = IsMerged in
    subst P (sym adds.2) (of_both old other merged more adds.0 (let Q : Sum → Type 0 = HasBounds in subst Q adds.2 adds.3))
merged_stays old other new merged more (Err Other) adds = let P : Sum → Type 0 = IsMerged in subst P (sym adds.1) merged
merged_stays old other new merged more (Err Large) adds = let P : Sum → Type 0 = IsMerged in subst P (sym adds.2) merged
merged_stays old other new merged more (Err (Dict (Full which))) adds = let P : Sum → Type 0 = IsMerged in subst P (sym adds.3) merged
merged_stays old other new merged more (Err (Dict Memory)) adds = let P : Sum → Type 0 = IsMerged in subst P (sym adds) merged

-- The rules of a profile, told of the trees of its entries: trees that differ in the order of siblings alone keep the same rules.
use Rattle.std.proofs.Common.{◌≡◌, ℕ, ◌+◌, ◌-◌, ◌<◌, ◌≤◌, List, length, Some, slice_get, sym, ap, subst, arith}
use Rattle.std.proofs.lemmas.Option.{slice_get_within}
use Rattle.k_dict_entries.specs.Entries.{NameBelow, NameEarlier, label_of, laid, tree_at, tree_of, trees_of}
use Rattle.k_dict_entries.specs.Rules.{HasBoundedNumbers, HaveBoundedNumbers, HaveFewInstances, HaveFewLevels, NameRegions, child_paths, child_works, entry_of}
use Rattle.k_dict_entries.specs.Trees.{SameShape, Tree, alone, height, size}
use Rattle.k_dict_entries.specs.declared.entry.Entry.{Entry}
use Rattle.k_dict_entries.proofs.EntryTrees.{below_bound, tree_is}
use Rattle.k_profile_trees.proofs.Labels.{wider}
use Rattle.k_profile_trees.proofs.Shapes.{TopsUpTo, height_of_shape, laid_up_to, paths_laid, size_of_shape, tops, tops_alike, up_to_alike, up_to_laid, works_laid}
use Rattle.k_sum_order.proofs.OneOrder.{entry_there}

-- a tree keeps the rules: its region is one of the list, its numbers are bounded, and it has at most 32 levels and 2 ^ 59 instances
pub record KeepsRules (count : ℕ) (t : Tree) : Type 0 where
  pub region : t.label.region < count
  pub most : t.label.work ≤ 17592186044416
  pub part : tops (λ x. x.work) t.inner ≤ t.label.work
  pub work : t.label.path ≤ t.label.work
  pub child : TopsUpTo t.label.path t.inner
  pub parts : t.label.path ≤ tops (λ x. x.path) t.inner + (t.label.work - tops (λ x. x.work) t.inner)
  pub levels : height (alone t) ≤ 32
  pub instances : size (alone t) ≤ 576460752303423488

-- so does one of its shape
pub rules_stay : (count : ℕ) (s t : Tree) → SameShape s t → KeepsRules count s → KeepsRules count t
rules_stay count s t same keeps =
    let region : s.label.region ≡ t.label.region = ap (λ x. x.region) same.label in
    let work : s.label.work ≡ t.label.work = ap (λ x. x.work) same.label in
    let path : s.label.path ≡ t.label.path = ap (λ x. x.path) same.label in
    let works = tops_alike (λ x. x.work) s.inner t.inner same.inner in
    let paths = tops_alike (λ x. x.path) s.inner t.inner same.inner in
    let height' = height_of_shape s t same in
    let size' = size_of_shape s t same in
    let named = keeps.region in let most = keeps.most in let part = keeps.part in let least = keeps.work in let parts = keeps.parts in
    let levels = keeps.levels in let instances = keeps.instances in
    let P : ℕ → Type 0 = λ p. TopsUpTo p t.inner in
    record {
      region = omega arith;
      most = omega arith;
      part = omega arith;
      work = omega arith;
      child = subst P path (up_to_alike s.label.path s.inner t.inner same.inner keeps.child);
      parts = omega arith;
      levels = omega arith;
      instances = omega arith;
    }

-- what is told of entries' instances
pub labels_are : (entries : List Entry) → NameEarlier entries → (n : ℕ) → n < length entries → (tree_at entries n).label ≡ label_of (entry_of entries n)
labels_are entries earlier n within =
    let e : Entry = entry_of entries n in
    let at : slice_get entries n ≡ Some e = entry_there entries n within in
    ap (λ (t : Tree). t.label) (tree_is entries n e at (earlier n e at))

-- an entry and its tree
module _ (entries : List Entry) (earlier : NameEarlier entries) (n : ℕ) (e : Entry) (at : slice_get entries n ≡ Some e) where
  within : n < length entries
  within = slice_get_within entries n e at

  abbrev t : Tree
  t = tree_of (trees_of entries) e

  tree : tree_at entries n ≡ t
  tree = tree_is entries n e at (earlier n e at)

  wide : NameBelow (length entries) e.runs
  wide = wider n (length entries) e.runs (let less = within in omega arith) (below_bound 0 n e.runs (earlier n e at))

  works : tops (λ x. x.work) (laid (trees_of entries) e.runs) ≡ child_works entries e.runs
  works = works_laid entries (length entries) (labels_are entries earlier) e.runs wide

  paths : tops (λ x. x.path) (laid (trees_of entries) e.runs) ≡ child_paths entries e.runs
  paths = paths_laid entries (length entries) (labels_are entries earlier) e.runs wide

  -- an entry's rules are those of its tree
  pub tree_keeps : (count : ℕ) → e.region < count → HasBoundedNumbers entries e → height (alone (tree_at entries n)) ≤ 32 → size (alone (tree_at entries n)) ≤ 576460752303423488
      → KeepsRules count (tree_at entries n)
  tree_keeps count named has low few =
      let P : Tree → Type 0 = λ u. height (alone u) ≤ 32 in
      let Q : Tree → Type 0 = λ u. size (alone u) ≤ 576460752303423488 in
      let R : Tree → Type 0 = KeepsRules count in
      let all = works in let all' = paths in
      let part = has.part in let parts = has.parts in
      subst R (sym tree) (record {
        region = named;
        most = has.most;
        part = omega arith;
        work = has.work;
        child = up_to_laid entries (length entries) (labels_are entries earlier) e.path e.runs wide has.child;
        parts = omega arith;
        levels = subst P tree low;
        instances = subst Q tree few;
      })

  pub numbers_bounded : (count : ℕ) → KeepsRules count (tree_at entries n) → HasBoundedNumbers entries e
  numbers_bounded count keeps =
      let R : Tree → Type 0 = KeepsRules count in
      let has : KeepsRules count t = subst R tree keeps in
      let all = works in let all' = paths in
      let part = has.part in let parts = has.parts in
      record {
        most = has.most;
        part = omega arith;
        work = has.work;
        child = laid_up_to entries (length entries) (labels_are entries earlier) e.path e.runs wide has.child;
        parts = omega arith;
      }

  pub region_named : (count : ℕ) → KeepsRules count (tree_at entries n) → e.region < count
  region_named count keeps =
      let R : Tree → Type 0 = KeepsRules count in
      let has : KeepsRules count t = subst R tree keeps in has.region

-- the rules of all entries are those of their trees
pub trees_keep : (entries : List Entry) → NameEarlier entries → (count : ℕ) → NameRegions count entries → HaveBoundedNumbers entries → HaveFewLevels entries → HaveFewInstances entries
    → (n : ℕ) → n < length entries → KeepsRules count (tree_at entries n)
trees_keep entries earlier count named numbers low few n within =
    let e : Entry = entry_of entries n in
    let at : slice_get entries n ≡ Some e = entry_there entries n within in
    tree_keeps entries earlier n e at count (named n e at) (numbers n e at) (low n within) (few n within)

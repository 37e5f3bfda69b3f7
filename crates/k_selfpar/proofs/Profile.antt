-- The trees of a profile's entries: their paths are bounded, and what they give is small enough.
use Rattle.std.proofs.Common.{◌≡◌, ℕ, zero, suc, ◌+◌, ◌-◌, ◌*◌, ◌^◌, ◌<◌, ◌≤◌, max, List, [], ◌∷◌, length, get_or, Some, slice_get, refl, sym, ap, ◌∙◌, subst, arith}
use Rattle.std.proofs.Math.Nat.{mul-add, mul-le-mul_left, mul-le-mul_right}
use Rattle.std.proofs.lemmas.Option.{slice_get-get_or}
use Rattle.k_dict_entries.specs.Trees.{Label, Forest, Tree, alone, bare, grown, height, size}
use Rattle.k_dict_entries.specs.Entries.{AreRuns, NameEarlier, copies, label_of, laid, no_tree, tree_at, trees_of}
use Rattle.k_dict_entries.specs.Rules.{AreProfile, HaveBoundedNumbers, child_paths, child_works, entry_of, no_entry}
use Rattle.k_dict_entries.specs.declared.entry.Entry.{Entry}
use Rattle.k_dict_entries.specs.declared.entry.Run.{Run}
use Rattle.k_dict_entries.proofs.EntryTrees.{tree_is}
use Rattle.k_profile_trees.proofs.Labels.{label_is}
use Rattle.k_selfpar.specs.Counts.{weighed}
use Rattle.k_selfpar.specs.Sums.{HaveChildren, all_of, inner_paths, inner_works, one, outer_paths, outer_works, own_of, path, path_at, serial_in, sum_of, work, work_at}
use Rattle.k_selfpar.proofs.Giving.{outer_paths-laid, outer_works-laid}

-- an instance's path is at most its work, and at most the time that it would take with its children one behind the other; its
-- children's works are part of its own
pub record IsBounded (label : Label) (inner : Forest) : Type 0 where
  pub work : label.path ≤ label.work
  pub part : outer_works inner ≤ label.work
  pub parts : label.path ≤ serial_in label inner

-- so it is for each instance of a forest
abbrev pub Bounded : Forest → Type 0
Bounded bare = Unit {0}
Bounded (grown label inner later) = IsBounded label inner × Bounded inner × Bounded later

pub bounded_copies : (n : ℕ) (t : Tree) (later : Forest) → Bounded (alone t) → Bounded later → Bounded (copies n t later)
bounded_copies zero t later is rest = rest
bounded_copies (suc n) t later is rest = (is.0, is.1, bounded_copies n t later is rest)

bounded_laid : (trees : List Tree) (low high : ℕ) (runs : List Run) → AreRuns low high runs
    → ((m : ℕ) → m < high → Bounded (alone (get_or trees m no_tree))) → Bounded (laid trees runs)
bounded_laid trees low high [] are each = tt
bounded_laid trees low high (run ∷ runs) are each =
    bounded_copies run.count (get_or trees run.entry no_tree) (laid trees runs) (each run.entry are.1) (bounded_laid trees (run.entry + 1) high runs are.3 each)

module _ (entries : List Entry) (earlier : NameEarlier entries) where
  works_are : (low high : ℕ) (runs : List Run) → AreRuns low high runs → high ≤ length entries → child_works entries runs ≡ weighed (work_at entries) runs
  works_are low high [] are within = refl
  works_are low high (run ∷ runs) are within =
      let below : run.entry < high = are.1 in
      ap (λ (l : Label). run.count * l.work + child_works entries runs) (sym (label_is entries earlier run.entry (omega arith)))
      ∙ ap (λ x. run.count * work_at entries run.entry + x) (works_are (run.entry + 1) high runs are.3 within)

  paths_are : (low high : ℕ) (runs : List Run) → AreRuns low high runs → high ≤ length entries → child_paths entries runs ≡ weighed (path_at entries) runs
  paths_are low high [] are within = refl
  paths_are low high (run ∷ runs) are within =
      let below : run.entry < high = are.1 in
      ap (λ (l : Label). run.count * l.path + child_paths entries runs) (sym (label_is entries earlier run.entry (omega arith)))
      ∙ ap (λ x. run.count * path_at entries run.entry + x) (paths_are (run.entry + 1) high runs are.3 within)

  module _ (numbers : HaveBoundedNumbers entries) where
    bounded_entry : (n : ℕ) (e : Entry) → n < length entries → slice_get entries n ≡ Some e → IsBounded (label_of e) (laid (trees_of entries) e.runs)
    bounded_entry n e lt at = record {
      work = (numbers n e at).work;
      part = subst (λ x. x ≤ e.work) works (numbers n e at).part;
      parts = subst (λ x. e.path ≤ x + (e.work - outer_works (laid (trees_of entries) e.runs))) paths
          (subst (λ x. e.path ≤ child_paths entries e.runs + (e.work - x)) works (numbers n e at).parts);
    }
      where
        works : child_works entries e.runs ≡ outer_works (laid (trees_of entries) e.runs)
        works = works_are 0 n e.runs (earlier n e at) (omega arith) ∙ sym (outer_works-laid (trees_of entries) e.runs)

        paths : child_paths entries e.runs ≡ outer_paths (laid (trees_of entries) e.runs)
        paths = paths_are 0 n e.runs (earlier n e at) (omega arith) ∙ sym (outer_paths-laid (trees_of entries) e.runs)

    bounded_below : (bound n : ℕ) → n < bound → n < length entries → Bounded (alone (tree_at entries n))
    bounded_below zero n less lt = absurd (omega arith)
    bounded_below (suc bound) n less lt =
        let e : Entry = entry_of entries n in
        let at : slice_get entries n ≡ Some e = slice_get-get_or entries n no_entry lt in
        subst (λ (t : Tree). Bounded (alone t)) (sym (tree_is entries n e at (earlier n e at))) (
          bounded_entry n e lt at,
          bounded_laid (trees_of entries) 0 n e.runs (earlier n e at) (λ m before. bounded_below bound m (omega arith) (omega arith)),
          tt,
        )

    -- each entry's tree is bounded
    pub bounded_tree : (n : ℕ) → n < length entries → Bounded (alone (tree_at entries n))
    bounded_tree n lt = bounded_below (suc n) n (omega arith) lt

limit_step : (w ti tl wi wl hi hl h : ℕ) → 1 + hi ≤ h → hl ≤ h → ti ≤ hi * wi → wi ≤ w → tl ≤ hl * wl → w + (ti + tl) ≤ h * (w + wl)
limit_step w ti tl wi wl hi hl h higher high one two three =
    let a : hi * wi ≤ hi * w = mul-le-mul_left hi two in
    let b : (1 + hi) * w ≤ h * w = mul-le-mul_right w higher in
    let c : hl * wl ≤ h * wl = mul-le-mul_right wl high in
    let d : (1 + hi) * w ≡ w + hi * w = omega arith in
    omega (arith, a, b, c, d, mul-add h w wl)

-- the works of all instances are at most those of the outermost ones for each level
pub works_limit : (f : Forest) → Bounded f → sum_of work f ≤ height f * outer_works f
works_limit bare bounded = omega arith
works_limit (grown label inner later) bounded =
    limit_step label.work (sum_of work inner) (sum_of work later) (outer_works inner) (outer_works later) (height inner) (height later)
    (max (1 + height inner) (height later)) (omega arith) (omega arith) (works_limit inner bounded.1) bounded.0.part (works_limit later bounded.2)

pub paths_at_most_works : (f : Forest) → Bounded f → outer_paths f ≤ outer_works f
paths_at_most_works bare bounded = omega arith
paths_at_most_works (grown label inner later) bounded =
    let here : label.path ≤ label.work = bounded.0.work in
    let rest : outer_paths later ≤ outer_works later = paths_at_most_works later bounded.2 in
    omega arith

pub serial_at_most : (p w n : ℕ) → w ≤ n → p ≤ w → p + (n - w) ≤ n
serial_at_most p w n e f = omega arith

-- the paths of all instances together are at most their works, and so are the times with children one behind the other
pub paths_limit : (f : Forest) → Bounded f → sum_of path f ≤ sum_of work f
paths_limit bare bounded = omega arith
paths_limit (grown label inner later) bounded =
    let here : label.path ≤ label.work = bounded.0.work in
    let one_inner : sum_of path inner ≤ sum_of work inner = paths_limit inner bounded.1 in
    let one_later : sum_of path later ≤ sum_of work later = paths_limit later bounded.2 in
    omega arith

pub serial_limit : (f : Forest) → Bounded f → sum_of serial_in f ≤ sum_of work f
serial_limit bare bounded = omega arith
serial_limit (grown label inner later) bounded =
    let here : serial_in label inner ≤ label.work =
    serial_at_most (outer_paths inner) (outer_works inner) label.work bounded.0.part (paths_at_most_works inner bounded.1) in
    let one_inner : sum_of serial_in inner ≤ sum_of work inner = serial_limit inner bounded.1 in
    let one_later : sum_of serial_in later ≤ sum_of work later = serial_limit later bounded.2 in
    omega arith

pub count_is_size : (f : Forest) → sum_of one f ≡ size f
count_is_size bare = refl
count_is_size (grown label inner later) = let a = count_is_size inner in let b = count_is_size later in omega arith

module _ (entries : List Entry) (profile : AreProfile entries) where
  -- the work of an entry is at most 2 ^ 44
  pub work_small : (n : ℕ) → n < length entries → work_at entries n ≤ 2 ^ 44
  work_small n lt =
      let at : slice_get entries n ≡ Some (entry_of entries n) = slice_get-get_or entries n no_entry lt in
      let is : (tree_at entries n).label ≡ label_of (entry_of entries n) = label_is entries profile.interned.earlier n lt in
      let most : (entry_of entries n).work ≤ 17592186044416 = (profile.numbers n (entry_of entries n) at).most in
      let e : work_at entries n ≡ (entry_of entries n).work = ap (λ (l : Label). l.work) is in
      omega arith

  module _ (root : ℕ) (lt : root < length entries) where
    bounded : Bounded (alone (tree_at entries root))
    bounded = bounded_tree entries profile.interned.earlier profile.numbers root lt

    -- the tree has few instances
    pub instances_few : all_of one entries root ≤ 2 ^ 59
    instances_few =
        let few : size (alone (tree_at entries root)) ≤ 576460752303423488 = profile.instances root lt in
        let is = count_is_size (alone (tree_at entries root)) in
        omega arith

    -- and their works together are small enough
    pub works_few : all_of work entries root ≤ 2 ^ 49
    works_few =
        let limit : all_of work entries root ≤ height (alone (tree_at entries root)) * (work_at entries root + 0) = works_limit (alone (tree_at entries root)) bounded in
        let levels : height (alone (tree_at entries root)) ≤ 32 = profile.levels root lt in
        let small = work_small root lt in
        let b : height (alone (tree_at entries root)) * (work_at entries root + 0) ≤ 32 * (work_at entries root + 0) =
        mul-le-mul_right (work_at entries root + 0) levels in
        omega (arith, b, limit, small)

    pub paths_few : all_of path entries root ≤ 2 ^ 49
    paths_few = let works = works_few in let less = paths_limit (alone (tree_at entries root)) bounded in omega arith

    pub serial_few : all_of serial_in entries root ≤ 2 ^ 49
    serial_few = let works = works_few in let less = serial_limit (alone (tree_at entries root)) bounded in omega arith

  -- the children of an entry's instances come to little enough
  pub have_children : HaveChildren entries
  have_children n lt = record {
    own = few_own;
    paths = few_paths;
    works = few_works;
    part = (bounded n lt).0.part;
  }
    where
      few_own : work_at entries n < 2 ^ 62
      few_own = let small = work_small n lt in omega arith

      few_works : own_of inner_works entries n < 2 ^ 62
      few_works =
          let part : own_of inner_works entries n ≤ work_at entries n = (bounded n lt).0.part in
          let small = work_small n lt in
          omega arith

      few_paths : own_of inner_paths entries n < 2 ^ 62
      few_paths =
          let less : own_of inner_paths entries n ≤ own_of inner_works entries n = paths_at_most_works (tree_at entries n).inner (bounded n lt).1 in
          let works = few_works in
          omega arith

-- What the sums over the children of an entry are, and how large its tree is.
use Rattle.std.proofs.Common.{◌≡◌, ℕ, zero, suc, ◌+◌, ◌-◌, ◌*◌, ◌<◌, ◌≤◌, true, ◌&&◌, nat_le, nat_lt, max, List, [], ◌∷◌, length, map, get_or, refl, sym, ap, ◌∙◌, subst, arith, zero-add}
use Rattle.std.proofs.Math.Nat.{suc-mul}
use Rattle.std.proofs.lemmas.Bool.{and_parts, and_from, leb-true, ltb-true, le-leb, lt-ltb}
use Rattle.std.proofs.lemmas.List.{get_or-map}
use Rattle.k_dict_entries.specs.Entries.{NameBelow, copies, laid, no_tree, tree_of, trees_of}
use Rattle.k_dict_saved.specs.Extents.{capped, child_instances, child_levels, extent_at, extent_of, extent_over, extents_of, is_within, no_extent, no_sums, sums_from, with_run}
use Rattle.k_dict_saved.specs.Reading.{IsWithinRules}
use Rattle.k_dict_entries.specs.Rules.{HavePathsUpTo, child_paths, child_works, entry_of}
use Rattle.k_dict_entries.specs.Trees.{Forest, Tree, alone, height, size}
use Rattle.k_dict_entries.specs.declared.entry.Entry.{Entry}
use Rattle.k_dict_entries.specs.declared.entry.Run.{Run}
use Rattle.k_dict_saved.specs.declared.reading.extents.Extent.{Extent}
use Rattle.k_dict_saved.specs.declared.reading.extents.Sums.{Sums}
use Rattle.k_dict_entries.proofs.EntryTrees.{length-trees}

-- ---- the extent of children

height-copies : (n : ℕ) (t : Tree) (later : Forest) → 1 ≤ n → height (copies n t later) ≡ max (height (alone t)) (height later)
height-copies zero t later some = absurd (omega arith)
height-copies (suc zero) t later some = omega arith
height-copies (suc (suc n)) t later some = let more = height-copies (suc n) t later (omega arith) in omega arith

pub size-copies : (n : ℕ) (t : Tree) (later : Forest) → size (copies n t later) ≡ n * size (alone t) + size later
size-copies zero t later = omega arith
size-copies (suc n) t later = let more = size-copies n t later in omega (arith, suc-mul n (size (alone t)))

-- the levels of the children that runs stand for
pub height-laid : (trees : List Tree) (runs : List Run) → NameBelow (length trees) runs → height (laid trees runs) ≡ child_levels (map extent_of trees) runs
height-laid trees [] below = refl
height-laid trees (run ∷ runs) below =
    let t : Tree = get_or trees run.entry no_tree in
    let here : extent_at (map extent_of trees) run.entry ≡ extent_of t = get_or-map extent_of trees run.entry no_tree no_extent below.0 in
    height-copies run.count t (laid trees runs) below.1
    ∙ (λ i. max (sym here i).levels (height-laid trees runs below.2 i))

-- their instances
pub size-laid : (trees : List Tree) (runs : List Run) → NameBelow (length trees) runs → size (laid trees runs) ≡ child_instances (map extent_of trees) runs
size-laid trees [] below = refl
size-laid trees (run ∷ runs) below =
    let t : Tree = get_or trees run.entry no_tree in
    let here : extent_at (map extent_of trees) run.entry ≡ extent_of t = get_or-map extent_of trees run.entry no_tree no_extent below.0 in
    size-copies run.count t (laid trees runs) ∙ (λ i. run.count * (sym here i).instances + size-laid trees runs below.2 i)

-- ---- the sums

capped-more : (a b : ℕ) → capped (capped a + b) ≡ capped (a + b)
capped-more a b = omega arith

-- the sums of these runs behind others
pub record AreSums (entries : List Entry) (extents : List Extent) (s : Sums) (runs : List Run) : Type 0 where
  pub works : (sums_from entries extents s runs).works ≡ capped (s.works + child_works entries runs)
  pub paths : (sums_from entries extents s runs).paths ≡ capped (s.paths + child_paths entries runs)
  pub levels : (sums_from entries extents s runs).levels ≡ max s.levels (child_levels extents runs)
  pub instances : (sums_from entries extents s runs).instances ≡ capped (s.instances + child_instances extents runs)

-- the sums are numbers of 64 bits
pub record AreCapped (s : Sums) : Type 0 where
  pub works : s.works ≤ 18446744073709551615
  pub paths : s.paths ≤ 18446744073709551615
  pub instances : s.instances ≤ 18446744073709551615

-- the sums from others on
pub sums_are : (entries : List Entry) (extents : List Extent) (s : Sums) (runs : List Run) → AreCapped s → AreSums entries extents s runs
sums_are entries extents s [] cap = record {
  works = let low = cap.works in omega arith;
  paths = let low = cap.paths in omega arith;
  levels = omega arith;
  instances = let low = cap.instances in omega arith;
}
sums_are entries extents s (run ∷ runs) cap =
    let e : Entry = entry_of entries run.entry in let x : Extent = extent_at extents run.entry in
    let next : Sums = with_run s run e x in
    let later = sums_are entries extents next runs (record { works = omega arith; paths = omega arith; instances = omega arith }) in
    let w : ℕ = run.count * e.work in let p : ℕ = run.count * e.path in let n : ℕ = run.count * x.instances in
    record {
      works = later.works ∙ sum s.works w (child_works entries runs);
      paths = later.paths ∙ sum s.paths p (child_paths entries runs);
      levels = later.levels ∙ level s.levels x.levels (child_levels extents runs);
      instances = later.instances ∙ sum s.instances n (child_instances extents runs);
    }
  where
    sum : (a b c : ℕ) → capped (capped (a + b) + c) ≡ capped (a + (b + c))
    sum a b c = omega arith

    level : (a b c : ℕ) → max (max a b) c ≡ max a (max b c)
    level a b c = omega arith

-- the longest path among children, and a bound on all
longest_below : (entries : List Entry) (extents : List Extent) (s : Sums) (runs : List Run) (path : ℕ) → (sums_from entries extents s runs).longest ≤ path
    → (s.longest ≤ path) × HavePathsUpTo path entries runs
longest_below entries extents s [] path h = (h, tt)
longest_below entries extents s (run ∷ runs) path h =
    let later = longest_below entries extents (with_run s run (entry_of entries run.entry) (extent_at extents run.entry)) runs path h in
    let both = later.0 in (omega arith, (omega arith, later.1))

below_longest : (entries : List Entry) (extents : List Extent) (s : Sums) (runs : List Run) (path : ℕ) → s.longest ≤ path → HavePathsUpTo path entries runs
    → (sums_from entries extents s runs).longest ≤ path
below_longest entries extents s [] path low are = low
below_longest entries extents s (run ∷ runs) path low are =
    let here = are.0 in
    below_longest entries extents (with_run s run (entry_of entries run.entry) (extent_at extents run.entry)) runs path (omega arith) are.1

-- ---- the rules

module _ (entries : List Entry) (e : Entry) (below : NameBelow (length entries) e.runs) where
  below_trees : NameBelow (length (trees_of entries)) e.runs
  below_trees = let P : ℕ → Type 0 = λ n. NameBelow n e.runs in subst P (sym (length-trees entries)) below

  levels_are : (sums_from entries (extents_of entries) no_sums e.runs).levels ≡ height (laid (trees_of entries) e.runs)
  levels_are =
      (sums_are entries (extents_of entries) no_sums e.runs (record { works = omega arith; paths = omega arith; instances = omega arith })).levels
      ∙ level (child_levels (extents_of entries) e.runs) ∙ sym (height-laid (trees_of entries) e.runs below_trees)
    where
      level : (a : ℕ) → max 0 a ≡ a
      level a = omega arith

  instances_are : (sums_from entries (extents_of entries) no_sums e.runs).instances ≡ capped (size (laid (trees_of entries) e.runs))
  instances_are =
      (sums_are entries (extents_of entries) no_sums e.runs (record { works = omega arith; paths = omega arith; instances = omega arith })).instances
      ∙ ap capped (zero-add (child_instances (extents_of entries) e.runs) ∙ sym (size-laid (trees_of entries) e.runs below_trees))

  works_are : (sums_from entries (extents_of entries) no_sums e.runs).works ≡ capped (child_works entries e.runs)
  works_are =
      (sums_are entries (extents_of entries) no_sums e.runs (record { works = omega arith; paths = omega arith; instances = omega arith })).works
      ∙ ap capped (zero-add (child_works entries e.runs))

  paths_are : (sums_from entries (extents_of entries) no_sums e.runs).paths ≡ capped (child_paths entries e.runs)
  paths_are =
      (sums_are entries (extents_of entries) no_sums e.runs (record { works = omega arith; paths = omega arith; instances = omega arith })).paths
      ∙ ap capped (zero-add (child_paths entries e.runs))

  -- the tests say what the rules ask
  pub within_rules : is_within e (sums_from entries (extents_of entries) no_sums e.runs) ≡ true → IsWithinRules entries e
  within_rules h =
      let s : Sums = sums_from entries (extents_of entries) no_sums e.runs in
      let w = works_are in let p = paths_are in let l = levels_are in let n = instances_are in
      let a = and_parts (nat_le e.work 17592186044416) (nat_le s.works e.work && (nat_le e.path e.work && (nat_le s.longest e.path
      && (nat_le (e.path - s.paths) (e.work - s.works) && (nat_lt s.levels 32 && nat_lt s.instances 576460752303423488))))) h in
      let b = and_parts (nat_le s.works e.work) (nat_le e.path e.work && (nat_le s.longest e.path
      && (nat_le (e.path - s.paths) (e.work - s.works) && (nat_lt s.levels 32 && nat_lt s.instances 576460752303423488)))) a.1 in
      let c = and_parts (nat_le e.path e.work) (nat_le s.longest e.path
      && (nat_le (e.path - s.paths) (e.work - s.works) && (nat_lt s.levels 32 && nat_lt s.instances 576460752303423488))) b.1 in
      let d = and_parts (nat_le s.longest e.path) (nat_le (e.path - s.paths) (e.work - s.works) && (nat_lt s.levels 32 && nat_lt s.instances 576460752303423488)) c.1 in
      let f = and_parts (nat_le (e.path - s.paths) (e.work - s.works)) (nat_lt s.levels 32 && nat_lt s.instances 576460752303423488) d.1 in
      let g = and_parts (nat_lt s.levels 32) (nat_lt s.instances 576460752303423488) f.1 in
      let work : e.work ≤ 17592186044416 = leb-true e.work 17592186044416 a.0 in
      let works : s.works ≤ e.work = leb-true s.works e.work b.0 in
      let path : e.path ≤ e.work = leb-true e.path e.work c.0 in
      let longest : s.longest ≤ e.path = leb-true s.longest e.path d.0 in
      let parts : e.path - s.paths ≤ e.work - s.works = leb-true (e.path - s.paths) (e.work - s.works) f.0 in
      let levels : s.levels < 32 = ltb-true s.levels 32 g.0 in
      let instances : s.instances < 576460752303423488 = ltb-true s.instances 576460752303423488 g.1 in
      record {
        numbers = record {
          most = work;
          part = omega arith;
          work = path;
          child = (longest_below entries (extents_of entries) no_sums e.runs e.path longest).1;
          parts = omega arith;
        };
        levels = omega arith;
        instances = omega arith;
      }

  -- and the rules say what the tests ask
  pub rules_within : IsWithinRules entries e → is_within e (sums_from entries (extents_of entries) no_sums e.runs) ≡ true
  rules_within are =
      let s : Sums = sums_from entries (extents_of entries) no_sums e.runs in
      let w = works_are in let p = paths_are in let l = levels_are in let n = instances_are in
      let most = are.numbers.most in let part = are.numbers.part in let work = are.numbers.work in let parts = are.numbers.parts in
      let levels = are.levels in let instances = are.instances in
      and_from (nat_le e.work 17592186044416) _ (le-leb e.work 17592186044416 most)
      (and_from (nat_le s.works e.work) _ (le-leb s.works e.work (omega arith))
      (and_from (nat_le e.path e.work) _ (le-leb e.path e.work work)
      (and_from (nat_le s.longest e.path) _
      (le-leb s.longest e.path (below_longest entries (extents_of entries) no_sums e.runs e.path (omega arith) are.numbers.child))
      (and_from (nat_le (e.path - s.paths) (e.work - s.works)) _ (le-leb (e.path - s.paths) (e.work - s.works) (omega arith))
      (and_from (nat_lt s.levels 32) (nat_lt s.instances 576460752303423488) (lt-ltb s.levels 32 (omega arith))
      (lt-ltb s.instances 576460752303423488 (omega arith)))))))

  -- the extent of the tree over its children
  pub extent_is : IsWithinRules entries e → extent_over (sums_from entries (extents_of entries) no_sums e.runs) ≡ extent_of (tree_of (trees_of entries) e)
  extent_is are =
      let s : Sums = sums_from entries (extents_of entries) no_sums e.runs in
      let l = levels_are in let n = instances_are in let instances = are.instances in
      let one : 1 + s.levels ≡ height (alone (tree_of (trees_of entries) e)) = omega arith in
      let other : 1 + s.instances ≡ size (alone (tree_of (trees_of entries) e)) = omega arith in
      λ i. record { levels = one i; instances = other i }

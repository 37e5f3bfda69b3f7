-- The dictionary that entries of format 1 become is that of their tree, and keeps the rules.
use Rattle.std.proofs.Common.{◌≡◌, ℕ, zero, suc, ◌+◌, ◌*◌, ◌<◌, ◌≤◌, inl, inr, List, [], ◌∷◌, ◌++◌, length, get_or, Some, slice_get, sym, ap, ◌∙◌, subst, arith}
use Rattle.std.specs.Prelude.{ℤ, FitsSigned}
use Rattle.std.specs.Int.{w32}
use Rattle.std.proofs.lemmas.Option.{get_or_from_slice_get, none-some, same_Some, slice_get-get_or, slice_get_within}
use Rattle.k_optab.specs.declared.region.Region.{Region}
use Rattle.k_dict_entries.specs.Dictionary.{Firsts, ended, again, anew, IsDictionaryOf}
use Rattle.k_dict_entries.specs.Entries.{AreInterned, AreRuns, NameBelow, label_of, laid, no_tree, tree_at, tree_of, trees_of}
use Rattle.k_dict_entries.specs.Gathering.{number_of}
use Rattle.k_dict_entries.specs.Rules.{HasBoundedNumbers, HaveBoundedNumbers, HaveFewInstances, HaveFewLevels, NameRegions, child_paths, child_works, entry_of, no_entry}
use Rattle.k_dict_entries.specs.Tallies.{total}
use Rattle.k_dict_entries.specs.Trees.{SameShape, Tree, alone, height, post_order, size}
use Rattle.k_dict_entries.specs.declared.entry.Entry.{Entry}
use Rattle.k_dict_entries.specs.declared.entry.Run.{Run}
use Rattle.k_dict_entries.proofs.Again.{covered, from_list}
use Rattle.k_dict_entries.proofs.Coding.{AreProper, code, code_alike, entry_at, number_below, number_in}
use Rattle.k_dict_entries.proofs.EntryTrees.{below_bound, length-trees, tree_is, tree_named}
use Rattle.k_dict_entries.proofs.Forests.{Alike-sym, SameShape-further, SameShape-sym}
use Rattle.k_dict_entries.proofs.Unique.{first_case, none_more, root_is}
use Rattle.k_dict_entries.proofs.Walking.{EachWith-at, EachWith-back, Firsts-further, tree_there}
use Rattle.k_dict_saved.specs.Formats.{AreNamed, HaveRuns, IsNamedBy, IsPostOrder, Names}
use Rattle.k_dict_saved.specs.Lines.{EndsInMain}
use Rattle.k_dict_saved.specs.Migration.{AreOfShapes, HaveFewChildren}
use Rattle.k_dict_saved.specs.Files.{AreRegions}
use Rattle.k_dict_saved.specs.Profile.{IsMigrated, IsOld, IsSaved}
use Rattle.k_dict_saved.specs.declared.format.Format.TheVariants.{One}
use Rattle.k_dict_saved.specs.declared.saved.Old.{Old}
use Rattle.k_dict_saved.specs.declared.saved.Saved.{Saved}
use Rattle.k_profile_trees.proofs.Labels.{wider}
use Rattle.k_dict_saved.proofs.Tops.{top_laid}
use Rattle.k_profile_trees.proofs.Shapes.{HasTop, TopsUpTo, height_of_shape, laid_up_to, parent_of, paths_laid, size_of_shape, top_alike, tops_alike, up_to_alike, up_to_laid, works_laid}
use Rattle.k_dict_saved.proofs.RunSums.{size-copies}
use Rattle.k_dict_saved.proofs.Visiting.{Firsts-grow}

-- ---- of trees that are equal the first, and of those the first of each shape

coarser : (kept trees all : List Tree) (first : Firsts ◌≡◌ kept trees all) (shapes : List Tree) → Firsts SameShape [] kept shapes
    → (last : List Tree) → Firsts SameShape shapes (Firsts-grow kept trees all first).0 last → Firsts SameShape shapes trees last
coarser _ _ _ (ended kept) shapes so_far last more =
    let P : List Tree → Type 0 = λ l. Firsts SameShape shapes [] l in subst P (sym (none_more SameShape shapes last more)) (ended shapes)
coarser _ _ all (again t kept trees _ n k at same first) shapes so_far last more =
    let there = covered [] kept shapes so_far n k at in
    let P : Tree → Type 0 = λ u. SameShape u there.1 in
    again t shapes trees last there.0 there.1 there.2 (subst P (sym same) there.3) (coarser kept trees all first shapes so_far last more)
coarser _ _ all (anew t kept trees _ none first) shapes so_far last more =
    elim (first_case SameShape t shapes (Firsts-grow (kept ++ t ∷ []) trees all first).0 last more) [
      | inl there ↦ again t shapes trees last there.0 there.1 there.2 there.3
          (coarser (kept ++ t ∷ []) trees all first shapes
          (Firsts-further SameShape [] kept shapes (t ∷ []) shapes so_far (again t shapes [] shapes there.0 there.1 there.2 there.3 (ended shapes))) last there.4)
      | inr new ↦ anew t shapes trees last new.0
          (coarser (kept ++ t ∷ []) trees all first (shapes ++ t ∷ [])
          (Firsts-further SameShape [] kept shapes (t ∷ []) (shapes ++ t ∷ []) so_far (anew t shapes [] (shapes ++ t ∷ []) new.0 (ended (shapes ++ t ∷ [])))) last new.1)
    ]

-- the entries of the shapes of entries in post-order are the dictionary of their tree
pub dictionary_of : (entries dict : List Entry) (order : IsPostOrder entries) → AreOfShapes (trees_of entries) dict
    → IsDictionaryOf (tree_at entries order.root) dict
dictionary_of entries dict order are =
    let list : List Tree = post_order (alone (tree_at entries order.root)) in
    let grow = Firsts-grow [] list (trees_of entries) order.firsts in
    let P : List Tree → Type 0 = λ l. Firsts SameShape [] l are.shapes in
    record {
      shapes = are.shapes;
      firsts = coarser [] list (trees_of entries) order.firsts [] (ended []) are.shapes (subst P grow.1 are.firsts);
      stands = are.stands;
      earlier = are.earlier;
    }

-- ---- the trees of a dictionary

module _ (dict : List Entry) (proper : AreProper dict) where
  -- an entry by its number, with its tree
  entry_there : (n : ℕ) → n < length dict → (e : Entry) × (slice_get dict n ≡ Some e) × (tree_at dict n ≡ tree_of (trees_of dict) e)
  entry_there n within =
      let some : Entry = entry_at (no_tree).label [] in
      let e : Entry = get_or dict n some in
      let at : slice_get dict n ≡ Some e = slice_get-get_or dict n some within in
      (e, at, tree_is dict n e at (proper.earlier n e at))

  -- two entries stand for trees of one shape only where they are one
  same_number : (m n : ℕ) → m < length dict → n < length dict → SameShape (tree_at dict m) (tree_at dict n) → m ≡ n
  same_number m n less less' same =
      let coded : code dict (tree_at dict m).inner [] ≡ code dict (tree_at dict n).inner [] =
      code_alike dict (tree_at dict m).inner (tree_at dict n).inner same.inner [] in
      let label : (tree_at dict m).label ≡ (tree_at dict n).label = same.label in
      let number : number_in dict (tree_at dict m) ≡ number_in dict (tree_at dict n) = λ i. number_of dict (entry_at (label i) (coded i)) in
      sym (number_below dict proper (suc m) m (omega arith) less) ∙ number ∙ number_below dict proper (suc n) n (omega arith) less'

named_at : (entries : List Entry) (m : ℕ) (e : Entry) (n : ℕ) → slice_get entries m ≡ Some e → Names n e.runs → IsNamedBy n entries
named_at [] m e n at names = absurd (none-some e at)
named_at (d ∷ entries) zero e n at names = let P : Entry → Type 0 = λ x. Names n x.runs in inl (subst P (sym (same_Some d e at)) names)
named_at (d ∷ entries) (suc m) e n at names = inr (named_at entries m e n at names)

names_below : (low high n : ℕ) (runs : List Run) → AreRuns low high runs → Names n runs → n < high
names_below low high n [] are names = absurd names
names_below low high n (run ∷ runs) are names = elim names [
  | inl here ↦ (let P : ℕ → Type 0 = λ k. k < high in subst P here are.1)
  | inr later ↦ names_below (run.entry + 1) high n runs are.3 later
]

-- each entry of a tree's dictionary but the last is named by another
pub all_named : (t : Tree) (dict : List Entry) → IsDictionaryOf t dict → AreInterned dict → AreNamed dict
all_named t dict is interned n less = elim (from_list [] (post_order (alone t)) is.shapes is.firsts n k.0 k.1) [
  | inl before ↦ absurd (none-some k.0 before.1)
  | inr listed ↦ elim (parent_of (alone t) k.0 listed) [
    | inl top ↦ elim top [ inl here ↦ absurd (not_root here) | inr behind ↦ absurd behind ]
    | inr parent ↦ by parent.0 parent.1 parent.2
  ]
]
  where
    proper : AreProper dict
    proper = record { earlier = interned.earlier; apart = interned.apart }

    k : (u : Tree) × (slice_get is.shapes n ≡ Some u) × SameShape u (tree_at dict n)
    k = EachWith-back SameShape is.shapes (trees_of dict) n (tree_at dict n) is.stands (tree_there dict n (omega arith))

    not_root : SameShape k.0 t → ⊥
    not_root here =
        let root = root_is t dict is in
        let count = root.1 in
        let shape : SameShape (tree_at dict n) (tree_at dict root.0) =
        SameShape-further (tree_at dict n) k.0 (tree_at dict root.0) (SameShape-sym k.0 (tree_at dict n) k.2) (SameShape-further k.0 t (tree_at dict root.0) here root.2) in
        let same : n ≡ root.0 = same_number dict proper n root.0 (omega arith) (omega arith) shape in
        absurd (omega arith)

    by : (v : Tree) → (m : ℕ) × (slice_get (post_order (alone t)) m ≡ Some v) → HasTop k.0 v.inner → IsNamedBy n dict
    by v at top =
        let shape = covered [] (post_order (alone t)) is.shapes is.firsts at.0 v at.1 in
        let there = EachWith-at SameShape is.shapes (trees_of dict) shape.0 shape.1 is.stands shape.2 in
        let count = length-trees dict in
        let inside = slice_get_within (trees_of dict) shape.0 there.0 there.1 in
        let within : shape.0 < length dict = omega arith in
        let e = entry_there dict proper shape.0 within in
        let same : there.0 ≡ tree_of (trees_of dict) e.0 = same_Some there.0 (tree_at dict shape.0) (sym there.1 ∙ tree_there dict shape.0 within) ∙ e.2 in
        let P : Tree → Type 0 = λ u. SameShape v u in
        let alike : SameShape v (tree_of (trees_of dict) e.0) = subst P same (SameShape-further v shape.1 there.0 shape.3 there.2) in
        let child = top_laid k.0 (trees_of dict) e.0.runs (top_alike k.0 v.inner (laid (trees_of dict) e.0.runs) alike.inner top) in
        let low = names_below 0 shape.0 child.0 e.0.runs (proper.earlier shape.0 e.0 e.1) child.1 in
        let number : n ≡ child.0 = same_number dict proper n child.0 (omega arith) (omega arith)
        (SameShape-further (tree_at dict n) k.0 (tree_at dict child.0) (SameShape-sym k.0 (tree_at dict n) k.2) child.2) in
        let Q : ℕ → Type 0 = λ j. Names j e.0.runs in
        named_at dict shape.0 e.0 n e.1 (subst Q (sym number) child.1)

-- ---- the rules

module _ (old dict : List Entry) (are : AreOfShapes (trees_of old) dict) (interned : AreInterned dict) (runs : HaveRuns One old) where
  proper : AreProper dict
  proper = record { earlier = interned.earlier; apart = interned.apart }

  -- each entry of the dictionary has the shape of one of format 1
  like : (n : ℕ) → n < length dict → (m : ℕ) × (m < length old) × SameShape (tree_at dict n) (tree_at old m)
  like n within = elim (from_list [] (trees_of old) are.shapes are.firsts n k.0 k.1) [
    | inl before ↦ absurd (none-some k.0 before.1)
    | inr listed ↦ (let count = length-trees old in let inside = slice_get_within (trees_of old) listed.0 k.0 listed.1 in
        let less : listed.0 < length old = omega arith in
        let same : k.0 ≡ tree_at old listed.0 = same_Some k.0 (tree_at old listed.0) (sym listed.1 ∙ tree_there old listed.0 less) in
        let P : Tree → Type 0 = λ u. SameShape (tree_at dict n) u in
        (listed.0, less, subst P same (SameShape-sym k.0 (tree_at dict n) k.2)))
  ]
    where
      k : (u : Tree) × (slice_get are.shapes n ≡ Some u) × SameShape u (tree_at dict n)
      k = EachWith-back SameShape are.shapes (trees_of dict) n (tree_at dict n) are.stands (tree_there dict n within)

  -- the entry of format 1 of a number, with its tree
  old_there : (m : ℕ) → m < length old → (e : Entry) × (slice_get old m ≡ Some e) × (tree_at old m ≡ tree_of (trees_of old) e)
  old_there m within =
      let some : Entry = entry_at (no_tree).label [] in
      let e : Entry = get_or old m some in
      let at : slice_get old m ≡ Some e = slice_get-get_or old m some within in
      (e, at, tree_named old m e at (runs m e at).0)

  old_labels : (n : ℕ) → n < length old → (tree_at old n).label ≡ label_of (entry_of old n)
  old_labels n less = let e = old_there n less in ap (λ t. t.label) e.2 ∙ ap label_of (sym (get_or_from_slice_get old n e.0 no_entry e.1))

  new_labels : (n : ℕ) → n < length dict → (tree_at dict n).label ≡ label_of (entry_of dict n)
  new_labels n less = let e = entry_there dict proper n less in ap (λ t. t.label) e.2 ∙ ap label_of (sym (get_or_from_slice_get dict n e.0 no_entry e.1))

  pub rule_levels : HaveFewLevels old → HaveFewLevels dict
  rule_levels few n less =
      let l = like n less in let most = few l.0 l.1 in
      let same : height (alone (tree_at dict n)) ≡ height (alone (tree_at old l.0)) = height_of_shape (tree_at dict n) (tree_at old l.0) l.2 in omega arith

  pub rule_instances : HaveFewInstances old → HaveFewInstances dict
  rule_instances few n less =
      let l = like n less in let most = few l.0 l.1 in
      let same : size (alone (tree_at dict n)) ≡ size (alone (tree_at old l.0)) = size_of_shape (tree_at dict n) (tree_at old l.0) l.2 in omega arith

  -- an entry of the dictionary and one of format 1, of one shape
  module _ (n : ℕ) (d : Entry) (at : slice_get dict n ≡ Some d) where
    within : n < length dict
    within = slice_get_within dict n d at

    abbrev old_number : ℕ
    old_number = (like n within).0

    abbrev old_entry : Entry
    old_entry = (old_there old_number (like n within).1).0

    at_old : slice_get old old_number ≡ Some old_entry
    at_old = (old_there old_number (like n within).1).1

    shape : SameShape (tree_of (trees_of dict) d) (tree_of (trees_of old) old_entry)
    shape =
        let P : Tree → Type 0 = λ t. SameShape t (tree_at old old_number) in
        let Q : Tree → Type 0 = λ t. SameShape (tree_of (trees_of dict) d) t in
        subst Q (old_there old_number (like n within).1).2 (subst P (tree_is dict n d at (proper.earlier n d at)) (like n within).2)

    same_label : label_of d ≡ label_of old_entry
    same_label = shape.label

    wide : NameBelow (length dict) d.runs
    wide = wider n (length dict) d.runs (omega (arith, within)) (below_bound 0 n d.runs (proper.earlier n d at))

    wide_old : NameBelow (length old) old_entry.runs
    wide_old = wider old_number (length old) old_entry.runs (omega (arith, (like n within).1)) (runs old_number old_entry at_old).0

    same_works : child_works dict d.runs ≡ child_works old old_entry.runs
    same_works =
        sym (works_laid dict (length dict) new_labels d.runs wide)
        ∙ tops_alike (λ x. x.work) (laid (trees_of dict) d.runs) (laid (trees_of old) old_entry.runs) shape.inner
        ∙ works_laid old (length old) old_labels old_entry.runs wide_old

    same_paths : child_paths dict d.runs ≡ child_paths old old_entry.runs
    same_paths =
        sym (paths_laid dict (length dict) new_labels d.runs wide)
        ∙ tops_alike (λ x. x.path) (laid (trees_of dict) d.runs) (laid (trees_of old) old_entry.runs) shape.inner
        ∙ paths_laid old (length old) old_labels old_entry.runs wide_old

    bounded : HasBoundedNumbers old old_entry → HasBoundedNumbers dict d
    bounded has =
        let work : d.work ≡ old_entry.work = ap (λ x. x.work) same_label in
        let path : d.path ≡ old_entry.path = ap (λ x. x.path) same_label in
        let works = same_works in let paths = same_paths in
        let most = has.most in let part = has.part in let least = has.work in let parts = has.parts in
        let P : ℕ → Type 0 = λ p. TopsUpTo p (laid (trees_of dict) d.runs) in
        let up : TopsUpTo d.path (laid (trees_of dict) d.runs) =
        subst P (sym path) (up_to_alike old_entry.path (laid (trees_of old) old_entry.runs) (laid (trees_of dict) d.runs)
        (Alike-sym (laid (trees_of dict) d.runs) (laid (trees_of old) old_entry.runs) shape.inner) (up_to_laid old (length old) old_labels old_entry.path old_entry.runs wide_old has.child)) in
        record {
          most = omega arith;
          part = omega arith;
          work = omega arith;
          child = laid_up_to dict (length dict) new_labels d.path d.runs wide up;
          parts = omega arith;
        }

  pub rule_numbers : HaveBoundedNumbers old → HaveBoundedNumbers dict
  rule_numbers have n d at = bounded n d at (have (old_number n d at) (old_entry n d at) (at_old n d at))

  pub rule_regions : (count : ℕ) → NameRegions count old → NameRegions count dict
  rule_regions count name n d at =
      let region : d.region ≡ (old_entry n d at).region = ap (λ x. x.region) (same_label n d at) in
      let few = name (old_number n d at) (old_entry n d at) (at_old n d at) in omega arith

at_least : (a b : ℕ) → 1 ≤ b → a ≤ a * b
at_least a b some = grind arith

-- there are no more children than instances below
total_size : (trees : List Tree) (runs : List Run) → total runs ≤ size (laid trees runs)
total_size trees [] = omega arith
total_size trees (run ∷ runs) =
    let t : Tree = get_or trees run.entry no_tree in
    let sum = size-copies run.count t (laid trees runs) in
    let here = at_least run.count (size (alone t)) (omega arith) in
    let rest = total_size trees runs in omega arith

-- no entry has more children than can be counted
pub few_children : (old : List Entry) → HaveRuns One old → HaveFewInstances old → HaveFewChildren old
few_children old runs few n e at =
    let most = few n (slice_get_within old n e at) in
    let same : size (alone (tree_at old n)) ≡ size (alone (tree_of (trees_of old) e)) = ap (λ t. size (alone t)) (tree_named old n e at (runs n e at).0) in
    let below = total_size (trees_of old) e.runs in omega arith

-- the profile that one of format 1 becomes
module _ (old : Old) (saved : Saved) (is : IsOld old) (exit : saved.exit ≡ old.exit) (ops : saved.ops ≡ old.ops) (regions : saved.regions ≡ old.regions)
    (are : AreOfShapes (trees_of old.entries) saved.dict) (interned : AreInterned saved.dict) where
  order : IsPostOrder old.entries
  order = is.none_left

  dictionary : IsDictionaryOf (tree_at old.entries order.root) saved.dict
  dictionary = dictionary_of old.entries saved.dict order are

  pub is_migrated : IsMigrated old saved
  is_migrated = record { exit = exit; ops = ops; regions = regions; root = order.root; last = order.last; dict = dictionary }

  -- the root's region is that of main
  main : EndsInMain saved.regions saved.dict
  main =
      let root = root_is (tree_at old.entries order.root) saved.dict dictionary in
      let count = root.1 in let count' = order.last in let last = is.main.last in
      let one : is.main.root ≡ order.root = omega arith in
      let labels = new_labels old.entries saved.dict are interned is.entries.runs root.0 (omega arith) in
      let labels' = old_labels old.entries saved.dict are interned is.entries.runs order.root (omega arith) in
      let label : label_of (entry_of saved.dict root.0) ≡ label_of (entry_of old.entries order.root) =
      sym labels ∙ sym root.2.label ∙ labels' in
      let region : (entry_of saved.dict root.0).region ≡ (entry_of old.entries is.main.root).region =
      ap (λ x. x.region) label ∙ ap (λ n. (entry_of old.entries n).region) (sym one) in
      record {
        root = root.0;
        last = root.1;
        main = is.main.main;
        there = ap (λ n. slice_get saved.regions n) region ∙ ap (λ l. slice_get l (entry_of old.entries is.main.root).region) regions ∙ is.main.there;
        kind = is.main.kind;
        func = is.main.func;
      }

  pub is_saved : IsSaved saved
  is_saved =
      let root = root_is (tree_at old.entries order.root) saved.dict dictionary in
      let count = root.1 in
      let few = is.ops in
      let P : ℤ → Type 0 = λ n. FitsSigned w32 n in
      let Q : List Region → Type 0 = AreRegions in
      let R : List Region → Type 0 = λ l. NameRegions (length l) saved.dict in
      record {
        exit = subst P (sym exit) is.exit;
        ops = omega arith;
        regions = subst Q (sym regions) is.regions;
        profile = record {
          some = omega arith;
          interned = interned;
          numbers = rule_numbers old.entries saved.dict are interned is.entries.runs is.entries.numbers;
          levels = rule_levels old.entries saved.dict are interned is.entries.runs is.entries.levels;
          instances = rule_instances old.entries saved.dict are interned is.entries.runs is.entries.instances;
        };
        in_list = subst R (sym regions) (rule_regions old.entries saved.dict are interned is.entries.runs (length old.regions) is.in_list);
        main = main;
        named = all_named (tree_at old.entries order.root) saved.dict dictionary interned;
      }

-- In format 1 no two entries stand for one tree.
use Rattle.std.proofs.Common.{◌≡◌, ℕ, zero, suc, ◌<◌, ◌≤◌, max, Bool, true, false, List, [], ◌∷◌, length, get_or, Some, slice_get, refl, sym, ap, ◌∙◌, subst, arith}
use Rattle.std.proofs.lemmas.Bool.{false≢true}
use Rattle.std.proofs.lemmas.Option.{slice_get-get_or}
use Rattle.k_dict_entries.specs.Trees.{Forest, Tree, bare, grown}
use Rattle.k_dict_entries.specs.Entries.{AreApart, NameBelow, copies, label_of, laid, no_tree, tree_at, tree_of, trees_of}
use Rattle.k_dict_entries.specs.declared.entry.Entry.{Entry}
use Rattle.k_dict_entries.specs.declared.entry.Run.{Run}
use Rattle.k_dict_entries.proofs.Coding.{entry_at}
use Rattle.k_dict_entries.proofs.EntryTrees.{tree_named}
use Rattle.k_profile_trees.proofs.Labels.{wider}
use Rattle.k_dict_saved.specs.Formats.{AreMaximal, Differs, HaveRuns}
use Rattle.k_dict_saved.specs.declared.format.Format.TheVariants.{One}

-- the first tree of a forest
abbrev pub first_tree : Forest → Tree
first_tree bare = no_tree
first_tree (grown x i l) = record { label = x; inner = i }

-- the trees behind it
abbrev pub later_trees : Forest → Forest
later_trees bare = bare
later_trees (grown x i l) = l

-- whether there is a tree
abbrev pub has_tree : Forest → Bool
has_tree bare = false
has_tree (grown x i l) = true

-- a forest begins with this tree
abbrev pub BeginsWith : Tree → Forest → Type 0
BeginsWith t bare = ⊥
BeginsWith t (grown x i l) = ◌≡◌ {A = Tree} (record { label = x; inner = i }) t

-- copies of a tree before forests that do not begin with it
same_copies : (a b : ℕ) (t : Tree) (f g : Forest) → ¬ BeginsWith t f → ¬ BeginsWith t g → copies a t f ≡ copies b t g → (a ≡ b) × (f ≡ g)
same_copies zero zero t f g not_f not_g is = (refl, is)
same_copies zero (suc b) t f g not_f not_g is = let P : Forest → Type 0 = BeginsWith t in absurd (not_f (subst P (sym is) refl))
same_copies (suc a) zero t f g not_f not_g is = let P : Forest → Type 0 = BeginsWith t in absurd (not_g (subst P is refl))
same_copies (suc a) (suc b) t f g not_f not_g is =
    let rest = same_copies a b t f g not_f not_g (ap later_trees is) in (ap suc rest.0, rest.1)

-- copies of two trees begin with these
copies_begin : (a : ℕ) (s t : Tree) (f : Forest) → 1 ≤ a → BeginsWith t (copies a s f) → s ≡ t
copies_begin zero s t f some begins = absurd (omega arith)
copies_begin (suc a) s t f some begins = begins

module _ (trees : List Tree) (high : ℕ) (apart : (i j : ℕ) → i < high → j < high → get_or trees i no_tree ≡ get_or trees j no_tree → i ≡ j) where
  -- behind a run that is maximal none of its tree stands
  not_next : (run : Run) (runs : List Run) → run.entry < high → NameBelow high runs → Differs run runs → ¬ BeginsWith (get_or trees run.entry no_tree) (laid trees runs)
  not_next run [] within below differs begins = begins
  not_next run (next ∷ runs) within below differs begins =
      let same = copies_begin next.count (get_or trees next.entry no_tree) (get_or trees run.entry no_tree) (laid trees runs) below.1 begins in
      differs (apart run.entry next.entry within below.0 (sym same))

  some_tree : (run : Run) (runs : List Run) → 1 ≤ run.count → has_tree (laid trees (run ∷ runs)) ≡ true
  some_tree run runs some = by run.count some
    where
      by : (n : ℕ) → 1 ≤ n → has_tree (copies n (get_or trees run.entry no_tree) (laid trees runs)) ≡ true
      by zero some = absurd (omega arith)
      by (suc n) some = refl

  -- two lists of maximal runs that stand for the same children are one
  pub same_runs : (one other : List Run) → NameBelow high one → AreMaximal one → NameBelow high other → AreMaximal other
      → laid trees one ≡ laid trees other → one ≡ other
  same_runs [] [] below maximal below' maximal' is = refl
  same_runs [] (run ∷ runs) below maximal below' maximal' is = absurd (false≢true (ap has_tree is ∙ some_tree run runs below'.1))
  same_runs (run ∷ runs) [] below maximal below' maximal' is = absurd (false≢true (sym (ap has_tree is) ∙ some_tree run runs below.1))
  same_runs (run ∷ runs) (run' ∷ runs') below maximal below' maximal' is =
      let first : get_or trees run.entry no_tree ≡ get_or trees run'.entry no_tree =
      sym (first_is run.count (get_or trees run.entry no_tree) (laid trees runs) below.1) ∙ ap first_tree is
      ∙ first_is run'.count (get_or trees run'.entry no_tree) (laid trees runs') below'.1 in
      let same_entry : run.entry ≡ run'.entry = apart run.entry run'.entry below.0 below'.0 first in
      let t : Tree = get_or trees run.entry no_tree in
      let P : Tree → Type 0 = λ u. ¬ BeginsWith u (laid trees runs') in
      let parts = same_copies run.count run'.count t (laid trees runs) (laid trees runs') (not_next run runs below.0 below.2 maximal.0)
      (subst P (sym first) (not_next run' runs' below'.0 below'.2 maximal'.0)) (is ∙ ap (λ u. copies run'.count u (laid trees runs')) (sym first)) in
      let rest = same_runs runs runs' below.2 maximal.1 below'.2 maximal'.1 parts.1 in
      λ i. record { entry = same_entry i; count = parts.0 i } ∷ rest i
    where
      first_is : (n : ℕ) (t : Tree) (f : Forest) → 1 ≤ n → first_tree (copies n t f) ≡ t
      first_is zero t f some = absurd (omega arith)
      first_is (suc n) t f some = refl

module _ (entries : List Entry) (runs : HaveRuns One entries) (apart : AreApart entries) where
  trees_below : (k m n : ℕ) → m < k → n < k → m < length entries → n < length entries → tree_at entries m ≡ tree_at entries n → m ≡ n
  trees_below zero m n less less' within within' same = absurd (omega arith)
  trees_below (suc k) m n less less' within within' same =
      let some : Entry = entry_at (no_tree).label [] in
      let trees : List Tree = trees_of entries in
      let d : Entry = get_or entries m some in
      let e : Entry = get_or entries n some in
      let at : slice_get entries m ≡ Some d = slice_get-get_or entries m some within in
      let at' : slice_get entries n ≡ Some e = slice_get-get_or entries n some within' in
      let here = runs m d at in
      let here' = runs n e at' in
      let is : tree_of trees d ≡ tree_of trees e = sym (tree_named entries m d at here.0) ∙ same ∙ tree_named entries n e at' here'.0 in
      let label : label_of d ≡ label_of e = ap (λ t. t.label) is in
      let inner : laid trees d.runs ≡ laid trees e.runs = ap (λ t. t.inner) is in
      let high : ℕ = max m n in
      let lists : d.runs ≡ e.runs = same_runs trees high (λ i j low low'. trees_below k i j (omega arith) (omega arith) (omega arith) (omega arith)) d.runs e.runs
      (wider m high d.runs (omega arith) here.0) here.1 (wider n high e.runs (omega arith) here'.0) here'.1 inner in
      let one : d ≡ e = λ i. entry_at (label i) (lists i) in
      apart m n e (at ∙ ap Some one) at'

  -- no two entries stand for one tree
  pub trees_apart : (m n : ℕ) → m < length entries → n < length entries → tree_at entries m ≡ tree_at entries n → m ≡ n
  trees_apart m n within within' same = trees_below (length entries) m n within within' within within' same

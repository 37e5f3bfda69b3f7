-- What trees that differ in the order of siblings alone have in common.
use Rattle.std.proofs.Common.{◌≡◌, ℕ, zero, suc, ◌+◌, ◌*◌, ◌<◌, ◌≤◌, max, ◌⊎◌, inl, inr, List, [], ◌∷◌, ◌++◌, Some, slice_get, refl, sym, ap, ◌∙◌, subst, arith}
use Rattle.std.proofs.Math.Nat.{suc-mul}
use Rattle.std.proofs.lemmas.Option.{none-some, same_Some}
use Rattle.k_dict_entries.specs.Trees.{Alike, Forest, Label, SameShape, Tree, alone, bare, both, exchanged, further, grown, height, neither, post_order, size}
use Rattle.k_dict_entries.specs.Entries.{NameBelow, copies, label_of, laid, tree_at, trees_of}
use Rattle.k_dict_entries.specs.Rules.{HavePathsUpTo, child_paths, child_works, entry_of}
use Rattle.k_dict_entries.specs.declared.entry.Entry.{Entry}
use Rattle.k_dict_entries.specs.declared.entry.Run.{Run}
use Rattle.k_dict_entries.proofs.Forests.{Alike-height, Alike-size, SameShape-further, SameShape-refl}
use Rattle.k_dict_entries.proofs.Places.{place_kept}

-- ---- levels and instances

pub height_of_shape : (s t : Tree) → SameShape s t → height (alone s) ≡ height (alone t)
height_of_shape s t same = let inner = Alike-height s.inner t.inner same.inner in ap (λ n. max (1 + n) 0) inner

pub size_of_shape : (s t : Tree) → SameShape s t → size (alone s) ≡ size (alone t)
size_of_shape s t same = let inner = Alike-size s.inner t.inner same.inner in omega arith

-- ---- the outermost trees

module _ (weigh : Label → ℕ) where
  -- what the outermost trees of a forest weigh together
  abbrev pub tops : Forest → ℕ
  tops bare = 0
  tops (grown x i l) = weigh x + tops l

  pub tops_alike : (f g : Forest) → Alike f g → tops f ≡ tops g
  tops_alike _ _ neither = let P : tops bare ≡ tops bare = refl in P
  tops_alike _ _ (both x i i' l l' inner later) = ap (λ n. weigh x + n) (tops_alike l l' later)
  tops_alike _ _ (exchanged x y i j l) = omega arith
  tops_alike _ _ (further f g h first second) = tops_alike f g first ∙ tops_alike g h second

  pub tops-copies : (n : ℕ) (t : Tree) (l : Forest) → tops (copies n t l) ≡ n * weigh t.label + tops l
  tops-copies zero t l = omega arith
  tops-copies (suc n) t l = let rest = tops-copies n t l in omega (arith, suc-mul n (weigh t.label))

-- the outermost trees have paths up to this
abbrev pub TopsUpTo : ℕ → Forest → Type 0
TopsUpTo path bare = Unit {0}
TopsUpTo path (grown x i l) = (x.path ≤ path) × TopsUpTo path l

pub up_to_alike : (path : ℕ) (f g : Forest) → Alike f g → TopsUpTo path f → TopsUpTo path g
up_to_alike path _ _ neither up = tt
up_to_alike path _ _ (both x i i' l l' inner later) up = (up.0, up_to_alike path l l' later up.1)
up_to_alike path _ _ (exchanged x y i j l) up = (up.1.0, (up.0, up.1.1))
up_to_alike path _ _ (further f g h first second) up = up_to_alike path g h second (up_to_alike path f g first up)

-- a tree of this shape is among the outermost
abbrev pub HasTop : Tree → Forest → Type 0
HasTop u bare = ⊥
HasTop u (grown x i l) = SameShape u (record { label = x; inner = i }) ⊎ HasTop u l

pub top_alike : (u : Tree) (f g : Forest) → Alike f g → HasTop u f → HasTop u g
top_alike u _ _ neither has = has
top_alike u _ _ (both x i i' l l' inner later) has = elim has [
  | inl here ↦ inl (SameShape-further u (record { label = x; inner = i }) (record { label = x; inner = i' }) here (record { label = refl; inner = inner }))
  | inr behind ↦ inr (top_alike u l l' later behind)
]
top_alike u _ _ (exchanged x y i j l) has = elim has [
  | inl first ↦ inr (inl first)
  | inr rest ↦ elim rest [ inl second ↦ inl second | inr last ↦ inr (inr last) ]
]
top_alike u _ _ (further f g h first second) has = top_alike u g h second (top_alike u f g first has)

-- a tree is among these
abbrev pub IsAt : List Tree → Tree → Type 0
IsAt trees u = (n : ℕ) × (slice_get trees n ≡ Some u)

pub at_front : (xs ys : List Tree) (u : Tree) → IsAt xs u → IsAt (xs ++ ys) u
at_front xs ys u at = (at.0, place_kept xs ys at.0 u at.1)

pub at_back : (xs ys : List Tree) (u : Tree) → IsAt ys u → IsAt (xs ++ ys) u
at_back [] ys u at = at
at_back (x ∷ xs) ys u at = let rest = at_back xs ys u at in (suc rest.0, rest.1)

at_either : (xs ys : List Tree) (n : ℕ) (u : Tree) → slice_get (xs ++ ys) n ≡ Some u → IsAt xs u ⊎ IsAt ys u
at_either [] ys n u at = inr (n, at)
at_either (x ∷ xs) ys zero u at = inl (0, at)
at_either (x ∷ xs) ys (suc n) u at = elim (at_either xs ys n u at) [ inl there ↦ inl (suc there.0, there.1) | inr there ↦ inr there ]

-- a tree within a forest is one of the outermost, or stands directly within another
abbrev pub HasParent : Forest → Tree → Type 0
HasParent f u = HasTop u f ⊎ ((v : Tree) × IsAt (post_order f) v × HasTop u v.inner)

pub parent_of : (f : Forest) (u : Tree) → IsAt (post_order f) u → HasParent f u
parent_of bare u at = absurd (none-some u at.1)
parent_of (grown x i l) u at = elim (at_either (post_order i) (record { label = x; inner = i } ∷ post_order l) at.0 u at.1) [
  | inl within ↦ (let t : Tree = record { label = x; inner = i } in elim (parent_of i u within) [
    | inl top ↦ inr (t, at_back (post_order i) (t ∷ post_order l) t (0, refl), top)
    | inr deeper ↦ inr (deeper.0, at_front (post_order i) (t ∷ post_order l) deeper.0 deeper.1, deeper.2)
  ])
  | inr behind ↦ here_or_later (λ n h. parent_of l u (n, h)) behind.0 behind.1
]
  where
    t : Tree
    t = record { label = x; inner = i }

    later : HasParent l u → HasParent (grown x i l) u
    later has = elim has [
      | inl top ↦ inl (inr top)
      | inr deeper ↦ inr (deeper.0, at_back (post_order i) (t ∷ post_order l) deeper.0 (suc deeper.1.0, deeper.1.1), deeper.2)
    ]

    here_or_later : ((n : ℕ) → slice_get (post_order l) n ≡ Some u → HasParent l u) → (n : ℕ) → slice_get (t ∷ post_order l) n ≡ Some u → HasParent (grown x i l) u
    here_or_later rest zero h = let P : Tree → Type 0 = λ v. SameShape v t in inl (inl (subst P (same_Some t u h) (SameShape-refl t)))
    here_or_later rest (suc n) h = later (rest n h)

-- ---- sums over runs

module _ (entries : List Entry) (high : ℕ) (labels : (n : ℕ) → n < high → (tree_at entries n).label ≡ label_of (entry_of entries n)) where
  pub works_laid : (runs : List Run) → NameBelow high runs → tops (λ x. x.work) (laid (trees_of entries) runs) ≡ child_works entries runs
  works_laid [] below = refl
  works_laid (run ∷ runs) below =
      tops-copies (λ x. x.work) run.count (tree_at entries run.entry) (laid (trees_of entries) runs)
      ∙ (λ i. run.count * (labels run.entry below.0 i).work + works_laid runs below.2 i)

  pub paths_laid : (runs : List Run) → NameBelow high runs → tops (λ x. x.path) (laid (trees_of entries) runs) ≡ child_paths entries runs
  paths_laid [] below = refl
  paths_laid (run ∷ runs) below =
      tops-copies (λ x. x.path) run.count (tree_at entries run.entry) (laid (trees_of entries) runs)
      ∙ (λ i. run.count * (labels run.entry below.0 i).path + paths_laid runs below.2 i)

  pub up_to_laid : (path : ℕ) (runs : List Run) → NameBelow high runs → HavePathsUpTo path entries runs → TopsUpTo path (laid (trees_of entries) runs)
  up_to_laid path [] below up = tt
  up_to_laid path (run ∷ runs) below up = by (up_to_laid path runs below.2 up.1) run.count
    where
      here : (tree_at entries run.entry).label.path ≤ path
      here = let P : Label → Type 0 = λ x. x.path ≤ path in subst P (sym (labels run.entry below.0)) up.0

      by : TopsUpTo path (laid (trees_of entries) runs) → (n : ℕ) → TopsUpTo path (copies n (tree_at entries run.entry) (laid (trees_of entries) runs))
      by rest zero = rest
      by rest (suc n) = (here, by rest n)

  pub laid_up_to : (path : ℕ) (runs : List Run) → NameBelow high runs → TopsUpTo path (laid (trees_of entries) runs) → HavePathsUpTo path entries runs
  laid_up_to path [] below up = tt
  laid_up_to path (run ∷ runs) below up =
      let parts = by run.count below.1 up in
      let P : Label → Type 0 = λ x. x.path ≤ path in
      (subst P (labels run.entry below.0) parts.0, laid_up_to path runs below.2 parts.1)
    where
      behind : (n : ℕ) → TopsUpTo path (copies n (tree_at entries run.entry) (laid (trees_of entries) runs)) → TopsUpTo path (laid (trees_of entries) runs)
      behind zero up = up
      behind (suc n) up = behind n up.1

      by : (n : ℕ) → 1 ≤ n → TopsUpTo path (copies n (tree_at entries run.entry) (laid (trees_of entries) runs))
          → ((tree_at entries run.entry).label.path ≤ path) × TopsUpTo path (laid (trees_of entries) runs)
      by zero some up = absurd (omega arith)
      by (suc n) some up = (up.0, behind n up.1)

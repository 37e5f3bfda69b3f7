-- What holds of each tree of a forest, and of its outermost trees.
use Rattle.std.proofs.Common.{◌≡◌, ℕ, zero, suc, ◌+◌, ◌<◌, ◌≤◌, inl, inr, List, [], ◌∷◌, length, get_or, Some, slice_get, refl, sym, subst, arith}
use Rattle.k_dict_entries.specs.Entries.{NameBelow, NameEarlier, copies, laid, no_tree, tree_at, tree_of, trees_of}
use Rattle.k_dict_entries.specs.Rules.{entry_of}
use Rattle.k_dict_entries.specs.Trees.{Alike, Forest, Label, SameShape, Tree, alone, bare, both, exchanged, further, grown, neither}
use Rattle.k_dict_entries.specs.declared.entry.Entry.{Entry}
use Rattle.k_dict_entries.specs.declared.entry.Run.{Run}
use Rattle.k_dict_entries.proofs.EntryTrees.{below_bound, tree_is}
use Rattle.k_dict_entries.proofs.Forests.{SameShape-sym}
use Rattle.k_profile_trees.proofs.Shapes.{tops}
use Rattle.k_sum.specs.Laws.{together}
use Rattle.k_sum_order.specs.Laws.{Has}
use Rattle.k_sum_order.proofs.OneOrder.{entry_there}

-- each tree of a forest, with those within it, has a property
abbrev pub Each : (Tree → Type 0) → Forest → Type 0
Each P bare = Unit {0}
Each P (grown x i l) = P (record { label = x; inner = i }) × Each P i × Each P l

-- each of the outermost does, by what is told of it
abbrev pub Outermost : (Label → Type 0) → Forest → Type 0
Outermost P bare = Unit {0}
Outermost P (grown x i l) = P x × Outermost P l

-- a property of trees that siblings in another order keep
module _ (P : Tree → Type 0) (keeps : (s t : Tree) → SameShape s t → P s → P t) where
  pub each_alike : (f g : Forest) → Alike f g → Each P f → Each P g
  each_alike _ _ neither each = each
  each_alike _ _ (both x i i' l l' inner later) each = (
    keeps (record { label = x; inner = i }) (record { label = x; inner = i' }) (record { label = refl; inner = inner }) each.0,
    each_alike i i' inner each.1,
    each_alike l l' later each.2,
  )
  each_alike _ _ (exchanged x y i j l) each = (each.2.0, each.2.1, (each.0, each.1, each.2.2))
  each_alike _ _ (further f g h one other) each = each_alike g h other (each_alike f g one each)

  -- a tree whose shape stands in the forest has it
  pub each_has : (t : Tree) (f : Forest) → Has t f → Each P f → P t
  each_has t bare has each = absurd has
  each_has t (grown x i l) has each = elim has [
    | inl here ↦ keeps (record { label = x; inner = i }) t (SameShape-sym t (record { label = x; inner = i }) here) each.0
    | inr rest ↦ elim rest [ inl within ↦ each_has t i within each.1 | inr behind ↦ each_has t l behind each.2 ]
  ]

module _ (P : Tree → Type 0) where
  pub each_together : (f g : Forest) → Each P f → Each P g → Each P (together f g)
  each_together bare g each others = others
  each_together (grown x i l) g each others = (each.0, each.1, each_together l g each.2 others)

  each_copies : (n : ℕ) (t : Tree) (later : Forest) → Each P (alone t) → Each P later → Each P (copies n t later)
  each_copies zero t later each rest = rest
  each_copies (suc n) t later each rest = (each.0, each.1, each_copies n t later each rest)

  pub each_laid : (trees : List Tree) (high : ℕ) → ((n : ℕ) → n < high → Each P (alone (get_or trees n no_tree))) → (runs : List Run) → NameBelow high runs → Each P (laid trees runs)
  each_laid trees high each [] below = tt
  each_laid trees high each (run ∷ runs) below =
      each_copies run.count (get_or trees run.entry no_tree) (laid trees runs) (each run.entry below.0) (each_laid trees high each runs below.2)

  -- where the tree of each entry has it, those within it do
  module _ (entries : List Entry) (earlier : NameEarlier entries) (have : (n : ℕ) → n < length entries → P (tree_at entries n)) where
    each_below : (fuel n : ℕ) → n < fuel → n < length entries → Each P (alone (tree_at entries n))
    each_below zero n less within = absurd (omega arith)
    each_below (suc fuel) n less within =
        let e : Entry = entry_of entries n in
        let at : slice_get entries n ≡ Some e = entry_there entries n within in
        let same : tree_at entries n ≡ tree_of (trees_of entries) e = tree_is entries n e at (earlier n e at) in
        let Q : Tree → Type 0 = λ t. Each P t.inner in
        (have n within, subst Q (sym same) (each_laid (trees_of entries) n (λ m low. each_below fuel m (omega arith) (omega arith)) e.runs (below_bound 0 n e.runs (earlier n e at))), tt)

    pub each_entry : (n : ℕ) → n < length entries → Each P (alone (tree_at entries n))
    each_entry n within = each_below (suc n) n (omega arith) within

module _ (P : Label → Type 0) where
  pub outermost_alike : (f g : Forest) → Alike f g → Outermost P f → Outermost P g
  outermost_alike _ _ neither each = each
  outermost_alike _ _ (both x i i' l l' inner later) each = (each.0, outermost_alike l l' later each.1)
  outermost_alike _ _ (exchanged x y i j l) each = (each.1.0, (each.0, each.1.1))
  outermost_alike _ _ (further f g h one other) each = outermost_alike g h other (outermost_alike f g one each)

  pub outermost_together : (f g : Forest) → Outermost P f → Outermost P g → Outermost P (together f g)
  outermost_together bare g each others = others
  outermost_together (grown x i l) g each others = (each.0, outermost_together l g each.1 others)

  pub outermost_copies : (n : ℕ) (t : Tree) (later : Forest) → P t.label → Outermost P later → Outermost P (copies n t later)
  outermost_copies zero t later here rest = rest
  outermost_copies (suc n) t later here rest = (here, outermost_copies n t later here rest)

  behind_copies : (n : ℕ) (t : Tree) (later : Forest) → Outermost P (copies n t later) → Outermost P later
  behind_copies zero t later each = each
  behind_copies (suc n) t later each = behind_copies n t later each.1

  pub of_copies : (n : ℕ) (t : Tree) (later : Forest) → 1 ≤ n → Outermost P (copies n t later) → P t.label × Outermost P later
  of_copies zero t later some each = absurd (omega arith)
  of_copies (suc n) t later some each = (each.0, behind_copies n t later each.1)

module _ (weigh : Label → ℕ) where
  pub tops_together : (f g : Forest) → tops weigh (together f g) ≡ tops weigh f + tops weigh g
  tops_together bare g = omega arith
  tops_together (grown x i l) g = let rest = tops_together l g in omega arith

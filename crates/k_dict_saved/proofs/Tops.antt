-- The outermost trees of what runs stand for.
use Rattle.std.proofs.Common.{ℕ, zero, suc, inl, inr, List, [], ◌∷◌, get_or, refl}
use Rattle.k_dict_entries.specs.Trees.{SameShape, Tree}
use Rattle.k_dict_entries.specs.Entries.{copies, laid, no_tree}
use Rattle.k_dict_entries.specs.declared.entry.Run.{Run}
use Rattle.k_profile_trees.proofs.Shapes.{HasTop}
use Rattle.k_dict_saved.specs.Formats.{Names}

-- an outermost tree of what runs stand for is that of an entry that they name
pub top_laid : (u : Tree) (trees : List Tree) (runs : List Run) → HasTop u (laid trees runs)
    → (n : ℕ) × Names n runs × SameShape u (get_or trees n no_tree)
top_laid u trees [] has = absurd has
top_laid u trees (run ∷ runs) has = by (λ behind. top_laid u trees runs behind) run.count has
  where
    by : (HasTop u (laid trees runs) → (n : ℕ) × Names n runs × SameShape u (get_or trees n no_tree)) → (count : ℕ)
        → HasTop u (copies count (get_or trees run.entry no_tree) (laid trees runs)) → (n : ℕ) × Names n (run ∷ runs) × SameShape u (get_or trees n no_tree)
    by later zero has = let rest = later has in (rest.0, inr rest.1, rest.2)
    by later (suc count) has = elim has [
      | inl here ↦ (run.entry, inl refl, here)
      | inr behind ↦ by later count behind
    ]

-- What is told of the entries that runs name.
use Rattle.std.proofs.Common.{◌≡◌, ℕ, ◌<◌, ◌≤◌, List, [], ◌∷◌, length, Some, slice_get, ap, arith}
use Rattle.std.proofs.lemmas.Option.{slice_get-get_or}
use Rattle.k_dict_entries.specs.Trees.{Tree}
use Rattle.k_dict_entries.specs.Entries.{NameBelow, NameEarlier, label_of, tree_at}
use Rattle.k_dict_entries.specs.Rules.{entry_of, no_entry}
use Rattle.k_dict_entries.specs.declared.entry.Entry.{Entry}
use Rattle.k_dict_entries.specs.declared.entry.Run.{Run}
use Rattle.k_dict_entries.proofs.EntryTrees.{tree_is}

-- runs that name entries below a number name them below a greater one
pub wider : (low high : ℕ) (list : List Run) → low ≤ high → NameBelow low list → NameBelow high list
wider low high [] le below = tt
wider low high (run ∷ list) le below = let first = below.0 in (omega arith, below.1, wider low high list le below.2)

-- what is told of an entry's instances
pub label_is : (entries : List Entry) → NameEarlier entries → (n : ℕ) → n < length entries → (tree_at entries n).label ≡ label_of (entry_of entries n)
label_is entries earlier n lt =
    let at : slice_get entries n ≡ Some (entry_of entries n) = slice_get-get_or entries n no_entry lt in
    ap (λ (t : Tree). t.label) (tree_is entries n (entry_of entries n) at (earlier n (entry_of entries n) at))

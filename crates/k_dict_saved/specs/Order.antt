-- For contracts between crates: nobody has to believe it.
-- Visiting the instances of an entry in post-order.
use Rattle.std.specs.Prelude.{ℕ, ◌+◌, ◌≤◌, ◌≡◌, max, List, length, take, Option, Some, None}
use Rattle.k_dict_entries.specs.Dictionary.{Firsts}
use Rattle.k_dict_entries.specs.Entries.{tree_at, trees_of}
use Rattle.k_dict_entries.specs.Trees.{Tree, alone, post_order}
use Rattle.k_dict_entries.specs.declared.entry.Entry.{Entry}

-- where the trees of so many entries have occurred, these trees let those of so many occur, of those that are equal the first
abbrev pub LeadsTo : List Tree → ℕ → List Tree → ℕ → Type 0
LeadsTo trees before more behind = (behind ≤ length trees) × Firsts ◌≡◌ (take before trees) more (take behind trees)

-- what the visit of an entry's instances answers, where so many entries have occurred before: how many have then
abbrev pub Visits : List Entry → ℕ → ℕ → Option ℕ → Type 0
Visits entries number before (Some behind) =
    LeadsTo (trees_of entries) before (post_order (alone (tree_at entries number))) behind × (behind ≤ max before (number + 1))
Visits entries number before None = (behind : ℕ) → ¬ LeadsTo (trees_of entries) before (post_order (alone (tree_at entries number))) behind

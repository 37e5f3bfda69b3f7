-- For contracts between crates: nobody has to believe it.
-- How many instances the trees of entries have.
use Rattle.std.specs.Prelude.{ℕ, ◌+◌, ◌*◌, ◌<◌, ◌≡◌, List, [], ◌∷◌, length, slice_index_or}
use Rattle.k_dict_entries.specs.Entries.{tree_at}
use Rattle.k_dict_entries.specs.Trees.{alone, size}
use Rattle.k_dict_entries.specs.declared.entry.Entry.{Entry}
use Rattle.k_dict_entries.specs.declared.entry.Run.{Run}
use Rattle.k_dict_saved.specs.Extents.{capped}

-- how many instances children have together, where the trees of entries have so many
abbrev pub instances_in : List ℕ → List Run → ℕ
instances_in sizes [] = 0
instances_in sizes (run ∷ runs) = run.count * slice_index_or sizes run.entry 0 + instances_in sizes runs

-- the first trees have so many instances, or the greatest number of 64 bits where they have no fewer
pub record AreSizes (entries : List Entry) (high : ℕ) (sizes : List ℕ) : Type 0 where
  pub count : length sizes ≡ high
  pub each : (n : ℕ) → n < high → slice_index_or sizes n 0 ≡ capped (size (alone (tree_at entries n)))

-- Believed with a public law.
-- What holds of the rows and the contexts of a sum's runs: the statements of the laws.
use Rattle.std.specs.Prelude.{ℕ, ◌+◌, ◌-◌, ◌≡◌, List, length}
use Rattle.k_optab.specs.Meaning.{paths, serial_of, works}
use Rattle.k_optab.specs.declared.region.Region.{Region}
use Rattle.k_dict_entries.specs.Entries.{expansion}
use Rattle.k_dict_entries.specs.Trees.{Alike, Forest, nodes_of}
use Rattle.k_dict_saved.specs.Profile.{IsSaved}
use Rattle.k_dict_saved.specs.declared.saved.Saved.{Saved}
use Rattle.k_selfpar.specs.Contexts.{AreContexts, AreUnder}
use Rattle.k_selfpar.specs.Rows.{AreRows, of_region}
use Rattle.k_selfpar.specs.declared.context.Context.{Context}
use Rattle.k_selfpar.specs.declared.row.Row.{Row}
use Rattle.k_sum.specs.Laws.{TellsOfRuns, forest_of}
use Rattle.k_sum.specs.Sums.{both, sum_of}
use Rattle.k_sum.specs.declared.sum.Sum.{Sum}

-- the number of a profile's last entry, which stands for its run
abbrev pub root_of : Saved → ℕ
root_of profile = length profile.dict - 1

-- the instances of the sum of one run are those of its profile, and so are its contexts
abbrev pub OneRunIsItsTree : Type 0
OneRunIsItsTree = (profile : Saved) → IsSaved profile
    → (nodes_of 0 (forest_of (sum_of profile)) ≡ expansion profile.dict (root_of profile))
    × ((regions : List Region) (contexts : List Context) → AreUnder regions 0 0 (forest_of (sum_of profile)) contexts
    → AreContexts regions (expansion profile.dict (root_of profile)) contexts)

-- trees that are equal up to the order of siblings, and of one another, have the same rows
abbrev pub RowsForgetOrder : Type 0
RowsForgetOrder = (f g : Forest) (rows : List Row) → Alike f g → AreRows (nodes_of 0 f) rows → AreRows (nodes_of 0 g) rows

-- and the same contexts
abbrev pub ContextsForgetOrder : Type 0
ContextsForgetOrder = (regions : List Region) (f g : Forest) (contexts : List Context) → Alike f g → AreUnder regions 0 0 f contexts → AreUnder regions 0 0 g contexts

-- what the trees f have of a region is what g and h have of it together: how many instances, their works, their paths, and the times that
-- they would take with their children one behind the other
pub record AddUp (region : ℕ) (f g h : Forest) : Type 0 where
  pub instances : length (of_region region (nodes_of 0 f)) ≡ length (of_region region (nodes_of 0 g)) + length (of_region region (nodes_of 0 h))
  pub works : works (of_region region (nodes_of 0 f)) ≡ works (of_region region (nodes_of 0 g)) + works (of_region region (nodes_of 0 h))
  pub paths : paths (of_region region (nodes_of 0 f)) ≡ paths (of_region region (nodes_of 0 g)) + paths (of_region region (nodes_of 0 h))
  pub serial : serial_of region (nodes_of 0 f) ≡ serial_of region (nodes_of 0 g) + serial_of region (nodes_of 0 h)

-- the rows of two sums together are the sums of their rows
abbrev pub RowsAddUp : Type 0
RowsAddUp = (one other : Sum) (region : ℕ) → TellsOfRuns one → TellsOfRuns other → AddUp region (forest_of (both one other)) (forest_of one) (forest_of other)

-- runs have one list of contexts
abbrev pub ContextsAreOne : Type 0
ContextsAreOne = (regions : List Region) (f : Forest) (one other : List Context) → AreUnder regions 0 0 f one → AreUnder regions 0 0 f other → one ≡ other

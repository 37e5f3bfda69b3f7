-- Believed with the theorem on the top call.
-- *Rows*: what the instances of each region of a tree come to together (Garcia, Jeon, Louie, Taylor, PLDI 2011).
use Rattle.std.specs.Prelude.{ℕ, ◌≡◌, ◌<◌, ◌≤◌, ◌==◌, List, length, filter, Some, slice_get}
use Rattle.k_optab.specs.declared.node.Node.{Node}
use Rattle.k_optab.specs.Meaning.{paths, serial_of, works}
use Rattle.k_selfpar.specs.declared.row.Row.{Row}
use Rattle.k_selfpar.specs.Ratio.{IsRatio}

-- the instances of a region
abbrev pub of_region : ℕ → List Node → List Node
of_region region nodes = filter (λ n. n.region == region) nodes

-- a row tells of the instances of its region: how many they are, their works and their paths together, and the ratio of the times
-- that they would take with their children one behind the other to their paths
pub record IsRow (nodes : List Node) (row : Row) : Type 0 where
  pub some : 0 < row.instances
  pub instances : row.instances ≡ length (of_region row.region nodes)
  pub work : row.work ≡ works (of_region row.region nodes)
  pub path : row.path ≡ paths (of_region row.region nodes)
  pub sp : IsRatio (serial_of row.region nodes) (paths (of_region row.region nodes)) row.sp.0 row.sp.1

-- a region has a row
abbrev pub HasRow : List Row → ℕ → Type 0
HasRow rows region = (k : ℕ) × (row : Row) × (slice_get rows k ≡ Some row) × (row.region ≡ region)

-- the rows of a tree: one for each region that has an instance, in order of region number
pub record AreRows (nodes : List Node) (rows : List Row) : Type 0 where
  pub each : (k : ℕ) (row : Row) → slice_get rows k ≡ Some row → IsRow nodes row
  pub whole : (region : ℕ) → 0 < length (of_region region nodes) → HasRow rows region
  pub order : (j k : ℕ) (one other : Row) → j < k → slice_get rows j ≡ Some one → slice_get rows k ≡ Some other → one.region < other.region

-- no self-parallelism of these rows is below 1
abbrev pub AreAtLeastOne : List Row → Type 0
AreAtLeastOne rows = (k : ℕ) (row : Row) → slice_get rows k ≡ Some row → row.sp.1 ≤ row.sp.0

-- For contracts between crates: nobody has to believe it.
-- What is told of a run of which no list of events was kept.
use Rattle.std.specs.Prelude.{ℕ, ℤ, ◌≡◌, ◌≤◌, List, length, Option, Some, None}
use Rattle.k_optab.specs.declared.node.Node.{Node}
use Rattle.k_optab.specs.declared.region.Region.{Region}
use Rattle.k_optab.specs.Tree.{IsTree}
use Rattle.k_dict_entries.specs.Dictionary.{IsDictionary, refusal}
use Rattle.k_dict_entries.specs.declared.entry.Entry.{Entry}
use Rattle.k_report_profile.specs.RunReport.{IsLarge, IsWhole, Ran, ops_of}

-- what is told of these instances: their dictionary, or nothing where it is over its limits
abbrev pub AreTold : List Node → Option (List Entry) → Type 0
AreTold nodes None = IsLarge nodes
AreTold nodes (Some entries) = IsDictionary nodes entries × (refusal 0 0 entries ≡ None)

-- THE RUN IS SUMMED UP: what main returned, how many operations were made, the regions, and what is told of the tree, which has at most 2^59 instances
pub record IsSummed (exit : ℤ) (ops : ℕ) (regions : List Region) (dict : Option (List Entry)) (ran : Ran) : Type 0 where
  pub whole : IsWhole ran
  pub exit_is : exit ≡ ran.exit
  pub ops_are : ops ≡ ops_of ran
  pub regions_are : regions ≡ ran.regions
  pub nodes : List Node
  pub tree : IsTree ran.depth ran.events nodes
  pub few : length nodes ≤ 576460752303423488
  pub told : AreTold nodes dict
